use Rattle.text.proofs.Erasing.{behind_none, behind_tells}
use Rattle.text.proofs.ContinuationBytes.{back_inside}
use Rattle.text.proofs.Classes.{same_number}
use Rattle.text.proofs.backward.Written.is_after_zwj.Goals as goal

pub returns-then-q-eq0 : goal.returns-then-q-eq0
returns-then-q-eq0 c = behind_none _ _ _ 0 0 0 c.if-q-eq0.true

pub class_at-p-requires : goal.class_at-p-requires
class_at-p-requires c = search back_inside

pub returns : goal.returns
returns c = rw (same_number _ _ 4 c.eq.ensures, same_number _ _ 12 c.eq-2.ensures) (search behind_tells)
