use Rattle.std.proofs.Common.{◌+◌, ◌-◌, ◌*◌, cond, length}
use Rattle.text.specs.Class.Code.{profile_of}
use Rattle.rows.proofs.WordLoop.{WordLoop}
use Rattle.rows.proofs.words.next_word.Given as goal

abbrev pub invariant-loop-part : goal.invariant-loop-part
invariant-loop-part l = WordLoop (profile_of l.profile) l.text l.fn.at l.part.end l.part.width l.sep

abbrev pub decreases-loop-part : goal.decreases-loop-part
decreases-loop-part l = 2 * (length l.text - l.part.end.0) + cond l.sep 0 1
