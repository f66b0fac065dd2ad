use Rattle.std.proofs.Common.{sym, ◌∙◌, ap}
use Rattle.text.specs.Class.Ascii.{syllable_or_other}
use Rattle.text.specs.Scalar.Laws.{some_here, none_here, class_known}
use Rattle.spans.proofs.SyllablesAndOthers.{syllables_begin, syllables_byte, syllables_last, syllables_less, syllables_more, syllables_none, syllables_past}
use Rattle.spans.proofs.reader.syllables_and_others_end.Goals as goal

pub loop-next-init : goal.loop-next-init
loop-next-init c = search syllables_begin

pub returns-in_default : goal.returns-in_default
returns-in_default c = syllables_none _ _ _ _ _ c.loop-next.invariant c.loop-next-test.true (sym (none_here _ _ _ _ c.scalar_at.ensures c.in_default.is))

pub class-requires : goal.class-requires
class-requires c = class_known _ _ _ _ c.scalar_at.ensures _ c.in-Some.is

pub loop-next-smaller : goal.loop-next-smaller
loop-next-smaller c = rw c.len-next.ensures (syllables_less _ _ _ _ _ c.loop-next.invariant c.loop-next-test.true _ (some_here _ _ _ _ c.scalar_at.ensures _ c.in-Some.is).0 _ (c.is_syllable_or_other.ensures ∙ ap syllable_or_other c.class.ensures) c.if-is_syllable_or_other.true)

pub loop-next-preserved : goal.loop-next-preserved
loop-next-preserved c = rw c.len-next.ensures (syllables_more _ _ _ _ _ c.loop-next.invariant c.loop-next-test.true _ (some_here _ _ _ _ c.scalar_at.ensures _ c.in-Some.is).0 _ (c.is_syllable_or_other.ensures ∙ ap syllable_or_other c.class.ensures) c.if-is_syllable_or_other.true)

pub returns-then-byte_at-lt128 : goal.returns-then-byte_at-lt128
returns-then-byte_at-lt128 c = syllables_byte _ _ _ _ _ c.loop-next.invariant c.loop-next-test.true _ (some_here _ _ _ _ c.scalar_at.ensures _ c.in-Some.is).0 _ (c.is_syllable_or_other.ensures ∙ ap syllable_or_other c.class.ensures) c.if-is_syllable_or_other.false _ c.byte_at.ensures c.if-byte_at-lt128.true

pub returns-else-is_syllable_or_other : goal.returns-else-is_syllable_or_other
returns-else-is_syllable_or_other c = syllables_last _ _ _ _ _ c.loop-next.invariant c.loop-next-test.true _ (some_here _ _ _ _ c.scalar_at.ensures _ c.in-Some.is).0 _ (c.is_syllable_or_other.ensures ∙ ap syllable_or_other c.class.ensures) c.if-is_syllable_or_other.false _ c.byte_at.ensures c.if-byte_at-lt128.false

pub returns : goal.returns
returns c = search syllables_past
