use Rattle.std.proofs.Common.{arith}
use Rattle.text.specs.Width.Laws.{width_two}
use Rattle.rows.proofs.WordLoop.{word_begins, byte_on, word_damaged, scalar_fits, scalar_some, word_on, word_apart, word_hyphen, word_turns, word_ends}
use Rattle.rows.proofs.words.next_word.Goals as goal

pub loop-part-init : goal.loop-part-init
loop-part-init c = search word_begins

pub longer-part-requires-clause-width : goal.longer-part-requires-clause-width
longer-part-requires-clause-width c = omega (arith, c.loop-part.invariant.small)

pub loop-part-preserved-then-byte_belongs : goal.loop-part-preserved-then-byte_belongs
loop-part-preserved-then-byte_belongs c = rw c.longer-part.ensures (search byte_on)

pub returns-in_default : goal.returns-in_default
returns-in_default c = word_damaged _ _ _ _ _ _ c.loop-part.invariant c.loop-part-test.true c.in_default.ensures

pub longer-part-requires-then-belongs-clause-end : goal.longer-part-requires-then-belongs-clause-end
longer-part-requires-then-belongs-clause-end c = omega (arith, scalar_fits _ _ _ _ _ _ _ c.loop-part.invariant c.loop-part-test.true c.in-Some.ensures)

pub longer-part-requires-then-belongs-clause-width : goal.longer-part-requires-then-belongs-clause-width
longer-part-requires-then-belongs-clause-width c = omega (arith, c.loop-part.invariant.small, width_two _ _ _ c.width.ensures)

pub loop-part-smaller-then-belongs : goal.loop-part-smaller-then-belongs
loop-part-smaller-then-belongs c =
    let i = c.loop-part.invariant in
    rw c.longer-part-then-belongs.ensures (omega (arith, scalar_fits _ _ _ _ _ _ _ i c.loop-part-test.true c.in-Some.ensures, scalar_some _ _ _ _ _ _ _ i c.loop-part-test.true c.in-Some.ensures))

pub loop-part-preserved-then-belongs : goal.loop-part-preserved-then-belongs
loop-part-preserved-then-belongs c =
    rw c.longer-part-then-belongs.ensures (word_on _ _ _ _ _ _ _ c.loop-part.invariant c.loop-part-test.true c.in-Some.ensures _ _ c.belongs.ensures c.if-belongs.true c.width.ensures)

pub returns-then-sep : goal.returns-then-sep
returns-then-sep c = word_apart _ _ _ _ _ _ c.loop-part.invariant _ c.loop-part-test.true c.in-Some.ensures _ c.belongs.ensures c.if-belongs.false c.if-sep.true

pub longer-requires-clause-end : goal.longer-requires-clause-end
longer-requires-clause-end c = omega (arith, scalar_fits _ _ _ _ _ _ _ c.loop-part.invariant c.loop-part-test.true c.in-Some.ensures)

pub longer-requires-clause-width : goal.longer-requires-clause-width
longer-requires-clause-width c = omega (arith, c.loop-part.invariant.small)

pub returns-then-scalar : goal.returns-then-scalar
returns-then-scalar c = rw c.longer.ensures (word_hyphen _ _ _ _ _ _ _ c.loop-part.invariant c.loop-part-test.true c.in-Some.ensures c.if-sep.false (omega arith))

pub loop-part-preserved : goal.loop-part-preserved
loop-part-preserved c =
    word_turns _ _ _ _ _ _ c.loop-part.invariant _ c.loop-part-test.true c.in-Some.ensures _ c.belongs.ensures c.if-belongs.false c.if-sep.false (λ z. c.if-scalar.false (omega arith))

pub returns : goal.returns
returns c = word_ends _ _ _ _ _ _ c.loop-part.invariant c.loop-part-test.false
