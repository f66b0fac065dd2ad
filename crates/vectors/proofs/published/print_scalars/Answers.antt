use Rattle.std.proofs.Common.{arith, refl}
use Rattle.std.proofs.Math.ListN.{length-drop}
use Rattle.text.specs.Utf8.Code.Laws.{some_at}
use Rattle.vectors.proofs.published.print_scalars.Goals as goal

pub loop-i-smaller-in-Some : goal.loop-i-smaller-in-Some
loop-i-smaller-in-Some c = let a = some_at _ 0 (omega (arith, length-drop c.loop-i.i c.args.line.now, c.loop-i-test.true)) _ c.in-Some.ensures c.in-Some.unit refl in omega (arith, a.some, c.loop-i-test.true)
