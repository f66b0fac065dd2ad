use Rattle.rows_io.proofs.Lines.{printed_of_law}
use mathlib.Core.Path.{sym, ap}
use Prim.Native.Nat.{ℕ}
use lib.ListN.{length-replicate}
use Rattle.spans.specs.Numbers.{places_in}
use lib.Seq.{length-take-le}
use Rattle.buffer.specs.Numbers.Laws.{smaller_right}
use Rattle.rows_io.proofs.output.print.Goals as goal

pub slice_bounds-rows_numbers-end : goal.slice_bounds-rows_numbers-end
slice_bounds-rows_numbers-end c = sym (length-take-le _ _ (search smaller_right))

pub returns : goal.returns
returns c = printed_of_law c.args.state.first _ c.min-n.result _ _ _ _ _ _ _ _ _ _ _ _ c.min-n.ensures c.width_of.ensures (length-replicate {A = ℕ} 32768 0) (ap places_in (length-replicate {A = ℕ} 8192 0)) (length-replicate {A = ℕ} 8192 0) c.rows_numbers-a.ensures c.push_answer.ensures
