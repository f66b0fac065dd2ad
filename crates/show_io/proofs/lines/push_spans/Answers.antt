use Rattle.show_io.proofs.SpanText.{spans_pushed}
use Prim.Native.Nat.{ℕ}
use lib.ListN.{length-replicate}
use Rattle.show_io.proofs.lines.push_spans.Goals as goal

pub returns : goal.returns
returns c = spans_pushed _ _ _ _ _ _ _ _ _ _ _ (length-replicate {A = ℕ} 32768 0) (length-replicate {A = ℕ} 8192 0) (length-replicate {A = ℕ} 8192 0) c.before.before.before.before.before.before.before.before.read_numbers-a.ensures c.before.before.push_read.ensures
