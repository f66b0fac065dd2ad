use mathlib.Core.Path.{◌≡◌}
use Prim.Native.Nat.{◌*◌}
use lib.ListN.{length, drop}
use Rattle.buffer.specs.Sink.{sink, emit}
use Rattle.vectors.specs.Fields.{hex_bytes}
use Rattle.vectors.proofs.fields.bytes.Given as goal

abbrev pub invariant-loop-i : goal.invariant-loop-i
invariant-loop-i l = (emit (sink l.out l.at) (hex_bytes (drop (2 * l.i) l.text)) ≡ emit (sink l.initial.out 0) (hex_bytes l.text)) × (length l.out ≡ length l.initial.out)
