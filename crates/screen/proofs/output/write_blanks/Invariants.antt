use Rattle.screen.proofs.Bytes.{WriteBlanks}
use Prim.Native.Nat.{◌-◌}
use Rattle.screen.proofs.output.write_blanks.Given as goal

abbrev pub invariant-loop : goal.invariant-loop
invariant-loop l = WriteBlanks l.list l.place l.count l.initial.out l.start l.out l.at (l.count - l.counter)
