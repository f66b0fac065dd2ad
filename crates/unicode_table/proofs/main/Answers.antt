use Rattle.std.proofs.Common.{rules}
use Rattle.unicode_table.specs.Printed.Laws.{begun}
use mathlib.Core.Path.{refl, sym}
use Prim.Native.Nat.{ℕ}
use lib.ListN.{length-replicate}
use Rattle.unicode_table.proofs.main.Goals as goal

pub slice_bounds-make-end : goal.slice_bounds-make-end
slice_bounds-make-end c = sym (length-replicate {A = ℕ} 1114112 0)

pub make-requires : goal.make-requires
make-requires c = begun 1114112 _ refl (search rules) (search rules)
