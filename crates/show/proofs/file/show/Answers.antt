-- the array of 589,824 bytes, lent again and again; its length stays what it was
use mathlib.Core.Path.{sym, ◌∙◌}
use Prim.Native.Nat.{ℕ}
use lib.ListN.{length-replicate}
use Rattle.show.proofs.file.show.Goals as goal

pub slice_bounds-show_all-end-2 : goal.slice_bounds-show_all-end-2
slice_bounds-show_all-end-2 g c = sym (length-replicate {A = ℕ} 589824 0)

pub slice_bounds-with_last-end : goal.slice_bounds-with_last-end
slice_bounds-with_last-end g c = sym (c.show_all-state.auto.line ∙ length-replicate {A = ℕ} 4097 0)

pub slice_bounds-with_last-end-2 : goal.slice_bounds-with_last-end-2
slice_bounds-with_last-end-2 g c = sym (c.show_all-state.auto.out ∙ length-replicate {A = ℕ} 589824 0)

pub slice_bounds-flush-end : goal.slice_bounds-flush-end
slice_bounds-flush-end g c = sym (c.with_last-n.auto.out ∙ c.show_all-state.auto.out ∙ length-replicate {A = ℕ} 589824 0)
