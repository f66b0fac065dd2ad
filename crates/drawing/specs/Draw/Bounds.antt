-- The bounds of rows: a row drawing's window does not end before it begins.
use Rattle.std.specs.Prelude.{◌≡◌, refl, ℕ, zero, suc, ◌+◌, ◌-◌, ◌≤◌, List}
use Rattle.std.proofs.Common.{arith}
use Rattle.text.specs.Class.{Profile}
use Rattle.spans.specs.Spans.{Span}
use Rattle.rows.specs.Rows.{Row, Mode, rows, EndToEnd, last, next}
use Rattle.rows.proofs.RowsInOrder.{rows_end_to_end}
use Rattle.drawing.specs.Draw.{end_of, start_of, wrap_bounds}

end_above : {a z : ℕ} {rs : List Row} → EndToEnd a z rs → (e j : ℕ) → a ≤ end_of e j rs
unfolding end_of
end_above (last h) e zero = h
end_above (last h) e (suc j) = h
end_above (next h r) e zero = h
end_above (next {b = b} h r) e (suc j) = omega (arith, end_above r b j)

first_start : {a z : ℕ} {rs : List Row} → EndToEnd a z rs → (e : ℕ) → start_of e 0 rs ≡ a
unfolding start_of
first_start (last h) e = refl
first_start (next h r) e = refl

-- row i begins at most where row j ends, be it the one before i or a later one
start_below : {a z : ℕ} {rs : List Row} → EndToEnd a z rs → (e i j : ℕ) → i ≤ suc j → start_of (end_of e j rs) i rs ≤ end_of e j rs
unfolding start_of end_of
start_below (last h) e zero zero k = h
start_below (last h) e zero (suc j) k = h
start_below (last h) e (suc i) zero k = omega arith
start_below (last h) e (suc i) (suc j) k = omega arith
start_below (next h r) e zero zero k = h
start_below (next {b = b} h r) e zero (suc j) k = omega (arith, end_above r b j)
start_below (next {b = b} h r) e (suc zero) zero k = omega (arith, first_start r b)
start_below (next h r) e (suc (suc i)) zero k = absurd (omega arith)
start_below (next {b = b} h r) e (suc i) (suc j) k = start_below r b i j (omega arith)

pub bounds_ordered : (P : Profile) (first count width : ℕ) (mode : Mode) (ss : List Span) → (wrap_bounds first count (rows P width mode ss)).start ≤ (wrap_bounds first count (rows P width mode ss)).end
bounds_ordered P first count width mode ss = start_below (rows_end_to_end P width mode ss).run 0 first (first + count - 1) (omega arith)
