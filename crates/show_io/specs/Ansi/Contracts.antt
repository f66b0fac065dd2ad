-- What the contracts of src/ansi.rt say of places in a row.
use Rattle.std.specs.Prelude.{ℕ, ◌+◌, ◌-◌, ◌≤◌, Bool, false, cond, ◌&&◌, List, [], ◌++◌, length, take, drop, eqb}
use Rattle.buffer.specs.Numbers.{smaller_of}
use Rattle.screen.specs.WellFormed.{body_size}
use Rattle.show_io.specs.Ansi.{length_at, alike, same_style, same_link, style_order, link_order, uri, change}
use Rattle.show_io.specs.declared.ansi.Places.{Places}

-- the parts of a change
abbrev pub style_change : List ℕ → List ℕ → List ℕ
style_change a b = cond (same_style a b) [] (style_order b)

abbrev pub link_change : List ℕ → List ℕ → List ℕ → List ℕ
link_change line a b = cond (same_link a b) [] (link_order (uri line b))

-- two whole bodies with the same bytes
abbrev pub same_body : List ℕ → List ℕ → Bool
same_body a b = cond (eqb (length a) body_size && eqb (length b) body_size) (alike body_size 0 a b) false

-- the cell that begins at a place, cut where the row ends
abbrev pub places_at : List ℕ → ℕ → Places
places_at row at =
    let n : ℕ = length_at (drop at row) in
    record { cluster = smaller_of (at + 4) (length row); body = smaller_of (at + 4 + n) (length row); end = smaller_of (at + 4 + n + body_size) (length row) }

abbrev pub cluster_in : List ℕ → Places → List ℕ
cluster_in row c = take (c.body - c.cluster) (drop c.cluster row)

abbrev pub body_in : List ℕ → Places → List ℕ
body_in row c = take (c.end - c.body) (drop c.body row)

pub record InRow (row : List ℕ) (c : Places) : Type 0 where
  pub cluster : c.cluster ≤ c.body
  pub body : c.body ≤ c.end
  pub end : c.end ≤ length row

-- a cell behind another
abbrev pub cell_text : List ℕ → List ℕ → Places → Places → List ℕ
cell_text line row was cell = change line (body_in row was) (body_in row cell) ++ cluster_in row cell
