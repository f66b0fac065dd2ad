-- The cells of a row, one by one.
use mathlib.Core.Path.{◌≡◌, refl, sym, ap, ap₂, ◌∙◌}
use Prim.Native.Nat.{ℕ, suc, ◌+◌, ◌-◌, ◌≤◌, ◌<◌}
use native.Mathlib.Omega.{arith}
use mathlib.Core.Bool.{Bool, true}
use mathlib.Core.List.{List, [], ◌∷◌, ◌++◌, append_assoc}
use lib.ListN.{length, take, drop, get_or, drop_of_length-le}
use lib.Seq.{drop-cons, drop-drop}
use lib.Dec.{leb}
use borrow.Author.Tests.{leb-true, leb-false}
use Rattle.text.specs.Tests.{cases}
use Rattle.buffer.specs.Sink.{Sink, sink, emit}
use Rattle.buffer.specs.Sink.Laws.{then_emit, emit_append}
use Rattle.buffer.specs.Numbers.{smaller_of}
use Rattle.buffer.specs.Numbers.Laws.{smaller_right, smaller_order}
use Rattle.buffer.specs.Numbers.Parts.{part_cut}
use Rattle.screen.specs.Records.{little_endian}
use Rattle.screen.specs.WellFormed.{body_size}
use Rattle.screen.specs.Row.{Cell, cell}
use Rattle.show_io.specs.Ansi.{length_at, cell_at, cells, change, text_from, row_text}
use Rattle.show_io.specs.Ansi.Cells.{cells_none, cells_first}
use Rattle.show_io.specs.Ansi.Contracts.{places_at, cluster_in, body_in, InRow, cell_text, same_body}
use Rattle.show_io.specs.declared.ansi.Places.{Places}
use Rattle.show_io.proofs.Bodies.{change_none}

pub places_are : (row : List ℕ) (at n x y z : ℕ) → n ≡ little_endian (take 4 (drop at row)) → x ≡ smaller_of (at + 4) (length row) → y ≡ smaller_of (at + 4 + n) (length row) → z ≡ smaller_of (at + 4 + n + 25) (length row)
    → record { cluster = x; body = y; end = z } ≡ places_at row at
places_are row at n x y z e f g h = rw (f, g, h, e) refl

-- ---- the cell at a place

module _ (row : List ℕ) (at : ℕ) where
  abbrev n : ℕ
  n = length_at (drop at row)

  abbrev len : ℕ
  len = length row

  pub places_in_law : InRow row (places_at row at)
  places_in_law = record {
    cluster = smaller_order (at + 4) len _ refl (at + 4 + n) _ (omega arith) refl;
    body = smaller_order (at + 4 + n) len _ refl (at + 4 + n + body_size) _ (omega arith) refl;
    end = smaller_right (at + 4 + n + body_size) len _ refl;
  }

  cell_is : cell_at (drop at row) ≡ cell (cluster_in row (places_at row at)) (body_in row (places_at row at))
  cell_is = same
      (ap (take n) (drop-drop 4 at row) ∙ sym (part_cut row (at + 4) _ refl n _ refl))
      (ap (take body_size) (drop-drop (4 + n) at row ∙ ap (λ (k : ℕ). drop k row) (let e : at + (4 + n) ≡ at + 4 + n = omega arith in e)) ∙ sym (part_cut row (at + 4 + n) _ refl body_size _ refl))
    where
      same : {g h a b : List ℕ} → g ≡ h → a ≡ b → ◌≡◌ {A = Cell} (cell g a) (cell h b)
      same e f = rw (e, f)

  behind_is : drop (places_at row at).end row ≡ drop (at + 4 + n + body_size) row
  behind_is = cases (leb (at + 4 + n + body_size) len)
      (λ e. let h = leb-true (at + 4 + n + body_size) len e in ap (λ (k : ℕ). drop k row) (omega arith))
      (λ e.
      let h = leb-false (at + 4 + n + body_size) len e in
      let k : (places_at row at).end ≡ len = omega arith in
      rw (k, drop_of_length-le row (let g : len ≤ len = omega arith in g), drop_of_length-le row (let g : len ≤ at + 4 + n + body_size = omega arith in g)) refl)

  cells_next : at < len → cells (drop at row) ≡ cell (cluster_in row (places_at row at)) (body_in row (places_at row at)) ∷ cells (drop (places_at row at).end row)
  cells_next h =
      let d : drop at row ≡ get_or row at 0 ∷ drop (suc at) row = drop-cons row at 0 h in
      ap cells d ∙ cells_first (get_or row at 0) (drop (suc at) row)
      ∙ ap (λ (s : List ℕ). cell_at s ∷ cells (drop (length_at s + body_size + 3) (drop (suc at) row))) (sym d)
      ∙ ap₂ (λ (c : Cell) (s : List ℕ). c ∷ cells s) cell_is (drop-drop (n + body_size + 3) (suc at) row ∙ ap (λ (k : ℕ). drop k row) (let e : suc at + (n + body_size + 3) ≡ at + 4 + n + body_size = omega arith in e) ∙ sym behind_is)

  further_on : at < len → at < (places_at row at).end
  further_on h = omega arith

-- ---- push_cell

pub cell_pushed : (line row : List ℕ) (was next : Places) (s a z : Sink ℕ) → a ≡ emit s (change line (body_in row was) (body_in row next)) → z ≡ emit a (cluster_in row next) → z ≡ emit s (cell_text line row was next)
cell_pushed line row was next s a z e f = then_emit s a z _ _ e f

pub cell_same : (line row : List ℕ) (was next : Places) (x : Bool) (s z : Sink ℕ) → x ≡ same_body (body_in row was) (body_in row next) → x ≡ true → z ≡ emit s (cluster_in row next) → z ≡ emit s (cell_text line row was next)
cell_same line row was next x s z p e f = then_emit s s z _ _ (change_none line (body_in row was) (body_in row next) x s p e) f

-- ---- push_row

pub record Printing (out₀ : List ℕ) (at₀ : ℕ) (line row out : List ℕ) (a p : ℕ) (was : Places) : Type 0 where
  pub inside : p ≤ length row
  pub places : InRow row was
  pub long : length out ≡ length out₀
  pub work : emit (sink out a) (text_from line (body_in row was) (cells (drop p row))) ≡ emit (sink out₀ at₀) (row_text line (cells row))

pub printing_begins : (out line row : List ℕ) (at : ℕ) → Printing out at line row out at 0 (record { cluster = length row; body = length row; end = length row })
unfolding row_text
printing_begins out line row at = record {
  inside = omega arith;
  places = record { cluster = omega arith; body = omega arith; end = omega arith };
  long = refl;
  work = let e : length row - length row ≡ 0 = omega arith in rw e refl;
}

module _ (out₀ : List ℕ) (at₀ : ℕ) (line row out : List ℕ) (a p : ℕ) (was : Places) (w : Printing out₀ at₀ line row out a p was) where
  pub printing_ends : (out' : List ℕ) (r : ℕ) → length row ≤ p → sink out' r ≡ emit (sink out a) (change line (body_in row was) []) → sink out' r ≡ emit (sink out₀ at₀) (row_text line (cells row))
  unfolding text_from
  printing_ends out' r h e = e ∙ (rw (drop_of_length-le row h, cells_none) at w.work)

  module _ (less : p < length row) (next : Places) (is : next ≡ places_at row p) where
    pub next_in : InRow row next
    next_in = rw is (places_in_law row p)

    pub next_further : p < next.end
    next_further = rw is (further_on row p less)

    pub printing_less : length row - next.end < length row - p
    printing_less = omega (arith, next_further)

    pub printing_turn : (out' : List ℕ) (r : ℕ) → length out' ≡ length out → sink out' r ≡ emit (sink out a) (cell_text line row was next) → Printing out₀ at₀ line row out' r next.end next
    unfolding text_from
    printing_turn out' r l e =
        let cs : List Cell = cells (drop next.end row) in
        let now : cells (drop p row) ≡ cell (cluster_in row next) (body_in row next) ∷ cs = rw is (cells_next row p less) in
        let text : text_from line (body_in row was) (cells (drop p row)) ≡ cell_text line row was next ++ text_from line (body_in row next) cs = rw now (sym (append_assoc (change line (body_in row was) (body_in row next)) (cluster_in row next) (text_from line (body_in row next) cs))) in
        record {
          inside = next_in.end;
          places = next_in;
          long = l ∙ w.long;
          work = ap (λ (s : Sink ℕ). emit s (text_from line (body_in row next) cs)) e ∙ sym (emit_append (sink out a) (cell_text line row was next) (text_from line (body_in row next) cs)) ∙ ap (emit (sink out a)) (sym text) ∙ w.work;
        }
