-- The functions over cells: loops of two bytes a turn, and a cell by its style.
use Prim.Native.Nat.{◌+◌, ◌-◌, ◌<◌, ◌≤◌, ℕ}
use native.Mathlib.Omega.{arith}
use mathlib.Core.Bool.{Bool, ◌&&◌, false, true}
use mathlib.Core.List.{List, [], ◌++◌, ◌∷◌}
use mathlib.Core.Path.{◌∙◌, ◌≡◌, ap, refl, sym}
use lib.Dec.{eqb}
use lib.ListN.{drop, get_or, length, length-append, length-drop, take}
use lib.Seq.{take_all}
use borrow.Author.Tests.{ne_eqb}
use Rattle.buffer.specs.Numbers.{smaller_of}
use Rattle.buffer.specs.Sink.{Sink, emit, put}
use Rattle.buffer.specs.Sink.Laws.{emit_append, emit_none, emit_put, then_put}
use Rattle.text.specs.Cells.Code.{overstruck_length}
use Rattle.text.specs.Cells.Laws.{overstruck_length_law}
use Rattle.text.specs.Cells.{are_cells, cell_style, is_cell, overstruck, overstruck_cells}
use Rattle.text.specs.Overstrike.{Style}

-- ---- are_cells

-- what is left after two bytes
pub left_rest : (s : List ℕ) → take (length s - 2) (drop 2 s) ≡ drop 2 s
left_rest s = take_all (length s - 2) (drop 2 s) (rw length-drop (omega arith))

pair_first : (s : List ℕ) → 2 ≤ length s → are_cells s ≡ (is_cell (get_or s 0 0) (get_or s 1 0) && are_cells (drop 2 s))
unfolding are_cells
pair_first [] h = absurd (omega arith)
pair_first (b ∷ []) h = absurd (omega arith)
pair_first (b ∷ y ∷ s) h = refl

module _ (cells s : List ℕ) (e : are_cells s ≡ are_cells cells) where
  module _ (h : 2 ≤ length s) (r : Bool) (p : r ≡ is_cell (get_or s 0 0) (get_or s 1 0)) where
    pub cells_turn : r ≡ true → are_cells (take (length s - 2) (drop 2 s)) ≡ are_cells cells
    cells_turn q = ap are_cells (left_rest s) ∙ sym (rw (sym p ∙ q) at (pair_first s h)) ∙ e

    pub cells_fail : r ≡ false → false ≡ are_cells cells
    cells_fail q = sym (rw (sym p ∙ q) at (pair_first s h)) ∙ e

  pub cells_end : length s < 2 → (r : Bool) → r ≡ eqb (length s) 0 → r ≡ are_cells cells
  unfolding are_cells
  cells_end h r p = p ∙ short_end s h ∙ e
    where
      short_end : (s : List ℕ) → length s < 2 → eqb (length s) 0 ≡ are_cells s
      short_end [] h = refl
      short_end (b ∷ []) h = refl
      short_end (b ∷ y ∷ s) h = absurd (omega arith)

-- ---- what is written for the cells that are left

none_written : (s : List ℕ) → length s < 2 → overstruck_cells s ≡ []
unfolding overstruck_cells
none_written [] h = refl
none_written (b ∷ []) h = refl
none_written (b ∷ y ∷ s) h = absurd (omega arith)

one_written : (s : List ℕ) → 2 ≤ length s → overstruck_cells s ≡ overstruck (cell_style (get_or s 1 0)) (get_or s 0 0) ++ overstruck_cells (drop 2 s)
unfolding overstruck_cells
one_written [] h = absurd (omega arith)
one_written (b ∷ []) h = absurd (omega arith)
one_written (b ∷ y ∷ s) h = refl

-- ---- push_overstruck

module _ (s : ℕ) where
  module _ (b : ℕ) (x y : Sink ℕ) where
    pub push_normal : s ≡ 0 → y ≡ put x b → y ≡ emit x (overstruck (cell_style s) b)
    unfolding overstruck
    push_normal e p = rw e (emit_put x y b p)

    pub push_bold : s ≡ 1 → y ≡ emit x (b ∷ 0x08 ∷ b ∷ []) → y ≡ emit x (overstruck (cell_style s) b)
    unfolding overstruck
    push_bold e p = rw e p

    module _ (p : y ≡ emit x (0x5F ∷ 0x08 ∷ b ∷ [])) where
      pub push_underline : s ≡ 2 → y ≡ emit x (overstruck (cell_style s) b)
      unfolding overstruck
      push_underline e = rw e p

      pub push_both : (z w : Sink ℕ) → (s ≡ 0 → ⊥) → (s ≡ 1 → ⊥) → (s ≡ 2 → ⊥) → z ≡ put y 0x08 → w ≡ put z b → w ≡ emit x (overstruck (cell_style s) b)
      unfolding overstruck
      push_both z w h k l q r = rw (ne_eqb s 0 h, ne_eqb s 1 k, ne_eqb s 2 l) (then_put x z w (0x5F ∷ 0x08 ∷ b ∷ 0x08 ∷ []) b (then_put x y z (0x5F ∷ 0x08 ∷ b ∷ []) 0x08 p q) r)

-- ---- written_len

pub record Counted (cells s : List ℕ) (n : ℕ) : Type 0 where
  pub same : n + length (overstruck_cells s) ≡ length (overstruck_cells cells)
  pub small : n ≤ 4096

few : (t : Style) → overstruck_length t ≤ 5
few Style.normal = omega arith
few Style.bold = omega arith
few Style.underline = omega arith
few Style.bold_underline = omega arith

pub counted_begin : (cells : List ℕ) → Counted cells cells 0
counted_begin cells = record { same = omega arith; small = omega arith }

module _ (cells s : List ℕ) (n : ℕ) (z : Counted cells s n) where
  module _ (h : 2 ≤ length s) (r : ℕ) (e : r ≡ overstruck_length (cell_style (get_or s 1 0))) where
    pub counted_most : n + r ≤ 4101
    counted_most = rw e (omega (arith, few (cell_style (get_or s 1 0)), z.small))

    counted_on : n + r + length (overstruck_cells (drop 2 s)) ≡ length (overstruck_cells cells)
    counted_on =
        let t : Style = cell_style (get_or s 1 0) in
        let f : length (overstruck_cells s) ≡ r + length (overstruck_cells (drop 2 s)) = ap length (one_written s h) ∙ rw (length-append, overstruck_length_law t (get_or s 0 0), e) in
        omega (arith, z.same)

    pub counted_turn : n + r ≤ 4096 → Counted cells (take (length s - 2) (drop 2 s)) (n + r)
    counted_turn k = rw (left_rest s) (record { same = counted_on; small = k })

    pub counted_past : 4096 < n + r → 4097 ≡ smaller_of (length (overstruck_cells cells)) 4097
    counted_past k = omega (arith, counted_on)

  pub counted_end : length s < 2 → n ≡ smaller_of (length (overstruck_cells cells)) 4097
  counted_end h = let q : length (overstruck_cells s) ≡ 0 = ap length (none_written s h) in omega (arith, z.same, z.small)

-- ---- push_cells

module _ (t : List ℕ) (s : Sink ℕ) {e : Sink ℕ} (w : emit s (overstruck_cells t) ≡ e) where
  pub pushed_turn : (s' : Sink ℕ) → 2 ≤ length t → s' ≡ emit s (overstruck (cell_style (get_or t 1 0)) (get_or t 0 0)) → emit s' (overstruck_cells (take (length t - 2) (drop 2 t))) ≡ e
  pushed_turn s' h q = rw (left_rest t, q) (sym (emit_append s (overstruck (cell_style (get_or t 1 0)) (get_or t 0 0)) (overstruck_cells (drop 2 t))) ∙ rw (← one_written t h) w)

  pub pushed_end : length t < 2 → s ≡ e
  pushed_end h = sym (emit_none s) ∙ (rw (none_written t h) at w)
