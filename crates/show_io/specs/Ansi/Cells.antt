-- The cells read from a row's bytes are the row's cells.
use Rattle.std.specs.Prelude.{◌≡◌, refl, ℕ, zero, suc, ◌+◌, ◌<◌, List, [], ◌∷◌, ◌++◌, length, take, drop}
use Rattle.std.proofs.Common.{sym, ap, ap₂, ◌∙◌, arith, append_assoc, length-append, drop-drop, take_at, drop_at}
use Rattle.std.proofs.Math.Seq.{take-append_seam, drop-append_seam}
use Rattle.text.specs.Each.{All, all_nil, all_cons}
use Rattle.buffer.specs.Numbers.{le4}
use Rattle.buffer.specs.Numbers.Laws.{le4_length}
use Rattle.screen.specs.Records.{little_endian}
use Rattle.screen.specs.Records.Lengths.{le4_read}
use Rattle.screen.specs.WellFormed.{body_size}
use Rattle.screen.specs.Row.{Cell, cell, row_bytes}
use Rattle.screen.specs.Output.Laws.{row_nil, row_cons}
use Rattle.show_io.specs.Ansi.{length_at, cell_at, cells_from, cells}

-- bytes passed over are bytes dropped
cells_from_drop : (k : ℕ) (s : List ℕ) → cells_from k s ≡ cells (drop k s)
unfolding cells cells_from
cells_from_drop zero [] = refl
cells_from_drop (suc k) [] = refl
cells_from_drop zero (b ∷ s) = refl
cells_from_drop (suc k) (b ∷ s) = cells_from_drop k s

pub cells_none : cells [] ≡ []
unfolding cells cells_from
cells_none = refl

pub cells_first : (b : ℕ) (s : List ℕ) → cells (b ∷ s) ≡ cell_at (b ∷ s) ∷ cells (drop (length_at (b ∷ s) + body_size + 3) s)
unfolding cells cells_from
cells_first b s = ap (λ (cs : List Cell). cell_at (b ∷ s) ∷ cs) (cells_from_drop (length_at (b ∷ s) + body_size + 3) s)

cells_some : (s : List ℕ) → 0 < length s → cells s ≡ cell_at s ∷ cells (drop (4 + length_at s + body_size) s)
cells_some [] h = absurd (let z : 0 < 0 = h in omega arith)
cells_some (b ∷ s) h =
    let e : suc (length_at (b ∷ s) + body_size + 3) ≡ 4 + length_at (b ∷ s) + body_size = omega arith in
    cells_first b s ∙ ap (λ (k : ℕ). cell_at (b ∷ s) ∷ cells (drop k (b ∷ s))) e

-- a cell as `screen_row` leaves it: its cluster's length takes 4 bytes
pub record Sized (c : Cell) : Type 0 where
  pub cluster : length c.cluster < 4294967296
  pub body : length c.body ≡ body_size

same_cell : {g h a b : List ℕ} → g ≡ h → a ≡ b → ◌≡◌ {A = Cell} (cell g a) (cell h b)
same_cell e f = rw (e, f)

module _ (c : Cell) (z : Sized c) (t : List ℕ) where
  abbrev n : ℕ
  n = length c.cluster

  abbrev bytes : List ℕ
  bytes = le4 n ++ (c.cluster ++ (c.body ++ t))

  length_read : length_at bytes ≡ n
  length_read = ap little_endian (take_at (le4 n) _ 4 (le4_length n)) ∙ le4_read n z.cluster

  behind_length : drop 4 bytes ≡ c.cluster ++ (c.body ++ t)
  behind_length = drop_at (le4 n) _ 4 (le4_length n)

  behind_cluster : drop (4 + n) bytes ≡ c.body ++ t
  behind_cluster = sym (drop-drop n 4 bytes) ∙ ap (drop n) behind_length ∙ drop-append_seam c.cluster (c.body ++ t)

  cell_read : cell_at bytes ≡ c
  cell_read = same_cell
      (ap₂ take length_read behind_length ∙ take-append_seam c.cluster (c.body ++ t))
      (ap (λ (k : ℕ). take body_size (drop (4 + k) bytes)) length_read ∙ ap (take body_size) behind_cluster ∙ take_at c.body t body_size z.body)

  behind_cell : drop (4 + length_at bytes + body_size) bytes ≡ t
  behind_cell =
      ap (λ (k : ℕ). drop (4 + k + body_size) bytes) length_read
      ∙ sym (drop-drop body_size (4 + n) bytes) ∙ ap (drop body_size) behind_cluster ∙ drop_at c.body t body_size z.body

  cells_cons : cells bytes ≡ c ∷ cells t
  cells_cons = cells_some bytes (omega (arith, length-append (le4 n) (c.cluster ++ (c.body ++ t)), le4_length n)) ∙ ap₂ (λ (d : Cell) (s : List ℕ). d ∷ cells s) cell_read behind_cell

pub cells_read : {cs : List Cell} → All Sized cs → cells (row_bytes cs) ≡ cs
cells_read all_nil = ap cells row_nil ∙ cells_none
cells_read (all_cons {a = c} {s = cs} z zs) = ap cells (row_cons c cs ∙ simp append_assoc) ∙ cells_cons c z (row_bytes cs) ∙ ap (λ (ds : List Cell). c ∷ ds) (cells_read zs)
