-- What is written of a row, byte for byte.
use mathlib.Core.Path.{◌≡◌, refl, sym, ap, ap₂, ◌∙◌}
use Prim.Native.Nat.{ℕ, suc, ◌+◌, ◌-◌, ◌*◌, ◌<◌, ◌≤◌}
use native.Mathlib.Omega.{arith}
use mathlib.Core.Logic.{◌≢◌}
use mathlib.Core.List.{List, [], ◌∷◌, ◌++◌, append_assoc}
use lib.ListN.{length, take, drop, get_or, replicate, drop_of_length-le}
use lib.Seq.{length-take-le, drop-cons, get_or-take}
use borrow.Author.Tests.{eq-eqb, ne_eqb}
use Rattle.buffer.specs.Numbers.{le4}
use Rattle.buffer.specs.Sink.{Sink, sink, emit}
use Rattle.buffer.specs.Sink.Laws.{emit_append, emit_none}
use Rattle.screen.specs.WellFormed.{body_size}
use Rattle.screen.specs.Row.{Cell, plain, with_background, blank, cell, row_bytes}
use Rattle.screen.specs.Row.Contracts.{part, body_at, blank_at, cell_of, cell_in, cells_in, CellReady}
use Rattle.screen.specs.Row.Contracts.Laws.{cell_at, cells_enough}
use Rattle.screen.specs.Screen.{row_of}
use Rattle.screen.specs.Output.{cell_bytes}
use Rattle.screen.specs.Output.Laws.{row_nil, row_cons, row_append}
use Rattle.screen.specs.declared.screen.Screen as code

-- ---- bodies

pub plain_written : (list : List ℕ) (place : ℕ) (s s' : Sink ℕ) → place ≡ 0 → s' ≡ emit s plain → s' ≡ emit s (body_at list place)
plain_written list place s s' z e = e ∙ ap (emit s) (rw (eq-eqb place 0 z) refl)

pub body_written : (list : List ℕ) (place : ℕ) (s s' : Sink ℕ) → (place ≢ 0) → s' ≡ emit s (part list place body_size) → s' ≡ emit s (body_at list place)
body_written list place s s' z e = e ∙ ap (emit s) (rw (ne_eqb place 0 z) refl)

pub background_written : (color : List ℕ) (s a b c : Sink ℕ) → a ≡ emit s (replicate 8 0) → b ≡ emit a color → c ≡ emit b (replicate 13 0) → c ≡ emit s (with_background color)
background_written color s a b c e f g =
    g ∙ ap (λ (x : Sink ℕ). emit x (replicate 13 0)) (f ∙ ap (λ (x : Sink ℕ). emit x color) e ∙ sym (emit_append s (replicate 8 0) color)) ∙ sym (emit_append s (replicate 8 0 ++ color) (replicate 13 0))

-- ---- cells

module _ (list : List ℕ) (place : ℕ) (s a b : Sink ℕ) (space : a ≡ emit s (1 ∷ 0 ∷ 0 ∷ 0 ∷ 0x20 ∷ [])) where
  blank_written : (body : List ℕ) → b ≡ emit a body → b ≡ emit s (cell_bytes (blank body))
  unfolding le4
  blank_written body e = e ∙ ap (λ (x : Sink ℕ). emit x body) space ∙ sym (emit_append s (1 ∷ 0 ∷ 0 ∷ 0 ∷ 0x20 ∷ []) body)

  pub blank_plain : place ≡ 0 → b ≡ emit a (body_at list 0) → b ≡ emit s (cell_bytes (blank_at list place))
  blank_plain z e = blank_written (body_at list 0) e ∙ ap (emit s) (rw (eq-eqb place 0 z) refl)

  pub blank_colored : (place ≢ 0) → b ≡ emit a (with_background (part list place 4)) → b ≡ emit s (cell_bytes (blank_at list place))
  blank_colored z e = blank_written (with_background (part list place 4)) e ∙ ap (emit s) (rw (ne_eqb place 0 z) refl)

module _ (list row : List ℕ) (i : ℕ) (ready : CellReady row i) where
  abbrev at : ℕ
  at = get_or row (3 * i) 0

  abbrev n : ℕ
  n = get_or row (3 * i + 1) 0

  abbrev body : ℕ
  body = get_or row (3 * i + 2) 0

  pub cell_blank : (s s' : Sink ℕ) → at ≡ 0 → s' ≡ emit s (cell_bytes (blank_at list body)) → s' ≡ emit s (cell_bytes (cell_in list row i))
  unfolding cell_of
  cell_blank s s' z e = let is : cell_in list row i ≡ blank_at list body = cell_at list i row ready ∙ rw (eq-eqb at 0 z) refl in e ∙ ap (λ (c : Cell). emit s (cell_bytes c)) (sym is)

  pub cell_cluster : (k : ℕ) (s a b c : Sink ℕ) → (at ≢ 0) → k ≡ length (part list at n) → a ≡ emit s (le4 k) → b ≡ emit a (part list at n) → c ≡ emit b (body_at list body) → c ≡ emit s (cell_bytes (cell_in list row i))
  unfolding cell_of
  cell_cluster k s a b c z size e f g =
      let l : List ℕ = le4 (length (part list at n)) in
      let p : List ℕ = part list at n in
      let is : cell_in list row i ≡ cell (part list at n) (body_at list body) = cell_at list i row ready ∙ rw (ne_eqb at 0 z) refl in
      g ∙ ap (λ (x : Sink ℕ). emit x (body_at list body)) (f ∙ ap (λ (x : Sink ℕ). emit x p) (e ∙ ap (λ (m : ℕ). emit s (le4 m)) size) ∙ sym (emit_append s l p))
      ∙ sym (emit_append s (l ++ p) (body_at list body)) ∙ ap (emit s) (append_assoc l p (body_at list body))
      ∙ ap (λ (d : Cell). emit s (cell_bytes d)) (sym is)

-- ---- write_cells

pub record WriteCells (list row : List ℕ) (end : ℕ) (out₀ out : List ℕ) (at i : ℕ) : Type 0 where
  pub order : i ≤ end
  pub work : emit (sink out at) (row_bytes (drop i (take end (cells_in list row)))) ≡ emit (sink out₀ 0) (row_bytes (take end (cells_in list row)))
  pub long : length out ≡ length out₀

module _ (list row : List ℕ) (end : ℕ) (room : 3 * end ≤ length row) (out₀ : List ℕ) where
  abbrev cs : List Cell
  cs = take end (cells_in list row)

  count : length cs ≡ end
  count = length-take-le end (cells_in list row) (cells_enough list end row room)

  pub cells_begin : WriteCells list row end out₀ out₀ 0 0
  cells_begin = record { order = omega arith; work = refl; long = refl }

  module _ (out : List ℕ) (at i : ℕ) (b : WriteCells list row end out₀ out at i) where
    pub cells_turn : (out' : List ℕ) (at' : ℕ) → i < end → sink out' at' ≡ emit (sink out at) (cell_bytes (cell_in list row i)) → length out' ≡ length out → WriteCells list row end out₀ out' at' (i + 1)
    cells_turn out' at' h e l =
        let d : drop i cs ≡ cell_in list row i ∷ drop (i + 1) cs = drop-cons cs i (blank plain) (omega (arith, h, count)) ∙ ap₂ (λ (c : Cell) (k : ℕ). c ∷ drop k cs) (get_or-take end (cells_in list row) i (blank plain) h) (let k : suc i ≡ i + 1 = omega arith in k) in
        record {
          order = omega (arith, h);
          work = ap (λ (s : Sink ℕ). emit s (row_bytes (drop (i + 1) cs))) e ∙ sym (emit_append (sink out at) (cell_bytes (cell_in list row i)) (row_bytes (drop (i + 1) cs))) ∙ ap (emit (sink out at)) (sym (ap row_bytes d ∙ row_cons (cell_in list row i) (drop (i + 1) cs))) ∙ b.work;
          long = l ∙ b.long;
        }

    pub cells_end : end ≤ i → sink out at ≡ emit (sink out₀ 0) (row_bytes cs)
    cells_end h = sym (ap (λ (ds : List Cell). emit (sink out at) (row_bytes ds)) (drop_of_length-le cs (let k : length cs ≤ i = omega (arith, count, h) in k)) ∙ ap (emit (sink out at)) row_nil ∙ emit_none (sink out at)) ∙ b.work

-- ---- write_blanks

pub record WriteBlanks (list : List ℕ) (place count : ℕ) (out₀ : List ℕ) (start : ℕ) (out : List ℕ) (at n : ℕ) : Type 0 where
  pub work : emit (sink out at) (row_bytes (replicate n (blank_at list place))) ≡ emit (sink out₀ start) (row_bytes (replicate count (blank_at list place)))
  pub long : length out ≡ length out₀

module _ (list : List ℕ) (place count : ℕ) (out₀ : List ℕ) (start : ℕ) where
  pub blanks_begin : WriteBlanks list place count out₀ start out₀ start count
  blanks_begin = record { work = refl; long = refl }

  module _ (out : List ℕ) (at n : ℕ) (b : WriteBlanks list place count out₀ start out at n) where
    pub blanks_turn : (out' : List ℕ) (at' : ℕ) → 0 < n → sink out' at' ≡ emit (sink out at) (cell_bytes (blank_at list place)) → length out' ≡ length out → WriteBlanks list place count out₀ start out' at' (n - 1)
    blanks_turn out' at' h e l =
        let c : Cell = blank_at list place in
        let k : suc (n - 1) ≡ n = omega arith in
        record {
          work = ap (λ (s : Sink ℕ). emit s (row_bytes (replicate (n - 1) c))) e ∙ sym (emit_append (sink out at) (cell_bytes c) (row_bytes (replicate (n - 1) c))) ∙ ap (emit (sink out at)) (sym (row_cons c (replicate (n - 1) c)) ∙ ap (λ (m : ℕ). row_bytes (replicate m c)) k) ∙ b.work;
          long = l ∙ b.long;
        }

    pub blanks_end : n ≤ 0 → sink out at ≡ emit (sink out₀ start) (row_bytes (replicate count (blank_at list place)))
    blanks_end h = sym (ap (λ (m : ℕ). emit (sink out at) (row_bytes (replicate m (blank_at list place)))) (let k : n ≡ 0 = omega arith in k) ∙ ap (emit (sink out at)) row_nil ∙ emit_none (sink out at)) ∙ b.work

pub row_written : (list : List ℕ) (width : ℕ) (row : List ℕ) (t : code.Screen) (s a b : Sink ℕ) → a ≡ emit s (row_bytes (take t.end (cells_in list row))) → b ≡ emit a (row_bytes (replicate (width - t.end) (blank_at list t.color))) → b ≡ emit s (row_bytes (row_of list width row t))
unfolding row_of
row_written list width row t s a b e f =
    let x : List Cell = take t.end (cells_in list row) in
    let y : List Cell = replicate (width - t.end) (blank_at list t.color) in
    f ∙ ap (λ (z : Sink ℕ). emit z (row_bytes y)) e ∙ sym (emit_append s (row_bytes x) (row_bytes y)) ∙ ap (emit s) (sym (row_append x y))
