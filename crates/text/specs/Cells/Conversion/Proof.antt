-- Each byte that is written is a cluster, and the machine takes them cell by cell.
use Rattle.std.specs.Prelude.{ℕ, ◌*◌, ◌-◌, ◌≤◌, ◌<◌, Bool, true, false, not, ◌&&◌, ◌||◌, ◌≡◌, length, replicate, eqb, leb}
use Rattle.std.proofs.Common.{arith, ◌∙◌, eq-eqb, eqb-true, le-leb, ne_eqb}
use mathlib.Core.List.{List, [], ◌∷◌, ◌++◌, append_assoc, append-nil, reverse}
use Rattle.std.proofs.Math.Path.{refl, sym, ap}
use Rattle.std.proofs.Math.Seq.{take-append_seam}
use Rattle.std.proofs.lemmas.Bool.{eqb-false, not-true}
use Rattle.text.specs.Tests.{and_T, cases, is_true, true_T}
use Rattle.text.specs.Each.{All, all_nil, all_cons, all_append, all_map}
use Rattle.text.specs.Utf8.{Scalar, ascii, asciis, bytes_of, same_bytes, reads}
use Rattle.text.specs.Utf8.Laws.{bytes_of_append}
use Rattle.text.specs.Utf8.AsciiTexts.{asciis_bytes, runs_asciis}
use Rattle.text.specs.Class.{Profile, number}
use Rattle.text.specs.Class.Ascii.{AsciiClasses, printable_class, printable_range}
use Rattle.text.specs.Class.Code.{printable, profile_of}
use Rattle.text.specs.Class.Profile01.{ascii_classes}
use Rattle.text.specs.Width.{profile01}
use Rattle.text.specs.Cluster.{clusters, context, joined, joins}
use Rattle.text.specs.Cluster.Ascii.{after_control, before_control}
use Rattle.text.specs.Segmentation.Boundaries.{alone_numbers, other_alone}
use Rattle.text.specs.Cluster.Laws.{clusters_apart, clusters_nil, clusters_one}
use Rattle.text.specs.Overstrike.{Style, normal, bold, underline, bold_underline, bolded, underlined, order, push, State, state, none, held, strike, on_backspace, on_cluster, step, steps, finish, convert_run, convert_pieces, convert}
use Rattle.text.specs.Overstrike.Laws.{convert_pieces_law, convert_run_plain, push_reverse}
use Rattle.text.specs.Cells.{are_cells, cell_style, is_cell, overstruck, overstruck_cells, styled}
use Rattle.text.specs.Cells.Conversion.{CellsConvert, OverstrikeClasses, WrittenConverts}
use Rattle.text.specs.Calls.{decide, question1, question2}
use Rattle.text.specs.Calls.Laws.{convert_accepted, decide_nil, decide_yes, written_accepted}

-- ---- what is written: 08 and 20 to 7E

abbrev single : ℕ → Bool
single b = eqb b 0x08 || printable b

abbrev Singles : List ℕ → Type 0
Singles s = All (λ (b : ℕ). single b ≡ true) s

single_low : (b : ℕ) → single b ≡ true → b < 0x80
single_low b e = cases (eqb b 0x08) (λ f. omega (arith, eqb-true b 8 f)) (λ f. omega (arith, (printable_range b (rw f at e)).1))

-- a cell's byte
record CellByte (b : ℕ) : Type 0 where
  plain : printable b ≡ true
  not_under : eqb b 0x5F ≡ false

-- cells are none, or one and cells
data Cells : List ℕ → Type 0 where
  nil : Cells []
  cons : {b s : ℕ} {cells : List ℕ} → CellByte b → Cells cells → Cells (b ∷ s ∷ cells)

are : (cells : List ℕ) → are_cells cells ≡ true → Cells cells
unfolding are_cells
are [] e = nil
are (b ∷ []) e = absurd (true_T e)
are (b ∷ s ∷ cells) e =
    let p = and_T (is_cell b s) (are_cells cells) (true_T e) in
    let q = and_T (printable b) (not (eqb b 0x5F) && leb s 3) p.0 in
    cons (record { plain = is_true _ q.0; not_under = not-true _ (is_true _ (and_T (not (eqb b 0x5F)) (leb s 3) q.1).0) }) (are cells (is_true _ p.1))

module _ (c : ℕ) (C : CellByte c) where
  single_cell : single c ≡ true
  single_cell = cases (eqb c 0x08) (λ f. rw f) (λ f. rw f C.plain)

  overstruck_single : (t : Style) → Singles (overstruck t c)
  unfolding overstruck
  overstruck_single normal = all_cons single_cell all_nil
  overstruck_single bold = all_cons single_cell (all_cons refl (all_cons single_cell all_nil))
  overstruck_single underline = all_cons refl (all_cons refl (all_cons single_cell all_nil))
  overstruck_single bold_underline = all_cons refl (all_cons refl (all_cons single_cell (all_cons refl (all_cons single_cell all_nil))))

written_single : {cells : List ℕ} → Cells cells → Singles (overstruck_cells cells)
unfolding overstruck_cells
written_single nil = all_nil
written_single (cons {b = b} {s = s} h a) = all_append (overstruck_single b h (cell_style s)) (written_single a)

-- ---- a text of such bytes: one run, each byte a cluster

unfoldable each_one : List ℕ → List (List Scalar)
each_one [] = []
each_one (b ∷ s) = (ascii b ∷ []) ∷ each_one s

module _ (P : Profile) (K : OverstrikeClasses P) where
  by_class : (X : ℕ → Type 0) (b : ℕ) → single b ≡ true → X 2 → X 11 → X (number (P.class b))
  unfolding number
  by_class X b e x y = cases (eqb b 0x08) (λ f. rw (eqb-true b 8 f, K.backspace) x) (λ f. rw (K.plain b (rw f at e)) y)

  apart : (b c : ℕ) → single b ≡ true → single c ≡ true → joins P (ascii b ∷ []) (ascii c) ≡ false
  unfolding joins
  apart b c d e =
      let k = context P (ascii b ∷ []) in
      by_class (λ (p : ℕ). joined p k (number (P.class c)) ≡ false) b d
      (after_control 2 k (number (P.class c)) refl)
      (by_class (λ (n : ℕ). joined 11 k n ≡ false) c e (before_control 11 k 2 refl refl) (alone_numbers 11 k 11 other_alone))

  clusters_single : {s : List ℕ} → Singles s → clusters P (asciis s) ≡ each_one s
  unfolding asciis each_one
  clusters_single all_nil = clusters_nil P
  clusters_single (all_cons {a = b} d all_nil) = clusters_one P (ascii b)
  clusters_single (all_cons {a = b} d (all_cons {a = c} {s = s} e a)) =
      clusters_apart P (ascii b) (ascii c) (asciis s) (apart b c d e) ∙ ap (λ (l : List (List Scalar)). (ascii b ∷ []) ∷ l) (clusters_single (all_cons e a))

  -- ---- a cell

  module _ (c : ℕ) (C : CellByte c) where
    no_backspace : eqb c 0x08 ≡ false
    no_backspace = ne_eqb c 8 (λ e. omega (arith, (printable_range c C.plain).0))

    under_no : eqb 0x5F c ≡ false
    under_no = ne_eqb 0x5F c (λ e. eqb-false c 0x5F C.not_under (sym e))

    same : eqb c c ≡ true
    same = eq-eqb c c refl

    cell_steps : (t : Style) (out g : List Scalar) (b s : Style) (rest : List ℕ)
        → steps P (state out (held g) b s) (each_one (overstruck t c ++ rest)) ≡ steps P (state (push g (push (asciis (order b s)) out)) (held (ascii c ∷ [])) s t) (each_one rest)
    unfolding steps step each_one overstruck on_backspace on_cluster strike reads bytes_of same_bytes bolded underlined
    cell_steps normal out g b s rest = rw no_backspace refl
    cell_steps bold out g b s rest = rw (no_backspace, same, C.not_under) refl
    cell_steps underline out g b s rest = rw (no_backspace, under_no, C.not_under) refl
    cell_steps bold_underline out g b s rest = rw (no_backspace, under_no, C.not_under, same, C.not_under) refl

    -- the first cell: none pending is as an empty cluster held
    first_cell : (t : Style) (rest : List ℕ) → steps P (state [] none normal normal) (each_one (overstruck t c ++ rest)) ≡ steps P (state [] (held []) normal normal) (each_one (overstruck t c ++ rest))
    unfolding steps step each_one overstruck on_cluster reads bytes_of same_bytes order asciis
    first_cell normal rest = rw no_backspace refl
    first_cell bold rest = rw no_backspace refl
    first_cell underline rest = refl
    first_cell bold_underline rest = refl

  -- ---- all cells

  abbrev bytes : List Scalar → List ℕ
  bytes out = bytes_of (reverse out)

  abbrev end_bytes : State → List ℕ
  end_bytes t = bytes (finish P t.out t.pending t.before t.style)

  pushed : (x out : List Scalar) → bytes (push x out) ≡ bytes out ++ bytes_of x
  pushed x out = ap bytes_of (push_reverse x out) ∙ bytes_of_append (reverse out) x

  ordered : (o : List ℕ) (out : List Scalar) → bytes (push (asciis o) out) ≡ bytes out ++ o
  ordered o out = pushed (asciis o) out ∙ ap (λ (l : List ℕ). bytes out ++ l) (asciis_bytes o)

  all_steps : {cells : List ℕ} → Cells cells → (out g : List Scalar) (b s : Style)
      → end_bytes (steps P (state out (held g) b s) (each_one (overstruck_cells cells))) ≡ bytes (push g (push (asciis (order b s)) out)) ++ styled s cells
  unfolding overstruck_cells styled each_one steps finish bytes_of
  all_steps nil out g b s = ordered (order s normal) (push g (push (asciis (order b s)) out))
  all_steps (cons {b = c} {s = n} {cells = cells} C a) out g b s =
      let t : Style = cell_style n in
      let x : List Scalar = push g (push (asciis (order b s)) out) in
      ap end_bytes (cell_steps c C t out g b s (overstruck_cells cells))
      ∙ all_steps a x (ascii c ∷ []) s t
      ∙ ap (λ (l : List ℕ). l ++ styled t cells) (pushed (ascii c ∷ []) (push (asciis (order s t)) x) ∙ ap (λ (l : List ℕ). l ++ (c ∷ [])) (ordered (order s t) x))
      ∙ append_assoc (bytes x ++ order s t) (c ∷ []) (styled t cells)
      ∙ append_assoc (bytes x) (order s t) (c ∷ styled t cells)

  from_start : {cells : List ℕ} → Cells cells → end_bytes (steps P (state [] none normal normal) (each_one (overstruck_cells cells))) ≡ styled normal cells
  unfolding overstruck_cells styled each_one steps finish order asciis bytes_of
  from_start nil = refl
  from_start (cons {b = c} {s = n} {cells = cells} C a) = ap end_bytes (first_cell c C (cell_style n) (overstruck_cells cells)) ∙ all_steps (cons {s = n} C a) [] [] normal normal

  -- ---- the line

  one_run : {s : List ℕ} → Singles s → convert P s ≡ bytes_of (convert_run P (asciis s))
  unfolding convert_pieces convert asciis bytes_of
  one_run all_nil = sym (ap bytes_of (convert_run_plain P [] refl))
  one_run (all_cons {a = b} {s = s} e a) =
      convert_pieces_law P (b ∷ s)
      ∙ ap (convert_pieces P) (runs_asciis b s (all_map single_low (all_cons e a)))
      ∙ append-nil (bytes_of (convert_run P (asciis (b ∷ s))))

  pub cells_convert : CellsConvert P
  unfolding convert_run
  cells_convert cells e =
      let a = are cells e in
      let w = written_single a in
      one_run w ∙ ap (λ (gs : List (List Scalar)). end_bytes (steps P (state [] none normal normal) gs)) (clusters_single w) ∙ from_start a

  pub written_converts : WrittenConverts P
  written_converts room conv cells e h =
      let s : List ℕ = overstruck_cells cells in
      let w = written_accepted room cells e in
      let k : 8 * length s ≤ conv = rw w.count at h in
      let d : decide (question1 s ∷ question2 conv s ∷ []) ≡ 0 = decide_yes (question1 s) _ w.short ∙ decide_yes (question2 conv s) [] (le-leb (8 * length s) conv k) ∙ decide_nil in
      rw (w.count, w.out, take-append_seam s (replicate (room - length s) 0))
      (convert_accepted P conv s d ∙ rw (cells_convert cells w.whole) refl)

-- ---- profiles that have it, and document 01's

pub overstrike_classes : (P : Profile) → AsciiClasses P → OverstrikeClasses P
unfolding number
overstrike_classes P a = record { backspace = a.class 0x08 (omega arith); plain = λ b e. printable_class P a b e }

classes01 : OverstrikeClasses profile01
unfolding profile_of
classes01 = overstrike_classes profile01 (ascii_classes (record { version = 0 }))

pub cells_convert01 : CellsConvert profile01
cells_convert01 = cells_convert profile01 classes01

pub written_converts01 : WrittenConverts profile01
written_converts01 = written_converts profile01 classes01
