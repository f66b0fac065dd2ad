-- Line-drawn text: a scalar from 5F to 7E is shown as a symbol, in one sequence of at most three bytes. So the text has the clusters and columns of the one that it stands for.
use Rattle.std.specs.Prelude.{◌≡◌, refl, ℕ, ◌-◌, ◌*◌, ◌≤◌, Bool, true, cond, List, [], ◌∷◌, length, get_or, T}
use Rattle.std.proofs.Common.{sym, ◌∙◌, arith, length-append}
use Rattle.std.proofs.Math.Dec.{eqb, leb}
use borrow.Author.Tests.{eqb-true, leb-true, le-leb}
use Rattle.text.specs.Tests.{cases, every, every_one, in_range_law}
use Rattle.text.specs.Each.{Each, nil, cons, each_map, All, all_nil, all_cons}
use Rattle.text.specs.Utf8.{Scalar, to, within, sequence, value, scalar, bytes_of}
use Rattle.text.specs.Utf8.Laws.{bytes_cons, bytes_nil}
use Rattle.text.specs.Utf8.Valid.{Valid, sequence_valid}
use Rattle.text.specs.Class.{Profile, number}
use Rattle.text.specs.Class.Ascii.{AsciiClasses, printable_class, printable_columns}
use Rattle.text.specs.Class.Code.{printable}
use Rattle.text.specs.Class.Symbols.{SymbolClasses}
use Rattle.text.specs.Width.{width_of}
use Rattle.text.specs.Width.Symbols.{symbol, SymbolColumns}
use Rattle.text.specs.Cluster.{clusters}
use Rattle.text.specs.Cluster.Same.{clusters_each, width_of_each}
use Rattle.drawing.specs.Marks.{replacements, line_drawn}

abbrev pub replaces : ℕ → Bool
replaces v = within (to 0x5F 0x7E) v

abbrev replacement_bytes : ℕ → List ℕ
replacement_bytes v = get_or replacements (v - 0x5F) []

abbrev pub replacement : ℕ → Scalar
replacement v = scalar (replacement_bytes v)

-- ---- the replacements, by a test of all of them

module _ (v : ℕ) (e : replaces v ≡ true) where
  passes : (f : List ℕ → Bool) → T (every (λ v. f (replacement_bytes v)) 0x5F 32) → f (replacement_bytes v) ≡ true
  passes f t = let w = in_range_law 0x5F 0x7E v e in every_one (λ v. f (replacement_bytes v)) 32 0x5F v t w.0 (omega (arith, w.1))

  pub replacement_symbol : symbol (replacement v).code ≡ true
  unfolding every replacements value scalar
  replacement_symbol = passes (λ r. symbol (value r)) tt

  replacement_length : length (replacement_bytes v) ≤ 3
  unfolding every replacements
  replacement_length = leb-true _ _ (passes (λ r. leb (length r) 3) tt)

  replacement_valid : Valid (replacement v)
  unfolding every replacements sequence
  replacement_valid = sequence_valid (replacement_bytes v) (eqb-true _ _ (passes (λ r. eqb (sequence r) (length r)) tt)) (leb-true _ _ (passes (λ r. leb 1 (length r)) tt))

  -- it is shown for a printable scalar
  pub replaced_printable : printable v ≡ true
  replaced_printable = let w = in_range_law 0x5F 0x7E v e in rw (le-leb 0x20 v (omega (arith, w.0)), le-leb v 0x7E w.1)

-- ---- each scalar, and what it is shown as

abbrev shown : Scalar → Scalar
shown c = cond (replaces c.code) (replacement c.code) c

abbrev Shown : Scalar → Scalar → Type 0
Shown c d = d ≡ shown c

each_shown : (s : List Scalar) → Each Shown s (line_drawn s)
unfolding line_drawn
each_shown [] = nil
each_shown (c ∷ s) = cons refl (each_shown s)

shown_valid : (c : Scalar) → Valid c → Valid (shown c) × (length (shown c).bytes ≤ 3 * length c.bytes)
unfolding scalar
shown_valid c v =
    cases (replaces c.code)
    (λ e. rw e (replacement_valid c.code e, omega (arith, replacement_length c.code e, v.some)))
    (λ e. rw e (v, omega arith))

-- valid text, and at most three times as long
pub line_drawn_valid : {s : List Scalar} → All Valid s → All Valid (line_drawn s) × (length (bytes_of (line_drawn s)) ≤ 3 * length (bytes_of s))
unfolding line_drawn
line_drawn_valid all_nil = (all_nil, rw bytes_nil (omega arith))
line_drawn_valid (all_cons {a = c} {s = s} v a) =
    let p = shown_valid c v in
    let q = line_drawn_valid a in
    (all_cons p.0 q.0, rw (bytes_cons (shown c) (line_drawn s), bytes_cons c s) (simp length-append (omega (arith, p.1, q.1))))

-- ---- clusters and columns

-- what is replaced and its replacement have one class and one width
pub record AlikeReplaced (P : Profile) : Type 0 where
  pub class : (v : ℕ) → replaces v ≡ true → number (P.class v) ≡ number (P.class (replacement v).code)
  pub width : (v : ℕ) → replaces v ≡ true → P.width v ≡ P.width (replacement v).code

pub alike_replaced : (P : Profile) → AsciiClasses P → SymbolClasses P → SymbolColumns P → AlikeReplaced P
alike_replaced P a c w = record {
  class = λ v e. printable_class P a v (replaced_printable v e) ∙ sym (c.other _ (replacement_symbol v e));
  width = λ v e. printable_columns P a v (replaced_printable v e) ∙ sym (w.one _ (replacement_symbol v e));
}

module _ (P : Profile) (H : AlikeReplaced P) where
  shown_alike : (f : ℕ → ℕ) → ((v : ℕ) → replaces v ≡ true → f v ≡ f (replacement v).code) → (c d : Scalar) → Shown c d → f c.code ≡ f d.code
  shown_alike f h c d e = rw e (cases (replaces c.code) (λ t. rw t (h c.code t)) (λ t. rw t))

  width_alike : {s t : List Scalar} → Each Shown s t → width_of P s ≡ width_of P t
  width_alike = width_of_each P Shown (shown_alike P.width H.width)

  pub line_drawn_width : (s : List Scalar) → width_of P (line_drawn s) ≡ width_of P s
  line_drawn_width s = sym (width_alike (each_shown s))

  -- cluster by cluster
  pub line_drawn_widths : (s : List Scalar) → Each (λ (g h : List Scalar). width_of P g ≡ width_of P h) (clusters P s) (clusters P (line_drawn s))
  line_drawn_widths s = each_map (λ g h e. width_alike e) (clusters_each P Shown (shown_alike (λ v. number (P.class v)) H.class) (each_shown s))
