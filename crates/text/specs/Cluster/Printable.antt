-- Printable texts: as wide as they are long, each scalar a cluster by itself.
use Rattle.std.specs.Prelude.{◌≡◌, ℕ, zero, suc, ◌+◌, ◌<◌, true, length, replicate}
use Rattle.std.proofs.Math.Path.{refl, sym, ap}
use Rattle.std.proofs.Common.{ap₂, ◌∙◌, arith, add-zero, get_or-drop}
use mathlib.Core.List.{List, [], ◌∷◌, ◌++◌, map}
use Rattle.std.proofs.Math.ListN.{get_or, drop}
use Rattle.text.specs.Each.{All, all_nil, all_cons, all_map}
use Rattle.text.specs.Utf8.{Scalar, ascii, asciis, decode, run_of}
use Rattle.text.specs.Utf8.Ascii.{ascii_run}
use Rattle.text.specs.Utf8.AsciiTexts.{asciis_cons, asciis_nil, asciis_valid, run_asciis}
use Rattle.text.specs.Utf8.Valid.{Valid}
use Rattle.text.specs.Class.{Profile}
use Rattle.text.specs.Class.Ascii.{AsciiClasses, printable_class, printable_columns, printable_range}
use Rattle.text.specs.Width.{width_of}
use Rattle.text.specs.Cluster.{clusters}
use Rattle.text.specs.Cluster.Ascii.{syllable_cluster}
use Rattle.text.specs.Cluster.Laws.{clusters_nil, clusters_one}
use Rattle.text.specs.Cluster.Parts.{Wide, other_wide}
use Rattle.text.specs.Class.Code.{printable}
use Rattle.text.specs.Segmentation.{first_of}
use Rattle.text.specs.Width.Laws.{width_cons, width_nil}

abbrev pub Printable : List ℕ → Type 0
Printable s = All (λ (b : ℕ). printable b ≡ true) s

pub spaces_printable : (n : ℕ) → Printable (replicate n 0x20)
spaces_printable zero = all_nil
spaces_printable (suc n) = all_cons {a = 0x20} refl (spaces_printable n)

-- printable scalars, as their bytes
abbrev pub PrintableScalar : Scalar → Type 0
PrintableScalar c = (c ≡ ascii c.code) × (printable c.code ≡ true)

abbrev pub codes : List Scalar → List ℕ
codes s = map (λ (c : Scalar). c.code) s

pub codes_same : {s : List Scalar} → All PrintableScalar s → asciis (codes s) ≡ s
codes_same all_nil = asciis_nil
codes_same (all_cons {a = c} {s = s} p a) = asciis_cons c.code (codes s) ∙ ap₂ (λ (x : Scalar) (l : List Scalar). x ∷ l) (sym p.0) (codes_same a)

pub codes_printable : {s : List Scalar} → All PrintableScalar s → Printable (codes s)
codes_printable all_nil = all_nil
codes_printable (all_cons {a = c} p a) = all_cons {a = c.code} p.1 (codes_printable a)

printable_low : {s : List ℕ} → Printable s → All (λ (b : ℕ). b < 0x80) s
printable_low a = all_map (λ b e. omega (arith, (printable_range b e).1)) a

pub printable_valid : {s : List ℕ} → Printable s → All Valid (asciis s)
printable_valid a = asciis_valid (printable_low a)

pub run_printable : {s : List ℕ} → Printable s → run_of (decode s) ≡ asciis s
run_printable a = run_asciis (printable_low a)

module _ (P : Profile) (a : AsciiClasses P) where
  pub printable_width : {s : List ℕ} → Printable s → width_of P (asciis s) ≡ length s
  printable_width all_nil = rw (asciis_nil, width_nil P)
  printable_width (all_cons {a = b} {s = s} e h) = rw (asciis_cons b s, width_cons P (ascii b) (asciis s), printable_columns P a b e) (omega (arith, printable_width h))

  -- in front of clusters that all have a width
  pub printable_wide : {bs : List ℕ} → Printable bs → (s : List Scalar) → Wide P (clusters P s) → Wide P (clusters P (asciis bs ++ s))
  printable_wide all_nil s w = rw asciis_nil w
  printable_wide (all_cons {a = b} {s = bs} e h) s w =
      rw (asciis_cons b bs) (other_wide P (ascii b) (asciis bs ++ s) (printable_class P a b e) (omega (arith, printable_columns P a b e)) (printable_wide h s w))

  pub printable_one : (b : ℕ) → printable b ≡ true → width_of P (ascii b ∷ []) ≡ 1
  printable_one b e = rw (width_cons P (ascii b) [], width_nil P, printable_columns P a b e)

  pub printable_clusters : (b : ℕ) (s : List ℕ) → Printable (b ∷ s) → clusters P (asciis (b ∷ s)) ≡ (ascii b ∷ []) ∷ clusters P (asciis s)
  printable_clusters b [] h = rw (asciis_cons b [], asciis_nil, clusters_one P (ascii b), clusters_nil P)
  printable_clusters b (c ∷ s) (all_cons e (all_cons f h)) =
      rw (asciis_cons b (c ∷ s), asciis_cons c s)
      (syllable_cluster P a (ascii b) (ascii c) (asciis s) (rw (printable_class P a b e) refl) (rw (printable_class P a c f) refl))

  -- a printable byte before another is a cluster by itself
  pub printable_first : (s : List ℕ) (p b c : ℕ) → b ≡ get_or s p 0 → c ≡ get_or s (p + 1) 0 → printable b ≡ true → printable c ≡ true → first_of (clusters P (run_of (decode (drop p s)))) ≡ ascii b ∷ []
  unfolding first_of
  printable_first s p b c e f h g =
      let t : drop p s ≡ b ∷ c ∷ drop 2 (drop p s) = two (drop p s) (e ∙ ap (λ (n : ℕ). get_or s n 0) (sym (add-zero p)) ∙ sym (get_or-drop p s 0 0)) (f ∙ sym (get_or-drop p s 1 0)) in
      rw (t, ascii_run b (c ∷ drop 2 (drop p s)) (omega (arith, (printable_range b h).1)), ascii_run c (drop 2 (drop p s)) (omega (arith, (printable_range c g).1)), syllable_cluster P a (ascii b) (ascii c) (run_of (decode (drop 2 (drop p s)))) (rw (printable_class P a b h) refl) (rw (printable_class P a c g) refl)) refl
    where
      two : (t : List ℕ) → b ≡ get_or t 0 0 → c ≡ get_or t 1 0 → t ≡ b ∷ c ∷ drop 2 t
      two [] x y = absurd (omega (arith, (printable_range b h).0))
      two (d ∷ []) x y = absurd (omega (arith, (printable_range c g).0))
      two (d ∷ d' ∷ t) x y = rw (x, y)
