-- Texts that drawings write: spaces and marks are valid, and each of their clusters has a width.
use Rattle.std.specs.Prelude.{◌≡◌, refl, ℕ, zero, suc, ◌≤◌, ◌<◌, true, List, [], ◌∷◌, ◌++◌, length, replicate}
use Rattle.std.proofs.Common.{subst, ◌∙◌, arith, append-nil}
use Rattle.std.proofs.lemmas.List.{length-map, length-replicate}
use Rattle.text.specs.Tests.{every}
use Rattle.text.specs.Each.{All, all_nil, all_cons, all_append}
use Rattle.text.specs.Utf8.{Scalar, ascii, asciis, bytes_of}
use Rattle.text.specs.Utf8.AsciiTexts.{asciis_bytes, asciis_replicate}
use Rattle.text.specs.Utf8.Valid.{Valid}
use Rattle.text.specs.Class.{Profile}
use Rattle.text.specs.Class.Ascii.{printable_class}
use Rattle.text.specs.Class.Code.{printable}
use Rattle.text.specs.Width.{width_of}
use Rattle.text.specs.Cluster.{clusters}
use Rattle.text.specs.Cluster.Laws.{clusters_nil}
use Rattle.text.specs.Cluster.Printable.{Printable, PrintableScalar, codes, codes_same, codes_printable, printable_valid, printable_wide, printable_width, spaces_printable}
use Rattle.drawing.specs.Clip.{spaces}
use Rattle.rows.specs.Marks.Laws.{mark_small}
use Rattle.drawing.specs.Marks.{hex_digit, byte_mark, scalar_mark}
use Rattle.drawing.specs.Marks.Scalars.{digit_code, digit_ascii, byte_scalars, scalar_scalars, byte_length, scalar_length}
use Rattle.text.specs.Cluster.Parts.{Wide, Ends, ends_none, ends_other}
use Rattle.screen.specs.Drawn.{ProfileLaws}

module _ (P : Profile) where
  -- valid text, each cluster of some width
  pub record Text (s : List Scalar) : Type 0 where
    pub wide : Wide P (clusters P s)
    pub valid : All Valid s

  -- a text that a drawing clips and sends: at most three times as long as a line
  pub record Drawable (s : List Scalar) : Type 0 where
    pub text : Text s
    pub size : length (bytes_of s) ≤ 98304

  pub no_text : Text []
  no_text = record { wide = rw (clusters_nil P) all_nil; valid = all_nil }

module _ (P : Profile) (H : ProfileLaws P) where
  -- ---- printable text

  pub printable_front : {bs : List ℕ} → Printable bs → {s : List Scalar} → Text P s → Text P (asciis bs ++ s)
  printable_front a {s} t = record { wide = printable_wide P H.ascii a s t.wide; valid = all_append (printable_valid a) t.valid }

  pub printable_text : {bs : List ℕ} → Printable bs → Text P (asciis bs)
  printable_text {bs} a = subst (Text P) (append-nil (asciis bs)) (printable_front a (no_text P))

  -- ---- spaces

  pub spaces_front : (n : ℕ) {s : List Scalar} → Text P s → Text P (spaces n ++ s)
  spaces_front n t = rw (← asciis_replicate n 0x20) (printable_front (spaces_printable n) t)

  pub spaces_text : (n : ℕ) → Text P (spaces n)
  spaces_text n = rw (← asciis_replicate n 0x20) (printable_text (spaces_printable n))

  pub spaces_width : (n : ℕ) → width_of P (spaces n) ≡ n
  spaces_width n = rw (← asciis_replicate n 0x20) (printable_width P H.ascii (spaces_printable n) ∙ length-replicate n 0x20)

  pub spaces_size : (n : ℕ) → length (bytes_of (spaces n)) ≡ n
  spaces_size n = rw (← asciis_replicate n 0x20, asciis_bytes (replicate n 0x20)) (length-replicate n 0x20)

  pub spaces_end : (n : ℕ) (y : List Scalar) → Ends P y (spaces n)
  spaces_end zero y = ends_none P y
  spaces_end (suc n) y = ends_other P y (ascii 0x20) (spaces n) (printable_class P H.ascii 0x20 refl)

  pub spaces_drawable : (n : ℕ) → n ≤ 98304 → Drawable P (spaces n)
  spaces_drawable n h = record { text = spaces_text n; size = omega (arith, spaces_size n) }

  -- ---- marks

  mark_drawable : {s : List Scalar} → All PrintableScalar s → length s ≤ 98304 → Drawable P s
  mark_drawable {s} a h =
      subst (Drawable P) (codes_same a) (record { text = printable_text (codes_printable a); size = rw (asciis_bytes (codes s), length-map s (λ (c : Scalar). c.code)) h })

  byte : (b : ℕ) → printable b ≡ true → PrintableScalar (ascii b)
  byte b e = (refl, e)

  digit : (d : ℕ) → d < 16 → PrintableScalar (hex_digit d)
  unfolding every
  digit d h = (digit_ascii d, digit_code printable tt tt d h)

  pub byte_mark_drawable : (b : ℕ) → b ≤ 0xFF → Drawable P (byte_mark b)
  byte_mark_drawable b h = mark_drawable (byte_scalars PrintableScalar digit (byte 0x3C refl) (byte 0x3E refl) b h) (omega (arith, byte_length b))

  pub scalar_mark_drawable : (v : ℕ) → Drawable P (scalar_mark v)
  scalar_mark_drawable v =
      mark_drawable (scalar_scalars PrintableScalar digit (byte 0x3C refl) (byte 0x3E refl) (byte 0x55 refl) (byte 0x2B refl) v) (omega (arith, scalar_length v, mark_small v))

  -- a scalar by itself, as arrows are
  pub printable_one : (b : ℕ) → printable b ≡ true → Drawable P (ascii b ∷ [])
  printable_one b e = mark_drawable (all_cons (byte b e) all_nil) (omega arith)
