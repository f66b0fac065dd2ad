-- What the row picture is claimed of: profiles, lines, spans and modes.
use Rattle.std.specs.Prelude.{◌≡◌, ℕ, ◌-◌, ◌≤◌, Bool, true, ◌||◌, List, [], ◌∷◌, ◌++◌, get_or, eqb}
use Rattle.std.proofs.Math.Option.{Option}
use Rattle.text.specs.Each.{All}
use Rattle.text.specs.Utf8 as utf8
use Rattle.text.specs.Utf8.{Scalar, scalar, Range, to, within, decode, Piece, runs}
use Rattle.text.specs.Class as classes
use Rattle.text.specs.Class.{Profile, cr, other, number, among, in_any, whitespace}
use Rattle.text.specs.Width.{width_of}
use Rattle.text.specs.Cluster.{clusters}
use Rattle.text.specs.Cluster.Parts.{Wide}
use Rattle.text.specs.Overstrike.Bytes.{Byte}
use Rattle.spans.specs.Spans.{Content, text, control, invalid, unprintable, Span}
use Rattle.rows.specs.Rows.{Mode, unwrapped, grapheme_boundary, word_boundary, drawn_grapheme_boundary, drawn_word_boundary}
use Rattle.drawing.specs.Marks.{replacements}

-- ---- profiles

-- no break class, and width 1
pub record Plain (P : Profile) (v : ℕ) : Type 0 where
  pub class : number (P.class v) ≡ number other
  pub width : P.width v ≡ 1

-- what marks and tabs are composed of
unfoldable pub composed : List Range
composed = to 0x20 0x20 ∷ to 0x2B 0x2B ∷ to 0x30 0x39 ∷ to 0x3C 0x3C ∷ to 0x3E 0x3E ∷ to 0x41 0x46 ∷ to 0x55 0x55 ∷ []

-- what line drawing puts for a scalar from 5F to 7E
abbrev pub replacement : ℕ → Scalar
replacement v = scalar (get_or replacements (v - 0x5F) [])

-- what drawing composes, replaces, and puts in its place is plain
pub record PlainComposed (P : Profile) : Type 0 where
  pub composed : (v : ℕ) → in_any composed v ≡ true → Plain P v
  pub replaced : (v : ℕ) → within (to 0x5F 0x7E) v ≡ true → Plain P v × Plain P (replacement v).code

-- whitespace and `-`, at which words end
abbrev pub word_break : ℕ → Bool
word_break v = whitespace v || eqb v 0x2D

-- they join nothing before them, LF behind CR apart, and what follows does not depend on what stands before them
abbrev pub WordBreakClasses : Profile → Type 0
WordBreakClasses P = (v : ℕ) → word_break v ≡ true → among (number (P.class v)) (cr ∷ classes.lf ∷ classes.control ∷ other ∷ []) ≡ true

module _ (P : Profile) where
  -- ---- lines

  -- whitespace or a hyphen shares the cluster with no other scalar of width above 0
  abbrev pub Unshared : List Scalar → Type 0
  Unshared g = (x y : List Scalar) (c : Scalar) → g ≡ x ++ (c ∷ y) → word_break c.code ≡ true → width_of P (x ++ y) ≡ 0

  pub data UnsharedPiece : Piece → Type 0 where
    run : {s : List Scalar} → All Unshared (clusters P s) → UnsharedPiece (utf8.run s)
    damaged : {b : ℕ} → UnsharedPiece (utf8.damaged b)

  -- in every cluster of a line
  abbrev pub UnsharedLine : List ℕ → Type 0
  UnsharedLine s = All UnsharedPiece (runs (decode s))

  -- ---- spans

  -- texts of unshared clusters, none of width 0, and bytes: so in every such line of bytes
  pub record Drawable (c : Content) : Type 0 where
    pub wide : (m : Option ℕ) (s : List Scalar) → c ≡ text m s → Wide P (clusters P s)
    pub unshared : (m : Option ℕ) (s : List Scalar) → c ≡ text m s → All Unshared (clusters P s)
    pub control : (b : ℕ) → c ≡ control b → Byte b
    pub invalid : (b : ℕ) → c ≡ invalid b → Byte b

-- ---- modes

-- an Unprintable span is one scalar of at most U+FFFF
abbrev pub OneMark : Content → Type 0
OneMark c = (s : List Scalar) → c ≡ unprintable s → (v : Scalar) × (s ≡ v ∷ []) × (v.code ≤ 0xFFFF)

-- modes 1 and 2 count any Unprintable span as the columns of one mark, and ask that each is one; the others ask for nothing
unfoldable pub SingleMarks : Mode → List Span → Type 0
SingleMarks unwrapped ss = Unit {0}
SingleMarks grapheme_boundary ss = All (λ (s : Span). OneMark s.content) ss
SingleMarks word_boundary ss = All (λ (s : Span). OneMark s.content) ss
SingleMarks drawn_grapheme_boundary ss = Unit {0}
SingleMarks drawn_word_boundary ss = Unit {0}
