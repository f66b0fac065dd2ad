-- A line with a hyperlink: by its spans, and by its form.
use Rattle.std.specs.Prelude.{◌≡◌, ℕ, ◌+◌, true, List, [], ◌∷◌, ◌++◌}
use Rattle.text.specs.Each.{All}
use Rattle.text.specs.Utf8.{Scalar, bytes_of}
use Rattle.text.specs.Utf8.Valid.{Valid}
use Rattle.text.specs.Class.{Profile}
use Rattle.spans.specs.Sequence.{hyperlink, id_byte}
use Rattle.spans.specs.Sequence.Laws.{Terminator}
use Rattle.spans.specs.Spans.{Span, span, escape, spans}

-- the spans of a converted line have a hyperlink whose URI is at place p, n bytes long
pub record Linked (P : Profile) (line : List ℕ) (p n : ℕ) : Type 0 where
  pub before : List Span
  pub behind : List Span
  pub place : ℕ
  pub len : ℕ
  pub at : ℕ
  pub read : spans P line ≡ before ++ span place len (escape (hyperlink at n)) ∷ behind
  pub uri : place + at ≡ p

-- `] 8 ; id ;`
abbrev pub opening : List ℕ → List ℕ
opening id = 0x5D ∷ 0x38 ∷ 0x3B ∷ (id ++ 0x3B ∷ [])

-- it is a valid text, and no byte of the id voids it
pub record Opening (id : List ℕ) : Type 0 where
  pub text : List Scalar
  pub bytes : bytes_of text ≡ opening id
  pub valid : All Valid text
  pub ids : All (λ (b : ℕ). id_byte b ≡ true) id

-- before a URI any bytes, `ESC ] 8 ; id ;`; behind it the terminator
pub record Form (p s : List ℕ) : Type 0 where
  pub before : List ℕ
  pub id : List ℕ
  pub end : List ℕ
  pub rest : List ℕ
  pub opens : Opening id
  pub start : p ≡ before ++ 0x1B ∷ opening id
  pub terminator : Terminator end
  pub behind : s ≡ end ++ rest
