-- What `color` and `fields` say of a body's bytes; a body of attributes that passes them is the body of attributes.
use Rattle.std.specs.Prelude.{◌≡◌, refl, ℕ, zero, suc, ◌+◌, ◌≤◌, true, cond, ◌&&◌, List, [], ◌∷◌, ◌++◌, length, take, drop, get_or, eqb, leb}
use Rattle.std.proofs.Common.{sym, ap, ◌∙◌, arith, get_or-append-add, leb→le, eqb→eq, le-leb}
use Rattle.buffer.specs.Numbers.{le4}
use Rattle.text.specs.Tests.{and_T, or_T, is_true, true_T}
use Rattle.text.specs.Places.{last_at_law}
use Rattle.spans.specs.declared.sgr.Color.{Color}
use Rattle.spans.specs.declared.sgr.Color.TheVariants.{Default, Palette, Rgb}
use Rattle.drawing.specs.declared.attributes.Attributes.{Attributes}
use Rattle.drawing.specs.declared.attributes.Link.{Link}
use Rattle.drawing.specs.Attributes.{attributes, font, colors}
use Rattle.drawing.specs.Change.{color_bytes, attribute_bytes}
use Rattle.drawing.specs.Change.Laws.{attribute_bytes_law, flags_of, flags_read}
use Rattle.screen.specs.WellFormed.{color, fields, body_size}

-- ---- colours

-- behind n bytes
pub byte_behind : (t s : List ℕ) (n i : ℕ) → length t ≡ n → get_or (t ++ s) (n + i) 0 ≡ get_or s i 0
byte_behind t s n i e = rw (← e) (get_or-append-add t s i 0)

pub color_behind : (t s : List ℕ) (n at : ℕ) → length t ≡ n → color (t ++ s) (n + at) ≡ color s at
unfolding color
color_behind t s n at e =
    let byte : (k : ℕ) → get_or (t ++ s) (n + at + k) 0 ≡ get_or s (at + k) 0 = λ k. ap (λ (i : ℕ). get_or (t ++ s) i 0) (let a : n + at + k ≡ n + (at + k) = omega arith in a) ∙ byte_behind t s n (at + k) e in
    rw (byte_behind t s n at e, byte 1, byte 2, byte 3) refl

pub color_first : (c : Color) (s : List ℕ) → color (color_bytes c ++ s) 0 ≡ true
unfolding color color_bytes
color_first Default s = refl
color_first (Palette i) s = refl
color_first (Rgb r g b) s = refl

-- the colour that a body has at a place
abbrev pub color_at : List ℕ → ℕ → Color
color_at b at =
    cond (eqb (get_or b at 0) 1) (Palette (get_or b (at + 1) 0))
    (cond (eqb (get_or b at 0) 2) (Rgb (get_or b (at + 1) 0) (get_or b (at + 2) 0) (get_or b (at + 3) 0)) Default)

color_bytes_law : (b : List ℕ) (at : ℕ) → color b at ≡ true → color_bytes (color_at b at) ≡ get_or b at 0 ∷ get_or b (at + 1) 0 ∷ get_or b (at + 2) 0 ∷ get_or b (at + 3) 0 ∷ []
unfolding color color_bytes
color_bytes_law b at e =
    let x : ℕ = get_or b at 0 in
    let y : ℕ = get_or b (at + 1) 0 in
    let z : ℕ = get_or b (at + 2) 0 in
    let w : ℕ = get_or b (at + 3) 0 in
    or_T (eqb x 0 && (eqb y 0 && (eqb z 0 && eqb w 0))) _ (true_T e)
    (λ t. let p = and_T (eqb x 0) _ t in let q = and_T (eqb y 0) _ p.1 in let r = and_T (eqb z 0) (eqb w 0) q.1 in
    rw (eqb→eq x 0 p.0, eqb→eq y 0 q.0, eqb→eq z 0 r.0, eqb→eq w 0 r.1) refl)
    (λ t. or_T (eqb x 1 && (eqb z 0 && eqb w 0)) (eqb x 2) t
    (λ t. let p = and_T (eqb x 1) _ t in let r = and_T (eqb z 0) (eqb w 0) p.1 in rw (eqb→eq x 1 p.0, eqb→eq z 0 r.0, eqb→eq w 0 r.1) refl)
    (λ t. rw (eqb→eq x 2 t) refl))

-- ---- fields

pub record Fields (b : List ℕ) : Type 0 where
  pub intensity : get_or b 0 0 ≤ 2
  pub underline : get_or b 1 0 ≤ 2
  pub blink : get_or b 2 0 ≤ 2
  pub flags : get_or b 3 0 ≤ 31
  pub alignment : get_or b 24 0 ≤ 2
  pub foreground : color b 4 ≡ true
  pub background : color b 8 ≡ true
  pub underline_color : color b 12 ≡ true

pub fields_are : (b : List ℕ) → fields b ≡ true → Fields b
unfolding fields
fields_are b e =
    let p = and_T (leb (get_or b 0 0) 2 && (leb (get_or b 1 0) 2 && (leb (get_or b 2 0) 2 && leb (get_or b 3 0) 31))) _ (true_T e) in
    let q = and_T (leb (get_or b 0 0) 2) _ p.0 in
    let r = and_T (leb (get_or b 1 0) 2) _ q.1 in
    let s = and_T (leb (get_or b 2 0) 2) _ r.1 in
    let c = and_T (color b 4) _ p.1 in
    let d = and_T (color b 8) _ c.1 in
    let u = and_T (color b 12) _ d.1 in
    record {
      intensity = leb→le _ _ q.0;
      underline = leb→le _ _ r.0;
      blink = leb→le _ _ s.0;
      flags = leb→le _ _ s.1;
      alignment = leb→le _ _ u.1;
      foreground = is_true _ c.0;
      background = is_true _ d.0;
      underline_color = is_true _ u.0;
    }

pub are_fields : (b : List ℕ) → Fields b → fields b ≡ true
unfolding fields
are_fields b f =
    rw (
      le-leb (get_or b 0 0) 2 f.intensity,
      le-leb (get_or b 1 0) 2 f.underline,
      le-leb (get_or b 2 0) 2 f.blink,
      le-leb (get_or b 3 0) 31 f.flags,
      f.foreground,
      f.background,
      f.underline_color,
      le-leb (get_or b 24 0) 2 f.alignment,
    ) refl

-- ---- the attributes of a body

-- with a link
abbrev pub attributes_of : List ℕ → Link → Attributes
attributes_of b l = attributes (font (get_or b 0 0) (get_or b 1 0) (get_or b 2 0) (get_or b 24 0)) (flags_of (get_or b 3 0)) (colors (color_at b 4) (color_at b 8) (color_at b 12)) l

-- n bytes from a place on
unfoldable bytes_at : ℕ → ℕ → List ℕ → List ℕ
bytes_at zero at b = []
bytes_at (suc n) at b = get_or b at 0 ∷ bytes_at n (suc at) b

bytes_at_behind : (n at x : ℕ) (b : List ℕ) → bytes_at n (suc at) (x ∷ b) ≡ bytes_at n at b
unfolding bytes_at
bytes_at_behind zero at x b = refl
bytes_at_behind (suc n) at x b = ap (λ (l : List ℕ). get_or b at 0 ∷ l) (bytes_at_behind n (suc at) x b)

bytes_taken : (n : ℕ) (b : List ℕ) → n ≤ length b → take n b ≡ bytes_at n 0 b
unfolding bytes_at
bytes_taken zero b h = refl
bytes_taken (suc n) [] h = absurd (omega arith)
bytes_taken (suc n) (x ∷ b) h = ap (λ (l : List ℕ). x ∷ l) (bytes_taken n b (omega arith) ∙ sym (bytes_at_behind n 0 x b))

pub body_attributes : (b : List ℕ) → length b ≡ body_size → Fields b → (l : Link) → attribute_bytes (attributes_of b l) ≡ take 16 b ++ (le4 l.place.0 ++ (le4 l.len ++ drop 24 b))
unfolding bytes_at
body_attributes b size is l =
    attribute_bytes_law (attributes_of b l)
    ∙ rw (flags_read (get_or b 3 0) is.flags, color_bytes_law b 4 is.foreground, color_bytes_law b 8 is.background, color_bytes_law b 12 is.underline_color, bytes_taken 16 b (omega arith), last_at_law b 24 (omega arith) (omega arith)) refl
