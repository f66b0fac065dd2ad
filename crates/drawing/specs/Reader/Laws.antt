-- What readers have in common: the crew's list is the bench's with 8 zeros in each attribute body.
use Rattle.std.specs.Prelude.{◌≡◌, refl, ℕ, ◌+◌, List, [], ◌∷◌, ◌++◌, map, length, take, drop, replicate, eqb}
use Rattle.std.proofs.Common.{sym, ap, ap₂, ◌∙◌, arith, append_assoc, length-append, take_at, drop_at}
use Rattle.std.proofs.Math.Option.{Option, none, some}
use Rattle.buffer.specs.Numbers.{le4}
use Rattle.buffer.specs.Numbers.Laws.{le4_length}
use Rattle.text.specs.Tests.{cases}
use Rattle.text.specs.Utf8.{Scalar}
use Rattle.drawing.specs.declared.attributes.Attributes.{Attributes}
use Rattle.drawing.specs.Change.{Change, text, torn, all_attributes, clear_to_end, cursor_right, whole, encode, encode_one, body, clipped, attribute_bytes, color_bytes}
use Rattle.drawing.specs.Change.Contracts.{flags_byte}
use Rattle.drawing.specs.Change.Laws.{color_length, attribute_bytes_law}
use Rattle.drawing.specs.Reader.{unlinked, without_uri, seen_by}

-- ---- an attribute body

-- bytes 0 to 15
front : Attributes → List ℕ
front a = (a.font.intensity ∷ a.font.underline ∷ a.font.blink ∷ flags_byte a.flags ∷ []) ++ (color_bytes a.colors.foreground ++ (color_bytes a.colors.background ++ color_bytes a.colors.underline))

front_length : (a : Attributes) → length (front a) ≡ 16
unfolding front
front_length a = simp length-append (omega (arith, color_length a.colors.foreground, color_length a.colors.background, color_length a.colors.underline))

-- bytes 16 to 23
uri : Attributes → List ℕ
uri a = le4 a.link.place.0 ++ le4 a.link.len

uri_length_law : (a : Attributes) → length (uri a) ≡ 8
unfolding uri
uri_length_law a = simp (length-append, le4_length)

body_parts : (a : Attributes) → attribute_bytes a ≡ front a ++ (uri a ++ a.font.alignment ∷ [])
unfolding front uri
body_parts a = attribute_bytes_law a ∙ simp append_assoc

-- the crew's body: bytes 16 to 23 are 0, the others the bench's
pub crew_body : (a : Attributes) → body (without_uri (all_attributes a)) ≡ take 16 (body (all_attributes a)) ++ (replicate 8 0 ++ drop 24 (body (all_attributes a)))
unfolding body without_uri unlinked front uri le4
crew_body a =
    let v : List ℕ = a.font.alignment ∷ [] in
    let t : take 16 (attribute_bytes a) ≡ front a = ap (take 16) (body_parts a) ∙ take_at (front a) (uri a ++ v) 16 (front_length a) in
    let n : length (front a ++ uri a) ≡ 24 = length-append (front a) (uri a) ∙ omega (arith, front_length a, uri_length_law a) in
    let d : drop 24 (attribute_bytes a) ≡ v = ap (drop 24) (body_parts a ∙ sym (append_assoc (front a) (uri a) v)) ∙ drop_at (front a ++ uri a) v 24 n in
    body_parts (unlinked a) ∙ sym (ap₂ (λ (x y : List ℕ). x ++ (replicate 8 0 ++ y)) t d)

-- ---- a list

-- a clipped text is the same to all
pub clipped_same : (x : Option (List Scalar)) → without_uri (clipped x) ≡ clipped x
unfolding without_uri clipped
clipped_same none = refl
clipped_same (some s) = refl

one_length : (c : Change) → length (encode_one (without_uri c)) ≡ length (encode_one c)
unfolding encode_one without_uri
one_length (text s) = refl
one_length torn = refl
one_length (all_attributes a) = simp length-append
one_length (clear_to_end c) = refl
one_length cursor_right = refl

without_length : (cs : List Change) → length (encode (map without_uri cs)) ≡ length (encode cs)
unfolding encode
without_length [] = refl
without_length (c ∷ cs) = length-append (encode_one (without_uri c)) (encode (map without_uri cs)) ∙ ap₂ (λ (m n : ℕ). m + n) (one_length c) (without_length cs) ∙ sym (length-append (encode_one c) (encode cs))

without_whole : (cs : List Change) → whole (map without_uri cs) ≡ whole cs
unfolding whole without_uri
without_whole [] = refl
without_whole (text s ∷ cs) = without_whole cs
without_whole (torn ∷ cs) = refl
without_whole (all_attributes a ∷ cs) = without_whole cs
without_whole (clear_to_end c ∷ cs) = without_whole cs
without_whole (cursor_right ∷ cs) = without_whole cs

module _ (reader : ℕ) (cs : List Change) where
  -- every reader's list is as long, and whole where the bench's is
  pub seen_length : length (encode (seen_by reader cs)) ≡ length (encode cs)
  unfolding seen_by
  seen_length = cases (eqb reader 1) (λ e. rw e (without_length cs)) (λ e. rw e)

  pub seen_whole : whole (seen_by reader cs) ≡ whole cs
  unfolding seen_by
  seen_whole = cases (eqb reader 1) (λ e. rw e (without_whole cs)) (λ e. rw e)
