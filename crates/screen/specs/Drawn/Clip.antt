-- Clipping keeps whole clusters and adds spaces: what it leaves is such text again, of no more columns than were asked for.
use Rattle.std.specs.Prelude.{◌≡◌, refl, ℕ, ◌+◌, ◌-◌, ◌≤◌, ◌||◌, length, eqb, leb}
use native.Mathlib.Omega.{arith}
use mathlib.Core.List.{List, [], ◌∷◌, ◌++◌}
use Rattle.std.proofs.Math.Option.{Option, none, some}
use Rattle.std.proofs.Math.Dec.{ltb}
use borrow.Author.Tests.{eqb-true, leb-true, ltb-true, ltb-false, ne_eqb}
use Rattle.text.specs.Tests.{cases, or_false, by_case}
use Rattle.text.specs.Each.{All, all_cons, all_append, all_split}
use Rattle.text.specs.Utf8.{Scalar, bytes_of}
use Rattle.text.specs.Utf8.Valid.{Valid}
use Rattle.text.specs.Class.{Profile}
use Rattle.text.specs.Width.{width_of}
use Rattle.text.specs.Width.Laws.{width_append, width_nil}
use Rattle.text.specs.Cluster.{clusters}
use Rattle.text.specs.Overstrike.Length.{size_append}
use Rattle.drawing.specs.Clip.{spaces, clip_end, clip_start, clip}
use Rattle.text.specs.Cluster.Parts.{Wide, Ends, ends_none, ends_same, Clustered, none, more, clustered, first_before}
use Rattle.screen.specs.Drawn.{ProfileLaws}
use Rattle.screen.specs.Drawn.Texts.{Text, no_text, spaces_text, spaces_front, spaces_width, spaces_size, spaces_end}

-- where clipping has an answer
pub data IfSome (Q : List Scalar → Type 0) : Option (List Scalar) → Type 0 where
  torn : IfSome Q none
  left : {r : List Scalar} → Q r → IfSome Q (some r)

module _ (P : Profile) where
  -- what is kept of the text s from a column on, up to a limit
  record End (limit column : ℕ) (s r : List Scalar) : Type 0 where
    text : Text P r
    ends : Ends P s r
    size : length (bytes_of r) ≤ length (bytes_of s) + width_of P r
    inside : column + width_of P r ≤ limit
    fewer : width_of P r ≤ width_of P s

  -- what is left of a text of `total` columns and `bytes` bytes
  pub record Clipped (offset limit total bytes : ℕ) (r : List Scalar) : Type 0 where
    pub text : Text P r
    pub size : length (bytes_of r) ≤ bytes + width_of P r
    pub inside : width_of P r ≤ limit - offset
    pub fewer : width_of P r ≤ total - offset

module _ (P : Profile) (H : ProfileLaws P) where
  clip_end_law : (limit column : ℕ) {s : List Scalar} {gs : List (List Scalar)} → Clustered P s gs → Wide P gs → All Valid s → column ≤ limit → End P limit column s (clip_end P limit column gs)
  unfolding clip_end
  clip_end_law limit column Clustered.none a v h = record { text = no_text P; ends = ends_none P []; size = omega arith; inside = omega (arith, width_nil P); fewer = omega arith }
  clip_end_law limit column (more {c = c} {x = x} {rest = rest} {gs = gs} e k) (all_cons w a) v h =
      let g : List Scalar = c ∷ x in
      let n : width_of P (g ++ rest) ≡ width_of P g + width_of P rest = width_append P g rest in
      let b = size_append g rest in
      rw (ne_eqb (width_of P g) 0 (omega arith)) (cases (ltb limit (column + width_of P g))
      (λ q.
      let l = ltb-true limit (column + width_of P g) q in
      let m = spaces_width P H (limit - column) in
      rw q (record {
        text = spaces_text P H (limit - column);
        ends = spaces_end P H (limit - column) (g ++ rest);
        size = omega (arith, spaces_size P H (limit - column));
        inside = omega arith;
        fewer = omega arith;
      }))
      (λ q.
      let r : List Scalar = clip_end P limit (column + width_of P g) gs in
      let f = clip_end_law limit (column + width_of P g) k a (all_split g v).1 (ltb-false limit (column + width_of P g) q) in
      let m : width_of P (g ++ r) ≡ width_of P g + width_of P r = width_append P g r in
      rw q (record {
        text = record { wide = rw (first_before P c x rest r e f.ends) (all_cons w f.text.wide); valid = all_append (all_split g v).0 f.text.valid };
        ends = ends_same P c (x ++ rest) (x ++ r);
        size = omega (arith, size_append g r, f.size);
        inside = omega (arith, f.inside);
        fewer = omega (arith, f.fewer);
      })))

  module _ (offset limit total bytes : ℕ) where
    clip_start_law : (column : ℕ) {s : List Scalar} {gs : List (List Scalar)} → Clustered P s gs → Wide P gs → All Valid s → column ≤ limit → column + width_of P s ≤ total → length (bytes_of s) ≤ bytes
        → IfSome (Clipped P offset limit total bytes) (clip_start P offset limit column gs)
    unfolding clip_start
    clip_start_law column Clustered.none a v h i j = left (record { text = no_text P; size = omega (arith, width_nil P); inside = omega (arith, width_nil P); fewer = omega (arith, width_nil P) })
    clip_start_law column (more {c = c} {x = x} {rest = rest} {gs = gs} e k) (all_cons w a) v h i j =
        let g : List Scalar = c ∷ x in
        let n : width_of P (g ++ rest) ≡ width_of P g + width_of P rest = width_append P g rest in
        let b = size_append g rest in
        let Q : Option (List Scalar) → Type 0 = IfSome (Clipped P offset limit total bytes) in
        by_case Q (eqb (width_of P g) 0) (λ z. absurd (omega (arith, eqb-true (width_of P g) 0 z))) (λ z.
        by_case Q (leb offset column)
        (λ q.
        let r : List Scalar = clip_end P limit column (g ∷ gs) in
        let f : End P limit column (g ++ rest) r = clip_end_law limit column (more {x = x} e k) (all_cons w a) v h in
        let l = leb-true offset column q in
        let m : width_of P (spaces (column - offset) ++ r) ≡ column - offset + width_of P r = omega (arith, width_append P (spaces (column - offset)) r, spaces_width P H (column - offset)) in
        left (record {
          text = spaces_front P H (column - offset) f.text;
          size = omega (arith, size_append (spaces (column - offset)) r, spaces_size P H (column - offset), f.size);
          inside = omega (arith, f.inside);
          fewer = omega (arith, f.fewer);
        }))
        (λ q.
        by_case Q (ltb limit (column + width_of P g)) (λ l. torn)
        (λ l. clip_start_law (column + width_of P g) k a (all_split g v).1 (ltb-false limit (column + width_of P g) l) (omega arith) (omega arith))))

  pub clip_text_law : (offset width : ℕ) (s : List Scalar) → Text P s → IfSome (Clipped P offset (offset + width) (width_of P s) (length (bytes_of s))) (clip P offset width s)
  unfolding clip
  clip_text_law offset width s t =
      cases (ltb 0 offset || ltb width (width_of P s))
      (λ q. rw q (clip_start_law offset (offset + width) (width_of P s) (length (bytes_of s)) 0 (clustered P (clusters P s) s refl) t.wide t.valid (omega arith) (omega arith) (omega arith)))
      (λ q.
      let n = or_false (ltb 0 offset) (ltb width (width_of P s)) q in
      rw q (left (record { text = t; size = omega arith; inside = omega (arith, ltb-false width (width_of P s) n.1); fewer = omega (arith, ltb-false 0 offset n.0) })))
