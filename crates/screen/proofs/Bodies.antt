-- The tests of bodies are those of the definition.
use mathlib.Core.Path.{◌≡◌, refl, ap, ◌∙◌}
use mathlib.Core.Logic.{◌≢◌}
use Prim.Native.Nat.{ℕ, ◌+◌}
use native.Mathlib.Omega.{arith}
use mathlib.Core.Bool.{Bool, false, ◌&&◌, ◌||◌}
use mathlib.Core.List.{List}
use lib.ListN.{length, drop, get_or}
use lib.Dec.{eqb, leb}
use borrow.Author.Tests.{ne_eqb}
use Rattle.text.specs.Utf8.{decode, run_of}
use Rattle.text.specs.Utf8.Code.{size}
use Rattle.text.specs.Cluster.Walk.{size_is}
use Rattle.screen.specs.WellFormed.{color, fields, utf8, body_sizes, of_kind}

module _ (b : List ℕ) where
  pub color_is : (at x y z w : ℕ) → x ≡ get_or b at 0 → y ≡ get_or b (at + 2) 0 → z ≡ get_or b (at + 3) 0 → w ≡ get_or b (at + 1) 0
      → ((eqb x 0 && (eqb w 0 && (eqb y 0 && eqb z 0))) || ((eqb x 1 && (eqb y 0 && eqb z 0)) || eqb x 2)) ≡ color b at
  unfolding color
  color_is at x y z w e f g h = rw (e, f, g, h) refl

  pub fields_is : (x y z w v : ℕ) (k l m : Bool) → w ≡ get_or b 3 0 → x ≡ get_or b 0 0 → y ≡ get_or b 1 0 → z ≡ get_or b 2 0 → v ≡ get_or b 24 0 → k ≡ color b 4 → l ≡ color b 8 → m ≡ color b 12
      → ((leb x 2 && (leb y 2 && (leb z 2 && leb w 31))) && (k && (l && (m && leb v 2)))) ≡ fields b
  unfolding fields
  fields_is x y z w v k l m e f g h i j n o = rw (e, f, g, h, i, j, n, o) refl

-- ---- a body of its kind

module _ (kind : ℕ) (b : List ℕ) (old : Bool) where
  pub kind_text : (end : ℕ) → kind ≡ 1 → end ≡ 0 + size (run_of (decode (drop 0 b))) → eqb end (length b) ≡ of_kind (body_sizes old) kind b
  unfolding of_kind utf8
  kind_text end k e = rw k (ap (λ (n : ℕ). eqb n (length b)) (e ∙ omega (arith, size_is (run_of (decode b)))))

  pub kind_attributes : (f : Bool) → kind ≡ 2 → f ≡ fields b → (((old && eqb (length b) 24) || eqb (length b) 25) && f) ≡ of_kind (body_sizes old) kind b
  unfolding of_kind
  kind_attributes f k e = rw (k, e) refl

  pub kind_clear : (f : Bool) → kind ≡ 3 → f ≡ color b 0 → (eqb (length b) 4 && f) ≡ of_kind (body_sizes old) kind b
  unfolding of_kind
  kind_clear f k e = rw (k, e) refl

  pub kind_right : kind ≡ 4 → eqb (length b) 0 ≡ of_kind (body_sizes old) kind b
  unfolding of_kind
  kind_right k = rw k refl

  pub kind_unknown : (kind ≢ 1) → (kind ≢ 2) → (kind ≢ 3) → (kind ≢ 4) → false ≡ of_kind (body_sizes old) kind b
  unfolding of_kind
  kind_unknown w x y z = rw (ne_eqb kind 1 w, ne_eqb kind 2 x, ne_eqb kind 3 y, ne_eqb kind 4 z) refl
