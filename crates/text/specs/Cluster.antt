-- Grapheme clusters: UAX #29's rules over a profile's classes.
use Rattle.std.specs.Prelude.{ℕ, Bool, true, not, cond, ◌&&◌, ◌||◌}
use Rattle.std.proofs.Math.Bool.{false}
use mathlib.Core.List.{List, [], ◌∷◌, ◌++◌}
use Rattle.text.specs.Utf8.{Scalar}
use Rattle.text.specs.Class.{cr, lf, control, extend, zwj, class_l, class_v, class_t, class_lv, class_lvt, regional_indicator, extended_pictographic, number, among, Profile}
pub mod Laws
pub mod Appended
pub mod Walk
pub mod Spaces
pub mod Ascii
pub mod Same
pub mod Printable
pub mod Parts
pub mod Joined
pub mod Controls
pub mod Unshared
pub mod Examples

-- what the rules ask of the scalars before, besides the last one's class: an odd number of regional indicators ends there (GB12, GB13); an
-- Extended_Pictographic and Extends end there, or these and a ZWJ (GB11)
pub record Context : Type 0 where
  pub odd : Bool
  pub emoji : Bool
  pub emoji_zwj : Bool

abbrev pub start : Context
start = record { odd = false; emoji = false; emoji_zwj = false }

-- the same with one more scalar, of class c
unfoldable pub after : Context → ℕ → Context
unfolding among
after k c =
    record {
      odd = among c (regional_indicator ∷ []) && not k.odd;
      emoji = among c (extended_pictographic ∷ []) || (k.emoji && among c (extend ∷ []));
      emoji_zwj = k.emoji && among c (zwj ∷ []);
    }

-- scalars that end in class p, with the context k, and one of class c: the first rule that applies says whether there is no boundary between them
unfoldable pub joined : ℕ → Context → ℕ → Bool
unfolding among
joined p k c =
    cond (among p (cr ∷ []) && among c (lf ∷ [])) true  -- GB3
    (cond (among p (control ∷ cr ∷ lf ∷ [])) false  -- GB4
    (cond (among c (control ∷ cr ∷ lf ∷ [])) false  -- GB5
    (cond (among p (class_l ∷ []) && among c (class_l ∷ class_v ∷ class_lv ∷ class_lvt ∷ [])) true  -- GB6
    (cond (among p (class_lv ∷ class_v ∷ []) && among c (class_v ∷ class_t ∷ [])) true  -- GB7
    (cond (among p (class_lvt ∷ class_t ∷ []) && among c (class_t ∷ [])) true  -- GB8
    (cond (among c (extend ∷ zwj ∷ [])) true  -- GB9
    (cond (k.emoji_zwj && among c (extended_pictographic ∷ [])) true  -- GB11
    (cond (k.odd && among c (regional_indicator ∷ [])) true  -- GB12, GB13
    false))))))))  -- GB999

module _ (P : Profile) where
  -- the number of a scalar's class
  abbrev pub class_of : Scalar → ℕ
  class_of c = number (P.class c.code)

  -- the context of the scalars before, the nearest first
  unfoldable pub context : List Scalar → Context
  unfolding after
  context [] = start
  context (c ∷ cs) = after (context cs) (class_of c)

  -- there is no boundary between the scalars before, the nearest first, and the next scalar
  unfoldable pub joins : List Scalar → Scalar → Bool
  unfolding joined context
  joins [] c = false  -- GB1
  joins (p ∷ ps) c = joined (class_of p) (context (p ∷ ps)) (class_of c)

  unfoldable pub joins_next : List Scalar → List Scalar → Bool
  unfolding joins
  joins_next before [] = false  -- GB2
  joins_next before (c ∷ s) = joins before c

  -- a scalar before the clusters that follow it: in the first of them, or a cluster of its own
  unfoldable pub add_to_cluster : Bool → Scalar → List (List Scalar) → List (List Scalar)
  add_to_cluster false c gs = (c ∷ []) ∷ gs
  add_to_cluster true c [] = (c ∷ []) ∷ []
  add_to_cluster true c (g ∷ gs) = (c ∷ g) ∷ gs

  unfoldable pub clusters_after : List Scalar → List Scalar → List (List Scalar)
  unfolding add_to_cluster joins_next
  clusters_after before [] = []
  clusters_after before (c ∷ s) = add_to_cluster (joins_next (c ∷ before) s) c (clusters_after (c ∷ before) s)

  -- a text's clusters
  unfoldable pub clusters : List Scalar → List (List Scalar)
  unfolding clusters_after
  clusters s = clusters_after [] s

-- the text that clusters make
unfoldable pub join_all : List (List Scalar) → List Scalar
join_all [] = []
join_all (g ∷ gs) = g ++ join_all gs
