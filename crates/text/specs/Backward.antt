-- Clusters from the end of a text backward: where the last one begins, and what erasing it leaves.
use Rattle.std.specs.Prelude.{◌-◌, ◌%◌, ◌/◌, ◌<◌, ◌≤◌, suc, zero, ℕ, Bool, ◌&&◌, cond, false, true, ◌≡◌, eqb, leb, ltb, get_or, length, take}
use mathlib.Core.List.{List, [], ◌∷◌, reverse, reverse_aux}
use Rattle.text.specs.Class.{Profile}
use Rattle.text.specs.Cluster.{context, joins, joins_next, start}
use Rattle.text.specs.Utf8.Code.{is_tail, run_of, size, whole}
use Rattle.text.specs.Overstrike.{backspace}
use Rattle.text.specs.Scalar.{packed_at}
use Rattle.text.specs.TextParts.{text_at}
use Rattle.text.specs.Utf8.{Scalar, ascii, decode}
use Rattle.text.specs.declared.backward.Erasure.{Erasure}

-- the last place before q that holds no continuation byte
unfoldable pub back : List ℕ → ℕ → ℕ
back s zero = 0
back s (suc q) = cond (is_tail (get_or s q 0)) (back s q) q

module _ (P : Profile) where
  -- a text, its last scalar first, without its last cluster
  unfoldable pub without_last : List Scalar → List Scalar
  without_last [] = []
  without_last (c ∷ rest) = let further : List Scalar = without_last rest in cond (joins P rest c) further rest

-- a text's scalars, the last first
unfoldable pub backward : List ℕ → List Scalar
backward t = reverse (run_of (decode t))

-- a scalar of t begins at q
pub record ScalarStart (t : List ℕ) (q : ℕ) : Type 0 where
  pub c : Scalar
  pub rest : List Scalar
  pub es : List Scalar
  pub parts : run_of (decode t) ≡ reverse_aux rest (c ∷ es)
  pub place : size rest ≡ q

module _ (P : Profile) where
  -- an odd number of regional indicators ends at q
  abbrev pub odd_to : List ℕ → ℕ → Bool
  odd_to t q = (context P (backward (take q t))).odd

  -- an Extended_Pictographic and any number of Extend end at q
  abbrev pub pictograph_to : List ℕ → ℕ → Bool
  pictograph_to t q = (context P (backward (take q t))).emoji

  -- there is no boundary at q
  abbrev pub joins_at : List ℕ → ℕ → Bool
  joins_at t q = joins_next P (backward (take q t)) (text_at t q)

-- ---- regional indicators

-- a known place: the place i of t ends a scalar, and the context there is that of a text's start
pub record KnownPlace (P : Profile) (t : List ℕ) (i : ℕ) : Type 0 where
  pub rest : List Scalar
  pub es : List Scalar
  pub parts : run_of (decode t) ≡ reverse_aux rest es
  pub place : size rest ≡ i
  pub known : context P rest ≡ start

module _ (P : Profile) where
  -- a regional indicator of four bytes
  abbrev pub indicator_at : List ℕ → ℕ → Bool
  indicator_at t i = eqb (packed_at P t i) 212

  -- the last two scalars are regional indicators, and the known place is the text's end
  abbrev pub ends_in_pair : List ℕ → ℕ → Bool
  ends_in_pair t known = cond (ltb (length t) 8) false (cond (eqb known (length t)) (indicator_at t (length t - 4) && indicator_at t (length t - 8)) false)

  -- regional indicators stand before q and behind it
  abbrev pub between_indicators : List ℕ → ℕ → Bool
  between_indicators t q = cond (ltb q 4) false (indicator_at t q && indicator_at t (q - 4))

  -- ZWJ stands before q, and an Extended_Pictographic after it
  abbrev pub after_zwj : List ℕ → ℕ → Bool
  after_zwj t q = cond (eqb q 0) false (eqb (packed_at P t (back t q) / 8 % 16) 4 && eqb (packed_at P t q / 8 % 16) 12)

  -- the rules ask for more than the scalars on both sides of q
  abbrev pub needs_context : List ℕ → ℕ → Bool
  needs_context t q = cond (between_indicators t q) true (after_zwj t q)

  -- the known place of a text without its last cluster, which begins at q; before a byte below 80 the rules ask for no more
  abbrev pub known_before : List ℕ → ℕ → ℕ → ℕ
  known_before t q known =
      cond (ltb q known) (cond (needs_context t q) q 0)
      (cond (leb (q - known) 128) known (cond (ltb (get_or t q 0) 0x80) known (cond (needs_context t q) q known)))

  -- where a pair of regional indicators begins at q
  abbrev pub pair_before : List ℕ → ℕ → ℕ
  pair_before t q = cond (ltb q 4) 0 (cond (indicator_at t (q - 4)) q 0)

  -- the same behind an erasure that leaves the first n bytes
  abbrev pub known_after : List ℕ → ℕ → ℕ → ℕ
  known_after t known n =
      cond (eqb n (length t)) known (known_before t n known)

-- ---- erasing

-- the place r that a backspace goes back to in t; the end of t where a backspace is added instead
pub record ErasedTo (P : Profile) (t : List ℕ) (r : ℕ) : Type 0 where
  pub inside : r ≤ length t
  pub erased : r < length t → (backward (take r t) ≡ backspace P (backward t)) × whole (take r t)
  pub added : length t ≤ r → ascii 0x08 ∷ backward t ≡ backspace P (backward t)

-- r is the place that a backspace goes back to in t, with the known place before it
pub record Erased (P : Profile) (t : List ℕ) (i : ℕ) (r : Erasure) : Type 0 where
  pub kept : ErasedTo P t r.at
  pub place : r.known ≡ known_after P t i r.at
  pub known : KnownPlace P (take r.at t) r.known
