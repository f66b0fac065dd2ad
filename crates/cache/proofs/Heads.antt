-- Loops over heads: how many there are, whether they are well kept, where a key stands.
use mathlib.Core.Path.{◌≡◌, refl, sym, ap, ◌∙◌}
use mathlib.Core.Logic.{◌≢◌}
use Prim.Native.Nat.{ℕ, suc, ◌+◌, ◌*◌, ◌≤◌, ◌<◌}
use native.Mathlib.Omega.{arith}
use native.Mathlib.Numerals.{add-one}
use mathlib.Core.Bool.{Bool, true, false, cond, not, ◌&&◌, ◌||◌}
use mathlib.Core.List.{List, [], ◌∷◌}
use mathlib.Core.Option.{Option, none, some}
use Rattle.std.proofs.Common.{None, Some}
use lib.ListN.{length, drop, get_or, drop_of_length-le}
use lib.Dec.{eqb, leb, ltb}
use borrow.Author.Tests.{eq-eqb, ne_eqb, ltb-true, ltb-false}
use Rattle.text.specs.Tests.{cases}
use Rattle.cache.specs.declared.wraps.Head.{Head}
use Rattle.cache.specs.Wraps.{Key, same_key, key_of, heads_in, has_block, well_kept, kept, find}
use Rattle.cache.specs.Wraps.Contracts.{head_at, Within, InHeads, Kept, option_of, rows_found}
use Rattle.cache.specs.Wraps.Laws.{heads_at, heads_few, heads_end, heads_count, kept_at, kept_well}
use Rattle.cache.specs.Wraps.Use.{found_has}

-- ---- how many there are

module _ (l : List ℕ) where
  abbrev those : List Head
  those = heads_in 4 l

  pub record Counted (n : ℕ) : Type 0 where
    pub few : n ≤ 4
    pub there : n ≤ length those

  pub count_begin : Counted 0
  count_begin = record { few = omega arith; there = omega arith }

  module _ (size : length l ≡ 8212) (n : ℕ) (c : Counted n) where
    counted : length those ≤ n → InHeads l n
    counted h = record { size = size; count = omega (arith, c.there); few = c.few }

    module _ (h : Head) (e : h ≡ head_at l n) (low : n < 4) where
      count_at : h.count ≡ get_or l (5 * n + 3) 0
      count_at = ap (λ (x : Head). x.count) e

      pub count_stop : h.count ≡ 0 → InHeads l n
      count_stop z = cases (ltb n (length those)) (λ a. let k = heads_count 4 l n (ltb-true n (length those) a) in absurd (omega (arith, k, count_at))) (λ a. counted (ltb-false n (length those) a))

      pub count_turn : (h.count ≢ 0) → Counted (n + 1)
      count_turn z =
          record {
            few = omega arith;
            there = cases (ltb n (length those)) (λ a. let k = ltb-true n (length those) a in omega arith)
                (λ a.
                let k : n ≡ length those = let b = ltb-false n (length those) a in omega (arith, b, c.there) in
                absurd (z (count_at ∙ ap (λ (m : ℕ). get_or l (5 * m + 3) 0) k ∙ heads_end 4 l (omega arith))));
          }

    pub count_end : 4 ≤ n → InHeads l 4
    count_end h = record { size = size; count = omega (arith, c.there, c.few, heads_few 4 l); few = omega arith }

not_not : (b : Bool) → not (not b) ≡ b
not_not true = refl
not_not false = refl

regroup : (a b c : Bool) → (a && (b && c)) ≡ cond (a && b) c false
regroup true true c = refl
regroup true false c = refl
regroup false b c = refl

-- ---- one after the other

pub none_left : (hs : List Head) (n i : ℕ) → n ≡ length hs → n ≤ i → drop i hs ≡ []
none_left hs n i e h = drop_of_length-le hs (let k : length hs ≤ i = omega arith in k)

pub on : (l : List ℕ) (hs : List Head) → ((i : ℕ) → i < length hs → drop i hs ≡ head_at l i ∷ drop (suc i) hs) → (n i : ℕ) → n ≡ length hs → (h : Head) → h ≡ head_at l i → i < n → drop i hs ≡ h ∷ drop (i + 1) hs
on l hs at n i e h q k = rw (add-one i, q) (at i (omega arith))

module _ (l : List ℕ) (n : ℕ) (c : InHeads l n) where
  abbrev these : List Head
  these = heads_in 4 l

  -- whether a block is free from a head on
  module _ (b from i : ℕ) (same : has_block b (drop i these) ≡ has_block b (drop from these)) where
    module _ (h : Head) (q : h ≡ head_at l i) (k : i < n) where
      next_block : has_block b (drop i these) ≡ (eqb h.block b || has_block b (drop (i + 1) these))
      unfolding has_block
      next_block = ap (has_block b) (on l these (heads_at 4 l) n i c.count h q k)

      pub free_not : h.block ≡ b → false ≡ not (has_block b (drop from these))
      free_not z = let y : has_block b (drop i these) ≡ true = next_block ∙ rw (eq-eqb h.block b z) in ap not (sym y ∙ same)

      pub free_turn : (h.block ≢ b) → has_block b (drop (i + 1) these) ≡ has_block b (drop from these)
      free_turn z = sym (next_block ∙ rw (ne_eqb h.block b z)) ∙ same

    pub free_end : n ≤ i → true ≡ not (has_block b (drop from these))
    unfolding has_block
    free_end h = let y : has_block b (drop i these) ≡ false = ap (has_block b) (none_left these n i c.count h) in ap not (sym y ∙ same)

  -- whether they are well kept
  module _ (i : ℕ) (same : well_kept n (drop i these) ≡ well_kept n these) where
    module _ (h : Head) (q : h ≡ head_at l i) (k : i < n) (f : Bool) (free : f ≡ not (has_block h.block (drop (i + 1) these))) where
      abbrev well : Bool
      well = (leb h.count 1024 && ltb h.block n) && f

      next_well : well_kept n (drop i these) ≡ cond well (well_kept n (drop (i + 1) these)) false
      unfolding well_kept
      next_well =
          ap (well_kept n) (on l these (heads_at 4 l) n i c.count h q k)
          ∙ ap (λ (x : Bool). (leb h.count 1024 && ltb h.block n) && (x && well_kept n (drop (i + 1) these))) (sym free)
          ∙ regroup (leb h.count 1024 && ltb h.block n) f (well_kept n (drop (i + 1) these))

      pub well_not : not well ≡ true → false ≡ well_kept n these
      well_not z = let y : well ≡ false = sym (not_not well) ∙ ap not z in sym (next_well ∙ rw y) ∙ same

      pub well_turn : not well ≡ false → well_kept n (drop (i + 1) these) ≡ well_kept n these
      well_turn z = let y : well ≡ true = sym (not_not well) ∙ ap not z in sym (next_well ∙ rw y) ∙ same

    pub well_end : n ≤ i → true ≡ well_kept n these
    unfolding well_kept
    well_end h = sym (ap (well_kept n) (none_left these n i c.count h)) ∙ same

-- the first of a key
module _ (l : List ℕ) (n : ℕ) (c : Kept l n) (k : Key) (i : ℕ) (same : find k (drop i (kept l)) ≡ find k (kept l)) where
  module _ (h : Head) (q : h ≡ head_at l i) (b : Bool) (s : b ≡ same_key k (key_of h)) (low : i < n) where
    next_found : find k (drop i (kept l)) ≡ cond (same_key k (key_of h)) (some h) (find k (drop (i + 1) (kept l)))
    unfolding find
    next_found = ap (find k) (on l (kept l) (kept_at l) n i c.count h q low)

    pub find_here : b ≡ true → Some h ≡ option_of (find k (kept l))
    find_here z = let e : find k (drop i (kept l)) ≡ some h = next_found ∙ rw (sym s ∙ z) refl in ap option_of (sym e ∙ same)

    pub find_turn : b ≡ false → find k (drop (i + 1) (kept l)) ≡ find k (kept l)
    find_turn z = let e : find k (drop i (kept l)) ≡ find k (drop (i + 1) (kept l)) = next_found ∙ rw (sym s ∙ z) refl in sym e ∙ same

  pub find_end : n ≤ i → None ≡ option_of (find k (kept l))
  unfolding find
  find_end h = ap option_of (sym (ap (find k) (none_left (kept l) n i c.count h)) ∙ same)

-- ---- the head found

pub found_some : (o : Option Head) (h : Head) → Some h ≡ option_of o → o ≡ some h
found_some none h e = cc
found_some (some g) h e = ap some cc

pub found_none : (o : Option Head) → None ≡ option_of {A = Head} o → o ≡ none
found_none none e = refl
found_none (some g) e = cc

pub rows_some : (o : Option Head) (h : Head) → Some h ≡ option_of o → Some h.count ≡ rows_found o
rows_some o h e = sym (ap rows_found (found_some o h e))

pub rows_none : (o : Option Head) → None ≡ option_of {A = Head} o → None ≡ rows_found o
rows_none o e = sym (ap rows_found (found_none o e))

pub found_within : (l : List ℕ) (k : Key) (h : Head) → find k (kept l) ≡ some h → Within h
found_within l k h e = (found_has k h (kept_well l).within e).0

-- ---- how many are kept

module _ (l : List ℕ) (n : ℕ) (c : InHeads l n) (b : Bool) (w : b ≡ well_kept n (heads_in 4 l)) where
  well_is : b ≡ well_kept (length (heads_in 4 l)) (heads_in 4 l)
  well_is = rw (← c.count) w

  pub kept_all : b ≡ true → Kept l n
  unfolding kept
  kept_all h = record { size = c.size; count = rw (sym well_is ∙ h) c.count; few = c.few }

  pub kept_nothing : b ≡ false → Kept l 0
  unfolding kept
  kept_nothing h = record { size = c.size; count = rw (sym well_is ∙ h) refl; few = omega arith }
