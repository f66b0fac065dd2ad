-- Heads by their numbers, found and taken out, and the block of a new wrap.
use Rattle.std.specs.Prelude.{ℕ, zero, suc, ◌+◌, ◌*◌, ◌≤◌, ◌<◌, Bool, true, false, cond, not, ◌&&◌, ◌≡◌, refl, take, drop, get_or, T, eqb, leb, ltb}
use Rattle.std.proofs.Common.{add-zero, arith, sym, ◌∙◌, drop_of_length-le, get_or-drop, T_not, eqb→eq, leb→le, ltb→lt}
use mathlib.Core.List.{List, [], ◌∷◌}
use Rattle.std.proofs.Math.Option.{none, some}
use Rattle.std.proofs.Math.Path.{ap}
use Rattle.std.proofs.Math.ListN.{length}
use Rattle.std.proofs.Math.Seq.{drop-nil}
use borrow.Author.Tests.{eqb-true, eqb-false, ltb-true, ltb-false}
use Rattle.text.specs.Tests.{and_T, or_false, is_false, true_T, cases, both, by_case}
use Rattle.text.specs.Each.{All, all_nil, all_cons, all_drop, all_first}
use Rattle.cache.specs.Parts.{Apart, nil, cons}
use Rattle.cache.specs.Wraps.{Key, same_key, key_of, heads_in, has_block, well_kept, kept, find, without, head_numbers, last_block, new_block}
use Rattle.cache.specs.declared.wraps.Head.{Head}
use Rattle.cache.specs.Wraps.Contracts.{head_at, Within}

-- ---- the first n heads, by their numbers

next : (l : List ℕ) (i k : ℕ) → get_or (drop 5 l) (5 * i + k) 0 ≡ get_or l (5 * suc i + k) 0
next l i k = get_or-drop 5 l (5 * i + k) 0 ∙ ap (λ (n : ℕ). get_or l n 0) (omega arith)

next_head : (l : List ℕ) (i : ℕ) → head_at (drop 5 l) i ≡ head_at l (suc i)
next_head l i = rw (simp add-zero at (next l i 0), next l i 1, next l i 2, next l i 3, next l i 4)

abbrev At : List ℕ → ℕ → List Head → Type 0
At l i hs = i < length hs → drop i hs ≡ head_at l i ∷ drop (suc i) hs

pub heads_at : (n : ℕ) (l : List ℕ) (i : ℕ) → i < length (heads_in n l) → drop i (heads_in n l) ≡ head_at l i ∷ drop (suc i) (heads_in n l)
unfolding heads_in
heads_at zero l i = λ h. absurd (omega arith)
heads_at (suc n) l zero = both (At l 0) (eqb (get_or l 3 0) 0) (λ h. absurd (omega arith)) (λ h. refl)
heads_at (suc n) l (suc i) =
    both (At l (suc i)) (eqb (get_or l 3 0) 0)
    (λ h. absurd (omega arith))
    (λ h. heads_at n (drop 5 l) i (omega arith) ∙ ap (λ (x : Head). x ∷ drop (suc i) (heads_in n (drop 5 l))) (next_head l i))

pub heads_few : (n : ℕ) (l : List ℕ) → length (heads_in n l) ≤ n
unfolding heads_in
heads_few zero l = omega arith
heads_few (suc n) l = both (λ (hs : List Head). length hs ≤ suc n) (eqb (get_or l 3 0) 0) (omega arith) (omega (arith, heads_few n (drop 5 l)))

-- they end at one of no rows
pub heads_end : (n : ℕ) (l : List ℕ) → length (heads_in n l) < n → get_or l (5 * length (heads_in n l) + 3) 0 ≡ 0
unfolding heads_in
heads_end zero l = λ h. absurd (omega arith)
heads_end (suc n) l =
    let k : ℕ = length (heads_in n (drop 5 l)) in
    by_case (λ (hs : List Head). length hs < suc n → get_or l (5 * length hs + 3) 0 ≡ 0) (eqb (get_or l 3 0) 0)
    (λ e h. eqb-true (get_or l 3 0) 0 e)
    (λ e h. sym (next l k 3) ∙ heads_end n (drop 5 l) (omega arith))

heads_some : (n : ℕ) (l : List ℕ) → All (λ (h : Head). 1 ≤ h.count) (heads_in n l)
unfolding heads_in
heads_some zero l = all_nil
heads_some (suc n) l =
    by_case (All (λ (h : Head). 1 ≤ h.count)) (eqb (get_or l 3 0) 0)
    (λ e. all_nil)
    (λ e. let z : get_or l 3 0 ≡ 0 → ⊥ = eqb-false _ _ e in let q : 1 ≤ get_or l 3 0 = omega arith in all_cons q (heads_some n (drop 5 l)))

pub heads_count : (n : ℕ) (l : List ℕ) (i : ℕ) → i < length (heads_in n l) → 1 ≤ get_or l (5 * i + 3) 0
heads_count n l i h = all_first (rw (heads_at n l i h) at (all_drop i (heads_some n l)))

-- ---- those that are kept

-- what n heads that are kept have together
pub record Well (n : ℕ) (hs : List Head) : Type 0 where
  pub within : All Within hs
  pub low : All (λ (h : Head). h.block < n) hs
  pub apart : Apart (λ (g h : Head). g.block ≡ h.block → ⊥) hs

other_blocks : (b : ℕ) (hs : List Head) → has_block b hs ≡ false → All (λ (h : Head). b ≡ h.block → ⊥) hs
unfolding has_block
other_blocks b [] e = all_nil
other_blocks b (h ∷ hs) e = let q = or_false (eqb h.block b) (has_block b hs) e in all_cons (λ z. eqb-false _ _ q.0 (sym z)) (other_blocks b hs q.1)

well : (n : ℕ) {hs : List Head} → n ≤ 4 → All (λ (h : Head). 1 ≤ h.count) hs → T (well_kept n hs) → Well n hs
unfolding well_kept
well n few all_nil t = record { within = all_nil; low = all_nil; apart = nil }
well n few (all_cons {a = h} {s = hs} one a) t =
    let u = and_T (leb h.count 1024 && ltb h.block n) _ t in
    let v = and_T (leb h.count 1024) _ u.0 in
    let w = and_T (not (has_block h.block hs)) (well_kept n hs) u.1 in
    let low : h.block < n = ltb→lt _ _ v.1 in
    let block : h.block < 4 = omega arith in
    let other : has_block h.block hs ≡ false = is_false _ (T_not (has_block h.block hs) w.0) in
    let r : Well n hs = well n few a w.1 in
    record {
      within = all_cons (record { some = one; fits = leb→le _ _ v.0; block = block }) r.within;
      low = all_cons low r.low;
      apart = cons (other_blocks h.block hs other) r.apart;
    }

module _ (l : List ℕ) where
  abbrev sound : Bool
  sound = well_kept (length (heads_in 4 l)) (heads_in 4 l)

  pub kept_few : length (kept l) ≤ 4
  unfolding kept
  kept_few = both (λ (hs : List Head). length hs ≤ 4) sound (heads_few 4 l) (omega arith)

  pub kept_at : (i : ℕ) → i < length (kept l) → drop i (kept l) ≡ head_at l i ∷ drop (suc i) (kept l)
  unfolding kept
  kept_at i = both (At l i) sound (heads_at 4 l i) (λ h. absurd (omega arith))

  pub kept_well : Well (length (kept l)) (kept l)
  unfolding kept
  kept_well =
      by_case (λ (hs : List Head). Well (length hs) hs) sound
      (λ e. well (length (heads_in 4 l)) (heads_few 4 l) (heads_some 4 l) (true_T e))
      (λ e. record { within = all_nil; low = all_nil; apart = nil })

  pub head_within : (i : ℕ) → i < length (kept l) → Within (head_at l i)
  head_within i h = all_first (rw (kept_at i h) at (all_drop i kept_well.within))

-- ---- the block of a new wrap

last_block_law : (hs : List Head) (i : ℕ) (h : Head) → drop i hs ≡ h ∷ [] → last_block hs ≡ h.block
unfolding last_block
last_block_law [] i h e = cc (drop-nil {A = Head} i)
last_block_law (a ∷ []) zero h e = cc
last_block_law (a ∷ []) (suc i) h e = cc (drop-nil {A = Head} i)
last_block_law (a ∷ b ∷ hs) zero h e = cc
last_block_law (a ∷ b ∷ hs) (suc i) h e = last_block_law (b ∷ hs) i h e

module _ (l : List ℕ) where
  pub new_block_law : new_block (kept l) ≡ cond (ltb (length (kept l)) 4) (length (kept l)) (get_or l 19 0)
  unfolding new_block
  new_block_law =
      cases (ltb (length (kept l)) 4)
      (λ e. rw e)
      (λ e.
      let n : 4 ≤ length (kept l) = ltb-false _ _ e in
      rw e (last_block_law (kept l) 3 (head_at l 3) (kept_at l 3 (omega arith) ∙ ap (λ (x : List Head). head_at l 3 ∷ x) (drop_of_length-le (kept l) (kept_few l)))))

  pub new_block_low : new_block (kept l) < 4
  new_block_low =
      rw new_block_law
      (by_case (λ (b : ℕ). b < 4) (ltb (length (kept l)) 4)
      (λ e. ltb-true _ _ e)
      (λ e. let n : 4 ≤ length (kept l) = ltb-false _ _ e in (head_within l 3 (omega arith)).block))

-- ---- heads written, found and taken out

pub heads_written : (h : Head) (hs : List Head) → take 20 (head_numbers (h ∷ hs)) ≡ head_numbers (h ∷ take 3 hs)
unfolding head_numbers
heads_written h [] = refl
heads_written h (a ∷ []) = refl
heads_written h (a ∷ b ∷ []) = refl
heads_written h (a ∷ b ∷ c ∷ hs) = refl

pub same_key_law : (j k : Key) → same_key j k ≡ true → j ≡ k
same_key_law j k e =
    let p = and_T (eqb j.version k.version) _ (true_T e) in
    let q = and_T (eqb j.width k.width) (eqb j.mode k.mode) p.1 in
    rw (eqb→eq j.version k.version p.0, eqb→eq j.width k.width q.0, eqb→eq j.mode k.mode q.1) refl

pub without_none : (k : Key) (hs : List Head) → find k hs ≡ none → without k hs ≡ hs
unfolding find without
without_none k [] e = refl
without_none k (h ∷ hs) e =
    cases (same_key k (key_of h))
    (λ s. let y : some h ≡ none = rw s at e in absurd (let z : ◌≡◌ {A = ℕ} 0 1 = cc in omega arith))
    (λ s. rw s (ap (λ (x : List Head). h ∷ x) (without_none k hs (rw s at e))))
