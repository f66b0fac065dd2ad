-- The heads after a use: those written are those kept.
use Prim.Native.Nat.{ℕ, zero, suc, ◌≤◌, ◌<◌}
use Rattle.std.proofs.Common.{arith, sym, length-take, ltb-true, ltb-false, le-leb, lt-ltb, ne_eqb}
use Rattle.std.specs.Prelude.{true, false, List, [], ◌∷◌, ◌≡◌, refl, length, take, drop, eqb, ltb}
use Rattle.std.proofs.Math.Option.{none, some}
use Rattle.text.specs.Tests.{cases, both, by_case}
use Rattle.text.specs.Each.{All, all_nil, all_cons, all_map, all_drop, all_first}
use Rattle.text.specs.Calls.{lent}
use Rattle.cache.specs.Parts.{Part, Apart, part_take, part_all, part_apart}
use Rattle.cache.specs.Wraps.{Key, same_key, key_of, heads_in, has_block, well_kept, kept, find, without, head_numbers, with_heads, new_block}
use Rattle.cache.specs.declared.wraps.Head.{Head}
use Rattle.cache.specs.Wraps.Contracts.{head_at, Within}
use Rattle.cache.specs.Wraps.Laws.{kept_few, kept_well, kept_at, head_within, new_block_law, same_key_law, without_none}

-- a head that is found has its key, and what all heads have
pub found_has : {Q : Head → Type 0} (k : Key) {hs : List Head} (h : Head) → All Q hs → find k hs ≡ some h → Q h × (key_of h ≡ k)
unfolding find
found_has k h all_nil e = absurd (let z : ◌≡◌ {A = ℕ} 0 1 = cc in omega arith)
found_has {Q} k h (all_cons {a = g} q a) e =
    cases (same_key k (key_of g))
    (λ s. let z : g ≡ h = (let y : some g ≡ some h = rw s at e in cc) in (rw z at q, rw z at (sym (same_key_law k (key_of g) s))))
    (λ s. found_has k h a (rw s at e))

pub part_without : (k : Key) (hs : List Head) → Part (without k hs) hs
unfolding without
part_without k [] = Part.none
part_without k (h ∷ hs) = both (λ (gs : List Head). Part gs (h ∷ hs)) (same_key k (key_of h)) (Part.less (part_without k hs)) (Part.with (part_without k hs))

-- ---- blocks of no other head

abbrev OtherBlock : Head → Head → Type 0
OtherBlock g h = g.block ≡ h.block → ⊥

-- that of a head found, once its key is taken out
found_block : (k : Key) {hs : List Head} (h : Head) → Apart OtherBlock hs → find k hs ≡ some h → All (OtherBlock h) (without k hs)
unfolding find without
found_block k h Apart.nil e = all_nil
found_block k h (Apart.cons {a = g} {s = gs} o os) e =
    cases (same_key k (key_of g))
    (λ s. let y : some g ≡ some h = rw s at e in let z : g ≡ h = cc in rw (s, ← z) (part_all (part_without k gs) o))
    (λ s. let f : find k gs ≡ some h = rw s at e in rw s (all_cons (λ z. (found_has k h o f).0 (sym z)) (found_block k h os f)))

-- that of the head behind the first i
block_behind : (i : ℕ) {hs : List Head} (h : Head) {gs : List Head} → Apart OtherBlock hs → drop i hs ≡ h ∷ gs → All (OtherBlock h) (take i hs)
block_behind zero h a e = all_nil
block_behind (suc i) h Apart.nil e = all_nil
block_behind (suc i) h (Apart.cons o os) e = all_cons (λ z. all_first (rw e at (all_drop i o)) (sym z)) (block_behind i h os e)

-- ---- heads written and read back

no_block : (b : ℕ) {hs : List Head} → All (λ (h : Head). b ≡ h.block → ⊥) hs → has_block b hs ≡ false
unfolding has_block
no_block b all_nil = refl
no_block b (all_cons {a = h} o a) = rw (ne_eqb h.block b (λ e. o (sym e))) (no_block b a)

well_kept_law : (n : ℕ) {hs : List Head} → All Within hs → All (λ (h : Head). h.block < n) hs → Apart OtherBlock hs → well_kept n hs ≡ true
unfolding well_kept
well_kept_law n all_nil all_nil Apart.nil = refl
well_kept_law n (all_cons {a = h} w ws) (all_cons l ls) (Apart.cons o os) =
    rw (le-leb h.count 1024 w.fits, lt-ltb h.block n l, no_block h.block o) (well_kept_law n ws ls os)

some_rows : (h : Head) → Within h → eqb h.count 0 ≡ false
some_rows h w = ne_eqb h.count 0 (λ e. omega arith)

heads_back : (wraps : List ℕ) (h : Head) (gs : List Head) → All Within (h ∷ take 3 gs) → heads_in 4 (with_heads wraps (h ∷ take 3 gs)) ≡ h ∷ take 3 gs
unfolding heads_in with_heads head_numbers lent
heads_back wraps h [] (all_cons p all_nil) = rw (some_rows h p)
heads_back wraps h (a ∷ []) (all_cons p (all_cons q all_nil)) = rw (some_rows h p, some_rows a q)
heads_back wraps h (a ∷ b ∷ []) (all_cons p (all_cons q (all_cons r all_nil))) = rw (some_rows h p, some_rows a q, some_rows b r)
heads_back wraps h (a ∷ b ∷ c ∷ gs) (all_cons p (all_cons q (all_cons r (all_cons s all_nil)))) = rw (some_rows h p, some_rows a q, some_rows b r, some_rows c s)

-- ---- one use

-- the heads behind one of the key k that is used
abbrev pub behind : Key → List Head → List Head
behind k hs = take 3 (without k hs)

pub part_behind : (k : Key) {Q : Head → Type 0} {hs : List Head} → All Q hs → All Q (behind k hs)
part_behind k {hs = hs} a = part_all (part_take 3 (without k hs)) (part_all (part_without k hs) a)

-- a block that a head can have before these
pub record Free (b : ℕ) (hs : List Head) : Type 0 where
  pub low : b < suc (length hs)
  pub other : All (λ (h : Head). b ≡ h.block → ⊥) hs

-- at most one head has the key
module _ (l : List ℕ) (k : Key) (one : length (kept l) ≤ suc (length (without k (kept l)))) where
  no_fewer : length (kept l) ≤ suc (length (behind k (kept l)))
  no_fewer = omega (arith, kept_few l, length-take 3 (without k (kept l)))

  -- what is written is kept
  pub kept_after : (wraps : List ℕ) (h : Head) → Within h → Free h.block (behind k (kept l)) → kept (with_heads wraps (h ∷ behind k (kept l))) ≡ h ∷ behind k (kept l)
  unfolding kept
  kept_after wraps h w f =
      let m : ℕ = suc (length (behind k (kept l))) in
      let all : All Within (h ∷ behind k (kept l)) = all_cons w (part_behind k (kept_well l).within) in
      let low : All (λ (g : Head). g.block < m) (h ∷ behind k (kept l)) = all_cons f.low (all_map (λ g q. omega (arith, no_fewer)) (part_behind k (kept_well l).low)) in
      let apart : Apart OtherBlock (behind k (kept l)) = part_apart (part_take 3 (without k (kept l))) (part_apart (part_without k (kept l)) (kept_well l).apart) in
      rw (heads_back wraps h (without k (kept l)) all, well_kept_law m all low (Apart.cons f.other apart))

  pub free_found : (h : Head) → find k (kept l) ≡ some h → Free h.block (behind k (kept l))
  free_found h e = record {
    low = omega (arith, no_fewer, (found_has k h (kept_well l).low e).0);
    other = part_all (part_take 3 (without k (kept l))) (found_block k h (kept_well l).apart e);
  }

pub free_new : (l : List ℕ) (k : Key) → find k (kept l) ≡ none → Free (new_block (kept l)) (behind k (kept l))
free_new l k e =
    rw (without_none k (kept l) e, new_block_law l)
    (by_case (λ (b : ℕ). Free b (take 3 (kept l))) (ltb (length (kept l)) 4)
    (λ t.
    let n : length (kept l) < 4 = ltb-true _ _ t in
    record { low = omega (arith, length-take 3 (kept l)); other = part_all (part_take 3 (kept l)) (all_map (λ g q z. omega arith) (kept_well l).low) })
    (λ t.
    let n : 4 ≤ length (kept l) = ltb-false _ _ t in
    record { low = omega (arith, length-take 3 (kept l), (head_within l 3 (omega arith)).block); other = block_behind 3 (head_at l 3) (kept_well l).apart (kept_at l 3 (omega arith)) }))
