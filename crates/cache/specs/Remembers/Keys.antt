-- The last four different keys, one use at a time.
use Rattle.std.specs.Prelude.{ℕ, zero, suc, ◌≤◌, true, false, List, [], ◌∷◌, map, ◌≡◌, refl, length, take}
use Rattle.std.proofs.Common.{arith, sym, ap, take-take}
use Rattle.std.proofs.lemmas.List.{length-map}
use Rattle.text.specs.Tests.{cases, both, by_case}
use Rattle.text.specs.Each.{All, all_nil, all_cons}
use Rattle.cache.specs.Parts.{Part, Apart, part_take, part_all, part_apart}
use Rattle.cache.specs.Wraps.{Key, same_key, key_of, without}
use Rattle.cache.specs.declared.wraps.Head.{Head}
use Rattle.cache.specs.Wraps.Laws.{same_key_law}
use Rattle.cache.specs.Remembers.{without_key, different}

abbrev OtherKey : Key → Key → Type 0
OtherKey j k = same_key j k ≡ false

part_without_key : (k : Key) (ks : List Key) → Part (without_key k ks) ks
unfolding without_key
part_without_key k [] = Part.none
part_without_key k (j ∷ js) = both (λ (is : List Key). Part is (j ∷ js)) (same_key k j) (Part.less (part_without_key k js)) (Part.with (part_without_key k js))

without_key_others : (k : Key) (ks : List Key) → All (OtherKey k) (without_key k ks)
unfolding without_key
without_key_others k [] = all_nil
without_key_others k (j ∷ js) = by_case (All (OtherKey k)) (same_key k j) (λ e. without_key_others k js) (λ e. all_cons e (without_key_others k js))

without_key_none : (k : Key) {ks : List Key} → All (OtherKey k) ks → without_key k ks ≡ ks
unfolding without_key
without_key_none k all_nil = refl
without_key_none k (all_cons {a = j} e a) = rw e (ap (λ (js : List Key). j ∷ js) (without_key_none k a))

without_key_same : (k j : Key) {ks : List Key} → same_key k j ≡ true → All (OtherKey j) ks → without_key k ks ≡ ks
without_key_same k j e a = without_key_none k (rw (same_key_law k j e) a)

different_apart : (ks : List Key) → Apart OtherKey (different ks)
unfolding different
different_apart [] = Apart.nil
different_apart (k ∷ ks) = Apart.cons (without_key_others k (different ks)) (part_apart (part_without_key k (different ks)) (different_apart ks))

-- of keys apart, at most one is taken out
without_key_length : (k : Key) {ks : List Key} → Apart OtherKey ks → length ks ≤ suc (length (without_key k ks))
unfolding without_key
without_key_length k Apart.nil = omega arith
without_key_length k (Apart.cons {a = j} o os) =
    cases (same_key k j)
    (λ e. rw (e, without_key_same k j e o) (omega arith))
    (λ e. rw e (omega (arith, without_key_length k os)))

-- and the first n + 1 are enough for n
without_key_take : (n : ℕ) (k : Key) {ks : List Key} → Apart OtherKey ks → take n (without_key k (take (suc n) ks)) ≡ take n (without_key k ks)
unfolding without_key
without_key_take zero k a = refl
without_key_take (suc n) k Apart.nil = refl
without_key_take (suc n) k (Apart.cons {a = j} {s = js} o os) =
    cases (same_key k j)
    (λ e. rw (e, without_key_same k j e o, without_key_same k j e (part_all (part_take (suc n) js) o)) (take-take (suc n) (suc n) js (omega arith)))
    (λ e. rw e (ap (λ (is : List Key). j ∷ is) (without_key_take n k os)))

pub last_four : (k : Key) (us : List Key) → k ∷ take 3 (without_key k (take 4 (different us))) ≡ take 4 (different (k ∷ us))
unfolding different
last_four k us = ap (λ (ks : List Key). k ∷ ks) (without_key_take 3 k (different_apart us))

-- ---- the keys of heads

pub keys_without : (k : Key) (hs : List Head) → map key_of (without k hs) ≡ without_key k (map key_of hs)
unfolding without without_key
keys_without k [] = refl
keys_without k (h ∷ hs) = cases (same_key k (key_of h)) (λ s. rw s (keys_without k hs)) (λ s. rw s (ap (λ (l : List Key). key_of h ∷ l) (keys_without k hs)))

pub keys_take : (n : ℕ) (hs : List Head) → map key_of (take n hs) ≡ take n (map key_of hs)
keys_take zero hs = refl
keys_take (suc n) [] = refl
keys_take (suc n) (h ∷ hs) = ap (λ (l : List Key). key_of h ∷ l) (keys_take n hs)

pub heads_apart : (k : Key) (us : List Key) (hs : List Head) → map key_of hs ≡ take 4 (different us) → length hs ≤ suc (length (without k hs))
heads_apart k us hs e =
    let a : length (map key_of hs) ≤ suc (length (without_key k (map key_of hs))) = without_key_length k (rw (sym e) at (part_apart (part_take 4 (different us)) (different_apart us))) in
    omega (arith, length-map hs key_of, length-map (without k hs) key_of, ap length (keys_without k hs))
