-- Writers one after the other, loops that write, and what a run of writes came to by its count.
use Rattle.std.specs.Prelude.{◌≡◌, refl, List, [], ◌∷◌, ◌++◌, ℕ, zero, suc, ◌+◌, ◌-◌, ◌≤◌, ◌<◌, length, set, take, drop, get_or, replicate}
use Rattle.std.proofs.Common.{sym, ap, ap₂, ◌∙◌, append-nil, append_assoc, ⊎_elim, add-zero, add-one, arith, drop_of_length-le, length-set, length-drop, take-append-drop, take_at, drop-cons, take_all, length-take-le, drop_at, drop-drop, lt-ltb, le-ltb}
use Rattle.std.proofs.lemmas.List.{length-replicate, get_or-replicate, take-append-le, drop-append-le}
use Rattle.std.proofs.Math.Seq.{set_out, paste, paste-zero, paste-suc, take-length, take-append_seam}
use Rattle.std.proofs.lemmas.List.Edits.{sets, sets-eq, length-paste, drop-paste}
use Rattle.buffer.specs.Numbers.{smaller_of}
use Rattle.buffer.specs.Numbers.Laws.{le_or_lt}
use Rattle.buffer.specs.Numbers.Parts.{part_is}
use Rattle.buffer.specs.Sink.{Sink, sink, saturated, put, emit, written, cleared, Copied}

abbrev count_of : {A : Type 0} → Sink A → ℕ
count_of (sink l r) = r

abbrev list_of : {A : Type 0} → Sink A → List A
list_of (sink l r) = l

-- ---- one more

pub put_in : {A : Type 0} (l : List A) (at : ℕ) (b : A) → at < length l → sink (set l at b) (at + 1) ≡ put (sink l at) b
unfolding put saturated
put_in l at b h = rw (lt-ltb at (length l) h)

pub put_past : {A : Type 0} (l : List A) (at : ℕ) (b : A) → length l ≤ at → sink l (length l + 1) ≡ put (sink l at) b
unfolding put saturated
put_past l at b h = rw (le-ltb at (length l) h, set_out l at b h)

-- ---- writers one after the other

pub emit_none : {A : Type 0} (s : Sink A) → emit s [] ≡ s
unfolding emit
emit_none s = refl

pub emit_append : {A : Type 0} (s : Sink A) (xs ys : List A) → emit s (xs ++ ys) ≡ emit (emit s xs) ys
unfolding emit
emit_append s [] ys = refl
emit_append s (x ∷ xs) ys = emit_append (put s x) xs ys

pub then_emit : {A : Type 0} (s s' s'' : Sink A) (xs ys : List A) → s' ≡ emit s xs → s'' ≡ emit s' ys → s'' ≡ emit s (xs ++ ys)
then_emit s s' s'' xs ys p q = q ∙ (rw (p, ← emit_append s xs ys))

pub emit_put : {A : Type 0} (s s' : Sink A) (b : A) → s' ≡ put s b → s' ≡ emit s (b ∷ [])
unfolding emit
emit_put s s' b p = p

pub then_put : {A : Type 0} (s s' s'' : Sink A) (xs : List A) (b : A) → s' ≡ emit s xs → s'' ≡ put s' b → s'' ≡ emit s (xs ++ b ∷ [])
then_put s s' s'' xs b p q = then_emit s s' s'' xs (b ∷ []) p (emit_put s' s'' b q)

pub emit_part : {A : Type 0} (xs : List A) (at n from len : ℕ) (s s' : Sink A) → from ≡ smaller_of at (length xs) → len ≡ smaller_of n (length xs - from) → s' ≡ emit s (take (from + len - from) (drop from xs)) → s' ≡ emit s (take n (drop at xs))
emit_part xs at n from len s s' is cut e = e ∙ ap (emit s) (part_is xs at from is n len cut)

-- ---- a loop that writes one byte n times: a turn, and the end

pub repeat_turn : {A : Type 0} (s s' : Sink A) (n : ℕ) (b : A) {e : Sink A} → 0 < n → emit s (replicate n b) ≡ e → s' ≡ put s b → emit s' (replicate (n - 1) b) ≡ e
unfolding emit
repeat_turn s s' zero b h p q = absurd (omega arith)
repeat_turn s s' (suc n) b h p q = let m : suc n - 1 ≡ n = omega arith in rw (m, q) p

pub repeat_end : {A : Type 0} (s : Sink A) (n : ℕ) (b : A) {e : Sink A} → n ≤ 0 → emit s (replicate n b) ≡ e → s ≡ e
unfolding emit
repeat_end s n b h p = let z : n ≡ 0 = omega arith in rw z at p

-- ---- a loop that writes what is left of xs, one by one: a turn, and the end

pub emit_item : {A : Type 0} (s s' : Sink A) (xs : List A) (j : ℕ) (x : A) {e : Sink A} → j < length xs → x ≡ get_or xs j x → emit s (drop j xs) ≡ e → s' ≡ put s x → emit s' (drop (j + 1) xs) ≡ e
unfolding emit
emit_item s s' xs j x h i p q = rw (q, add-one) (rw (drop-cons xs j x h, ← i) at p)

pub emit_turn : (s s' : Sink ℕ) (xs : List ℕ) (j : ℕ) {e : Sink ℕ} → j < length xs → emit s (drop j xs) ≡ e → s' ≡ put s (get_or xs j 0) → emit s' (drop (j + 1) xs) ≡ e
unfolding emit
emit_turn s s' xs j h p q = rw (q, add-one) (rw (drop-cons xs j 0 h) at p)

pub emit_end : {A : Type 0} (s : Sink A) (xs : List A) (j : ℕ) {e : Sink A} → length xs ≤ j → emit s (drop j xs) ≡ e → s ≡ e
unfolding emit
emit_end s xs j h p = rw (drop_of_length-le xs h) at p

-- ---- writes that fit

emit_sets : {A : Type 0} (xs l : List A) (at : ℕ) → at + length xs ≤ length l → emit (sink l at) xs ≡ sink (sets l at xs) (at + length xs)
unfolding emit
emit_sets [] l at h = ap (sink l) (sym (add-zero at))
emit_sets (x ∷ xs) l at h =
    let g : suc at + length xs ≤ length (set l at x) = rw (length-set l at x) (omega arith) in
    let n : suc at + length xs ≡ at + suc (length xs) = omega arith in
    rw (← put_in l at x (omega arith), add-one) (emit_sets xs (set l at x) (suc at) g ∙ ap (sink (sets (set l at x) (suc at) xs)) n)

pub emit_room : {A : Type 0} (l xs : List A) (at : ℕ) → at + length xs ≤ length l → emit (sink l at) xs ≡ sink (written l at xs) (at + length xs)
emit_room {A = A} l xs at h = emit_sets xs l at h ∙ ap (λ (m : List A). sink m (at + length xs)) (sets-eq xs l at h)

pub emit_copied : {A : Type 0} (l l' xs : List A) (at r : ℕ) → at ≤ length l → length xs ≤ length l - at → Copied l l' at xs r → sink l' r ≡ emit (sink l at) xs
emit_copied l l' xs at r h k c = rw (c.bytes, c.end) (sym (emit_room l xs at (omega arith)))

-- ---- what a run of writes from the front of a list came to

-- a full buffer takes nothing more
stuck : {A : Type 0} (l xs : List A) → emit (sink l (length l + 1)) xs ≡ sink l (length l + 1)
unfolding emit
stuck l [] = refl
stuck l (x ∷ xs) = rw (← put_past l (length l + 1) x (omega arith)) (stuck l xs)

emit_past : {A : Type 0} (xs l : List A) (at : ℕ) → at ≤ length l → length l < at + length xs → count_of (emit (sink l at) xs) ≡ length l + 1
unfolding emit
emit_past [] l at h k = absurd (omega arith)
emit_past (x ∷ xs) l at h k = ⊎_elim
    (λ (p : length l ≤ at). rw (← put_past l at x p) (ap count_of (stuck l xs)))
    (λ (p : at < length l). rw (← put_in l at x p) (emit_past xs (set l at x) (at + 1) (rw (length-set l at x) (omega arith)) (rw (length-set l at x) (omega arith)) ∙ ap (λ (n : ℕ). n + 1) (length-set l at x)))
    (le_or_lt (length l) at)

module _ (l xs l' : List ℕ) (r : ℕ) (e : sink l' r ≡ emit (sink l 0) xs) where
  -- all fitted: the count, and what stands in the list
  pub fitted : length xs ≤ length l → (r ≡ length xs) × (l' ≡ xs ++ drop (length xs) l)
  fitted h =
      let f : sink l' r ≡ sink (written l 0 xs) (0 + length xs) = e ∙ emit_room l xs 0 (omega arith) in
      let n : 0 + length xs ≡ length xs = omega arith in
      (ap count_of f ∙ n, ap list_of f ∙ ap (λ (k : ℕ). xs ++ drop k l) n)

  -- or not
  pub overfull : length l < length xs → r ≡ length l + 1
  overfull h = ap count_of e ∙ emit_past xs l 0 (omega arith) (omega arith)

-- ---- a loop that copies: a turn, and the end

pub copy_turn : (l l' xs : List ℕ) (at j : ℕ) → at + length xs ≤ length l → j < length xs → l' ≡ paste l at xs j → set l' (at + j) (get_or xs j 0) ≡ paste l at xs (j + 1)
copy_turn l l' xs at j h k e = rw (e, add-one) (paste-suc l at xs j 0 (omega arith) k)

pub copy_item : {A : Type 0} (l l' xs : List A) (at j : ℕ) (x : A) → at + length xs ≤ length l → j < length xs → x ≡ get_or xs j x → l' ≡ paste l at xs j → set l' (at + j) x ≡ paste l at xs (j + 1)
copy_item l l' xs at j x h k i e = rw (e, add-one) (ap (set (paste l at xs j) (at + j)) i ∙ paste-suc l at xs j x (omega arith) k)

pub copy_end : {A : Type 0} (l l' xs : List A) (at j : ℕ) → j ≤ length xs → length xs ≤ j → l' ≡ paste l at xs j → Copied l l' at xs (at + j)
copy_end l l' xs at j h k e =
    let z : j ≡ length xs = omega arith in
    record { bytes = e ∙ rw (z, take-length xs); end = ap (λ (n : ℕ). at + n) z }

-- ---- a loop that clears a list from a place on: a turn, and the end

abbrev zeros : ℕ → List ℕ
zeros n = replicate n 0

unfoldable pub cleared_to : List ℕ → ℕ → ℕ → List ℕ
cleared_to l from i = paste l from (zeros (length l - from)) (i - from)

pub clear_begin : (l : List ℕ) (from : ℕ) → l ≡ cleared_to l from from
unfolding cleared_to
clear_begin l from = let z : from - from ≡ 0 = omega arith in rw z (paste-zero l from (zeros (length l - from)))

pub clear_turn : (l l' : List ℕ) (from i : ℕ) → from ≤ i → i < length l' → length l' ≡ length l → l' ≡ cleared_to l from i → set l' i 0 ≡ cleared_to l from (i + 1)
unfolding cleared_to
clear_turn l l' from i h k n e =
    let zs : List ℕ = zeros (length l - from) in
    let j : ℕ = i - from in
    let p : from + j ≡ i = omega arith in
    let q : i + 1 - from ≡ suc j = omega arith in
    let r : j < length zs = rw (length-replicate {A = ℕ} (length l - from) 0) (omega arith) in
    let z : get_or zs j 0 ≡ 0 = get_or-replicate (length l - from) j 0 0 (omega arith) in
    let s : set (paste l from zs j) (from + j) (get_or zs j 0) ≡ paste l from zs (suc j) = paste-suc l from zs j 0 (omega arith) r in
    let t : set (paste l from zs j) i 0 ≡ paste l from zs (suc j) = ap₂ (λ (k v : ℕ). set (paste l from zs j) k v) (sym p) (sym z) ∙ s in
    ap (λ (m : List ℕ). set m i 0) e ∙ t ∙ ap (paste l from zs) (sym q)

pub clear_end : (l l' : List ℕ) (from i : ℕ) → from ≤ i → length l' ≤ i → length l' ≡ length l → l' ≡ cleared_to l from i → l' ≡ take from l ++ replicate (length l - from) 0
unfolding cleared_to
clear_end l l' from i h k n e =
    let zs : List ℕ = zeros (length l - from) in
    let a : take (i - from) zs ≡ zs = take_all (i - from) zs (rw (length-replicate {A = ℕ} (length l - from) 0) (omega arith)) in
    let past : length l ≤ from + (i - from) = omega arith in
    let b : drop (from + (i - from)) l ≡ [] = drop_of_length-le l past in
    e ∙ rw (a, b, append-nil)

-- ---- a loop that fills a list with blanks: a turn

filled : {A : Type 0} (b : A) (l : List A) (i : ℕ) → i < length l → set (replicate i b ++ drop i l) i b ≡ replicate (suc i) b ++ drop (suc i) l
filled b [] i h = absurd (omega arith)
filled b (x ∷ l) zero h = refl
filled {A = A} b (x ∷ l) (suc i) h = ap (λ (m : List A). b ∷ m) (filled b l i (omega arith))

pub fill_turn : {A : Type 0} (b : A) (l xs : List A) (i : ℕ) → i < length xs → length xs ≡ length l → xs ≡ replicate i b ++ drop i l → set xs i b ≡ replicate (i + 1) b ++ drop (i + 1) l
fill_turn b l xs i h n e = rw (e, add-one) (filled b l i (omega arith))

-- ---- what is kept of a buffer

pub cleared_none : {A : Type 0} (blank : A) (l : List A) (n : ℕ) → length l ≡ n → cleared blank 0 l ≡ replicate n blank
cleared_none blank l n e = ap (λ (k : ℕ). replicate k blank) (let z : length l - 0 ≡ n = omega arith in z)

pub cleared_all : {A : Type 0} (blank : A) (l : List A) (n : ℕ) → length l ≤ n → cleared blank n l ≡ l
cleared_all blank l n h = let z : length l - n ≡ 0 = omega arith in rw (take_all n l h, z, append-nil l)

pub cleared_behind : {A : Type 0} (blank : A) (l a b : List A) (m n : ℕ) → l ≡ a ++ b → length a ≡ n → length l ≡ m → cleared blank n l ≡ a ++ replicate (m - length a) blank
cleared_behind blank l a b m n e h k = rw (k, ← h, e, take_at a b (length a) refl)

-- ---- numbers written at a place

module _ (l xs : List ℕ) (at : ℕ) (h : at + length xs ≤ length l) where
  pasted : paste l at xs (length xs) ≡ written l at xs
  pasted = ap (λ (ys : List ℕ). take at l ++ ys ++ drop (at + length xs) l) (take-length xs)

  pub written_length : length (written l at xs) ≡ length l
  written_length = rw pasted at (length-paste l at xs (length xs) h (omega arith))

  -- they stand there
  pub written_here : take (length xs) (drop at (written l at xs)) ≡ xs
  written_here =
      ap (λ (ys : List ℕ). take (length xs) (drop at ys)) (append_assoc (take at l) xs (drop (at + length xs) l))
      ∙ ap (take (length xs)) (drop_at (take at l) (xs ++ drop (at + length xs) l) at (length-take-le at l (omega arith)))
      ∙ take-append_seam xs (drop (at + length xs) l)

  -- what stands behind them stays
  pub written_behind : (p : ℕ) → at + length xs ≤ p → drop p (written l at xs) ≡ drop p l
  written_behind p k =
      let e : p ≡ at + length xs + (p - (at + length xs)) = omega arith in
      let n : ℕ = p - (at + length xs) in
      rw e (sym (drop-drop n (at + length xs) (written l at xs)) ∙ ap (drop n) (rw pasted at (drop-paste l at xs (length xs) (omega arith) (omega arith))) ∙ drop-drop n (at + length xs) l)

  front : (ys : List ℕ) (p m : ℕ) → p + m ≤ at → take m (drop p (take at l ++ ys)) ≡ take m (drop p (take at l))
  front ys p m k =
      let n : length (take at l) ≡ at = length-take-le at l (omega arith) in
      ap (take m) (drop-append-le p (take at l) ys (omega arith)) ∙ take-append-le m (drop p (take at l)) ys (rw length-drop (omega arith))

  -- what stands before them stays
  pub written_before : (p m : ℕ) → p + m ≤ at → take m (drop p (written l at xs)) ≡ take m (drop p l)
  written_before p m k =
      ap (λ (z : List ℕ). take m (drop p z)) (append_assoc (take at l) xs (drop (at + length xs) l))
      ∙ front (xs ++ drop (at + length xs) l) p m k
      ∙ sym (front (drop at l) p m k)
      ∙ ap (λ (z : List ℕ). take m (drop p z)) (take-append-drop at l)
