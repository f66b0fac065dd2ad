-- What a use leaves: the heads written one after the other, and the numbers of a block.
use mathlib.Core.Path.{◌≡◌, refl, sym, ap, ap₂, ◌∙◌}
use Prim.Native.Nat.{ℕ, zero, suc, ◌+◌, ◌-◌, ◌*◌, ◌≤◌, ◌<◌}
use native.Mathlib.Omega.{arith}
use mathlib.Core.Bool.{Bool, true, false, not, ◌&&◌, ◌||◌}
use mathlib.Core.Option.{none, some}
use mathlib.Core.List.{List, [], ◌∷◌, ◌++◌}
use lib.ListN.{length, take, drop, replicate, length-take, length-drop, length-append, take-append-drop}
use lib.Seq.{take_all, length-take-le}
use lib.Dec.{eqb, leb, ltb}
use borrow.Author.Tests.{leb-true, leb-false, le-leb, lt-leb, lt-ltb, le-ltb, ltb-false}
use Rattle.text.specs.Tests.{cases}
use Rattle.buffer.specs.Sink.{Sink, sink, emit, written, Copied}
use Rattle.buffer.specs.Sink.Laws.{emit_append, emit_room, put_past, fitted}
use Rattle.text.specs.Calls.Laws.{lent_accepted}
use Rattle.cache.specs.declared.wraps.Head.{Head}
use Rattle.cache.specs.Wraps.{Key, same_key, head, key_of, kept, find, without, head_numbers, with_heads, after_use, new_block, with_wrap}
use Rattle.cache.specs.Wraps.Contracts.{head_at, Kept, new_heads, HeadsReady, NewBlock, KeepReady, listed, ListReady}
use Rattle.cache.specs.Calls.{wraps_after, unless_refused}
use Rattle.cache.specs.Calls.Contracts.{RememberReady, Remembered}
use Rattle.cache.specs.Wraps.Laws.{kept_at, heads_written, new_block_law, new_block_low}
use Rattle.cache.proofs.Heads.{none_left, on, found_within}

-- ---- the others

module _ (k : Key) (h : Head) (b : Bool) (has : b ≡ same_key k (key_of h)) (s : Sink ℕ) where
  pub other_same : b ≡ true → s ≡ emit s (head_numbers (without k (h ∷ [])))
  unfolding without head_numbers emit
  other_same z = rw (sym has ∙ z) refl

  pub other_pushed : (s' : Sink ℕ) → b ≡ false → s' ≡ emit s (head_numbers (h ∷ [])) → s' ≡ emit s (head_numbers (without k (h ∷ [])))
  unfolding without
  other_pushed s' z e = rw (sym has ∙ z) e

head_numbers_append : (hs gs : List Head) → head_numbers (hs ++ gs) ≡ head_numbers hs ++ head_numbers gs
unfolding head_numbers
head_numbers_append [] gs = refl
head_numbers_append (h ∷ hs) gs = ap (λ (x : List ℕ). h.key.version ∷ h.key.width ∷ h.key.mode ∷ h.count ∷ h.block ∷ x) (head_numbers_append hs gs)

without_cons : (k : Key) (h : Head) (hs : List Head) → without k (h ∷ hs) ≡ without k (h ∷ []) ++ without k hs
unfolding without
without_cons k h hs = cases (same_key k (key_of h)) (λ e. rw e refl) (λ e. rw e refl)

module _ (l : List ℕ) (n : ℕ) (c : Kept l n) (k : Key) (i : ℕ) {e : Sink ℕ} (s : Sink ℕ) (work : emit s (head_numbers (without k (drop i (kept l)))) ≡ e) where
  pub others_turn : (h : Head) → h ≡ head_at l i → i < n → (s' : Sink ℕ) → s' ≡ emit s (head_numbers (without k (h ∷ []))) → emit s' (head_numbers (without k (drop (i + 1) (kept l)))) ≡ e
  others_turn h q low s' f =
      let rest : List Head = without k (drop (i + 1) (kept l)) in
      let g : head_numbers (without k (drop i (kept l))) ≡ head_numbers (without k (h ∷ [])) ++ head_numbers rest =
      ap (λ (x : List Head). head_numbers (without k x)) (on l (kept l) (kept_at l) n i c.count h q low) ∙ ap head_numbers (without_cons k h (drop (i + 1) (kept l))) ∙ head_numbers_append (without k (h ∷ [])) rest in
      ap (λ (x : Sink ℕ). emit x (head_numbers rest)) f ∙ sym (emit_append s (head_numbers (without k (h ∷ []))) (head_numbers rest)) ∙ ap (emit s) (sym g) ∙ work

  pub others_end : n ≤ i → s ≡ e
  unfolding without head_numbers emit
  others_end h = sym (ap (λ (x : List Head). emit s (head_numbers (without k x))) (none_left (kept l) n i c.count h)) ∙ work

-- ---- as many as there is room for

list_of : Sink ℕ → List ℕ
list_of (sink l at) = l

full : (l xs : List ℕ) (at : ℕ) → length l ≤ at → list_of (emit (sink l at) xs) ≡ l
unfolding emit list_of
full l [] at h = refl
full l (x ∷ xs) at h = rw (← put_past l at x h) (full l xs (length l + 1) (omega arith))

front : (l xs l' : List ℕ) (r : ℕ) → sink l' r ≡ emit (sink l 0) xs → l' ≡ take (length l) xs ++ drop (length (take (length l) xs)) l
unfolding list_of
front l xs l' r e =
    let n : ℕ = length l in
    let a : List ℕ = take n xs in
    let k : length a ≤ n = rw length-take (omega arith) in
    cases (leb (length xs) n)
    (λ h. let t : a ≡ xs = take_all n xs (leb-true (length xs) n h) in rw t (fitted l xs l' r e (leb-true (length xs) n h)).1)
    (λ h.
    let m : length a ≡ n = length-take-le n xs (let q = leb-false (length xs) n h in omega arith) in
    let w : length (written l 0 a) ≤ 0 + length a = rw (length-append a (drop (0 + length a) l), length-drop (0 + length a) l) (omega arith) in
    ap list_of (e ∙ ap (emit (sink l 0)) (sym (take-append-drop n xs)) ∙ emit_append (sink l 0) a (drop n xs) ∙ ap (λ (s : Sink ℕ). emit s (drop n xs)) (emit_room l a 0 (omega arith)))
    ∙ full (written l 0 a) (drop n xs) (0 + length a) w
    ∙ (let z : 0 + length a ≡ length a = omega arith in ap (λ (m : ℕ). a ++ drop m l) z))

pub zeros_behind : (n m : ℕ) → drop n (replicate m 0) ≡ replicate {A = ℕ} (m - n) 0
zeros_behind zero m = let e : m - 0 ≡ m = omega arith in rw e refl
zeros_behind (suc n) zero = let e : 0 - suc n ≡ 0 = omega arith in rw e refl
zeros_behind (suc n) (suc m) = let e : suc m - suc n ≡ m - n = omega arith in rw e (zeros_behind n m)

-- ---- the heads after a use

module _ (l : List ℕ) (used : Head) where
  pub heads_are : (n : ℕ) (heads heads₁ heads₂ : List ℕ) (at r : ℕ) → HeadsReady heads l n → sink heads₁ at ≡ emit (sink heads 0) (head_numbers (used ∷ []))
      → sink heads₂ r ≡ emit (sink heads₁ at) (head_numbers (without (key_of used) (kept l))) → heads₂ ≡ new_heads (kept l) used
  unfolding head_numbers emit
  heads_are n heads heads₁ heads₂ at r z e f =
      let others : List Head = without (key_of used) (kept l) in
      let ys : List ℕ = head_numbers (used ∷ others) in
      let g : sink heads₂ r ≡ emit (sink (replicate 20 0) 0) ys =
      f ∙ ap (λ (s : Sink ℕ). emit s (head_numbers others)) (e ∙ ap (λ (x : List ℕ). emit (sink x 0) (head_numbers (used ∷ []))) z.blank) in
      front (replicate 20 0) ys heads₂ r g
      ∙ ap (λ (x : List ℕ). x ++ drop (length x) (replicate 20 0)) (heads_written used others)
      ∙ rw (zeros_behind (length (head_numbers (used ∷ take 3 others))) 20) (sym (lent_accepted 0 20 (head_numbers (used ∷ take 3 others))))

  heads_copied : (l' l'' heads : List ℕ) (r : ℕ) → heads ≡ new_heads (kept l) used → length heads ≡ 20 → Copied l' l'' 0 heads r → l'' ≡ after_use l' (kept l) used
  unfolding after_use with_heads
  heads_copied l' l'' heads r e n c = c.bytes ∙ rw (n, e) refl

  pub use_written : (l'' heads : List ℕ) (r : ℕ) → heads ≡ new_heads (kept l) used → length heads ≡ 20 → Copied l l'' 0 heads r → l'' ≡ after_use l (kept l) used
  use_written l'' heads r e n c = heads_copied l l'' heads r e n c

-- ---- a new wrap

module _ (l : List ℕ) (k : Key) (rows : List ℕ) (count : ℕ) where
  abbrev pairs : List ℕ
  pairs = take (2 * count) rows

  pub keep_many : 1024 < count → l ≡ with_wrap l (kept l) k count pairs
  unfolding with_wrap
  keep_many h = rw (lt-leb count 1024 h) refl

  pub keep_written : (block : ℕ) (l₁ l₂ heads : List ℕ) (r₁ r₂ : ℕ) → count ≤ 1024 → NewBlock l block → heads ≡ new_heads (kept l) (head k count block) → length heads ≡ 20
      → Copied l l₁ (20 + 2048 * block) pairs r₁ → Copied l₁ l₂ 0 heads r₂ → l₂ ≡ with_wrap l (kept l) k count pairs
  unfolding with_wrap
  keep_written block l₁ l₂ heads r₁ r₂ h b e n c d =
      heads_copied l (head k count block) l₁ l₂ heads r₂ e n d ∙ rw (le-leb count 1024 h, ← b.is, ← c.bytes) refl

  pub keep_fits : (block : ℕ) → length l ≡ 8212 → block < 4 → count ≤ 1024 → 20 + 2048 * block + length pairs ≤ length l
  keep_fits block z b h = rw length-take (omega arith)

-- ---- its block

module _ (l : List ℕ) (n : ℕ) (c : Kept l n) where
  pub block_next : n < 4 → NewBlock l n
  block_next h = record { is = c.count ∙ sym (new_block_law l ∙ rw (lt-ltb (length (kept l)) 4 (omega (arith, c.count)))); low = h }

  pub block_last : (h : Head) → h ≡ head_at l 3 → 4 ≤ n → NewBlock l h.block
  block_last h e k =
      let i : h.block ≡ new_block (kept l) = ap (λ (x : Head). x.block) e ∙ sym (new_block_law l ∙ rw (le-ltb (length (kept l)) 4 (omega (arith, c.count)))) in
      record { is = i; low = rw i (new_block_low l) }

-- ---- the rows of a kept wrap

module _ (rows l : List ℕ) (h : Head) where
  pub rows_unlisted : (b : Bool) → not b ≡ true → rows ≡ listed b (some h) l rows
  unfolding listed
  rows_unlisted true e = absurd (let z : ◌≡◌ {A = ℕ} 0 1 = cc in omega arith)
  rows_unlisted false e = refl

  pub rows_fit : (b : Bool) (from to : ℕ) → not b ≡ false → ListReady rows l h b → from ≡ 20 + 2048 * h.block → to ≡ from + 2 * h.count → 0 + length (take (to - from) (drop from l)) ≤ length rows
  rows_fit true from to z r e f = rw length-take (omega (arith, r.room refl))
  rows_fit false from to z r e f = absurd (let y : ◌≡◌ {A = ℕ} 0 1 = cc in omega arith)

  pub rows_listed : (b : Bool) (rows' : List ℕ) (from to r : ℕ) → not b ≡ false → from ≡ 20 + 2048 * h.block → to ≡ from + 2 * h.count → Copied rows rows' 0 (take (to - from) (drop from l)) r → rows' ≡ listed b (some h) l rows
  unfolding listed
  rows_listed true rows' from to r z e f c =
      let m : to - from ≡ 2 * h.count = omega arith in
      c.bytes ∙ ap (written rows 0) (ap₂ (λ (a b : ℕ). take a (drop b l)) m e)
  rows_listed false rows' from to r z e f c = absurd (let y : ◌≡◌ {A = ℕ} 0 1 = cc in omega arith)

-- ---- what is remembered of a call

pub and_false : (b : Bool) → (b && false) ≡ false
and_false true = refl
and_false false = refl

module _ (k : Key) (lists : Bool) (number count : ℕ) (l rows : List ℕ) where
  pub remember_refused : (ltb 0 number || (eqb k.mode 0 && not lists)) ≡ true → Remembered k lists number count l rows l rows
  unfolding unless_refused listed
  remember_refused = go number lists
    where
      go : (n : ℕ) (b : Bool) → (ltb 0 n || (eqb k.mode 0 && not b)) ≡ true → Remembered k b n count l rows l rows
      go zero true e = absurd (let y : ◌≡◌ {A = ℕ} 0 1 = cc (and_false (eqb k.mode 0)) in omega arith)
      go zero false e = record { left = rw e refl; list = refl }
      go (suc n) b e = record { left = refl; list = refl }

  module _ (used : (ltb 0 number || (eqb k.mode 0 && not lists)) ≡ false) where
    none_refused : number ≡ 0
    none_refused = cases (ltb 0 number) (λ a. absurd (let z : true ≡ false = rw a at used in let y : ◌≡◌ {A = ℕ} 0 1 = cc in omega arith)) (λ a. let b = ltb-false 0 number a in omega arith)

    module _ (ready : RememberReady k lists number count l (length rows)) where
      pub list_ready : (h : Head) → find k (kept l) ≡ some h → ListReady rows l h lists
      list_ready h e = record { size = ready.size; within = found_within l k h e; room = λ y. ready.found h y none_refused e }

      pub keep_ready : (n : ℕ) → Kept l n → KeepReady l n rows count
      keep_ready n c = record { kept = c; room = ready.room none_refused }

    a_use : (eqb k.mode 0 && not lists) ≡ false
    a_use = let z : (ltb 0 number || (eqb k.mode 0 && not lists)) ≡ (eqb k.mode 0 && not lists) = rw (le-ltb 0 number (omega (arith, none_refused))) refl in sym z ∙ used

    pub remember_found : (h : Head) (rows' l' : List ℕ) → find k (kept l) ≡ some h → rows' ≡ listed lists (some h) l rows → l' ≡ after_use l (kept l) h → Remembered k lists number count l rows l' rows'
    unfolding unless_refused wraps_after
    remember_found h rows' l' e f g = record { left = rw (none_refused, a_use, e) g; list = rw (none_refused, e) f }

    pub remember_new : (l' : List ℕ) → find k (kept l) ≡ none → l' ≡ with_wrap l (kept l) k count (take (2 * count) rows) → Remembered k lists number count l rows l' rows
    unfolding unless_refused wraps_after listed
    remember_new l' e g = record { left = rw (none_refused, a_use, e) g; list = rw (none_refused, e) (unlisted lists) }
      where
        unlisted : (b : Bool) → rows ≡ listed b none l rows
        unlisted true = refl
        unlisted false = refl
