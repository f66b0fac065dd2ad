-- Little-endian numbers by their bytes, the head of a record, and the records from a place on.
use mathlib.Core.Path.{◌≡◌, refl, sym, ap, ◌∙◌}
use mathlib.Core.Logic.{inl, inr, ⊎_elim, ◌≢◌}
use Prim.Native.Nat.{ℕ, ◌+◌, ◌-◌, ◌*◌, ◌≤◌, ◌<◌}
use native.Mathlib.Omega.{arith}
use mathlib.Core.List.{List, [], ◌∷◌}
use mathlib.Core.Bool.{true}
use lib.ListN.{length, take, drop, get_or, length-drop, drop_of_length-le}
use lib.Seq.{get_or-drop, drop-drop, length-take-le}
use lib.Dec.{leb}
use borrow.Author.Tests.{le-leb, lt-leb, leb-true, leb-false}
use Rattle.text.specs.Tests.{cases}
use Rattle.screen.specs.Records.{little_endian, Record, record_at, records}
use Rattle.screen.specs.Records.Laws.{records_first, records_nil, same_record}
use Rattle.screen.specs.Records.Contracts.{LengthSize, HeadReady, head_at, record_of}
use Rattle.screen.specs.declared.records.Head.{Head}

two_bytes_law : (s : List ℕ) → little_endian (take 2 s) ≡ get_or s 0 0 + 256 * get_or s 1 0
unfolding little_endian
two_bytes_law [] = refl
two_bytes_law (a ∷ []) = omega arith
two_bytes_law (a ∷ b ∷ s) = omega arith

four_bytes_law : (s : List ℕ) → little_endian (take 4 s) ≡ little_endian (take 2 s) + 65536 * little_endian (take 2 (drop 2 s))
unfolding little_endian
four_bytes_law [] = refl
four_bytes_law (a ∷ []) = omega arith
four_bytes_law (a ∷ b ∷ []) = omega arith
four_bytes_law (a ∷ b ∷ c ∷ []) = omega arith
four_bytes_law (a ∷ b ∷ c ∷ d ∷ s) = omega arith

module _ (list : List ℕ) (at : ℕ) where
  pub le2_is : (x y : ℕ) → x ≡ get_or list at 0 → y ≡ get_or list (at + 1) 0 → x + 256 * y ≡ little_endian (take 2 (drop at list))
  le2_is x y e f =
      let n : at + 0 ≡ at = omega arith in
      let a : get_or (drop at list) 0 0 ≡ x = get_or-drop at list 0 0 ∙ ap (λ (k : ℕ). get_or list k 0) n ∙ sym e in
      let b : get_or (drop at list) 1 0 ≡ y = get_or-drop at list 1 0 ∙ sym f in
      sym (two_bytes_law (drop at list) ∙ rw (a, b) refl)

  module _ (size : ℕ) (ready : HeadReady list at size) (x : ℕ) (low : x ≡ little_endian (take 2 (drop at list))) where
    pub length_two : size ≡ 2 → x ≡ little_endian (take size (drop at list))
    length_two e = rw e low

    pub length_four : (size ≢ 2) → (y : ℕ) → y ≡ little_endian (take 2 (drop (at + 2) list)) → x + 65536 * y ≡ little_endian (take size (drop at list))
    length_four n y high =
        let e : size ≡ 4 = ⊎_elim (λ z. absurd (n z)) (λ z. z) ready.sizes in
        rw (e, four_bytes_law (drop at list), drop-drop 2 at list, ← low, ← high) refl

pub head_is : (list : List ℕ) (at size n k : ℕ) → n ≡ little_endian (take size (drop at list)) → k ≡ little_endian (take 2 (drop (at + size) list))
    → record { kind = k; start = at + size + 2; len = n; whole = leb (at + size + 2 + n) (length list) } ≡ head_at size list at
unfolding head_at
head_is list at size n k e f = rw (e, f) refl

pub body_is : (list : List ℕ) (start len : ℕ) → take (start + len - start) (drop start list) ≡ take len (drop start list)
body_is list start len = ap (λ (n : ℕ). take n (drop start list)) (let e : start + len - start ≡ len = omega arith in e)

pub size_small : {n : ℕ} → LengthSize n → n ≤ 4
size_small (inl e) = omega arith
size_small (inr e) = omega arith

-- ---- the records from a place on

behind_le : (at n m : ℕ) → at ≤ m → leb n (m - at) ≡ leb (at + n) m
behind_le at n m h = cases (leb (at + n) m) (λ e. rw e (le-leb n (m - at) (let k = leb-true (at + n) m e in omega arith))) (λ e. rw e (lt-leb n (m - at) (let k = leb-false (at + n) m e in omega arith)))

pub records_end : (n : ℕ) (list : List ℕ) (at : ℕ) → length list ≤ at → records n (drop at list) ≡ []
records_end n list at h = rw (drop_of_length-le list h) (records_nil n)

module _ (n : ℕ) (list : List ℕ) (at : ℕ) (less : at < length list) (h : Head) (is : h ≡ head_at n list at) where
  record_head : record_at n (drop at list) ≡ record_of list h
  unfolding record_at head_at
  record_head =
      let size : ℕ = little_endian (take n (drop at list)) in
      let k : at + (n + 2 + size) ≡ at + n + 2 + size = omega arith in
      let j : at + (n + 2) ≡ at + n + 2 = omega arith in
      rw is (same_record
      (ap (leb (n + 2 + size)) (length-drop at list) ∙ behind_le at (n + 2 + size) (length list) (omega arith) ∙ ap (λ (x : ℕ). leb x (length list)) k)
      (ap (λ (l : List ℕ). little_endian (take 2 l)) (drop-drop n at list))
      (ap (take size) (drop-drop (n + 2) at list ∙ ap (λ (x : ℕ). drop x list) j)))

  pub head_whole : h.whole ≡ leb (h.start + h.len) (length list)
  unfolding head_at
  head_whole = rw is refl

  abbrev pub behind : List Record
  behind = records n (drop (n + 2 + length (record_of list h).body) (drop at list))

  pub records_from_law : records n (drop at list) ≡ record_of list h ∷ behind
  records_from_law = records_first n (drop at list) (omega (arith, length-drop at list)) ∙ ap (λ (r : Record). r ∷ records n (drop (n + 2 + length r.body) (drop at list))) record_head

  -- head and body lie within the list
  module _ (whole : h.whole ≡ true) where
    pub head_inside : h.start + h.len ≤ length list
    unfolding head_at
    head_inside = rw is (leb-true (at + n + 2 + little_endian (take n (drop at list))) (length list) (ap (λ (x : Head). x.whole) (sym is) ∙ whole))

    pub head_start : h.start ≡ at + n + 2
    unfolding head_at
    head_start = ap (λ (x : Head). x.start) is

    pub records_next : records n (drop at list) ≡ record_of list h ∷ records n (drop (h.start + h.len) list)
    records_next =
        let l : length (record_of list h).body ≡ h.len = length-take-le h.len (drop h.start list) (omega (arith, length-drop h.start list, head_inside)) in
        let k : at + (n + 2 + length (record_of list h).body) ≡ h.start + h.len = omega (arith, l, head_start) in
        records_from_law ∙ ap (λ (s : List ℕ). record_of list h ∷ records n s) (drop-drop (n + 2 + length (record_of list h).body) at list ∙ ap (λ (x : ℕ). drop x list) k)
