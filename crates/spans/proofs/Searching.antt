-- The ends of the functions that search a line for ESCAPE_SEQUENCE matches and carry offsets back.
use mathlib.Core.Path.{◌≡◌, refl, sym, ap, ap₂, ◌∙◌}
use Prim.Native.Nat.{ℕ, zero, suc, ◌+◌, ◌-◌, ◌≤◌, ◌<◌, suc-le-suc}
use native.Mathlib.Nat.{add-zero}
use native.Mathlib.Numerals.{add-one}
use native.Mathlib.Omega.{arith}
use mathlib.Core.Bool.{Bool, true, false, cond, ◌&&◌, and-false}
use mathlib.Core.List.{List, [], ◌∷◌, ◌++◌}
use mathlib.Core.Logic.{◌≢◌}
use Rattle.std.specs.Prelude.{Option, Some, None, MatchOption, unwrap_or}
use Rattle.std.specs.List.{prefix_len}
use Rattle.std.proofs.lemmas.Slice.Eq.{strip_prefix_is, strip_suffix_is}
use Rattle.std.proofs.lemmas.Bool.Decides.{Decides-eqb}
use lib.Pointwise.{pointwise}
use denote.Ref.{Bor}
use Rattle.spans.proofs.Sequences.{leading_is}
use lib.ListN.{length-append, length-drop, length, take, drop, get_or, drop_of_length-le, get_or-eq_default}
use Rattle.std.proofs.Math.Seq.{take-append_seam}
use Rattle.std.proofs.Common.{append_assoc}
use lib.Seq.{length-take-le, take-length, drop-cons, drop-drop, drop-nil, get_or-drop}
use lib.Dec.{eqb, leb, ltb, eqb→eq, ltb→lt, nltb→le}
use borrow.Author.Tests.{eqb-true, ne_eqb, lt-ltb, le-ltb}
use Rattle.text.specs.Tests.{cases, and_T, true_T}
use Rattle.spans.specs.Sequence.{leading}
use Rattle.spans.specs.Search.{EscapeRange, escape_range, sequence_byte, escape_match, add_escape, escapes_from, trimmed, escapes, length_of, searched_length, in_order, offset_from}
use Rattle.spans.specs.Search.Contracts.{EscapeMatched, escapes_at, escapes_of, EscapeInside, escape_of, NextEscape, EscapesLength, pair_in_order, offset_on, offsets_from, offsets_on, OffsetsFrom, FirstOffsets, OffsetAt}
use Rattle.spans.specs.declared.search.Escape.{Escape}
use Rattle.spans.specs.declared.search.Offsets.{Offsets}

-- ---- the match at the start

match_other : (s : List ℕ) → ((rest : List ℕ) → s ≢ 0x1B ∷ 0x5B ∷ rest) → escape_match s ≡ 0
unfolding escape_match
match_other [] h = refl
match_other (a ∷ []) h = rw (and-false (eqb a 0x1B)) refl
match_other (a ∷ b ∷ s) h =
    cases (eqb a 0x1B)
    (λ e. cases (eqb b 0x5B) (λ f. absurd (h s (rw (eqb-true a 0x1B e, eqb-true b 0x5B f) refl))) (λ f. rw (e, f) refl))
    (λ e. rw e refl)

two_more : (n : ℕ) → 2 + n ≡ suc (suc n)
two_more n = omega arith

match_unlike_first : (s : List ℕ) → get_or s 0 0 ≢ 0x1B → escape_match s ≡ 0
unfolding escape_match
match_unlike_first s h = rw (ne_eqb (get_or s 0 0) 0x1B h) refl

match_is : (s t : List ℕ) (n f : ℕ) → s ≡ 0x1B ∷ 0x5B ∷ t → n ≡ prefix_len sequence_byte t → f ≡ get_or t n 0 → escape_match s ≡ cond (leb n 32 && eqb f 0x6D) (3 + n) 0
unfolding escape_match
match_is s t n f e p q =
    let k : leading sequence_byte t ≡ n = leading_is sequence_byte t ∙ sym p in
    rw (e, k, two_more n, q) refl

module _ (s : List ℕ) (r : Option (Bor (List ℕ))) (h : MatchOption r (pointwise eqb (take 2 s) (0x1B ∷ 0x5B ∷ []) ≡ false)
    (λ x. (pointwise eqb (take 2 s) (0x1B ∷ 0x5B ∷ []) ≡ true) × (x.now ≡ drop 2 s) × (length x.now + 2 ≡ length s))) where
  begins : MatchOption r ((rest : List ℕ) → s ≢ 0x1B ∷ 0x5B ∷ rest) (λ x. s ≡ 0x1B ∷ 0x5B ∷ x.now)
  begins = strip_prefix_is Decides-eqb s (0x1B ∷ 0x5B ∷ []) r h

  pub match_unlike : r ≡ None → EscapeMatched s None
  match_unlike e = match_other s (rw e at begins)

  module _ (x : Bor (List ℕ)) (e : r ≡ Some x) (n f : ℕ) (p : n ≡ prefix_len sequence_byte x.now) (q : f ≡ get_or x.now n 0) where
    like : s ≡ 0x1B ∷ 0x5B ∷ x.now
    like = rw e at begins

    pub match_some : (leb n 32 && eqb f 0x6D) ≡ true → EscapeMatched s (Some (3 + n))
    match_some w =
        let m : f ≡ 0x6D = eqb→eq f 0x6D (and_T (leb n 32) (eqb f 0x6D) (true_T w)).1 in
        let i : n < length x.now =
        cases (ltb n (length x.now)) (λ l. ltb→lt _ _ (true_T l)) (λ l. absurd (let o : get_or x.now n 0 ≡ 0 = get_or-eq_default x.now 0 (nltb→le _ _ (rw l tt)) in omega (arith, o, m, q))) in
        (match_is s x.now n f like p q ∙ rw w refl, omega arith, omega (arith, i, ap length like))

    pub match_none : (leb n 32 && eqb f 0x6D) ≡ false → EscapeMatched s None
    match_none w = match_is s x.now n f like p q ∙ rw w refl

-- ---- the next match

skip_over : (s : List ℕ) → (p k : ℕ) → escapes_from p k s ≡ escapes_from (p + k) 0 (drop k s)
unfolding escapes_from
skip_over [] = λ p k. rw (drop-nil k)
skip_over (b ∷ s) = λ p k. go (λ p k. skip_over s p k) p k
  where
    go : ((p k : ℕ) → escapes_from p k s ≡ escapes_from (p + k) 0 (drop k s)) → (p k : ℕ) → escapes_from p k (b ∷ s) ≡ escapes_from (p + k) 0 (drop k (b ∷ s))
    go ih p zero = ap (λ (q : ℕ). escapes_from q 0 (b ∷ s)) (sym (add-zero p))
    go ih p (suc k) = let q : suc p + k ≡ p + suc k = omega arith in ih (suc p) k ∙ ap (λ (q : ℕ). escapes_from q 0 (drop k s)) q

escapes_at_law : (s : List ℕ) (i n : ℕ) → i < length s → n ≡ escape_match (drop i s) → escapes_at s i ≡ add_escape i n (λ k. escapes_from (suc i) k (drop (suc i) s))
unfolding escapes_from
escapes_at_law s i n h e = let d : drop i s ≡ get_or s i 0 ∷ drop (suc i) s = drop-cons s i 0 h in rw (e, d)

segment_at : (s : List ℕ) (i n : ℕ) → n ≢ 0 → add_escape i n (λ k. escapes_from (suc i) k (drop (suc i) s)) ≡ escape_range i (i + n) ∷ escapes_at s (i + n)
unfolding add_escape
segment_at s i zero h = absurd (h refl)
segment_at s i (suc k) h =
    let q : suc i + k ≡ i + suc k = omega arith in
    ap (λ (l : List EscapeRange). escape_range i (i + suc k) ∷ l) (skip_over (drop (suc i) s) (suc i) k ∙ ap₂ (λ (p : ℕ) (l : List ℕ). escapes_from p 0 l) q (drop-drop k (suc i) s ∙ ap (λ (p : ℕ). drop p s) q))

escapes_none : (s : List ℕ) (i : ℕ) → length s ≤ i → escapes_at s i ≡ []
unfolding escapes_from
escapes_none s i h = rw (drop_of_length-le s h)

pub record EscapeLoop (s : List ℕ) (at i : ℕ) : Type 0 where
  pub same : escapes_at s i ≡ escapes_at s at
  pub low : at ≤ i

pub escape_begins : (s : List ℕ) (at : ℕ) → EscapeLoop s at at
escape_begins s at = record { same = refl; low = omega arith }

module _ (s : List ℕ) (at i : ℕ) (z : EscapeLoop s at i) where
  pub escape_more : i < length s → EscapeMatched (drop i s) None → EscapeLoop s at (i + 1)
  unfolding add_escape
  escape_more h m =
      record { same = ap (escapes_at s) (add-one i) ∙ sym (escapes_at_law s i 0 h (sym m)) ∙ z.same; low = omega (arith, z.low) }

  pub escape_unlike : i < length s → get_or s i 0 ≢ 0x1B → EscapeLoop s at (i + 1)
  escape_unlike h e =
      let first : get_or (drop i s) 0 0 ≡ get_or s i 0 = get_or-drop i s 0 0 ∙ ap (λ (k : ℕ). get_or s k 0) (add-zero i) in
      escape_more h (match_unlike_first (drop i s) (λ f. e (sym first ∙ f)))

  pub escape_found : (n : ℕ) → i < length s → EscapeMatched (drop i s) (Some n) → NextEscape s at (Some (record { from = i; upto = i + n }))
  unfolding escapes_of escape_of
  escape_found n h m =
      let same : escape_range i (i + n) ∷ escapes_at s (i + n) ≡ escapes_at s at = sym (escapes_at_law s i n h (sym m.0) ∙ segment_at s i n (λ e. omega (arith, m.1))) ∙ z.same in
      record {
        exact = ap escape_of same;
        same = same;
        lies = record { low = z.low; some = omega (arith, m.1); inside = omega (arith, m.2, length-drop i s) };
      }

  pub escape_past : length s ≤ i → NextEscape s at None
  unfolding escapes_of escape_of
  escape_past h = let same : [] ≡ escapes_at s at = sym (escapes_none s i h) ∙ z.same in record { exact = ap escape_of same; same = same; lies = tt }

-- ---- trim_trailing_newline

trimmed_more : (a : ℕ) (s : List ℕ) → 2 ≤ length s → trimmed (a ∷ s) ≡ suc (trimmed s)
unfolding trimmed
trimmed_more a [] h = absurd (omega arith)
trimmed_more a (b ∷ []) h = absurd (omega arith)
trimmed_more a (b ∷ c ∷ s) h = refl

trimmed_crlf : (s : List ℕ) → trimmed (s ++ 0x0D ∷ 0x0A ∷ []) ≡ length s
unfolding trimmed
trimmed_crlf [] = refl
trimmed_crlf (a ∷ s) = trimmed_more a (s ++ 0x0D ∷ 0x0A ∷ []) (omega (arith, length-append s (0x0D ∷ 0x0A ∷ []))) ∙ ap suc (trimmed_crlf s)

trimmed_lf : (s : List ℕ) → ((line : List ℕ) → s ≢ line ++ 0x0D ∷ []) → trimmed (s ++ 0x0A ∷ []) ≡ length s
unfolding trimmed
trimmed_lf [] h = refl
trimmed_lf (a ∷ []) h = rw (ne_eqb a 0x0D (λ e. h [] (rw e refl))) refl
trimmed_lf (a ∷ b ∷ s) h =
    trimmed_more a (b ∷ s ++ 0x0A ∷ []) (omega (arith, length-append s (0x0A ∷ [])))
    ∙ ap suc (trimmed_lf (b ∷ s) (λ line e. h (a ∷ line) (ap (λ (l : List ℕ). a ∷ l) e)))

trimmed_all : (s : List ℕ) → ((line : List ℕ) → s ≢ line ++ 0x0A ∷ []) → trimmed s ≡ length s
unfolding trimmed
trimmed_all [] h = refl
trimmed_all (a ∷ []) h = rw (ne_eqb a 0x0A (λ e. h [] (rw e refl))) refl
trimmed_all (a ∷ b ∷ []) h = rw (ne_eqb b 0x0A (λ e. h (a ∷ []) (rw e refl))) refl
trimmed_all (a ∷ b ∷ c ∷ s) h = ap suc (trimmed_all (b ∷ c ∷ s) (λ line e. h (a ∷ line) (ap (λ (l : List ℕ). a ∷ l) e)))

-- what `strip_suffix` says
abbrev Stripped : List ℕ → List ℕ → Option (Bor (List ℕ)) → Type 0
Stripped s p r = MatchOption r (pointwise eqb (drop (length s - length p) s) p ≡ false) (λ x. (pointwise eqb (drop (length s - length p) s) p ≡ true) × (x.now ≡ take (length s - length p) s) × (length x.now + length p ≡ length s))

abbrev Front : List ℕ → List ℕ → Option (Bor (List ℕ)) → Type 0
Front s p r = MatchOption r ((line : List ℕ) → s ≢ line ++ p) (λ x. s ≡ x.now ++ p)

front : (s p : List ℕ) (r : Option (Bor (List ℕ))) → Stripped s p r → Front s p r
front s p r h = strip_suffix_is Decides-eqb s p r h

module _ (s : List ℕ) (r : Option (Bor (List ℕ))) (h : Stripped s (0x0A ∷ []) r) where
  pub without_none : r ≡ None → s ≡ take (trimmed s) s
  without_none e =
      let k = rw e at (front s (0x0A ∷ []) r h) in
      rw (trimmed_all s k) (sym (take-length s))

  pub without_some : (x : Bor (List ℕ)) → r ≡ Some x → (q : Option (Bor (List ℕ))) → Stripped x.now (0x0D ∷ []) q → (z : Bor (List ℕ)) → z ≡ unwrap_or q x → z.now ≡ take (trimmed s) s
  without_some x e q w z f =
      let k : s ≡ x.now ++ 0x0A ∷ [] = rw e at (front s (0x0A ∷ []) r h) in
      rw f (go q (front x.now (0x0D ∷ []) q w) k)
    where
      go : (q : Option (Bor (List ℕ))) → Front x.now (0x0D ∷ []) q → s ≡ x.now ++ 0x0A ∷ [] → (unwrap_or q x).now ≡ take (trimmed s) s
      go None m k = rw (k, trimmed_lf x.now m) (sym (take-append_seam x.now (0x0A ∷ [])))
      go (Some y) m k =
          let l : s ≡ y.now ++ 0x0D ∷ 0x0A ∷ [] = k ∙ ap (λ (l : List ℕ). l ++ 0x0A ∷ []) m ∙ append_assoc y.now (0x0D ∷ []) (0x0A ∷ []) in
          rw (l, trimmed_crlf y.now) (sym (take-append_seam y.now (0x0D ∷ 0x0A ∷ [])))

-- ---- the bytes of all matches

pub record LengthLoop (s : List ℕ) (at sum : ℕ) : Type 0 where
  pub same : sum + length_of (escapes_at s at) ≡ length_of (escapes_from 0 0 s)
  pub few : sum ≤ at
  pub inside : at ≤ length s

module _ (s : List ℕ) (at sum : ℕ) (z : LengthLoop s at sum) where
  module _ (e : Escape) (m : NextEscape s at (Some e)) where
    length_rest : length_of (escapes_at s at) ≡ e.upto - e.from + length_of (escapes_at s e.upto)
    unfolding escapes_of length_of
    length_rest = ap length_of (sym m.same)

    pub length_more : LengthLoop s e.upto (sum + (e.upto - e.from))
    length_more =
        let l = m.lies in
        record { same = omega (arith, z.same, length_rest); few = omega (arith, z.few, l.low, l.some); inside = l.inside }

  pub length_ends : NextEscape s at None → EscapesLength s sum
  unfolding escapes_of length_of
  length_ends m =
      let k : length_of (escapes_at s at) ≡ 0 = ap length_of (sym m.same) in
      record { same = omega (arith, z.same, k); fits = omega (arith, z.few, z.inside) }

pub trimmed_fits : (s : List ℕ) → trimmed s ≤ length s
unfolding trimmed
trimmed_fits [] = omega arith
trimmed_fits (a ∷ []) = cases (eqb a 0x0A) (λ e. rw e (omega arith)) (λ e. rw e (omega arith))
trimmed_fits (a ∷ b ∷ []) = cases (eqb b 0x0A) (λ e. cases (eqb a 0x0D) (λ f. rw (e, f) (omega arith)) (λ f. rw (e, f) (omega arith))) (λ e. rw e (omega arith))
trimmed_fits (a ∷ b ∷ c ∷ s) = suc-le-suc (trimmed_fits (b ∷ c ∷ s))

pub searched_is : (s t : List ℕ) (k : ℕ) → t ≡ take (trimmed s) s → EscapesLength t k → length t - k ≡ searched_length s
unfolding searched_length escapes
searched_is s t k e m = rw (m.same, e, length-take-le (trimmed s) s (trimmed_fits s)) refl

-- ---- question 3

pair_and : (a b c d : Bool) → a && (b && (c && d)) ≡ (a && (b && c)) && d
pair_and true true c d = refl
pair_and true false c d = refl
pair_and false b c d = refl

pub pair_first : (most e a b : ℕ) (ms : List ℕ) → in_order most e (a ∷ b ∷ ms) ≡ pair_in_order e a b most && in_order most b ms
unfolding in_order
pair_first most e a b ms = pair_and (leb e a) (leb a b) (leb b most) (in_order most b ms)

two_first : (m : List ℕ) → 2 ≤ length m → m ≡ get_or m 0 0 ∷ get_or m 1 0 ∷ drop 2 m
two_first [] h = absurd (omega arith)
two_first (a ∷ []) h = absurd (omega arith)
two_first (a ∷ b ∷ m) h = refl

module _ (most e : ℕ) (m : List ℕ) (x : Bool) (z : in_order most e m ≡ x) where
  module _ (h : 2 ≤ length m) (r : Bool) (p : r ≡ pair_in_order e (get_or m 0 0) (get_or m 1 0) most) where
    pair_then : r && in_order most (get_or m 1 0) (drop 2 m) ≡ x
    pair_then = rw p (sym (pair_first most e (get_or m 0 0) (get_or m 1 0) (drop 2 m)) ∙ ap (in_order most e) (sym (two_first m h)) ∙ z)

    pub pair_fails : r ≡ false → false ≡ x
    pair_fails q = rw q at pair_then

    pub pair_passes : r ≡ true → in_order most (get_or m 1 0) (take (length m - 2) (drop 2 m)) ≡ x
    pair_passes q =
        let k : take (length m - 2) (drop 2 m) ≡ drop 2 m = ap (λ (n : ℕ). take n (drop 2 m)) (sym (length-drop 2 m)) ∙ take-length (drop 2 m) in
        rw k (rw q at pair_then)

  order_none : (m : List ℕ) → length m < 2 → eqb (length m) 0 ≡ in_order most e m
  unfolding in_order
  order_none [] h = refl
  order_none (a ∷ []) h = refl
  order_none (a ∷ b ∷ m) h = absurd (omega arith)

  pub order_ends : length m < 2 → (r : Bool) → r ≡ eqb (length m) 0 → r ≡ x
  order_ends h r q = q ∙ order_none m h ∙ z

-- ---- convert_offset

-- a match that was looked for is the first of those from it on
next_first : (s : List ℕ) (at : ℕ) (e : Option Escape) → NextEscape s at e → e ≡ escape_of (escapes_of s e)
next_first s at e m = m.exact ∙ ap escape_of (sym m.same)

pub offsets_begin : (s : List ℕ) (e : Option Escape) → NextEscape s 0 e → FirstOffsets s (record { origin = 0; passed = 0; next = e })
unfolding offset_on
offsets_begin s e m = record {
  exact = ap (λ (n : Option Escape). record { origin = 0; passed = 0; next = n }) m.exact;
  from = record {
    same = λ x h. let k : x - 0 ≡ x = omega arith in rw k (ap (offset_from 0 x) m.same);
    passed = omega arith;
    inside = omega arith;
    lies = m.lies;
    next = next_first s 0 e m;
  };
}

pub record OffsetLoop (s : List ℕ) (x : ℕ) (o₀ o : Offsets) : Type 0 where
  pub on : offsets_on s o x ≡ offsets_on s o₀ x
  pub from : OffsetsFrom s x o
  pub small : length s ≤ 65536
  pub near : x ≤ 65536

module _ (s : List ℕ) (x : ℕ) (o₀ o : Offsets) (z : OffsetLoop s x o₀ o) where
  -- what is left of an offset, in the code's bounds
  pub offset_fits : (o.passed ≤ x) × (o.origin + (x - o.passed) ≤ length s + x)
  offset_fits = let w = z.from in (w.passed, omega (arith, w.passed, w.inside))

  at_end : o.next ≡ None → o.origin + (x - o.passed) ≡ offset_from 0 x (escapes_from 0 0 s)
  unfolding offset_on escapes_of offset_from
  at_end f = rw f at (z.from.same x (omega arith))

  -- no match follows: the reading stays
  stays_end : o.next ≡ None → o ≡ offsets_on s o₀ x
  unfolding offsets_on offsets_from escapes_of
  stays_end f =
      let m : escapes_of s o.next ≡ [] = rw f refl in
      ap (λ (e : Option Escape). record { origin = o.origin; passed = o.passed; next = e }) (z.from.next ∙ ap escape_of m) ∙ ap (offsets_from o.origin o.passed x) (sym m) ∙ z.on

  pub offset_ends : o.next ≡ None → OffsetAt s o₀ x (record { value = o.origin + (x - o.passed); offsets = o })
  offset_ends f = record { same = at_end f; near = offset_fits.1; exact = stays_end f; from = z.from }

  module _ (next : Escape) (f : o.next ≡ Some next) where
    offset_more : (y : ℕ) → offset_on s o y ≡ cond (ltb (o.origin + (y - o.passed)) next.from) (o.origin + (y - o.passed)) (offset_from next.upto (y - o.passed - (next.from - o.origin)) (escapes_at s next.upto))
    unfolding offset_on escapes_of offset_from
    offset_more y = rw f refl

    offsets_more : offsets_on s o x ≡ cond (ltb (o.origin + (x - o.passed)) next.from) o (offsets_from next.upto (o.passed + (next.from - o.origin)) x (escapes_at s next.upto))
    unfolding offsets_on offsets_from escapes_of
    offsets_more = rw f refl

    pub offset_here : o.origin + (x - o.passed) < next.from → OffsetAt s o₀ x (record { value = o.origin + (x - o.passed); offsets = o })
    offset_here h =
        record {
          same = sym (sym (z.from.same x (omega arith)) ∙ offset_more x ∙ rw (lt-ltb (o.origin + (x - o.passed)) next.from h));
          near = offset_fits.1;
          exact = sym (offsets_more ∙ rw (lt-ltb (o.origin + (x - o.passed)) next.from h)) ∙ z.on;
          from = z.from;
        }

    lies_next : EscapeInside s o.origin next
    lies_next = rw f at z.from.lies

    pub offset_passed : next.from ≤ o.origin + (x - o.passed) → o.passed + (next.from - o.origin) ≤ x
    offset_passed h = omega (arith, lies_next.low, z.from.passed)

    pub offset_again : (e : Option Escape) → next.from ≤ o.origin + (x - o.passed) → NextEscape s next.upto e
        → OffsetLoop s x o₀ (record { origin = next.upto; passed = o.passed + (next.from - o.origin); next = e })
    unfolding offset_on offset_from offsets_on
    offset_again e h m =
        record {
          on = ap (offsets_from next.upto (o.passed + (next.from - o.origin)) x) m.same ∙ sym (offsets_more ∙ rw (le-ltb (o.origin + (x - o.passed)) next.from h)) ∙ z.on;
          from = record {
            same = λ y k. sym (sym (z.from.same y k) ∙ offset_more y ∙ rw (le-ltb (o.origin + (y - o.passed)) next.from (omega (arith, h, k))) (later y m.same));
            passed = offset_passed h;
            inside = lies_next.inside;
            lies = m.lies;
            next = next_first s next.upto e m;
          };
          small = z.small;
          near = z.near;
        }
      where
        later : (y : ℕ) → escapes_of s e ≡ escapes_at s next.upto
            → offset_from next.upto (y - o.passed - (next.from - o.origin)) (escapes_at s next.upto) ≡ offset_on s (record { origin = next.upto; passed = o.passed + (next.from - o.origin); next = e }) y
        later y q = let d : y - o.passed - (next.from - o.origin) ≡ y - (o.passed + (next.from - o.origin)) = omega arith in ap₂ (λ (r : ℕ) (l : List EscapeRange). offset_from next.upto r l) d (sym q)
