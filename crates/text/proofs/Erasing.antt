-- A backspace on the result so far.
use Prim.Native.Nat.{◌%◌, ◌+◌, ◌-◌, ◌/◌, ◌<◌, ◌≤◌, ℕ}
use native.Mathlib.Numerals.{add-one}
use native.Mathlib.Omega.{arith}
use mathlib.Core.Bool.{Bool, ◌&&◌, and-false, cond, false, true}
use mathlib.Core.List.{List, [], ◌++◌, ◌∷◌, reverse, reverse-reverse, reverse_aux, reverse_aux-append, reverse_aux-eq}
use mathlib.Core.Logic.{◌≢◌}
use mathlib.Core.Path.{◌∙◌, ◌≡◌, ap, refl, sym}
use lib.Dec.{eqb, leb, ltb}
use lib.ListN.{drop, get_or, length, length-set, set, take}
use lib.Seq.{length-take-le, take_all, take-length, take-suc-set, take-take}
use borrow.Author.Tests.{eq-eqb, eqb-false, eqb-true, le-ltb, lt-ltb, ltb-false, ne_eqb}
use Rattle.text.specs.Backward.{Erased, KnownPlace, ErasedTo, back, backward, after_zwj, between_indicators, ends_in_pair, known_before, indicator_at, needs_context, pair_before, without_last}
use Rattle.text.specs.Class.{Profile, is_control, number}
use Rattle.text.specs.Cluster.{Context, context, joins, start}
use Rattle.std.specs.Prelude.{Option, None, Some}
use Rattle.text.specs.Utf8.Code.{first_sequence, sequence_or_zero, sequence_of, size, whole}
use Rattle.text.specs.Utf8.Code.Laws.{given_none, given_some, no_code}
use Rattle.text.specs.Class.Code.{profile_of}
use Rattle.text.specs.Overstrike.{backspace, erase_from}
use Rattle.text.specs.Overstrike.Code.{BackReady, Front, FrontKnown}
use Rattle.text.specs.Overstrike.Laws.{push_reverse}
use Rattle.text.specs.Scalar.{packed_at}
use Rattle.text.specs.Segmentation.{never_joins_before}
use Rattle.text.specs.Tests.{and_T, cases, is_true, true_T}
use Rattle.text.specs.Utf8.{Scalar, ascii, bytes_of, decode, decode_from, run_of}
use Rattle.text.specs.declared.backward.Erasure.{Erasure}
use Rattle.text.specs.declared.utf8.Sequence.{Sequence}
use Rattle.text.proofs.BackwardWalk.{class_of_law, last_lone}
use Rattle.text.proofs.RegionalIndicators.{known_front, known_more, known_zero, indicator_back, indicator_class, indicator_control, pair_by, pair_odd, start_behind, start_even}
use Rattle.text.proofs.Runs.{back_scalar, run_drop, run_head, run_inside, size_reverse}
use Rattle.text.proofs.Texts.{run_append, run_prefix, whole_append, whole_prefix}
use Rattle.text.specs.declared.class.Profile as code
use Rattle.text.specs.Utf8.Code.FirstSequence.{ascii_sequence}
use Rattle.text.specs.Segmentation.Boundaries.{lone_low}
use Rattle.text.specs.Utf8.Code.Laws.{none_past}

-- the last cluster's first scalar, and what erasing says of it
record First (P : Profile) (cs rev out : List Scalar) : Type 0 where
  c : Scalar
  es : List Scalar
  parts : cs ≡ reverse_aux (without_last P rev) (c ∷ es)
  erased : erase_from P out rev ≡ cond (is_control c.code) (ascii 0x08 ∷ out) (without_last P rev)
  begins : joins P (without_last P rev) c ≡ false

first : (P : Profile) (rev es out cs : List Scalar) → cs ≡ reverse_aux rev es → 1 ≤ length rev → First P cs rev out
unfolding without_last erase_from joins
first P [] es out cs e h = absurd (omega arith)
first P (c ∷ []) es out cs e h = record { c = c; es = es; parts = e; erased = refl; begins = refl }
first P (c ∷ d ∷ rest) es out cs e h =
    cases (joins P (d ∷ rest) c)
    (λ j. let f = first P (d ∷ rest) (c ∷ es) out cs e (omega arith) in record { c = f.c; es = f.es; parts = rw j f.parts; erased = rw j f.erased; begins = rw j f.begins })
    (λ j. record { c = c; es = es; parts = rw j e; erased = rw j refl; begins = rw (j, j) refl })

rev_some : (t : List ℕ) → whole t → (length t ≢ 0) → 1 ≤ length (reverse (run_of (decode t)))
unfolding size bytes_of
rev_some t w h = go (reverse (run_of (decode t))) refl
  where
    go : (rev : List Scalar) → reverse (run_of (decode t)) ≡ rev → 1 ≤ length (reverse (run_of (decode t)))
    go [] e = absurd (h (sym (ap length w) ∙ ap (λ (x : List Scalar). length (bytes_of x)) (sym (reverse-reverse (run_of (decode t))) ∙ ap reverse e)))
    go (c ∷ rest) e = rw e (omega arith)

-- the place q of the last cluster in t, and the scalar that is read there
module _ (P : Profile) (t : List ℕ) (w : whole t) (some : length t ≢ 0) (q : ℕ) (eq : q ≡ size (without_last P (reverse (run_of (decode t))))) where
  at : First P (run_of (decode t)) (reverse (run_of (decode t))) (reverse (run_of (decode t)))
  at = first P (reverse (run_of (decode t))) [] (reverse (run_of (decode t))) (run_of (decode t)) (sym (reverse-reverse (run_of (decode t)))) (rev_some t w some)

  pub kept_inside : q < length t
  kept_inside = rw eq (run_inside at.c (without_last P (reverse (run_of (decode t)))) at.es t at.parts)

  module _ (k : ℕ) (read : k ≡ (sequence_or_zero (decode (drop q t))).code) (r : Bool) (test : r ≡ is_control k) where
    coded : k ≡ at.c.code
    coded =
        let rest = without_last P (reverse (run_of (decode t))) in
        read ∙ ap (λ (i : ℕ). (sequence_or_zero (decode (drop i t))).code) eq
        ∙ (run_head (drop (size rest) t) at.c at.es (run_drop rest (at.c ∷ at.es) t at.parts)).coded

    says : r ≡ is_control at.c.code
    says = test ∙ ap is_control coded

    pub kept_control : r ≡ true → ErasedTo P t (length t)
    unfolding backward backspace
    kept_control z = record {
      inside = omega arith;
      erased = λ h. absurd (omega arith);
      added = λ h. sym (rw (sym says ∙ z) at at.erased);
    }

    pub kept_place : r ≡ false → ErasedTo P t q
    unfolding backward backspace
    kept_place z =
        let rest = without_last P (reverse (run_of (decode t))) in
        let p : run_of (decode t) ≡ reverse rest ++ (at.c ∷ at.es) = at.parts ∙ reverse_aux-eq rest (at.c ∷ at.es) in
        let s : size (reverse rest) ≡ q = size_reverse rest ∙ sym eq in
        let e : erase_from P (reverse (run_of (decode t))) (reverse (run_of (decode t))) ≡ rest = rw (sym says ∙ z) at at.erased in
        let x : run_of (decode (take q t)) ≡ reverse rest = rw s at (run_prefix (reverse rest) (at.c ∷ at.es) t p).0 in
        let y : whole (take q t) = rw s at (whole_prefix (reverse rest) (at.c ∷ at.es) t p) in
        record {
          inside = omega (arith, kept_inside);
          erased = λ h. (ap reverse x ∙ reverse-reverse rest ∙ sym e, y);
          added = λ h. absurd (omega (arith, kept_inside));
        }

-- ---- known places

module _ (v : code.Profile) (t : List ℕ) (w : whole t) (some : length t ≢ 0) (q : ℕ) (eq : q ≡ size (without_last (profile_of v) (reverse (run_of (decode t))))) where
  P : Profile
  P = profile_of v

  known_left : (left : List Scalar) (c : Scalar) (es : List Scalar) → run_of (decode t) ≡ reverse_aux left (c ∷ es) → size left ≡ q → joins P left c ≡ false → 4 ≤ q
      → indicator_at (profile_of v) t q ≡ true → indicator_at (profile_of v) t (q - 4) ≡ true → context P left ≡ start
  unfolding P size
  known_left [] c es p s j l a b = absurd (omega (arith, s, l))
  known_left (d ∷ rest) c es p s j l a b =
      let x : q - 4 ≡ size rest = sym (indicator_back (profile_of v) t (q - 4) b q l refl) ∙ ap (back t) (sym s) ∙ back_scalar d rest (c ∷ es) t p in
      let rc : number ((profile_of v).class c.code) ≡ 10 = indicator_class (profile_of v) t q a c (d ∷ rest) es p (sym s) in
      let rd : number ((profile_of v).class d.code) ≡ 10 = indicator_class (profile_of v) t (q - 4) b d rest (c ∷ es) p x in
      start_even (profile_of v) d rest rd (sym (pair_odd (profile_of v) d rest c rd rc) ∙ j)

  zwj_left : (left : List Scalar) (c : Scalar) (es : List Scalar) → run_of (decode t) ≡ reverse_aux left (c ∷ es) → size left ≡ q → joins P left c ≡ false → (q ≢ 0)
      → packed_at P t (back t q) / 8 % 16 ≡ 4 → packed_at P t q / 8 % 16 ≡ 12 → context P left ≡ start
  unfolding P size
  zwj_left [] c es p s j l a b = absurd (l (sym s))
  zwj_left (d ∷ rest) c es p s j l a b =
      let x : back t q ≡ size rest = ap (back t) (sym s) ∙ back_scalar d rest (c ∷ es) t p in
      start_behind (profile_of v) d rest c (sym (class_of_law (profile_of v) t (back t q) 4 d rest (c ∷ es) p x (sym a))) (sym (class_of_law (profile_of v) t q 12 c (d ∷ rest) es p (sym s) (sym b))) j

  -- the place of the last cluster, where the context before it is that of a text's start
  known_at : ((c : Scalar) (es : List Scalar) → run_of (decode t) ≡ reverse_aux (without_last P (reverse (run_of (decode t)))) (c ∷ es) → joins P (without_last P (reverse (run_of (decode t)))) c ≡ false → context P (without_last P (reverse (run_of (decode t)))) ≡ start) → KnownPlace (profile_of v) (take q t) q
  unfolding P
  known_at k =
      let f = first (profile_of v) (reverse (run_of (decode t))) [] (reverse (run_of (decode t))) (run_of (decode t)) (sym (reverse-reverse (run_of (decode t)))) (rev_some t w some) in
      let left : List Scalar = without_last (profile_of v) (reverse (run_of (decode t))) in
      let p : run_of (decode t) ≡ reverse left ++ (f.c ∷ f.es) = f.parts ∙ reverse_aux-eq left (f.c ∷ f.es) in
      let s : size (reverse left) ≡ q = size_reverse left ∙ sym eq in
      let x : run_of (decode (take q t)) ≡ reverse left = rw s at (run_prefix (reverse left) (f.c ∷ f.es) t p).0 in
      record { rest = left; es = []; parts = x; place = sym eq; known = k f.c f.es f.parts f.begins }

  known_between : between_indicators (profile_of v) t q ≡ true → KnownPlace (profile_of v) (take q t) q
  unfolding P
  known_between h =
      cases (ltb q 4)
      (λ y. absurd (true_T (rw y at h)))
      (λ y.
      let ab = and_T (indicator_at (profile_of v) t q) (indicator_at (profile_of v) t (q - 4)) (true_T (rw y at h)) in
      known_at (λ c es p j. known_left _ c es p (sym eq) j (ltb-false q 4 y) (is_true _ ab.0) (is_true _ ab.1)))

  known_after_zwj : after_zwj (profile_of v) t q ≡ true → KnownPlace (profile_of v) (take q t) q
  unfolding P
  known_after_zwj h =
      cases (eqb q 0)
      (λ y. absurd (true_T (rw y at h)))
      (λ y.
      let ab = and_T (eqb (packed_at (profile_of v) t (back t q) / 8 % 16) 4) (eqb (packed_at (profile_of v) t q / 8 % 16) 12) (true_T (rw y at h)) in
      known_at (λ c es p j. zwj_left _ c es p (sym eq) j (eqb-false q 0 y) (eqb-true _ 4 (is_true _ ab.0)) (eqb-true _ 12 (is_true _ ab.1))))

  known_needed : needs_context (profile_of v) t q ≡ true → KnownPlace (profile_of v) (take q t) q
  known_needed h = cases (between_indicators (profile_of v) t q) (λ b. known_between b) (λ b. known_after_zwj (rw b at h))

  known_choice : (i r : ℕ) → KnownPlace (profile_of v) t i → r ≡ known_before (profile_of v) t q i → KnownPlace (profile_of v) (take q t) r
  known_choice i r e ch =
      cases (ltb q i)
      (λ l. cases (needs_context (profile_of v) t q)
      (λ b. rw (rw (l, b) at ch) (known_needed b))
      (λ b. rw (rw (l, b) at ch) (known_zero (profile_of v) (take q t))))
      (λ l. cases (leb (q - i) 128)
      (λ n. rw (rw (l, n) at ch) (known_front (profile_of v) t q i (ltb-false q i l) e))
      (λ n. cases (ltb (get_or t q 0) 0x80)
      (λ a. rw (rw (l, n, a) at ch) (known_front (profile_of v) t q i (ltb-false q i l) e))
      (λ a. cases (needs_context (profile_of v) t q)
      (λ b. rw (rw (l, n, a, b) at ch) (known_needed b))
      (λ b. rw (rw (l, n, a, b) at ch) (known_front (profile_of v) t q i (ltb-false q i l) e)))))

  module _ (i : ℕ) (u : Sequence) (b : Bool) (e : KnownPlace (profile_of v) t i) (read : u ≡ sequence_or_zero (decode (drop q t))) (test : b ≡ is_control u.code) where
    short : eqb q (length t) ≡ false
    short = ne_eqb q (length t) (λ y. omega (arith, kept_inside (profile_of v) t w some q eq, y))

    pub last_erased : (r : ℕ) → r ≡ known_before (profile_of v) t q i → b ≡ false → Erased (profile_of v) t i (record { at = q; known = r })
    last_erased r ch z = record {
      kept = kept_place (profile_of v) t w some q eq u.code (ap (λ (x : Sequence). x.code) read) b test z;
      place = rw short ch;
      known = known_choice i r e ch;
    }

    pub last_added : b ≡ true → Erased (profile_of v) t i (record { at = length t; known = i })
    last_added z = record {
      kept = kept_control (profile_of v) t w some q eq u.code (ap (λ (x : Sequence). x.code) read) b test z;
      place = rw (eq-eqb (length t) (length t) refl) refl;
      known = rw (take-length t) e;
    }

-- `begins_with_control`
module _ (t : List ℕ) (q : ℕ) (here : q < length t) (o : Option Sequence) (read : o ≡ first_sequence (decode (drop q t))) where
  pub some_scalar : (u : Sequence) (b : Bool) → o ≡ Some u → b ≡ is_control u.code → b ≡ is_control (sequence_or_zero (decode (drop q t))).code
  unfolding first_sequence
  some_scalar u b e f = rw (← (given_some (sequence_or_zero (decode (drop q t))) u o read e).0) f

  pub no_scalar : o ≡ None → true ≡ is_control (sequence_or_zero (decode (drop q t))).code
  unfolding first_sequence is_control
  no_scalar e = rw (no_code t q (sequence_or_zero (decode (drop q t))) here refl (given_none (sequence_or_zero (decode (drop q t))) o read e)) refl

-- a byte below 80 at the end, LF apart
module _ (v : code.Profile) (t : List ℕ) (b : ℕ) (w : whole t) (some : length t ≢ 0) (e : b ≡ get_or t (length t - 1) 0) (r : Bool) (f : r ≡ never_joins_before b) (z : r ≡ true) where
  lone_code : sequence_of b 1 ≡ sequence_or_zero (decode (drop (length t - 1) t))
  lone_code = ascii_sequence t (length t - 1) b (omega arith) e (lone_low b (sym f ∙ z))

  lone_place : length t - 1 ≡ size (without_last (profile_of v) (reverse (run_of (decode t))))
  lone_place = last_lone v t b r w some e f z

  module _ (i : ℕ) (a : Bool) (ev : KnownPlace (profile_of v) t i) (test : a ≡ is_control b) where
    pub lone_added : a ≡ true → Erased (profile_of v) t i (record { at = length t; known = i })
    lone_added y = last_added v t w some (length t - 1) lone_place i (sequence_of b 1) a ev lone_code test y

    pub lone_erased : (j : ℕ) → j ≡ known_before (profile_of v) t (length t - 1) i → a ≡ false → Erased (profile_of v) t i (record { at = length t - 1; known = j })
    lone_erased j ch y = last_erased v t w some (length t - 1) lone_place i (sequence_of b 1) a ev lone_code test j ch y

-- the last two scalars
record Pair (P : Profile) (t : List ℕ) (i : ℕ) : Type 0 where
  long : 8 ≤ length t
  here : i ≡ length t
  last : indicator_at P t (length t - 4) ≡ true
  other : indicator_at P t (length t - 8) ≡ true

pair : (P : Profile) (t : List ℕ) (i : ℕ) → ends_in_pair P t i ≡ true → Pair P t i
pair P t i e =
    cases (ltb (length t) 8)
    (λ n. absurd (true_T (rw n at e)))
    (λ n. cases (eqb i (length t))
    (λ h.
    let w = and_T (indicator_at P t (length t - 4)) (indicator_at P t (length t - 8)) (true_T (rw (n, h) at e)) in
    record { long = ltb-false (length t) 8 n; here = eqb-true i (length t) h; last = is_true _ w.0; other = is_true _ w.1 })
    (λ h. absurd (true_T (rw (n, h) at e))))

pub pair_long : (P : Profile) (t : List ℕ) (i : ℕ) (r : Bool) → r ≡ ends_in_pair P t i → r ≡ true → 8 ≤ length t
pair_long P t i r e z = (pair P t i (sym e ∙ z)).long

pub pair_inside : (P : Profile) (t : List ℕ) (i : ℕ) (r : Bool) → r ≡ ends_in_pair P t i → r ≡ true → length t - 8 < length t
pair_inside P t i r e z = let l = pair_long P t i r e z in omega (arith, l)

-- before a pair nothing but another indicator makes the rules ask for more
pair_known : (P : Profile) (t : List ℕ) (i j : ℕ) → Pair P t i → j ≡ pair_before P t (length t - 8) → j ≡ known_before P t (length t - 8) i
pair_known P t i j p e =
    let l : ltb (length t - 8) i ≡ true = lt-ltb (length t - 8) i (omega (arith, p.long, p.here)) in
    let c : packed_at P t (length t - 8) ≡ 212 = eqb-true _ 212 p.other in
    let a : after_zwj P t (length t - 8) ≡ false = cases (eqb (length t - 8) 0) (λ y. rw y refl) (λ y. rw (y, c) (and-false (eqb (packed_at P t (back t (length t - 8)) / 8 % 16) 4))) in
    cases (ltb (length t - 8) 4)
    (λ m. rw (l, m, a) (rw m at e))
    (λ m. cases (indicator_at P t (length t - 8 - 4))
    (λ b. rw (l, m, p.other, b) (rw (m, b) at e))
    (λ b. rw (l, m, p.other, b, a) (rw (m, b) at e)))

-- a pair of regional indicators that ends in a known place
pub pair_erased : (v : code.Profile) (t : List ℕ) (i : ℕ) (r : Bool) (j : ℕ) → whole t → (length t ≢ 0) → KnownPlace (profile_of v) t i → r ≡ ends_in_pair (profile_of v) t i → r ≡ true → j ≡ pair_before (profile_of v) t (length t - 8) → Erased (profile_of v) t i (record { at = length t - 8; known = j })
pair_erased v t i r j w some e f z ch =
    let p = pair (profile_of v) t i (sym f ∙ z) in
    let n : KnownPlace (profile_of v) t (length t) = rw p.here at e in
    let es : run_of (decode (drop (size n.rest) t)) ≡ n.es = run_drop n.rest n.es t n.parts in
    let past : length t ≤ size n.rest = omega (arith, n.place) in
    let none : n.es ≡ [] = sym es ∙ none_past t (size n.rest) past in
    let rev : run_of (decode t) ≡ reverse_aux n.rest [] = n.parts ∙ ap (reverse_aux n.rest) none in
    let k = pair_by v t n.rest rev n.place p.long p.last p.other (ap (λ (y : Context). y.odd) n.known) in
    let back_is : reverse (run_of (decode t)) ≡ n.rest = ap reverse rev ∙ reverse-reverse n.rest in
    let q : length t - 8 ≡ size (without_last (profile_of v) (reverse (run_of (decode t)))) = sym k.place ∙ ap size (sym k.without) ∙ ap (λ (x : List Scalar). size (without_last (profile_of v) x)) (sym back_is) in
    last_erased v t w some (length t - 8) q i (sequence_or_zero (decode (drop (length t - 8) t))) false e refl (indicator_control v t (length t - 8) p.other) j (pair_known (profile_of v) t i j p ch) refl

pub kept_empty : (P : Profile) (t : List ℕ) → length t ≡ 0 → ErasedTo P t 0
unfolding backward backspace erase_from run_of decode decode_from
kept_empty P [] h = record { inside = omega arith; erased = λ h. absurd (omega arith); added = λ h. refl }
kept_empty P (b ∷ t) h = absurd (omega arith)

pub nothing_erased : (P : Profile) (t : List ℕ) (i : ℕ) → length t ≡ 0 → KnownPlace P t i → Erased P t i (record { at = 0; known = i })
nothing_erased P [] i h e = record { kept = kept_empty P [] h; place = refl; known = e }
nothing_erased P (b ∷ t) i h e = absurd (omega arith)

-- ---- in a buffer

pub erase_back : (P : Profile) (l : List ℕ) (len i : ℕ) (k : Erasure) → BackReady P l len i → Erased P (take len l) i k → k.at < len → FrontKnown P l k (backspace P (backward (take len l)))
erase_back P l len i k h w m =
    let n : length (take len l) ≡ len = length-take-le len l (omega (arith, h.room)) in
    let e = w.kept.erased (rw n m) in
    let t : take k.at (take len l) ≡ take k.at l = take-take k.at len l (omega arith) in
    record { front = record { inside = omega (arith, h.room); scalars = rw t at e.0; valid = rw t at e.1 }; known = rw t at w.known }

-- one more byte below 80 behind a valid text
pub front_byte : (l : List ℕ) (len b : ℕ) → len < length l → whole (take len l) → run_of (decode (b ∷ [])) ≡ ascii b ∷ [] → Front (set l len b) (len + 1) (ascii b ∷ backward (take len l))
unfolding backward bytes_of
front_byte l len b h v e =
    let t : take (len + 1) (set l len b) ≡ take len l ++ (b ∷ []) = rw add-one (take-suc-set l len b h) in
    let r : run_of (decode (take len l ++ (b ∷ []))) ≡ run_of (decode (take len l)) ++ (ascii b ∷ []) = run_append (run_of (decode (take len l))) (take len l) (b ∷ []) refl v ∙ ap (λ (x : List Scalar). run_of (decode (take len l)) ++ x) e in
    record {
      inside = rw length-set (omega arith);
      scalars = ap (λ (x : List ℕ). reverse (run_of (decode x))) t ∙ ap reverse r ∙ reverse_aux-append (run_of (decode (take len l))) (ascii b ∷ []) [];
      valid = rw t (whole_append (take len l) (b ∷ []) v (ap bytes_of e));
    }

backspace_alone : run_of (decode (0x08 ∷ [])) ≡ ascii 0x08 ∷ []
unfolding run_of decode
backspace_alone = refl

pub erase_add : (P : Profile) (l : List ℕ) (len i : ℕ) (k : Erasure) → BackReady P l len i → Erased P (take len l) i k → len ≤ k.at → FrontKnown P (set l len 0x08) (record { at = len + 1; known = k.known }) (backspace P (backward (take len l)))
unfolding backward
erase_add P l len i k h w m =
    let n : length (take len l) ≡ len = length-take-le len l (omega (arith, h.room)) in
    let f = front_byte l len 0x08 h.room h.valid backspace_alone in
    let t : take k.at (take len l) ≡ take len l = take_all k.at (take len l) (omega arith) in
    let r : run_of (decode (take (len + 1) (set l len 0x08))) ≡ run_of (decode (take len l)) ++ (ascii 0x08 ∷ []) =
    sym (reverse-reverse (run_of (decode (take (len + 1) (set l len 0x08))))) ∙ ap reverse f.scalars ∙ push_reverse (ascii 0x08 ∷ []) (reverse (run_of (decode (take len l)))) ∙ ap (λ (x : List Scalar). x ++ (ascii 0x08 ∷ [])) (reverse-reverse (run_of (decode (take len l)))) in
    record {
      front = record { inside = f.inside; scalars = f.scalars ∙ w.kept.added (rw n m); valid = f.valid };
      known = known_more P (take len l) (take (len + 1) (set l len 0x08)) (ascii 0x08 ∷ []) k.known r (rw t at w.known);
    }

-- ---- the tests

module _ (P : Profile) (t : List ℕ) where
  pub pair_short : (i : ℕ) → length t < 8 → false ≡ ends_in_pair P t i
  pair_short i h = rw (lt-ltb (length t) 8 h) refl

  pub pair_elsewhere : (i : ℕ) → 8 ≤ length t → (i ≢ length t) → false ≡ ends_in_pair P t i
  pair_elsewhere i h n = rw (le-ltb (length t) 8 h, ne_eqb i (length t) n) refl

  module _ (i : ℕ) (a : Bool) (h : 8 ≤ length t) (e : i ≡ length t) (f : a ≡ indicator_at P t (length t - 4)) where
    pub pair_tells : (b : Bool) → a ≡ true → b ≡ indicator_at P t (length t - 8) → b ≡ ends_in_pair P t i
    pair_tells b z g = rw (le-ltb (length t) 8 h, eq-eqb i (length t) e, sym f ∙ z) g

    pub pair_none : a ≡ false → false ≡ ends_in_pair P t i
    pair_none z = rw (le-ltb (length t) 8 h, eq-eqb i (length t) e, sym f ∙ z) refl

  pub between_low : (q : ℕ) → q < 4 → false ≡ between_indicators P t q
  between_low q h = rw (lt-ltb q 4 h) refl

  module _ (q : ℕ) (a : Bool) (h : 4 ≤ q) (f : a ≡ indicator_at P t q) where
    pub between_tells : (b : Bool) → a ≡ true → b ≡ indicator_at P t (q - 4) → b ≡ between_indicators P t q
    between_tells b z g = rw (le-ltb q 4 h, sym f ∙ z) g

    pub between_none : a ≡ false → false ≡ between_indicators P t q
    between_none z = rw (le-ltb q 4 h, sym f ∙ z) refl

  module _ (q j p c : ℕ) where
    pub behind_none : q ≡ 0 → false ≡ after_zwj P t q
    behind_none z = rw (eq-eqb q 0 z) refl

    pub behind_tells : (q ≢ 0) → j ≡ back t q → p ≡ packed_at P t j / 8 % 16 → c ≡ packed_at P t q / 8 % 16 → (eqb p 4 && eqb c 12) ≡ after_zwj P t q
    behind_tells z b f g = rw (ne_eqb q 0 z, f, g, b) refl
