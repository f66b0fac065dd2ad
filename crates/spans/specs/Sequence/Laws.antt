-- A sequence stays what it is, whatever follows it; it lies inside the bytes, which tell what it says.
use Rattle.std.specs.Prelude.{◌≡◌, refl, ℕ, suc, ◌+◌, ◌-◌, ◌*◌, ◌≤◌, ◌<◌, ◌⊎◌, Bool, true, false, not, ◌&&◌, ◌||◌, List, [], ◌∷◌, ◌++◌, length, take, drop, get_or, T, eqb, leb, ltb}
use Rattle.std.proofs.Common.{sym, ap, ap₂, ◌∙◌, zero-le, suc-le-suc, add-one, arith, le_of_suc-le-suc, not-suc-le-zero, inl, inr, true≢false, length-drop, take-append-drop, drop-cons, drop-drop, length-take-le, eqb→eq, ltb→lt, nltb→le, eqb-true, ltb-false, ne_eqb}
use Rattle.std.proofs.Math.Bool.{and-false}
use Rattle.std.proofs.Math.ListN.{get_or-append, get_or-eq_default}
use Rattle.std.proofs.lemmas.List.{drop-append-le}
use Rattle.std.proofs.lemmas.Bool.{lt-leb}
use Rattle.text.specs.Tests.{cases, by_case, and_T, is_true, true_T, every, every_one}
use Rattle.text.specs.Each.{All, all_nil, all_cons}
use Rattle.text.specs.Segmentation.{never_joins_before}
use Rattle.spans.specs.Sgr.{digit, parameters, allowed, orders}
use Rattle.spans.specs.declared.sgr.Sgr.{Sgr}
use Rattle.spans.specs.Sequence.{Sequence, sgr, erase_to_end, ignored, hyperlink, line_drawing, Found, found, missing, leading, past, parameter_byte, if_known, erase, final, csi, charset, uri_byte, id_byte, closed, osc, parse}

-- ---- runs of bytes that pass a test

pub leading_le : (p : ℕ → Bool) (s : List ℕ) → leading p s ≤ length s
unfolding leading
leading_le p [] = zero-le
leading_le p (b ∷ s) = cases (p b) (λ e. rw e (suc-le-suc (leading_le p s))) (λ e. rw e zero-le)

pub all_leading : (p : ℕ → Bool) {a : List ℕ} (x : ℕ) (t : List ℕ) → All (λ (b : ℕ). p b ≡ true) a → p x ≡ false → leading p (a ++ x ∷ t) ≡ length a
unfolding leading
all_leading p x t all_nil e = rw e
all_leading p x t (all_cons h a) e = rw h (ap suc (all_leading p x t a e))

pub leading_append : (p : ℕ → Bool) (s t : List ℕ) → leading p s < length s → leading p (s ++ t) ≡ leading p s
unfolding leading
leading_append p [] t h = absurd (not-suc-le-zero h)
leading_append p (b ∷ s) t h =
    cases (p b)
    (λ e. let k : suc (leading p s) < suc (length s) = rw e at h in rw e (ap suc (leading_append p s t (le_of_suc-le-suc k))))
    (λ e. rw e)

pub past_from : (p : ℕ → Bool) (s : List ℕ) (i : ℕ) → i ≤ past p s i
unfolding past
past_from p s i = omega arith

pub past_append : (p : ℕ → Bool) (s t : List ℕ) (i : ℕ) → past p s i < length s → past p (s ++ t) i ≡ past p s i
unfolding past
past_append p s t i h =
    let k : leading p (drop i s) < length (drop i s) = simp length-drop (omega arith) in
    rw (drop-append-le i s t (omega arith), leading_append p (drop i s) t k)

parameters_append : (v : ℕ) (s t : List ℕ) → leading parameter_byte s < length s → parameters v (s ++ t) ≡ parameters v s
unfolding parameters leading
parameters_append v [] t h = absurd (not-suc-le-zero h)
parameters_append v (b ∷ s) t h =
    cases (digit b)
    (λ e. let k : suc (leading parameter_byte s) < suc (length s) = rw e at h in rw e (parameters_append (v * 10 + (b - 0x30)) s t (le_of_suc-le-suc k)))
    (λ e. cases (eqb b 0x3B)
    (λ f. let k : suc (leading parameter_byte s) < suc (length s) = rw (e, f) at h in rw (e, f) (ap (λ (l : List ℕ). v ∷ l) (parameters_append 0 s t (le_of_suc-le-suc k))))
    (λ f. rw (e, f)))

-- ---- the sequences

-- `missing` is not found
absurd_missing : {A : Type 0} (x : Found) (q : Sequence) (n : ℕ) → x ≡ missing → x ≡ found q n → A
absurd_missing x q n e f = absurd (let z : ◌≡◌ {A = ℕ} 0 1 = cc in omega arith)

csi_append : (s t : List ℕ) → leading parameter_byte s < length s → csi (s ++ t) ≡ csi s
unfolding csi
csi_append s t h =
    let n : ℕ = leading parameter_byte s in
    rw (leading_append parameter_byte s t h, parameters_append 0 s t h, get_or-append s t 0 n h, get_or-append s t 0 0 (omega arith))

csi_short : (s : List ℕ) → length s ≤ leading parameter_byte s → csi s ≡ missing
unfolding csi
csi_short s h = rw (get_or-eq_default s 0 {n = leading parameter_byte s} h)

csi_stable : (s t : List ℕ) (q : Sequence) (n : ℕ) → csi s ≡ found q n → csi (s ++ t) ≡ found q n
csi_stable s t q n e =
    cases (ltb (leading parameter_byte s) (length s))
    (λ l. csi_append s t (ltb→lt _ _ (true_T l)) ∙ e)
    (λ l. absurd_missing (csi s) q n (csi_short s (nltb→le _ _ (rw l tt))) e)

charset_stable : (s t : List ℕ) (q : Sequence) (n : ℕ) → charset s ≡ found q n → charset (s ++ t) ≡ found q n
unfolding charset
charset_stable [] t q n e = absurd_missing missing q n refl e
charset_stable (b ∷ s) t q n e = e

closed_none : (m e b : ℕ) → eqb b 0x07 ≡ false → closed m e b 0 ≡ missing
unfolding closed
closed_none m e b f = rw f (cases (eqb b 0x1B) (λ g. rw g) (λ g. rw g))

closed_open : (m e c : ℕ) → closed m e 0 c ≡ missing
unfolding closed
closed_open m e c = refl

closed_bell : (m e b c d : ℕ) → eqb b 0x07 ≡ true → closed m e b c ≡ closed m e b d
unfolding closed
closed_bell m e b c d g = rw g

-- a URI stays closed where the byte behind its terminator's first stays, or is missing
closed_stable : (m e b c d : ℕ) (q : Sequence) (n : ℕ) → c ≡ d ⊎ c ≡ 0 → closed m e b c ≡ found q n → closed m e b d ≡ found q n
closed_stable m e b c d q n (inl z) f = rw (sym z) f
closed_stable m e b c d q n (inr z) f =
    cases (eqb b 0x07)
    (λ g. sym (closed_bell m e b c d g) ∙ f)
    (λ g. absurd_missing (closed m e b c) q n (rw z (closed_none m e b g)) f)

osc_stable : (s t : List ℕ) (q : Sequence) (n : ℕ) → osc s ≡ found q n → osc (s ++ t) ≡ found q n
unfolding osc
osc_stable s t q n f =
    let i : ℕ = past id_byte s 2 in
    let e : ℕ = past uri_byte s (i + 1) in
    let a = past_from id_byte s 2 in
    let b = past_from uri_byte s (i + 1) in
    cases (ltb e (length s))
    (λ h.
    let k : e < length s = ltb→lt _ _ (true_T h) in
    let c : get_or s (e + 1) 0 ≡ get_or (s ++ t) (e + 1) 0 ⊎ get_or s (e + 1) 0 ≡ 0 = cases (ltb (e + 1) (length s)) (λ w. inl (sym (get_or-append s t 0 (e + 1) (ltb→lt _ _ (true_T w))))) (λ w. inr (get_or-eq_default s 0 {n = e + 1} (nltb→le _ _ (rw w tt)))) in
    rw (past_append id_byte s t 2 (omega arith), past_append uri_byte s t (i + 1) k, get_or-append s t 0 0 (omega arith), get_or-append s t 0 1 (omega arith), get_or-append s t 0 i (omega arith), get_or-append s t 0 e k)
    (cases (eqb (get_or s 0 0) 0x38 && (eqb (get_or s 1 0) 0x3B && eqb (get_or s i 0) 0x3B))
    (λ w. rw w (closed_stable (i + 1) e (get_or s e 0) _ _ q n c (rw w at f)))
    (λ w. absurd_missing missing q n refl (rw w at f))))
    (λ h.
    let z : get_or s e 0 ≡ 0 = get_or-eq_default s 0 {n = e} (nltb→le _ _ (rw h tt)) in
    cases (eqb (get_or s 0 0) 0x38 && (eqb (get_or s 1 0) 0x3B && eqb (get_or s i 0) 0x3B))
    (λ w. absurd_missing missing q n (sym (closed_open (i + 1) e (get_or s (e + 1) 0))) (rw (w, z) at f))
    (λ w. absurd_missing missing q n refl (rw w at f)))

pub parse_stable : (s t : List ℕ) (q : Sequence) (n : ℕ) → parse s ≡ found q n → parse (s ++ t) ≡ found q n
unfolding parse
parse_stable [] t q n e = absurd_missing missing q n refl e
parse_stable (a ∷ s) t q n e =
    cases (eqb a 0x5B)
    (λ f. rw f (csi_stable s t q n (rw f at e)))
    (λ f. cases (eqb a 0x28)
    (λ g. rw (f, g) (charset_stable s t q n (rw (f, g) at e)))
    (λ g. cases (eqb a 0x5D)
    (λ h. rw (f, g, h) (osc_stable s t q n (rw (f, g, h) at e)))
    (λ h. absurd_missing missing q n refl (rw (f, g, h) at e))))

-- ---- a sequence lies inside the bytes

unfoldable Short : ℕ → Found → Type 0
Short m (found q n) = n ≤ m
Short m missing = Unit {0}

-- a byte that is not 0 stands inside
byte_inside : (s : List ℕ) (i v : ℕ) → T (eqb (get_or s i 0) (suc v)) → i < length s
byte_inside s i v e =
    cases (ltb i (length s))
    (λ l. ltb→lt _ _ (true_T l))
    (λ l. absurd (let z : get_or s i 0 ≡ 0 = get_or-eq_default s 0 (nltb→le _ _ (rw l tt)) in omega (arith, eqb→eq (get_or s i 0) (suc v) e)))

known_short : (m : ℕ) (os : List Sgr) (n : ℕ) → 3 + n ≤ m → Short m (if_known os n)
unfolding Short if_known
known_short m [] n h = tt
known_short m (o ∷ os) n h = h

csi_short_by : (s : List ℕ) → leading parameter_byte s < length s → Short (2 + length s) (csi s)
unfolding csi erase Short
csi_short_by s h =
    let n : ℕ = leading parameter_byte s in
    let ps : List ℕ = parameters 0 s in
    let k : 3 + leading parameter_byte s ≤ 2 + length s = omega arith in
    by_case (Short (2 + length s)) (eqb (get_or s n 0) 0x6D)
    (λ e. by_case (Short (2 + length s)) (allowed ps) (λ f. known_short (2 + length s) (orders ps) n k) (λ f. tt))
    (λ e. by_case (Short (2 + length s)) (eqb (get_or s n 0) 0x4B)
    (λ f. by_case (Short (2 + length s)) (eqb n 0 || (eqb n 1 && eqb (get_or s 0 0) 0x30)) (λ g. k)
    (λ g. by_case (Short (2 + length s)) (eqb n 1 && (eqb (get_or s 0 0) 0x31 || eqb (get_or s 0 0) 0x32)) (λ j. k) (λ j. tt)))
    (λ f. by_case (Short (2 + length s)) (final (get_or s n 0)) (λ g. k) (λ g. tt)))

csi_inside : (s : List ℕ) → Short (2 + length s) (csi s)
unfolding Short
csi_inside s =
    cases (ltb (leading parameter_byte s) (length s))
    (λ l. csi_short_by s (ltb→lt _ _ (true_T l)))
    (λ l. rw (csi_short s (nltb→le _ _ (rw l tt))) tt)

charset_inside : (s : List ℕ) → Short (2 + length s) (charset s)
unfolding charset Short
charset_inside s =
    by_case (Short (2 + length s)) (eqb (get_or s 0 0) 0x30)
    (λ e. omega (arith, byte_inside s 0 0x2F (true_T e)))
    (λ e. by_case (Short (2 + length s)) (eqb (get_or s 0 0) 0x42) (λ f. omega (arith, byte_inside s 0 0x41 (true_T f))) (λ f. tt))

osc_inside : (s : List ℕ) → Short (2 + length s) (osc s)
unfolding osc closed Short
osc_inside s =
    let i : ℕ = past id_byte s 2 in
    let e : ℕ = past uri_byte s (i + 1) in
    by_case (Short (2 + length s)) (eqb (get_or s 0 0) 0x38 && (eqb (get_or s 1 0) 0x3B && eqb (get_or s i 0) 0x3B))
    (λ f. by_case (Short (2 + length s)) (eqb (get_or s e 0) 0x07)
    (λ g. omega (arith, byte_inside s e 0x06 (true_T g)))
    (λ g. by_case (Short (2 + length s)) (eqb (get_or s e 0) 0x1B && eqb (get_or s (e + 1) 0) 0x5C)
    (λ h. omega (arith, byte_inside s (e + 1) 0x5B (and_T (eqb (get_or s e 0) 0x1B) (eqb (get_or s (e + 1) 0) 0x5C) (true_T h)).1))
    (λ h. tt)))
    (λ f. tt)

parse_inside : (s : List ℕ) → Short (1 + length s) (parse s)
unfolding parse Short
parse_inside [] = tt
parse_inside (a ∷ s) =
    let k : 2 + length s ≡ 1 + length (a ∷ s) = omega arith in
    by_case (Short (1 + length (a ∷ s))) (eqb a 0x5B) (λ e. rw k at (csi_inside s))
    (λ e. by_case (Short (1 + length (a ∷ s))) (eqb a 0x28) (λ f. rw k at (charset_inside s))
    (λ f. by_case (Short (1 + length (a ∷ s))) (eqb a 0x5D) (λ g. rw k at (osc_inside s)) (λ g. tt)))

-- a sequence and its ESC
pub parse_length : (s : List ℕ) (q : Sequence) (n : ℕ) → parse s ≡ found q n → n ≤ 1 + length s
unfolding Short
parse_length s q n e = rw e at (parse_inside s)

-- ---- its last byte is below 80, and no LF

unfoldable Ends : List ℕ → Found → Type 0
Ends s (found q n) = never_joins_before (get_or s (n - 2) 0) ≡ true
Ends s missing = Unit {0}

lone_as : (b v : ℕ) → eqb b v ≡ true → never_joins_before v ≡ true → never_joins_before b ≡ true
lone_as b v e h = rw (eqb→eq b v (true_T e)) h

final_lone_each : T (every (λ (b : ℕ). not (final b) || never_joins_before b) 0 128)
unfolding every
final_lone_each = tt

final_low : (b : ℕ) → final b ≡ true → b < 128
final_low b e =
    cases (ltb b 128)
    (λ l. ltb→lt _ _ (true_T l))
    (λ l. let h : 128 ≤ b = ltb-false b 128 l in
    let z : final b ≡ false = rw (lt-leb b 0x48 (omega arith), and-false (leb 0x40 b), ne_eqb b 0x4A (λ q. omega arith), ne_eqb b 0x4C (λ q. omega arith), ne_eqb b 0x4D (λ q. omega arith), ne_eqb b 0x50 (λ q. omega arith), ne_eqb b 0x53 (λ q. omega arith), ne_eqb b 0x54 (λ q. omega arith), ne_eqb b 0x58 (λ q. omega arith), ne_eqb b 0x5A (λ q. omega arith), ne_eqb b 0x64 (λ q. omega arith), ne_eqb b 0x66 (λ q. omega arith)) in
    absurd (true≢false (sym e ∙ z)))

final_lone : (b : ℕ) → final b ≡ true → never_joins_before b ≡ true
final_lone b e = rw e at (every_one (λ (b : ℕ). not (final b) || never_joins_before b) 128 0 b final_lone_each (omega arith) (omega (arith, final_low b e)))

-- the byte at k behind the first
ends_at : (a : ℕ) (s : List ℕ) (n k : ℕ) → n ≡ 3 + k → never_joins_before (get_or s k 0) ≡ true → never_joins_before (get_or (a ∷ s) (n - 2) 0) ≡ true
ends_at a s n k e h = let m : n - 2 ≡ suc k = omega arith in rw m h

known_ends : (a : ℕ) (s : List ℕ) (os : List Sgr) (k : ℕ) → never_joins_before (get_or s k 0) ≡ true → Ends (a ∷ s) (if_known os k)
unfolding Ends if_known
known_ends a s [] k h = tt
known_ends a s (o ∷ os) k h = ends_at a s (3 + k) k refl h

ends : (s : List ℕ) → Ends s (parse s)
unfolding parse csi erase charset osc closed Ends
ends [] = tt
ends (a ∷ s) =
    let ps : List ℕ = parameters 0 s in
    let n : ℕ = leading parameter_byte s in
    let i : ℕ = past id_byte s 2 in
    let e : ℕ = past uri_byte s (i + 1) in
    let Q : Found → Type 0 = Ends (a ∷ s) in
    by_case Q (eqb a 0x5B)
    (λ f. by_case Q (eqb (get_or s n 0) 0x6D)
    (λ g. by_case Q (allowed ps) (λ h. known_ends a s (orders ps) n (lone_as (get_or s n 0) 0x6D g refl)) (λ h. tt))
    (λ g. by_case Q (eqb (get_or s n 0) 0x4B)
    (λ h. by_case Q (eqb n 0 || (eqb n 1 && eqb (get_or s 0 0) 0x30)) (λ j. ends_at a s (3 + n) n refl (lone_as (get_or s n 0) 0x4B h refl))
    (λ j. by_case Q (eqb n 1 && (eqb (get_or s 0 0) 0x31 || eqb (get_or s 0 0) 0x32)) (λ k. ends_at a s (3 + n) n refl (lone_as (get_or s n 0) 0x4B h refl)) (λ k. tt)))
    (λ h. by_case Q (final (get_or s n 0)) (λ j. ends_at a s (3 + n) n refl (final_lone (get_or s n 0) j)) (λ j. tt))))
    (λ f. by_case Q (eqb a 0x28)
    (λ g. by_case Q (eqb (get_or s 0 0) 0x30) (λ h. ends_at a s 3 0 refl (lone_as (get_or s 0 0) 0x30 h refl))
    (λ h. by_case Q (eqb (get_or s 0 0) 0x42) (λ j. ends_at a s 3 0 refl (lone_as (get_or s 0 0) 0x42 j refl)) (λ j. tt)))
    (λ g. by_case Q (eqb a 0x5D)
    (λ h. by_case Q (eqb (get_or s 0 0) 0x38 && (eqb (get_or s 1 0) 0x3B && eqb (get_or s i 0) 0x3B))
    (λ j. by_case Q (eqb (get_or s e 0) 0x07) (λ k. ends_at a s (3 + e) e refl (lone_as (get_or s e 0) 0x07 k refl))
    (λ k. by_case Q (eqb (get_or s e 0) 0x1B && eqb (get_or s (e + 1) 0) 0x5C)
    (λ l. ends_at a s (4 + e) (e + 1) (omega arith) (lone_as (get_or s (e + 1) 0) 0x5C (is_true _ (and_T (eqb (get_or s e 0) 0x1B) (eqb (get_or s (e + 1) 0) 0x5C) (true_T l)).1) refl))
    (λ l. tt)))
    (λ j. tt))
    (λ h. tt)))

pub parse_last : (s : List ℕ) (q : Sequence) (n : ℕ) → parse s ≡ found q n → never_joins_before (get_or s (n - 2) 0) ≡ true
unfolding Ends
parse_last s q n e = rw e at (ends s)

-- ---- what is found is told by the bytes

-- BEL or ST
pub data Terminator : List ℕ → Type 0 where
  bel : Terminator (0x07 ∷ [])
  st : Terminator (0x1B ∷ 0x5C ∷ [])

-- behind the ESC: `] 8 ; id ; uri` and a terminator; place and length of the URI and length of the whole, counted from the ESC
pub record Hyperlink (s : List ℕ) (a m n : ℕ) : Type 0 where
  pub id : List ℕ
  pub uri : List ℕ
  pub end : List ℕ
  pub rest : List ℕ
  pub bytes : s ≡ 0x5D ∷ 0x38 ∷ 0x3B ∷ (id ++ 0x3B ∷ (uri ++ (end ++ rest)))
  pub ids : All (λ (b : ℕ). id_byte b ≡ true) id
  pub terminator : Terminator end
  pub place : a ≡ 5 + length id
  pub size : m ≡ length uri
  pub len : n ≡ 5 + length id + length uri + length end

leading_all : (p : ℕ → Bool) (s : List ℕ) → All (λ (b : ℕ). p b ≡ true) (take (leading p s) s)
unfolding leading
leading_all p [] = all_nil
leading_all p (b ∷ s) = cases (p b) (λ e. rw e (all_cons e (leading_all p s))) (λ e. rw e all_nil)

byte_there : (s : List ℕ) (i v : ℕ) → T (eqb (get_or s i 0) (suc v)) → drop i s ≡ suc v ∷ drop (i + 1) s
byte_there s i v e = drop-cons s i 0 (byte_inside s i v e) ∙ ap₂ (λ (b j : ℕ). b ∷ drop j s) (eqb→eq (get_or s i 0) (suc v) e) (sym (add-one i))

-- what stands from i on: the bytes that pass, and what stands behind them
past_split : (p : ℕ → Bool) (s : List ℕ) (i : ℕ) → drop i s ≡ take (leading p (drop i s)) (drop i s) ++ drop (past p s i) s
unfolding past
past_split p s i = sym (take-append-drop (leading p (drop i s)) (drop i s)) ∙ ap (λ (l : List ℕ). take (leading p (drop i s)) (drop i s) ++ l) (drop-drop (leading p (drop i s)) i s)

link_form : (s : List ℕ) {end : List ℕ} (rest : List ℕ) (n : ℕ) → let i : ℕ = past id_byte s 2 in let e : ℕ = past uri_byte s (i + 1) in
    T (eqb (get_or s 0 0) 0x38 && (eqb (get_or s 1 0) 0x3B && eqb (get_or s i 0) 0x3B)) → Terminator end → drop e s ≡ end ++ rest → n ≡ 2 + e + length end → Hyperlink (0x5D ∷ s) (2 + (i + 1)) (e - (i + 1)) n
unfolding past
link_form s {end} rest n t f d k =
    let i : ℕ = past id_byte s 2 in
    let e : ℕ = past uri_byte s (i + 1) in
    let q = and_T (eqb (get_or s 0 0) 0x38) _ t in
    let r = and_T (eqb (get_or s 1 0) 0x3B) _ q.1 in
    let x : List ℕ = drop 2 s in
    let y : List ℕ = drop (i + 1) s in
    let l = length-take-le (leading id_byte x) x (leading_le id_byte x) in
    let m = length-take-le (leading uri_byte y) y (leading_le uri_byte y) in
    record {
      id = take (leading id_byte x) x;
      uri = take (leading uri_byte y) y;
      end = end;
      rest = rest;
      bytes = ap (λ (v : List ℕ). 0x5D ∷ v) (byte_there s 0 0x37 q.0 ∙ ap (λ (v : List ℕ). 0x38 ∷ v) (byte_there s 1 0x3A r.0
          ∙ ap (λ (v : List ℕ). 0x3B ∷ v) (past_split id_byte s 2 ∙ ap (λ (v : List ℕ). take (leading id_byte x) x ++ v) (byte_there s i 0x3A r.1
          ∙ ap (λ (v : List ℕ). 0x3B ∷ v) (past_split uri_byte s (i + 1) ∙ ap (λ (v : List ℕ). take (leading uri_byte y) y ++ v) d)))));
      ids = leading_all id_byte x;
      terminator = f;
      place = omega arith;
      size = omega arith;
      len = omega arith;
    }

-- of the bytes behind ESC: the orders, whether line drawing goes on, and the parts of a hyperlink
unfoldable Told : List ℕ → Found → Type 0
Told s (found (sgr os) n) = os ≡ orders (parameters 0 (drop 1 s))
Told s (found (line_drawing b) n) = b ≡ eqb (get_or s 1 0) 0x30
Told s (found erase_to_end n) = Unit {0}
Told s (found ignored n) = Unit {0}
Told s (found (hyperlink a m) n) = Hyperlink s a m n
Told s missing = Unit {0}

known_told : (s : List ℕ) (os : List Sgr) (n : ℕ) → os ≡ orders (parameters 0 (drop 1 s)) → Told s (if_known os n)
unfolding Told if_known
known_told s [] n e = tt
known_told s (o ∷ os) n e = e

told : (s : List ℕ) → Told s (parse s)
unfolding parse csi erase charset osc closed Told
told [] = tt
told (a ∷ s) =
    let ps : List ℕ = parameters 0 s in
    let n : ℕ = leading parameter_byte s in
    let i : ℕ = past id_byte s 2 in
    let e : ℕ = past uri_byte s (i + 1) in
    let Q : Found → Type 0 = Told (a ∷ s) in
    by_case Q (eqb a 0x5B)
    (λ f. by_case Q (eqb (get_or s n 0) 0x6D)
    (λ g. by_case Q (allowed ps) (λ h. known_told (a ∷ s) (orders ps) n refl) (λ h. tt))
    (λ g. by_case Q (eqb (get_or s n 0) 0x4B)
    (λ h. by_case Q (eqb n 0 || (eqb n 1 && eqb (get_or s 0 0) 0x30)) (λ j. tt) (λ j. by_case Q (eqb n 1 && (eqb (get_or s 0 0) 0x31 || eqb (get_or s 0 0) 0x32)) (λ k. tt) (λ k. tt)))
    (λ h. by_case Q (final (get_or s n 0)) (λ j. tt) (λ j. tt))))
    (λ f. by_case Q (eqb a 0x28)
    (λ g. by_case Q (eqb (get_or s 0 0) 0x30) (λ h. sym h) (λ h. by_case Q (eqb (get_or s 0 0) 0x42) (λ j. sym h) (λ j. tt)))
    (λ g. by_case Q (eqb a 0x5D)
    (λ h. by_case Q (eqb (get_or s 0 0) 0x38 && (eqb (get_or s 1 0) 0x3B && eqb (get_or s i 0) 0x3B))
    (λ j. by_case Q (eqb (get_or s e 0) 0x07) (λ k. rw (eqb-true a 0x5D h) (link_form s (drop (e + 1) s) (3 + e) (true_T j) bel (byte_there s e 0x06 (true_T k)) (omega arith)))
    (λ k. by_case Q (eqb (get_or s e 0) 0x1B && eqb (get_or s (e + 1) 0) 0x5C)
    (λ l. let q = and_T (eqb (get_or s e 0) 0x1B) _ (true_T l) in
    rw (eqb-true a 0x5D h) (link_form s (drop (e + 1 + 1) s) (4 + e) (true_T j) st (byte_there s e 0x1A q.0 ∙ ap (λ (r : List ℕ). 0x1B ∷ r) (byte_there s (e + 1) 0x5B q.1)) (omega arith)))
    (λ l. tt)))
    (λ j. tt))
    (λ h. tt)))

-- the orders of a sequence are those of its parameters
pub parse_orders : (s : List ℕ) (os : List Sgr) (n : ℕ) → parse s ≡ found (sgr os) n → os ≡ orders (parameters 0 (drop 1 s))
unfolding Told
parse_orders s os n e = rw e at (told s)

-- line drawing goes on where the byte behind `ESC (` is `0`
pub parse_drawing : (s : List ℕ) (b : Bool) (n : ℕ) → parse s ≡ found (line_drawing b) n → b ≡ eqb (get_or s 1 0) 0x30
unfolding Told
parse_drawing s b n e = rw e at (told s)

-- a hyperlink's parts
pub parse_hyperlink : (s : List ℕ) (a m n : ℕ) → parse s ≡ found (hyperlink a m) n → Hyperlink s a m n
unfolding Told
parse_hyperlink s a m n e = rw e at (told s)

-- its URI begins inside the sequence
pub parse_link : (s : List ℕ) (a m n : ℕ) → parse s ≡ found (hyperlink a m) n → a ≤ n
parse_link s a m n e = let h = parse_hyperlink s a m n e in omega (arith, h.place, h.len)

-- a sequence is found only where there are bytes
pub parse_some : (s : List ℕ) (q : Sequence) (n : ℕ) → parse s ≡ found q n → 1 ≤ length s
unfolding parse
parse_some [] q n e = absurd (let z : ◌≡◌ {A = ℕ} 0 1 = cc in omega arith)
parse_some (b ∷ s) q n e = omega arith
