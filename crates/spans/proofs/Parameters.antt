-- The parameters of a style order: numbers that stay where they have passed 65,535 serve as well, the scan of them, and the reading of orders from them.
use mathlib.Core.Path.{◌≡◌, refl, sym, ap, ◌∙◌}
use mathlib.Core.Logic.{◌≢◌}
use Prim.Native.Nat.{ℕ, suc, ◌+◌, ◌-◌, ◌*◌, ◌%◌, ◌≤◌, ◌<◌}
use native.Mathlib.Numerals.{add-one}
use native.Mathlib.Omega.{arith}
use native.Mathlib.Nat.{zero-add}
use mathlib.Core.Bool.{Bool, true, false, cond, ◌&&◌}
use mathlib.Core.List.{List, [], ◌∷◌, map}
use lib.ListN.{length, drop, get_or, drop_of_length-le, length-map}
use lib.Seq.{drop-cons}
use lib.Dec.{eqb, leb, ltb, leb→le}
use borrow.Author.Tests.{eq-eqb, ne_eqb, le-leb, lt-leb, leb-true, leb-false}
use Rattle.std.specs.Prelude.{Option, Some, None, MatchOption, fold, take, ⊤}
use Rattle.std.specs.Option.{is_some, unwrap_or}
use Rattle.std.specs.List.{prefix_len}
use Rattle.std.specs.Iterator.{MakesProgress, YieldsFirst, item_count}
use lib.Pointwise.{pointwise}
use Rattle.std.proofs.lemmas.Option.{none-some, same_Some}
use Rattle.std.proofs.lemmas.Slice.Eq.{strip_prefix_is}
use Rattle.std.proofs.lemmas.Bool.Decides.{Decides-eqb}
use denote.Ref.{Bor}
use Rattle.text.specs.Tests.{cases, and_T, true_T}
use Rattle.spans.specs.Sgr.{digit, parameters, all_at_most, allowed, meaning_after, follow, orders_from, orders}
use Rattle.spans.specs.Sequence.{leading, parameter_byte}
use Rattle.spans.specs.Sgr.Contracts.{more, numbers, Scanned, Stand, beginning, ending, stand_of, stand, number_from, next_number, GivesNumber, numbers_at, numbers_left, onward, next_from, next_order, orders_left, orders_of, next_of}
use Rattle.spans.specs.declared.sgr.Parameters.{Parameters}
use Rattle.spans.specs.declared.sgr.Orders.{Orders}
use Rattle.spans.specs.declared.sgr.Sgr.{Sgr}
use Rattle.spans.specs.declared.sgr.Meaning.{Meaning}
use Rattle.spans.specs.declared.sgr.Meaning.TheVariants as step
use Rattle.spans.specs.declared.sgr.ColorState.{ColorState}
use Rattle.spans.specs.declared.sgr.ColorState.TheVariants.{Ready, WantKind, WantIndex, WantRed, WantGreen, WantBlue}
use Rattle.spans.proofs.KnownParameters.{said_out}

-- ---- numbers above 65,535 are alike

capped : ℕ → ℕ
capped v = cond (leb v 65535) v 65536

capped_low : (v : ℕ) → v ≤ 65535 → capped v ≡ v
unfolding capped
capped_low v h = rw (le-leb v 65535 h)

capped_high : (v : ℕ) → 65535 < v → capped v ≡ 65536
unfolding capped
capped_high v h = rw (lt-leb v 65535 h)

-- two numbers are the same, or both above 65,535
alike : {X : Type 0} (v w : ℕ) → capped v ≡ capped w → (v ≡ w → X) → (65535 < v → 65535 < w → X) → X
alike v w e f g =
    cases (leb v 65535)
    (λ p. let i : v ≤ 65535 = leb-true v 65535 p in
    cases (leb w 65535)
    (λ q. f (sym (capped_low v i) ∙ e ∙ capped_low w (leb-true w 65535 q)))
    (λ q. absurd (omega (arith, i, sym (capped_low v i) ∙ e ∙ capped_high w (leb-false w 65535 q)))))
    (λ p. let i : 65535 < v = leb-false v 65535 p in
    cases (leb w 65535)
    (λ q. let j : w ≤ 65535 = leb-true w 65535 q in absurd (omega (arith, sym (capped_high v i) ∙ e ∙ capped_low w j)))
    (λ q. g i (leb-false w 65535 q)))

capped_digit : (v w b : ℕ) → capped v ≡ capped w → 48 ≤ b → b ≤ 57 → capped (v * 10 + (b - 48)) ≡ capped (more w b)
unfolding more
capped_digit v w b e h i =
    alike v w e
    (λ q. cases (leb w 65535)
    (λ p. let d : b - 48 ≡ b % 16 = omega arith in rw (p, q, d))
    (λ p. let k : 65535 < w = leb-false w 65535 p in rw p (capped_high (v * 10 + (b - 48)) (omega arith) ∙ sym (capped_high w k))))
    (λ p q. rw (lt-leb w 65535 q) (capped_high (v * 10 + (b - 48)) (omega arith) ∙ sym (capped_high w q)))

numbers_like : (s : List ℕ) → (v w : ℕ) → capped v ≡ capped w → map capped (parameters v s) ≡ map capped (numbers w s)
unfolding parameters numbers
numbers_like [] = λ v w e. ap (λ (x : ℕ). x ∷ []) e
numbers_like (b ∷ s) = λ v w e.
    cases (digit b)
    (λ d.
    let t = and_T (leb 0x30 b) (leb b 0x39) (true_T d) in
    rw d (numbers_like s (v * 10 + (b - 48)) (more w b) (capped_digit v w b e (leb→le _ _ t.0) (leb→le _ _ t.1))))
    (λ d. cases (eqb b 0x3B)
    (λ n. rw (d, n, e, numbers_like s 0 0 refl))
    (λ n. rw (d, n) (ap (λ (x : ℕ). x ∷ []) e)))

all_capped : (xs : List ℕ) → all_at_most 65535 xs ≡ all_at_most 65535 (map capped xs)
unfolding all_at_most
all_capped [] = refl
all_capped (v ∷ vs) =
    cases (leb v 65535)
    (λ p. rw (capped_low v (leb-true v 65535 p), all_capped vs))
    (λ p. rw (capped_high v (leb-false v 65535 p), p))

allowed_like : (xs ys : List ℕ) → map capped xs ≡ map capped ys → allowed xs ≡ allowed ys
unfolding allowed
allowed_like xs ys e =
    let l : length xs ≡ length ys = sym (length-map xs capped) ∙ ap length e ∙ length-map ys capped in
    rw (l, all_capped xs, e, ← all_capped ys)

allowed_same : (s : List ℕ) → allowed (numbers 0 s) ≡ allowed (parameters 0 s)
allowed_same s = sym (allowed_like (parameters 0 s) (numbers 0 s) (numbers_like s 0 0 refl))

-- a number above 65,535 is unknown everywhere
stop_out : (w : ColorState) (p : ℕ) → 65535 < p → meaning_after w p ≡ step.Unknown
unfolding meaning_after
stop_out Ready p h = sym (said_out p (omega arith))
stop_out (WantKind t) p h = rw (ne_eqb p 5 (λ e. omega arith), ne_eqb p 2 (λ e. omega arith))
stop_out (WantIndex t) p h = rw (lt-leb p 255 (omega arith))
stop_out (WantRed t) p h = rw (lt-leb p 255 (omega arith))
stop_out (WantGreen t r) p h = rw (lt-leb p 255 (omega arith))
stop_out (WantBlue t r g) p h = rw (lt-leb p 255 (omega arith))

step_like : (w : ColorState) (p q : ℕ) → capped p ≡ capped q → meaning_after w p ≡ meaning_after w q
step_like w p q e = alike p q e (λ f. ap (meaning_after w) f) (λ f g. stop_out w p f ∙ sym (stop_out w q g))

orders_like : (xs ys : List ℕ) → map capped xs ≡ map capped ys → (w : ColorState) → orders_from w xs ≡ orders_from w ys
unfolding orders_from
orders_like [] [] e = λ w. refl
orders_like [] (y ∷ ys) e = λ w. absurd (let z = ap length e in omega arith)
orders_like (x ∷ xs) [] e = λ w. absurd (let z = ap length e in omega arith)
orders_like (x ∷ xs) (y ∷ ys) e = λ w. rw (step_like w x y (cc)) (rest (meaning_after w y) (λ w. orders_like xs ys (cc) w))
  where
    rest : (t : Meaning) → ((w : ColorState) → orders_from w xs ≡ orders_from w ys) → follow t (λ w. orders_from w xs) ≡ follow t (λ w. orders_from w ys)
    rest (step.Order o) ih = ap (λ (l : List Sgr). o ∷ l) (ih Ready)
    rest (step.Group w) ih = ih w
    rest step.Unknown ih = refl

pub orders_same : (w : ColorState) (s : List ℕ) → orders_from w (numbers 0 s) ≡ orders_from w (parameters 0 s)
orders_same w s = sym (orders_like (parameters 0 s) (numbers 0 s) (numbers_like s 0 0 refl) w)

-- ---- the bytes at a place
module _ (s : List ℕ) (i : ℕ) where
  bytes_digit : i < length s → digit (get_or s i 0) ≡ true → leading parameter_byte (drop i s) ≡ suc (leading parameter_byte (drop (i + 1) s))
  unfolding leading
  bytes_digit h d = rw (drop-cons s i 0 h, d, add-one)

  bytes_next : i < length s → digit (get_or s i 0) ≡ false → get_or s i 0 ≡ 0x3B → leading parameter_byte (drop i s) ≡ suc (leading parameter_byte (drop (i + 1) s))
  unfolding leading
  bytes_next h d e = rw (drop-cons s i 0 h, d, eq-eqb (get_or s i 0) 0x3B e, add-one)

  bytes_stop : i < length s → digit (get_or s i 0) ≡ false → (get_or s i 0 ≡ 0x3B → ⊥) → leading parameter_byte (drop i s) ≡ 0
  unfolding leading
  bytes_stop h d e = rw (drop-cons s i 0 h, d, ne_eqb (get_or s i 0) 0x3B e)

  bytes_end : length s ≤ i → leading parameter_byte (drop i s) ≡ 0
  unfolding leading
  bytes_end h = rw (drop_of_length-le s h)

  numbers_digit : (v : ℕ) → i < length s → digit (get_or s i 0) ≡ true → numbers v (drop i s) ≡ numbers (more v (get_or s i 0)) (drop (i + 1) s)
  unfolding numbers
  numbers_digit v h d = rw (drop-cons s i 0 h, d, add-one)

  numbers_next : (v : ℕ) → i < length s → digit (get_or s i 0) ≡ false → get_or s i 0 ≡ 0x3B → numbers v (drop i s) ≡ v ∷ numbers 0 (drop (i + 1) s)
  unfolding numbers
  numbers_next v h d e = rw (drop-cons s i 0 h, d, eq-eqb (get_or s i 0) 0x3B e, add-one)

  numbers_stop : (v : ℕ) → i < length s → digit (get_or s i 0) ≡ false → (get_or s i 0 ≡ 0x3B → ⊥) → numbers v (drop i s) ≡ v ∷ []
  unfolding numbers
  numbers_stop v h d e = rw (drop-cons s i 0 h, d, ne_eqb (get_or s i 0) 0x3B e)

  numbers_end : (v : ℕ) → length s ≤ i → numbers v (drop i s) ≡ v ∷ []
  unfolding numbers
  numbers_end v h = rw (drop_of_length-le s h)

-- ---- the scan: `count` numbers were read, all of them at most 65,535 where f

unfoldable pub allowed_more : Bool → ℕ → List ℕ → Bool
allowed_more f count ns = ◌&&◌ f (◌&&◌ (leb (count + length ns) 32) (all_at_most 65535 ns))

pub record Scanning (s : List ℕ) (i count : ℕ) (f : Bool) (v : ℕ) : Type 0 where
  pub len : i + leading parameter_byte (drop i s) ≡ leading parameter_byte s
  pub fine : allowed_more f count (numbers v (drop i s)) ≡ allowed (numbers 0 s)
  pub low : i ≤ length s
  pub few : count ≤ i

turn_round : (p q r : Bool) → ◌&&◌ p (◌&&◌ q r) ≡ ◌&&◌ q (◌&&◌ p r)
turn_round true true r = refl
turn_round true false r = refl
turn_round false true r = refl
turn_round false false r = refl

shift : (x : ℕ) (ns : List ℕ) (f : Bool) (c : ℕ) → allowed_more f c (x ∷ ns) ≡ allowed_more (f && leb x 65535) (c + 1) ns
unfolding allowed_more all_at_most
shift x ns true c =
    let e : c + suc (length ns) ≡ c + 1 + length ns = omega arith in
    rw (e, turn_round (leb (c + 1 + length ns) 32) (leb x 65535) (all_at_most 65535 ns))
shift x ns false c = refl

pub scan_begins : (s : List ℕ) → Scanning s 0 0 true 0
unfolding allowed allowed_more
scan_begins s = record { len = omega arith; fine = rw zero-add; low = omega arith; few = omega arith }

pub scan_digit : (s : List ℕ) (i count v w : ℕ) (f d : Bool) → Scanning s i count f v → i < length s → d ≡ digit (get_or s i 0) → d ≡ true → w ≡ more v (get_or s i 0) → Scanning s (i + 1) count f w
scan_digit s i count v w f d z h p q r =
    let t : digit (get_or s i 0) ≡ true = sym p ∙ q in
    record {
      len = omega (arith, z.len, bytes_digit s i h t);
      fine = rw (r, ← numbers_digit s i v h t) z.fine;
      low = omega arith;
      few = omega (arith, z.few);
    }

pub scan_next : (s : List ℕ) (i count v : ℕ) (f d : Bool) → Scanning s i count f v → i < length s → d ≡ digit (get_or s i 0) → d ≡ false → get_or s i 0 ≡ 0x3B → Scanning s (i + 1) (count + 1) (f && leb v 65535) 0
scan_next s i count v f d z h p q n =
    let t : digit (get_or s i 0) ≡ false = sym p ∙ q in
    record {
      len = omega (arith, z.len, bytes_next s i h t n);
      fine = rw (← shift, ← numbers_next s i v h t n) z.fine;
      low = omega arith;
      few = omega (arith, z.few);
    }

commute : (p q : Bool) → (q && p) ≡ ◌&&◌ p (◌&&◌ q true)
commute true true = refl
commute true false = refl
commute false true = refl
commute false false = refl

last : (f : Bool) (v count : ℕ) → ((f && leb v 65535) && ltb count 32) ≡ allowed_more f count (v ∷ [])
unfolding allowed_more all_at_most
last true v count = rw add-one (commute (ltb count 32) (leb v 65535))
last false v count = refl

-- the ends
module _ (s : List ℕ) (i count v : ℕ) (f : Bool) (z : Scanning s i count f v) where
  scanned : leading parameter_byte (drop i s) ≡ 0 → numbers v (drop i s) ≡ v ∷ [] → Scanned s (record { len = i; fine = (f && leb v 65535) && ltb count 32 })
  scanned a b = record { len = omega (arith, z.len); fine = last f v count ∙ rw (← b) z.fine ∙ allowed_same s; low = z.low }

  pub scan_past : length s ≤ i → Scanned s (record { len = i; fine = (f && leb v 65535) && ltb count 32 })
  scan_past h = scanned (bytes_end s i h) (numbers_end s i v h)

  pub scan_stops : (d : Bool) → i < length s → d ≡ digit (get_or s i 0) → d ≡ false → (get_or s i 0 ≡ 0x3B → ⊥) → Scanned s (record { len = i; fine = (f && leb v 65535) && ltb count 32 })
  scan_stops d h p q n = let t : digit (get_or s i 0) ≡ false = sym p ∙ q in scanned (bytes_stop s i h t n) (numbers_stop s i v h t n)

-- ---- one after the other

-- what an iterator gives that has one item fewer left
pub progress : {S A : Type 0} (rest : S → List A) (s t : S) (x : A) → rest s ≡ x ∷ rest t → MakesProgress (λ (s : S). ⊤) (item_count rest) s (Some x) t
progress rest s t x e = record { on = λ h. (tt, tt, omega (arith, ap length e)); keeps = tt; rests = λ h. tt }

pub one_more : (n : ℕ) → 1 + n ≡ suc n
one_more n = omega arith

-- a number is what the digits in front write, and the reading stands after them, or after the `;` there
separated : List ℕ → Stand
separated [] = ending []
separated (b ∷ s) = cond (eqb b 0x3B) (beginning s) (ending (b ∷ s))

number_digits : (s : List ℕ) (v : ℕ) → number_from v s ≡ (fold more v (take (prefix_len digit s) s), separated (drop (prefix_len digit s) s))
unfolding number_from separated
number_digits [] v = refl
number_digits (b ∷ s) v =
    cases (digit b)
    (λ y. rw (y, one_more (prefix_len digit s)) (number_digits s (more v b)))
    (λ y. cases (eqb b 0x3B) (λ n. rw (y, n) refl) (λ n. rw (y, n) refl))

stripped : (d : List ℕ) (r : Option (Bor (List ℕ))) (u : Bor (List ℕ)) → u.now ≡ d → MatchOption r ((rest : List ℕ) → d ≢ 0x3B ∷ rest) (λ x. d ≡ 0x3B ∷ x.now) → separated d ≡ record { rest = (unwrap_or r u).now; further = is_some r }
unfolding separated
stripped [] None u e h = rw e refl
stripped [] (Some x) u e h = absurd (let z = ap length h in omega (arith, z))
stripped (b ∷ s) None u e h = rw (e, ne_eqb b 0x3B (λ i. h s (rw i refl))) refl
stripped (b ∷ s) (Some x) u e h =
    let i : b ≡ 0x3B = ap (λ (l : List ℕ). get_or l 0 0) h in
    let f : s ≡ x.now = ap (λ (l : List ℕ). drop 1 l) h in
    rw (i, f) refl

pub no_number : (c : Stand) → c.further ≡ false → next_number c ≡ None
unfolding next_number
no_number c f = rw f refl

-- where no parameter is left the reading stands where it stood
pub stays : (c d : Stand) → c.further ≡ false → d.rest ≡ c.rest → d.further ≡ false → d ≡ c
stays c d e f g = rw (f, g, e) refl

pub one_number : (p q : Parameters) (n x : ℕ) (d : List ℕ) (a : Bor (List ℕ)) (r : Option (Bor (List ℕ))) → p.further ≡ true → n ≡ prefix_len digit p.rest.now → d ≡ take n p.rest.now → a.now ≡ drop n p.rest.now → x ≡ fold more 0 d
    → MatchOption r (pointwise eqb (take 1 a.now) (0x3B ∷ []) ≡ false) (λ y. (pointwise eqb (take 1 a.now) (0x3B ∷ []) ≡ true) × (y.now ≡ drop 1 a.now) × (length y.now + 1 ≡ length a.now))
    → q.rest ≡ unwrap_or r a → q.further ≡ is_some r → next_number (stand_of p) ≡ Some (x, stand_of q)
unfolding next_number
one_number p q n x d a r t e f g i h j k =
    let s : List ℕ = p.rest.now in
    let z = stripped a.now r a refl (strip_prefix_is Decides-eqb a.now (0x3B ∷ []) r h) in
    rw (t, i, f, e, number_digits s 0, j, k, ← z, g, e) refl

-- the numbers that are left
number_left : (s : List ℕ) (v : ℕ) → numbers v s ≡ (number_from v s).0 ∷ numbers_at (number_from v s).1
unfolding number_from numbers
number_left [] v = refl
number_left (b ∷ s) v =
    cases (digit b)
    (λ y. rw y (number_left s (more v b)))
    (λ y. cases (eqb b 0x3B) (λ n. rw (y, n) refl) (λ n. rw (y, n) refl))

number_is : (c d : Stand) (n : ℕ) → next_number c ≡ Some (n, d) → c.further ≡ true → number_from 0 c.rest ≡ (n, d)
unfolding next_number
number_is c d n e f = same_Some (number_from 0 c.rest) (n, d) (rw f at e)

none_left : (c : Stand) → next_number c ≡ None → numbers_at c ≡ []
unfolding next_number
none_left c e =
    cases c.further
    (λ f. absurd (none-some (number_from 0 c.rest) (sym (rw f at e))))
    (λ f. rw f refl)

pub left_after : (c d : Stand) (n : ℕ) → next_number c ≡ Some (n, d) → numbers_at c ≡ n ∷ numbers_at d
unfolding next_number
left_after c d n e =
    cases c.further
    (λ f. rw f (rw (number_is c d n e f) at (number_left c.rest 0)))
    (λ f. absurd (none-some (n, d) (rw f at e)))

-- so the numbers come one after the other, and where none is left none is left after the call either
pub yields_first : (p q : Parameters) (r : Option ℕ) → GivesNumber p r q → YieldsFirst numbers_left p r q
yields_first p q None h = let e : numbers_left p ≡ [] = none_left (stand_of p) h.0 in (e, ap numbers_at h.1 ∙ e)
yields_first p q (Some n) h = left_after (stand_of p) (stand_of q) n h

pub orders_at_law : (s t : List ℕ) → t ≡ s → orders_from Ready (numbers 0 t) ≡ orders (parameters 0 s)
unfolding orders
orders_at_law s t e = rw e (orders_same Ready s)

-- ---- the next order

-- the reading goes on, where w waits
pub go_on : ColorState → Stand → Option (Sgr × Stand)
go_on w c = cond c.further (next_from w 0 c.rest) None

number_said : (s : List ℕ) (w : ColorState) (v : ℕ) → next_from w v s ≡ onward (meaning_after w (number_from v s).0) (number_from v s).1 (λ x. go_on x (number_from v s).1)
unfolding next_from number_from go_on
number_said [] w v = refl
number_said (b ∷ s) w v =
    cases (digit b)
    (λ y. rw y (number_said s w (more v b)))
    (λ y. cases (eqb b 0x3B) (λ n. rw (y, n) refl) (λ n. rw (y, n) refl))

pub reading_begins : (c : Stand) → go_on Ready c ≡ next_order c
unfolding next_order go_on
reading_begins c = refl

-- what the next number says
module _ (w : ColorState) (c : Stand) (z : Option (Sgr × Stand)) (i : go_on w c ≡ z) where
  pub reading_ends : next_number c ≡ None → None ≡ z
  unfolding next_number go_on
  reading_ends e =
      cases c.further
      (λ f. absurd (none-some (number_from 0 c.rest) (sym (rw f at e))))
      (λ f. rw f at i)

  module _ (p : ℕ) (d : Stand) (e : next_number c ≡ Some (p, d)) (t : Meaning) (f : t ≡ meaning_after w p) where
    said : onward t d (λ x. go_on x d) ≡ z
    unfolding next_number go_on
    said =
        cases c.further
        (λ g. rw f (sym (rw (number_is c d p e g) at (number_said c.rest w 0)) ∙ (rw g at i)))
        (λ g. absurd (none-some (p, d) (rw g at e)))

    pub reading_order : (o : Sgr) → t ≡ step.Order o → Some (o, d) ≡ z
    unfolding onward
    reading_order o q = rw q at said

    pub reading_goes_on : (x : ColorState) → t ≡ step.Group x → go_on x d ≡ z
    unfolding onward
    reading_goes_on x q = rw q at said

    pub reading_stops : t ≡ step.Unknown → None ≡ z
    unfolding onward
    reading_stops q = rw q at said

-- ---- the orders that it gives

orders_in : Option (Sgr × Stand) → List Sgr
orders_in None = []
orders_in (Some x) = x.0 ∷ orders_from Ready (numbers_at x.1)

orders_onward : (t : Meaning) (c : Stand) (go : ColorState → Option (Sgr × Stand)) → ((x : ColorState) → orders_in (go x) ≡ orders_from x (numbers_at c)) → orders_in (onward t c go) ≡ follow t (λ x. orders_from x (numbers_at c))
unfolding onward follow orders_in
orders_onward (step.Order o) c go h = refl
orders_onward (step.Group w) c go h = h w
orders_onward step.Unknown c go h = refl

from_orders : (s : List ℕ) (w : ColorState) (v : ℕ) → orders_in (next_from w v s) ≡ orders_from w (numbers v s)
unfolding next_from numbers orders_from orders_in
from_orders [] w v = orders_onward (meaning_after w v) (ending []) (λ x. None) (λ x. refl)
from_orders (b ∷ s) w v =
    cases (digit b)
    (λ y. rw y (from_orders s w (more v b)))
    (λ y. cases (eqb b 0x3B)
    (λ n. rw (y, n) (orders_onward (meaning_after w v) (beginning s) (λ x. next_from x 0 s) (λ x. from_orders s x 0)))
    (λ n. rw (y, n) (orders_onward (meaning_after w v) (ending (b ∷ s)) (λ x. None) (λ x. refl))))

next_orders : (c : Stand) → orders_in (next_order c) ≡ orders_from Ready (numbers_at c)
unfolding next_order orders_in orders_from
next_orders c = cases c.further (λ f. rw f (from_orders c.rest Ready 0)) (λ f. rw f refl)

given_orders : (r : Option (Sgr × Orders)) → orders_of r ≡ orders_in (next_of r)
unfolding orders_in
given_orders None = refl
given_orders (Some x) = refl

pub orders_given : (c : Orders) (r : Option (Sgr × Orders)) → next_of r ≡ next_order (stand c) → orders_of r ≡ orders_left c
orders_given c r e = given_orders r ∙ ap orders_in e ∙ next_orders (stand c)
