-- Regional indicators: one at a place, whether an odd number of them ends there, and places at which an even number does.
use Prim.Native.Nat.{◌%◌, ◌+◌, ◌-◌, ◌/◌, ◌<◌, ◌≤◌, ℕ}
use native.Mathlib.Nat.{add-zero}
use native.Mathlib.Omega.{arith}
use mathlib.Core.Bool.{Bool, ◌&&◌, ◌||◌, and-false, cond, false, not, true, true≢false}
use mathlib.Core.List.{List, [], ◌++◌, ◌∷◌, append_assoc, reverse, reverse_aux, reverse_aux-eq}
use mathlib.Core.Logic.{◌≢◌, ⊎_elim}
use mathlib.Core.Path.{◌∙◌, ◌≡◌, ap, ap₂, refl, sym}
use lib.Dec.{T, eqb, leb}
use lib.ListN.{drop, length, take, take-append-drop}
use lib.Seq.{get_or-drop, take-take}
use borrow.Author.Tests.{eqb-true, leb-false, leb-true}
use Rattle.text.specs.Backward.{KnownPlace, ScalarStart, back, indicator_at, joins_at, without_last}
use Rattle.text.specs.Class.{Class, Profile, among, class01, class_l, class_lv, class_lvt, class_t, class_v, control, controls, cr, extend, extended_pictographic, extends, in_any, is_control, lf, number, other, pictographs, regional_indicator, zwj}
use Rattle.text.specs.Cluster.{Context, after, class_of, context, joined, joins, start}
use Rattle.text.specs.Utf8.Code.{sequence_or_zero, size}
use Rattle.text.specs.Class.Code.{profile_of}
use Rattle.text.specs.Scalar.{packed_at}
use Rattle.text.specs.Scalar.Laws.{NoScalar, PackedScalar, packed_inside, packed_view}
use Rattle.text.specs.Tests.{cases, in_range_law, every, every_one}
use Rattle.text.specs.TextParts.{text_at}
use Rattle.text.specs.Utf8.{Scalar, bytes_of, decode, run_of, sequence, to, within}
use Rattle.text.proofs.BackwardWalk.{OddLoop, PictographLoop, class_of_law, flip, flip_false, front_is, head_of, joined_indicators, joined_picture, joins_known, odd_on, odd_other, odd_ri, pictograph_known}
use Rattle.text.proofs.LeadBytes.{high_len}
use Rattle.text.proofs.PackedScalars.{indicator}
use Rattle.text.proofs.Runs.{Head, back_scalar, run_drop, run_head, run_inside, size_reverse}
use Rattle.text.proofs.ContinuationBytes.{back_to, seq_lead, seq_tails}
use Rattle.text.proofs.Texts.{run_append, run_prefix}
use Rattle.text.specs.declared.class.Profile as code
use Rattle.text.specs.Class.Ranges.{clear, clear_any}

context_none : (P : Profile) → context P [] ≡ start
unfolding context
context_none P = refl

odd_none : (P : Profile) → (context P []).odd ≡ false
odd_none P = ap (λ (k : Context). k.odd) (context_none P)

-- ---- a regional indicator at a place

-- no control is one
control_kind_law : ℕ → Bool
control_kind_law x = not (is_control x) || leb (number (class01 x)) 2

control_kinds : T (every control_kind_law 0 160)
unfolding every control_kind_law is_control number class01
control_kinds = tt

indicator_code : (v : code.Profile) (x : ℕ) → number ((profile_of v).class x) ≡ 10 → is_control x ≡ false
unfolding profile_of control_kind_law is_control clear
indicator_code v x e =
    cases (leb x 0x9F)
    (λ l.
    cases (in_any (to 0x00 0x1F ∷ to 0x7F 0x9F ∷ []) x)
    (λ t.
    let k : leb (number (class01 x)) 2 ≡ true = rw t at (every_one control_kind_law 160 0 x control_kinds (omega arith) (omega (arith, leb-true x 0x9F l))) in
    absurd (omega (arith, leb-true (number (class01 x)) 2 k, e)))
    (λ f. f))
    (λ l. clear_any (to 0x00 0x1F ∷ to 0x7F 0x9F ∷ []) 0xA0 x x tt (omega (arith, leb-false x 0x9F l)) (omega arith))

module _ (P : Profile) (t : List ℕ) (j : ℕ) (e : indicator_at P t j ≡ true) where
  reads : 212 ≡ packed_at P t j
  reads = sym (eqb-true (packed_at P t j) 212 e)

  there : PackedScalar P t j 212
  there = ⊎_elim
      (λ (n : NoScalar t j 212). absurd (omega (arith, n.zero)))
      (λ (x : PackedScalar P t j 212). x)
      (packed_view P t j 212 (packed_inside P t j 212 reads (λ z. omega (arith, z))) reads)

  head : Head (drop j t) there.c (text_at t (j + 212 % 8))
  head = run_head (drop j t) there.c (text_at t (j + 212 % 8)) there.run

  -- it begins four bytes before its end
  pub indicator_back : (i : ℕ) → 4 ≤ i → j ≡ i - 4 → back t i ≡ j
  indicator_back i h k =
      let s : sequence (drop j t) ≡ 4 = head.seq ∙ there.len in
      back_to 3 t j 4 i (omega (arith, h, k)) (omega arith) (rw (get_or-drop, add-zero) at (seq_lead (drop j t) 3 s)) (λ m l. rw get_or-drop at (seq_tails (drop j t) m 4 s l))

  pub indicator_class : (d : Scalar) (rest es : List Scalar) → run_of (decode t) ≡ reverse_aux rest (d ∷ es) → j ≡ size rest → number (P.class d.code) ≡ 10
  indicator_class d rest es p q = sym (class_of_law P t j 10 d rest es p q (ap (λ (n : ℕ). n / 8 % 16) reads))

pub indicator_control : (v : code.Profile) (t : List ℕ) (j : ℕ) → indicator_at (profile_of v) t j ≡ true → false ≡ is_control (sequence_or_zero (decode (drop j t))).code
indicator_control v t j e = sym (ap is_control (head (profile_of v) t j e).coded ∙ indicator_code v (there (profile_of v) t j e).c.code (there (profile_of v) t j e).class)

-- ---- every scalar of this class is one

not_ten : (b : Bool) (k rest : Class) → (number k ≢ 10) → number (cond b k rest) ≡ 10 → number rest ≡ 10
not_ten true k rest n e = absurd (n e)
not_ten false k rest n e = e

indicator_range : (v : code.Profile) (x : ℕ) → number ((profile_of v).class x) ≡ 10 → within (to 0x1F1E6 0x1F1FF) x ≡ true
unfolding profile_of class01 number
indicator_range v x e =
    let e₁ = not_ten (eqb x 0x0D) cr _ (λ z. omega (arith, z)) e in
    let e₂ = not_ten (eqb x 0x0A) lf _ (λ z. omega (arith, z)) e₁ in
    let e₃ = not_ten (in_any controls x) control _ (λ z. omega (arith, z)) e₂ in
    let e₄ = not_ten (in_any extends x) extend _ (λ z. omega (arith, z)) e₃ in
    let e₅ = not_ten (eqb x 0x200D) zwj _ (λ z. omega (arith, z)) e₄ in
    let e₆ = not_ten (in_any (to 0x1100 0x115F ∷ to 0xA960 0xA97C ∷ []) x) class_l _ (λ z. omega (arith, z)) e₅ in
    let e₇ = not_ten (in_any (to 0x1160 0x11A7 ∷ to 0xD7B0 0xD7C6 ∷ []) x) class_v _ (λ z. omega (arith, z)) e₆ in
    let e₈ = not_ten (in_any (to 0x11A8 0x11FF ∷ to 0xD7CB 0xD7FB ∷ []) x) class_t _ (λ z. omega (arith, z)) e₇ in
    let e₉ = not_ten (within (to 0xAC00 0xD7A3) x) (cond (eqb ((x - 0xAC00) % 28) 0) class_lv class_lvt) _ (no_syllable (eqb ((x - 0xAC00) % 28) 0)) e₈ in
    last (within (to 0x1F1E6 0x1F1FF) x) (in_any pictographs x) e₉
  where
    no_syllable : (b : Bool) → number (cond b class_lv class_lvt) ≢ 10
    no_syllable true z = omega (arith, z)
    no_syllable false z = omega (arith, z)

    last : (b p : Bool) → number (cond b regional_indicator (cond p extended_pictographic other)) ≡ 10 → b ≡ true
    last true p z = refl
    last false true z = absurd (omega (arith, z))
    last false false z = absurd (omega (arith, z))

module _ (v : code.Profile) (t : List ℕ) (d : Scalar) (rest es : List Scalar) (p : run_of (decode t) ≡ reverse_aux rest (d ∷ es)) (k : number ((profile_of v).class d.code) ≡ 10) where
  pub indicator_there : indicator_at (profile_of v) t (size rest) ≡ true
  unfolding packed_at
  indicator_there =
      let h = run_head (drop (size rest) t) d es (run_drop rest (d ∷ es) t p) in
      let r = indicator_range v d.code k in
      let w = in_range_law 0x1F1E6 0x1F1FF d.code r in
      let n : (sequence_or_zero (decode (drop (size rest) t))).len ≡ 4 = high_len t (size rest) (run_inside d rest es t p) (rw h.coded (omega (arith, w.0))) in
      rw (n, h.coded, ← indicator v d.code r) refl

  pub indicator_size : length d.bytes ≡ 4
  unfolding head_of
  indicator_size =
      let x = there (profile_of v) t (size rest) indicator_there in
      let s : x.c ≡ d = ap (head_of d) (sym x.run ∙ run_drop rest (d ∷ es) t p) in
      ap (λ (y : Scalar). length y.bytes) (sym s) ∙ x.len

-- ---- an odd number that ends at a place

module _ (v : code.Profile) (t : List ℕ) (i : ℕ) (odd total : Bool) (l : OddLoop (profile_of v) t i odd total) where
  -- the scalar before is none
  odd_last : ((d : Scalar) (rest : List Scalar) → run_of (decode t) ≡ reverse_aux (d ∷ rest) l.es → size (d ∷ rest) ≡ i → number ((profile_of v).class d.code) ≢ 10) → odd ≡ total
  odd_last f = go l.rest l.parts l.place l.known
    where
      go : (rest : List Scalar) → run_of (decode t) ≡ reverse_aux rest l.es → size rest ≡ i → total ≡ flip odd (context (profile_of v) rest).odd → odd ≡ total
      go [] p s w = sym (w ∙ ap (flip odd) (odd_none (profile_of v)) ∙ flip_false odd)
      go (d ∷ rest) p s w = sym (w ∙ ap (flip odd) (odd_other (profile_of v) d rest (f d rest p s)) ∙ flip_false odd)

  pub odd_few : i < 4 → odd ≡ total
  unfolding size
  odd_few h = odd_last (λ d rest p s k. omega (arith, h, s, indicator_size v t d rest l.es p k))

  module _ (r : Bool) (f : r ≡ indicator_at (profile_of v) t (i - 4)) (h : 4 ≤ i) where
    pub odd_stops : r ≡ false → odd ≡ total
    unfolding size
    odd_stops z = odd_last (λ d rest p s k.
        let n : size rest ≡ i - 4 = omega (arith, s, indicator_size v t d rest l.es p k) in
        true≢false (sym (rw n at (indicator_there v t d rest l.es p k)) ∙ sym f ∙ z))

    pub odd_turns : r ≡ true → OddLoop (profile_of v) t (i - 4) (not odd) total
    odd_turns z =
        let e : indicator_at (profile_of v) t (i - 4) ≡ true = sym f ∙ z in
        odd_on (profile_of v) t i odd total (i - 4) 10 (omega (arith, h)) (sym (indicator_back (profile_of v) t (i - 4) e i h refl)) (ap (λ (n : ℕ). n / 8 % 16) (reads (profile_of v) t (i - 4) e)) refl l

-- ---- known places

pub known_zero : (P : Profile) (t : List ℕ) → KnownPlace P t 0
unfolding size
known_zero P t = record { rest = []; es = run_of (decode t); parts = refl; place = refl; known = context_none P }

-- with more behind it
pub known_more : (P : Profile) (t u : List ℕ) (ys : List Scalar) (i : ℕ) → run_of (decode u) ≡ run_of (decode t) ++ ys → KnownPlace P t i → KnownPlace P u i
known_more P t u ys i e w = record {
  rest = w.rest;
  es = w.es ++ ys;
  parts = e ∙ ap (λ (x : List Scalar). x ++ ys) (w.parts ∙ reverse_aux-eq w.rest w.es) ∙ append_assoc (reverse w.rest) w.es ys ∙ sym (reverse_aux-eq w.rest (w.es ++ ys));
  place = w.place;
  known = w.known;
}

-- within a beginning that holds it
pub known_front : (P : Profile) (t : List ℕ) (q i : ℕ) → i ≤ q → KnownPlace P t i → KnownPlace P (take q t) i
known_front P t q i h w =
    let p : run_of (decode t) ≡ reverse w.rest ++ w.es = w.parts ∙ reverse_aux-eq w.rest w.es in
    let s : size (reverse w.rest) ≡ i = size_reverse w.rest ∙ w.place in
    let x = run_prefix (reverse w.rest) w.es t p in
    let r : run_of (decode (take i t)) ≡ reverse w.rest = rw s at x.0 in
    let b : bytes_of (reverse w.rest) ≡ take i t = rw s at x.1 in
    let c : take q t ≡ take i t ++ drop i (take q t) = sym (take-append-drop i (take q t)) ∙ ap (λ (y : List ℕ). y ++ drop i (take q t)) (take-take i q t h) in
    record {
      rest = w.rest;
      es = run_of (decode (drop i (take q t)));
      parts = ap (λ (y : List ℕ). run_of (decode y)) c ∙ run_append (reverse w.rest) (take i t) (drop i (take q t)) r b ∙ sym (reverse_aux-eq w.rest (run_of (decode (drop i (take q t)))));
      place = w.place;
      known = w.known;
    }

-- ---- counting up to an known place

pub odd_even : (v : code.Profile) (t : List ℕ) (i : ℕ) (odd total : Bool) (known : ℕ) → KnownPlace (profile_of v) t known → i ≡ known → OddLoop (profile_of v) t i odd total → odd ≡ total
odd_even v t i odd total known e z l =
    let same : l.rest ≡ e.rest = sym (front_is t known l.rest l.es l.parts (l.place ∙ z)) ∙ front_is t known e.rest e.es e.parts e.place in
    let o : (context (profile_of v) l.rest).odd ≡ false = ap (λ (x : List Scalar). (context (profile_of v) x).odd) same ∙ ap (λ (k : Context). k.odd) e.known in
    sym (l.known ∙ ap (flip odd) o ∙ flip_false odd)

pub pictograph_even : (v : code.Profile) (t : List ℕ) (i : ℕ) (total : Bool) (known : ℕ) → KnownPlace (profile_of v) t known → i ≡ known → PictographLoop (profile_of v) t i total → false ≡ total
pictograph_even v t i total known e z l = pictograph_known (profile_of v) t i total known z e l (λ e. e.known)

pub joins_even_place : (v : code.Profile) (t : List ℕ) (q known : ℕ) (a : ScalarStart t q) (j p k : ℕ) → (q ≢ 0) → j ≡ back t q → p ≡ packed_at (profile_of v) t j / 8 % 16 → k ≡ packed_at (profile_of v) t q / 8 % 16
    → KnownPlace (profile_of v) t known → q ≡ known → (eqb p 4 && eqb k 12) ≡ true → false ≡ joins_at (profile_of v) t q
joins_even_place v t q known a j p k z b f g e h m =
    joins_known (profile_of v) t q a j p k false z b f g m refl (ap (context (profile_of v)) (front_is t q e.rest e.es e.parts (e.place ∙ sym h)) ∙ e.known)

-- an even number of regional indicators leaves the context of a text's start, and so does ZWJ that no Extended_Pictographic stands before
start_at : (k : Context) → (after k 10).odd ≡ false → after k 10 ≡ start
unfolding after among number
start_at k o = rw (o, and-false k.emoji) refl

start_zwj : (k : Context) → (after k 4).emoji_zwj ≡ false → after k 4 ≡ start
unfolding after among number
start_zwj k o = rw (and-false k.emoji, o) refl

pub start_even : (P : Profile) (d : Scalar) (rest : List Scalar) → number (P.class d.code) ≡ 10 → (context P (d ∷ rest)).odd ≡ false → context P (d ∷ rest) ≡ start
unfolding context
start_even P d rest r o = ap (after (context P rest)) r ∙ start_at (context P rest) (ap (λ (n : ℕ). (after (context P rest) n).odd) (sym r) ∙ o)

pub start_behind : (P : Profile) (d : Scalar) (rest : List Scalar) (c : Scalar) → number (P.class d.code) ≡ 4 → number (P.class c.code) ≡ 12 → joins P (d ∷ rest) c ≡ false → context P (d ∷ rest) ≡ start
unfolding context joins
start_behind P d rest c rd rc j =
    let z : (after (context P rest) 4).emoji_zwj ≡ false = sym (joined_picture (after (context P rest) 4)) ∙ sym (ap₂ (λ (m n : ℕ). joined m (after (context P rest) m) n) rd rc) ∙ j in
    ap (after (context P rest)) rd ∙ start_zwj (context P rest) z

-- ---- two regional indicators

-- an indicator behind an even number of them begins a cluster
joined_even : (p : ℕ) (k : Context) → k.odd ≡ false → joined p k 10 ≡ false
unfolding joined among number
joined_even p k e =
    rw (e, and-false k.emoji_zwj, and-false (eqb p 0), and-false (eqb p 5), and-false (eqb p 8 || eqb p 6), and-false (eqb p 9 || eqb p 7))
    (cases (eqb p 2 || (eqb p 0 || eqb p 1)) (λ f. rw f refl) (λ f. rw f refl))

joins_even : (P : Profile) (rest : List Scalar) (d : Scalar) → number (P.class d.code) ≡ 10 → (context P rest).odd ≡ false → joins P rest d ≡ false
unfolding joins
joins_even P [] d r e = refl
joins_even P (p ∷ ps) d r e = rw r (joined_even (class_of P p) (context P (p ∷ ps)) e)

pair_joins : (P : Profile) (d : Scalar) (rest : List Scalar) (c : Scalar) → number (P.class d.code) ≡ 10 → number (P.class c.code) ≡ 10 → (context P (d ∷ rest)).odd ≡ true → joins P (d ∷ rest) c ≡ true
unfolding joins
pair_joins P d rest c rd rc o = ap₂ (λ (m n : ℕ). joined m (context P (d ∷ rest)) n) rd rc ∙ joined_indicators (context P (d ∷ rest)) ∙ o

pub pair_odd : (P : Profile) (d : Scalar) (rest : List Scalar) (c : Scalar) → number (P.class d.code) ≡ 10 → number (P.class c.code) ≡ 10 → joins P (d ∷ rest) c ≡ (context P (d ∷ rest)).odd
unfolding joins
pair_odd P d rest c rd rc = ap₂ (λ (m n : ℕ). joined m (context P (d ∷ rest)) n) rd rc ∙ joined_indicators (context P (d ∷ rest))

flip_even : (b : Bool) → not b ≡ false → b ≡ true
flip_even true e = refl
flip_even false e = let z : ◌≡◌ {A = ℕ} 0 1 = cc in absurd (omega arith)

not_odd : (b : Bool) → not b ≡ true → b ≡ false
not_odd true e = let z : ◌≡◌ {A = ℕ} 0 1 = cc in absurd (omega arith)
not_odd false e = refl

-- a pair that ends in an known place is a cluster, and the place before it is even too
pub record Pair (v : code.Profile) (rev : List Scalar) (q : ℕ) : Type 0 where
  pub left : List Scalar
  pub without : without_last (profile_of v) rev ≡ left
  pub place : size left ≡ q
  pub parts : (es : List Scalar) × (reverse_aux rev [] ≡ reverse_aux left es)
  pub before : (context (profile_of v) left).odd ≡ false

pub pair_by : (v : code.Profile) (t : List ℕ) (rev : List Scalar) → run_of (decode t) ≡ reverse_aux rev [] → size rev ≡ length t → 8 ≤ length t → indicator_at (profile_of v) t (length t - 4) ≡ true → indicator_at (profile_of v) t (length t - 8) ≡ true
    → (context (profile_of v) rev).odd ≡ false → Pair v rev (length t - 8)
unfolding size without_last
pair_by v t [] e s h a b o = absurd (omega arith)
pair_by v t (c ∷ []) e s h a b o =
    let x : length t - 4 ≡ 0 = sym (indicator_back (profile_of v) t (length t - 4) a (length t) (omega arith) refl) ∙ ap (back t) (sym s) ∙ back_scalar c [] [] t e in
    absurd (omega arith)
pair_by v t (c ∷ d ∷ rest) e s h a b o =
    let P : Profile = profile_of v in
    let x : length t - 4 ≡ size (d ∷ rest) = sym (indicator_back (profile_of v) t (length t - 4) a (length t) (omega arith) refl) ∙ ap (back t) (sym s) ∙ back_scalar c (d ∷ rest) [] t e in
    let y : length t - 8 ≡ size rest = sym (indicator_back (profile_of v) t (length t - 8) b (length t - 4) (omega arith) (omega arith)) ∙ ap (back t) x ∙ back_scalar d rest (c ∷ []) t e in
    let rc : number (P.class c.code) ≡ 10 = indicator_class P t (length t - 4) a c (d ∷ rest) [] e x in
    let rd : number (P.class d.code) ≡ 10 = indicator_class P t (length t - 8) b d rest (c ∷ []) e y in
    let o₁ : (context P (d ∷ rest)).odd ≡ true = flip_even _ (sym (odd_ri P c (d ∷ rest) rc) ∙ o) in
    let o₂ : (context P rest).odd ≡ false = not_odd _ (sym (odd_ri P d rest rd) ∙ o₁) in
    let j₁ : joins P (d ∷ rest) c ≡ true = pair_joins P d rest c rd rc o₁ in
    let j₂ : joins P rest d ≡ false = joins_even P rest d rd o₂ in
    record { left = rest; without = rw (j₁, j₂) refl; place = sym y; parts = (d ∷ c ∷ [], refl); before = o₂ }

pub pair_front : (v : code.Profile) (t : List ℕ) (rev : List Scalar) (q : ℕ) → run_of (decode t) ≡ reverse_aux rev [] → (k : Pair v rev q) → run_of (decode (take q t)) ≡ reverse k.left
pair_front v t rev q e k =
    let p : run_of (decode t) ≡ reverse k.left ++ k.parts.0 = e ∙ k.parts.1 ∙ reverse_aux-eq k.left k.parts.0 in
    let s : size (reverse k.left) ≡ q = size_reverse k.left ∙ k.place in
    rw s at (run_prefix (reverse k.left) k.parts.0 t p).0
