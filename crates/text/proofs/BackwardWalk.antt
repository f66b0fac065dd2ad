-- A text read backward: the regional indicators that end at a place, a boundary there, and where the last cluster begins.
use Prim.Native.Nat.{◌%◌, ◌-◌, ◌/◌, ◌<◌, ◌≤◌, ℕ}
use native.Mathlib.Omega.{arith}
use mathlib.Core.Bool.{Bool, ◌&&◌, and-false, and-true, false, not, true}
use mathlib.Core.List.{List, [], ◌∷◌, reverse, reverse-reverse, reverse_aux, reverse_aux-eq}
use mathlib.Core.Logic.{◌≢◌, ⊎_elim}
use mathlib.Core.Path.{◌∙◌, ◌≡◌, ap, ap₂, refl, sym}
use lib.Dec.{eqb, eqb→eq, ltb}
use lib.ListN.{drop, get_or, length, take}
use borrow.Author.Tests.{eqb-false, ltb-false, ltb-true, ne_eqb}
use Rattle.text.specs.Backward.{KnownPlace, ScalarStart, back, backward, joins_at, odd_to, pictograph_to, without_last}
use Rattle.text.specs.Class.{Profile, among, number}
use Rattle.text.specs.Cluster.{Context, after, context, joined, joins, joins_next, start}
use Rattle.text.specs.Cluster.Walk.{size_is}
use Rattle.text.specs.Utf8.Code.{sequence_or_zero, is_tail, sequence_of, size, whole}
use Rattle.text.specs.Class.Code.{profile_of}
use Rattle.text.specs.Rules.{state_context}
use Rattle.text.specs.Scalar.{packed_at}
use Rattle.text.specs.Scalar.Laws.{NoScalar, PackedScalar, packed_past, packed_view}
use Rattle.text.specs.Segmentation.{never_joins_before}
use Rattle.text.specs.Tests.{and_T, cases, or_none, true_T}
use Rattle.text.specs.Class.Laws.{number_le}
use Rattle.text.specs.TextParts.{text_at}
use Rattle.text.specs.Utf8.{Scalar, decode, decode_from, run_of}
use Rattle.text.specs.declared.utf8.Sequence.{Sequence}
use Rattle.text.specs.Segmentation.Boundaries.{alone, alone_numbers, lone, lone_low}
use Rattle.text.specs.Class.Profile01.{ascii_classes}
use Rattle.text.proofs.ForwardWalk.{class_le}
use Rattle.text.proofs.Runs.{back_scalar, no_head, run_drop, run_head, run_inside, size_pos, size_reverse}
use Rattle.text.proofs.ContinuationBytes.{back_here}
use Rattle.text.proofs.Texts.{run_prefix}
use Rattle.text.specs.declared.class.Profile as code
use Rattle.text.specs.Utf8.Code.FirstSequence.{ascii_sequence, low_tail}

unfoldable pub flip : Bool → Bool → Bool
flip true b = not b
flip false b = b

-- at the place i of t: whether an odd number of regional indicators was passed, and whether an odd number ends where the passing began
pub record OddLoop (P : Profile) (t : List ℕ) (i : ℕ) (odd total : Bool) : Type 0 where
  pub rest : List Scalar
  pub es : List Scalar
  pub parts : run_of (decode t) ≡ reverse_aux rest es
  pub place : size rest ≡ i
  pub known : total ≡ flip odd (context P rest).odd

flip_not : (a b : Bool) → flip a (not b) ≡ flip (not a) b
unfolding flip
flip_not true true = refl
flip_not true false = refl
flip_not false b = refl

pub flip_false : (a : Bool) → flip a false ≡ a
unfolding flip
flip_false true = refl
flip_false false = refl

-- at the place i of t: whether an Extended_Pictographic and Extends end where the passing of Extends began
pub record PictographLoop (P : Profile) (t : List ℕ) (i : ℕ) (total : Bool) : Type 0 where
  pub rest : List Scalar
  pub es : List Scalar
  pub parts : run_of (decode t) ≡ reverse_aux rest es
  pub place : size rest ≡ i
  pub emoji : total ≡ (context P rest).emoji

-- at the place q of t, where a scalar of its last cluster begins
pub record At (P : Profile) (t : List ℕ) (q total : ℕ) : Type 0 where
  pub start : ScalarStart t q
  pub work : total ≡ size (without_last P (start.c ∷ start.rest))

-- what stands before a place of a text is one list of scalars
pub front_is : (t : List ℕ) (q : ℕ) (rest es : List Scalar) → run_of (decode t) ≡ reverse_aux rest es → size rest ≡ q → backward (take q t) ≡ rest
unfolding backward
front_is t q rest es p s =
    let n : size (reverse rest) ≡ q = size_reverse rest ∙ s in
    ap reverse (rw n at (run_prefix (reverse rest) es t (p ∙ reverse_aux-eq rest es)).0) ∙ reverse-reverse rest

pub joined_indicators : (k : Context) → joined 10 k 10 ≡ k.odd
unfolding joined among number
joined_indicators k = rw (and-false k.emoji_zwj) (cases k.odd (λ e. rw e refl) (λ e. rw e refl))

pub joined_picture : (k : Context) → joined 4 k 12 ≡ k.emoji_zwj
unfolding joined among number
joined_picture k = rw (and-false k.odd) (cases k.emoji_zwj (λ e. rw e refl) (λ e. rw e refl))

-- the context counts for a regional indicator and an Extended_Pictographic alone
joined_context : (p c : ℕ) (k k' : Context) → k.odd && eqb c 10 ≡ (k'.odd && eqb c 10) → k.emoji_zwj && eqb c 12 ≡ (k'.emoji_zwj && eqb c 12) → joined p k c ≡ joined p k' c
unfolding joined among number
joined_context p c k k' e f = rw (e, f) refl

and_same : (a b c : Bool) → (c ≡ true → a ≡ b) → (a && c) ≡ (b && c)
and_same a b true f = ap (λ (x : Bool). x && true) (f refl)
and_same a b false f = and-false a ∙ sym (and-false b)

-- the scalar before
pub start_before : (t : List ℕ) (q j : ℕ) → ScalarStart t q → (q ≢ 0) → j ≡ back t q → ScalarStart t j
unfolding size
start_before t q j a z b = go a.c a.rest a.es a.parts a.place
  where
    go : (c : Scalar) (rest es : List Scalar) → run_of (decode t) ≡ reverse_aux rest (c ∷ es) → size rest ≡ q → ScalarStart t j
    go c [] es p s = absurd (z (sym s))
    go c (d ∷ rest) es p s = record { c = d; rest = rest; es = c ∷ es; parts = p; place = sym (b ∙ ap (back t) (sym s) ∙ back_scalar d rest (c ∷ es) t p) }

unfoldable pub head_of : Scalar → List Scalar → Scalar
head_of d [] = d
head_of d (c ∷ s) = c

module _ (P : Profile) where
  -- the class at the start of a scalar
  pub class_of_law : (t : List ℕ) (j k : ℕ) (d : Scalar) (rest es : List Scalar) → run_of (decode t) ≡ reverse_aux rest (d ∷ es) → j ≡ size rest → k ≡ packed_at P t j / 8 % 16 → k ≡ number (P.class d.code)
  unfolding head_of
  class_of_law t j k d rest es e p f =
      let r : text_at t j ≡ d ∷ es = ap (λ (i : ℕ). run_of (decode (drop i t))) p ∙ run_drop rest (d ∷ es) t e in
      let h : j < length t = rw p (run_inside d rest es t e) in
      ⊎_elim
      (λ (n : NoScalar t j (packed_at P t j)). absurd (no_head d es (sym n.run ∙ r)))
      (λ (x : PackedScalar P t j (packed_at P t j)). f ∙ sym x.class ∙ ap (λ (y : Scalar). number (P.class y.code)) (ap (head_of d) (sym x.run ∙ r)))
      (packed_view P t j (packed_at P t j) h refl)

  pub class_bound : (t : List ℕ) (j k : ℕ) → k ≡ packed_at P t j / 8 % 16 → k ≤ 12
  class_bound t j k e =
      cases (ltb j (length t))
      (λ h. rw e (class_le P t j (packed_at P t j) (ltb-true j (length t) h) refl))
      (λ h. rw (e, packed_past P t j (ltb-false j (length t) h)) (omega arith))

  pub state_bound : (t : List ℕ) (j k : ℕ) → k ≡ packed_at P t j / 8 % 16 → k ≤ 15
  state_bound t j k e = omega (arith, class_bound t j k e)

  -- the code there
  pub code_of : (t : List ℕ) (j : ℕ) (d : Scalar) (rest es : List Scalar) → run_of (decode t) ≡ reverse_aux rest (d ∷ es) → j ≡ size rest → (sequence_or_zero (decode (drop j t))).code ≡ d.code
  code_of t j d rest es e p = ap (λ (i : ℕ). (sequence_or_zero (decode (drop i t))).code) p ∙ (run_head (drop (size rest) t) d es (run_drop rest (d ∷ es) t e)).coded

  pub odd_begin : (t : List ℕ) (q : ℕ) → ScalarStart t q → OddLoop P t q false (odd_to P t q)
  unfolding flip
  odd_begin t q a = record { rest = a.rest; es = a.c ∷ a.es; parts = a.parts; place = a.place; known = ap (λ (x : List Scalar). (context P x).odd) (front_is t q a.rest (a.c ∷ a.es) a.parts a.place) }

  pub odd_ri : (d : Scalar) (rest : List Scalar) → number (P.class d.code) ≡ 10 → (context P (d ∷ rest)).odd ≡ not (context P rest).odd
  unfolding context after among
  odd_ri d rest e = rw e refl

  pub odd_other : (d : Scalar) (rest : List Scalar) → (number (P.class d.code) ≢ 10) → (context P (d ∷ rest)).odd ≡ false
  unfolding context after among
  odd_other d rest e = rw (ne_eqb (number (P.class d.code)) 10 e) refl

  module _ (t : List ℕ) (i : ℕ) (odd total : Bool) (j k : ℕ) (pos : 0 < i) (e : j ≡ back t i) (f : k ≡ packed_at P t j / 8 % 16) where
    on_by : (rest es : List Scalar) → run_of (decode t) ≡ reverse_aux rest es → size rest ≡ i → total ≡ flip odd (context P rest).odd → k ≡ 10 → OddLoop P t j (not odd) total
    unfolding size
    on_by [] es p q w z = absurd (omega arith)
    on_by (d ∷ rest) es p q w z =
        let b : j ≡ size rest = e ∙ ap (back t) (sym q) ∙ back_scalar d rest es t p in
        let r : number (P.class d.code) ≡ 10 = sym (class_of_law t j k d rest es p b f) ∙ z in
        record { rest = rest; es = d ∷ es; parts = p; place = sym b; known = w ∙ ap (flip odd) (odd_ri d rest r) ∙ flip_not odd (context P rest).odd }

    pub odd_on : k ≡ 10 → OddLoop P t i odd total → OddLoop P t j (not odd) total
    odd_on z l = on_by l.rest l.es l.parts l.place l.known z

  -- ---- an Extended_Pictographic and Extends

  pub pictograph_begin : (t : List ℕ) (q : ℕ) → ScalarStart t q → PictographLoop P t q (pictograph_to P t q)
  pictograph_begin t q a = record { rest = a.rest; es = a.c ∷ a.es; parts = a.parts; place = a.place; emoji = ap (λ (x : List Scalar). (context P x).emoji) (front_is t q a.rest (a.c ∷ a.es) a.parts a.place) }

  emoji_extend : (d : Scalar) (rest : List Scalar) → number (P.class d.code) ≡ 3 → (context P (d ∷ rest)).emoji ≡ (context P rest).emoji
  unfolding context after among number
  emoji_extend d rest e = rw e (cases (context P rest).emoji (λ i. rw i refl) (λ i. rw i refl))

  emoji_other : (d : Scalar) (rest : List Scalar) → (number (P.class d.code) ≢ 3) → (context P (d ∷ rest)).emoji ≡ eqb (number (P.class d.code)) 12
  unfolding context after among number
  emoji_other d rest e = rw (ne_eqb (number (P.class d.code)) 3 e, and-false (context P rest).emoji, or_none (eqb (number (P.class d.code)) 12)) refl

  zwj_emoji : (d : Scalar) (rest : List Scalar) → (context P (d ∷ rest)).emoji_zwj ≡ ((context P rest).emoji && eqb (number (P.class d.code)) 4)
  unfolding context after among number
  zwj_emoji d rest = refl

  module _ (t : List ℕ) (i : ℕ) (total : Bool) where
    pub pictograph_end : i ≤ 0 → PictographLoop P t i total → false ≡ total
    unfolding context
    pictograph_end z l = go l.rest l.parts l.place l.emoji
      where
        go : (rest : List Scalar) → run_of (decode t) ≡ reverse_aux rest l.es → size rest ≡ i → total ≡ (context P rest).emoji → false ≡ total
        go [] p s w = sym w
        go (d ∷ rest) p s w = let h = size_pos d rest l.es t p in absurd (omega arith)

    -- at a known place
    pub pictograph_known : (p : ℕ) → i ≡ p → KnownPlace P t p → PictographLoop P t i total → ((e : KnownPlace P t p) → context P e.rest ≡ start) → false ≡ total
    pictograph_known p z e l f =
        let same : l.rest ≡ e.rest = sym (front_is t p l.rest l.es l.parts (l.place ∙ z)) ∙ front_is t p e.rest e.es e.parts e.place in
        sym (l.emoji ∙ ap (λ (x : List Scalar). (context P x).emoji) same ∙ ap (λ (k : Context). k.emoji) (f e))

    module _ (j k : ℕ) (pos : 0 < i) (e : j ≡ back t i) (f : k ≡ packed_at P t j / 8 % 16) where
      at_by : (X : Type 0) (l : PictographLoop P t i total)
          → ((d : Scalar) (rest : List Scalar) → run_of (decode t) ≡ reverse_aux (d ∷ rest) l.es → size rest ≡ j → k ≡ number (P.class d.code) → total ≡ (context P (d ∷ rest)).emoji → X) → X
      unfolding size
      at_by X l o = go l.rest l.parts l.place l.emoji
        where
          go : (rest : List Scalar) → run_of (decode t) ≡ reverse_aux rest l.es → size rest ≡ i → total ≡ (context P rest).emoji → X
          go [] p s w = absurd (omega arith)
          go (d ∷ rest) p s w =
              let b : j ≡ size rest = e ∙ ap (back t) (sym s) ∙ back_scalar d rest l.es t p in
              o d rest p (sym b) (class_of_law t j k d rest l.es p b f) w

      pub pictograph_on : k ≡ 3 → PictographLoop P t i total → PictographLoop P t j total
      pictograph_on z l = at_by (PictographLoop P t j total) l (λ d rest p s x w. record { rest = rest; es = d ∷ l.es; parts = p; place = s; emoji = w ∙ emoji_extend d rest (sym x ∙ z) })

      pub pictograph_stop : (k ≢ 3) → PictographLoop P t i total → eqb k 12 ≡ total
      pictograph_stop z l = at_by (eqb k 12 ≡ total) l (λ d rest p s x w. sym (w ∙ emoji_other d rest (λ y. z (x ∙ y)) ∙ ap (λ (n : ℕ). eqb n 12) (sym x)))

  -- ---- a boundary

  module _ (t : List ℕ) (q : ℕ) (a : ScalarStart t q) where
    joins_is : joins_at P t q ≡ joins P a.rest a.c
    unfolding joins_next
    joins_is =
        let r : text_at t q ≡ a.c ∷ a.es = ap (text_at t) (sym a.place) ∙ run_drop a.rest (a.c ∷ a.es) t a.parts in
        rw (front_is t q a.rest (a.c ∷ a.es) a.parts a.place, r) refl

    pub joins_zero : q ≡ 0 → false ≡ joins_at P t q
    unfolding joins
    joins_zero z = go a.c a.rest a.es a.parts a.place ∙ sym joins_is
      where
        go : (c : Scalar) (rest es : List Scalar) → run_of (decode t) ≡ reverse_aux rest (c ∷ es) → size rest ≡ q → false ≡ joins P rest c
        go c [] es p e = refl
        go c (d ∷ rest) es p e = let h = size_pos d rest (c ∷ es) t p in absurd (omega arith)

    -- a class that joins nothing before it
    joins_alone : alone (number (P.class (sequence_or_zero (decode (drop q t))).code)) ≡ true → false ≡ joins_at P t q
    unfolding joins
    joins_alone f = go a.c a.rest a.es a.parts a.place ∙ sym joins_is
      where
        go : (c : Scalar) (rest es : List Scalar) → run_of (decode t) ≡ reverse_aux rest (c ∷ es) → size rest ≡ q → false ≡ joins P rest c
        go c [] es p s = refl
        go c (d ∷ rest) es p s =
            sym (alone_numbers (number (P.class d.code)) (context P (d ∷ rest)) (number (P.class c.code)) (rw (code_of t q c (d ∷ rest) es p (sym s)) at f))

    module _ (j p k : ℕ) (r : Bool) (z : q ≢ 0) (b : j ≡ back t q) (f : p ≡ packed_at P t j / 8 % 16) (g : k ≡ packed_at P t q / 8 % 16) where
      joins_by : ((d : Scalar) (rest : List Scalar) → backward (take q t) ≡ d ∷ rest → backward (take j t) ≡ rest → p ≡ number (P.class d.code) → r ≡ joined p (context P (d ∷ rest)) k) → r ≡ joins_at P t q
      unfolding joins size
      joins_by o = go a.c a.rest a.es a.parts a.place ∙ sym joins_is
        where
          go : (c : Scalar) (rest es : List Scalar) → run_of (decode t) ≡ reverse_aux rest (c ∷ es) → size rest ≡ q → r ≡ joins P rest c
          go c [] es h s = absurd (z (sym s))
          go c (d ∷ rest) es h s =
              let w : j ≡ size rest = b ∙ ap (back t) (sym s) ∙ back_scalar d rest (c ∷ es) t h in
              let x : p ≡ number (P.class d.code) = class_of_law t j p d rest (c ∷ es) h w f in
              let y : k ≡ number (P.class c.code) = class_of_law t q k c (d ∷ rest) es h (sym s) g in
              o d rest (front_is t q (d ∷ rest) (c ∷ es) h s) (front_is t j rest (d ∷ c ∷ es) h (sym w)) x ∙ ap₂ (λ (m n : ℕ). joined m (context P (d ∷ rest)) n) x y

      -- two regional indicators
      pub joins_pair : (eqb p 10 && eqb k 10) ≡ true → r ≡ odd_to P t q → r ≡ joins_at P t q
      joins_pair m o =
          let w = and_T (eqb p 10) (eqb k 10) (true_T m) in
          joins_by (λ d rest e g x. rw (eqb→eq p 10 w.0, eqb→eq k 10 w.1, ← e) (o ∙ sym (joined_indicators (context P (backward (take q t))))))

      -- ZWJ and an Extended_Pictographic
      pub joins_picture : (eqb p 4 && eqb k 12) ≡ true → r ≡ pictograph_to P t j → r ≡ joins_at P t q
      joins_picture m o =
          let w = and_T (eqb p 4) (eqb k 12) (true_T m) in
          joins_by (λ d rest e g x.
          let z : (context P (d ∷ rest)).emoji_zwj ≡ ((context P rest).emoji && true) = zwj_emoji d rest ∙ ap (λ (n : ℕ). (context P rest).emoji && eqb n 4) (sym x ∙ eqb→eq p 4 w.0) in
          rw (eqb→eq p 4 w.0, eqb→eq k 12 w.1) (o ∙ ap (λ (s : List Scalar). (context P s).emoji) g ∙ sym (and-true (context P rest).emoji) ∙ sym z ∙ sym (joined_picture (context P (d ∷ rest)))))

      -- at a place whose context is that of a text's start
      pub joins_known : (eqb p 4 && eqb k 12) ≡ true → r ≡ false → context P (backward (take q t)) ≡ start → r ≡ joins_at P t q
      joins_known m z o =
          let w = and_T (eqb p 4) (eqb k 12) (true_T m) in
          joins_by (λ d rest e g x. rw (eqb→eq p 4 w.0, eqb→eq k 12 w.1) (z ∙ sym (ap (λ (k : Context). k.emoji_zwj) (rw e at o)) ∙ sym (joined_picture (context P (d ∷ rest)))))

      -- no two of these
      pub joins_single : (eqb p 10 && eqb k 10) ≡ false → (eqb p 4 && eqb k 12) ≡ false → r ≡ joined p (state_context p) k → r ≡ joins_at P t q
      joins_single m n e = joins_by (λ d rest h g x.
          e ∙ joined_context p k (state_context p) (context P (d ∷ rest))
          (and_same (eqb p 10) (context P (d ∷ rest)).odd (eqb k 10) (λ i.
          let y : eqb p 10 ≡ false = sym (and-true (eqb p 10)) ∙ rw i at m in
          y ∙ sym (odd_other d rest (λ w. eqb-false p 10 y (x ∙ w)))))
          (and_same (eqb p 15) (context P (d ∷ rest)).emoji_zwj (eqb k 12) (λ i.
          let y : eqb p 4 ≡ false = sym (and-true (eqb p 4)) ∙ rw i at n in
          let l : p ≤ 12 = rw x (number_le (P.class d.code)) in
          ne_eqb p 15 (λ w. omega (arith, l, w)) ∙ sym (zwj_emoji d rest ∙ rw (← x, y) (and-false (context P rest).emoji)))))

  -- ---- the last cluster

  begin_by : (t : List ℕ) (q : ℕ) (rev : List Scalar) → run_of (decode t) ≡ reverse_aux rev [] → size rev ≡ length t → (length t ≢ 0) → q ≡ back t (length t) → At P t q (size (without_last P rev))
  unfolding size
  begin_by t q [] e s h b = absurd (h (sym s))
  begin_by t q (d ∷ rest) e s h b =
      record { start = record { c = d; rest = rest; es = []; parts = e; place = sym (b ∙ ap (back t) (sym s) ∙ back_scalar d rest [] t e) }; work = refl }

  pub last_begin : (t : List ℕ) (q : ℕ) → whole t → (length t ≢ 0) → q ≡ back t (length t) → At P t q (size (without_last P (reverse (run_of (decode t)))))
  unfolding size
  last_begin t q w h b =
      let e : size (reverse (run_of (decode t))) ≡ length t = size_reverse (run_of (decode t)) ∙ size_is (run_of (decode t)) ∙ ap length w in
      begin_by t q (reverse (run_of (decode t))) (sym (reverse-reverse (run_of (decode t)))) e h b

  pub last_empty : (t : List ℕ) → length t ≡ 0 → 0 ≡ size (without_last P (reverse (run_of (decode t))))
  unfolding size without_last run_of decode decode_from
  last_empty [] h = refl
  last_empty (b ∷ t) h = absurd (omega arith)

  pub last_inside : (t : List ℕ) (q total : ℕ) → At P t q total → q < length t
  last_inside t q total a = rw a.start.place at (run_inside a.start.c a.start.rest a.start.es t a.start.parts)

  module _ (t : List ℕ) (q total : ℕ) (r : Bool) (j : r ≡ joins_at P t q) where
    pub last_stop : r ≡ false → At P t q total → q ≡ total
    unfolding without_last
    last_stop f a =
        let e : joins P a.start.rest a.start.c ≡ false = sym (joins_is t q a.start) ∙ sym j ∙ f in
        sym (rw e at a.work ∙ a.start.place)

    go_by : (c : Scalar) (rest es : List Scalar) (p : ℕ) → run_of (decode t) ≡ reverse_aux rest (c ∷ es) → size rest ≡ q → total ≡ size (without_last P (c ∷ rest))
        → joins P rest c ≡ true → 0 < q → p ≡ back t q → At P t p total
    unfolding without_last size
    go_by c [] es p e s w x h b = absurd (omega arith)
    go_by c (d ∷ rest) es p e s w x h b =
        record { start = record { c = d; rest = rest; es = c ∷ es; parts = e; place = sym (b ∙ ap (back t) (sym s) ∙ back_scalar d rest (c ∷ es) t e) }; work = rw x at w }

    pub last_on : (p : ℕ) → 0 < q → r ≡ true → p ≡ back t q → At P t q total → At P t p total
    last_on p h f b a = let z = a.start in go_by z.c z.rest z.es p z.parts z.place a.work (sym (joins_is t q z) ∙ sym j ∙ f) h b

  last_by : (t : List ℕ) (total : ℕ) (c : Scalar) (rest es : List Scalar) → run_of (decode t) ≡ reverse_aux rest (c ∷ es) → size rest ≤ 0 → total ≡ size (without_last P (c ∷ rest)) → 0 ≡ total
  unfolding without_last size joins
  last_by t total c [] es p q w = sym w
  last_by t total c (d ∷ rest) es p q w = let h = size_pos d rest (c ∷ es) t p in absurd (omega arith)

  pub last_end : (t : List ℕ) (q total : ℕ) → q ≤ 0 → At P t q total → q ≡ total
  last_end t q total h a = let s = a.start in let z : 0 ≡ total = last_by t total s.c s.rest s.es s.parts (rw s.place h) a.work in omega arith

-- a byte below 80 at the end, LF apart
pub last_lone : (v : code.Profile) (t : List ℕ) (b : ℕ) (r : Bool) → whole t → (length t ≢ 0) → b ≡ get_or t (length t - 1) 0 → r ≡ never_joins_before b → r ≡ true
    → length t - 1 ≡ size (without_last (profile_of v) (reverse (run_of (decode t))))
last_lone v t b r w h e f z =
    let P : Profile = profile_of v in
    let l : never_joins_before b ≡ true = sym f ∙ z in
    let low : is_tail b ≡ false = low_tail b (lone_low b l) in
    let one : sequence_of b 1 ≡ sequence_or_zero (decode (drop (length t - 1) t)) = ascii_sequence t (length t - 1) b (omega arith) e (lone_low b l) in
    let a = last_begin P t (length t - 1) w h (back_here t (length t) (length t - 1) b (omega arith) refl e low) in
    let j : false ≡ joins_at P t (length t - 1) = joins_alone P t (length t - 1) a.start (ap (λ (u : Sequence). alone (number (P.class u.code))) (sym one) ∙ lone P (ascii_classes v) b l) in
    last_stop P t (length t - 1) _ false j refl a
