-- What stands at a place, by its packed scalar.
use Rattle.std.specs.Prelude.{◌%◌, ◌*◌, ◌+◌, ◌/◌, ◌<◌, ◌≤◌, suc, zero, ℕ, Bool, ◌&&◌, true, List, [], ◌∷◌, ◌≢◌, ◌⊎◌, ◌≡◌, T, eqb, leb, ltb, drop}
use Rattle.std.proofs.Common.{arith, inl, inr, ⊎_elim, ◌∙◌, ap, sym, leb→le, drop_of_length-le, length-take-le}
use Rattle.std.proofs.Math.Path.{refl}
use Rattle.std.proofs.Math.ListN.{length}
use borrow.Author.Tests.{eqb-false, eqb-true, ltb-false, ltb-true, ne_eqb}
use Rattle.text.specs.Class.{Profile, number}
use Rattle.text.specs.Class.Laws.{number_le}
use Rattle.text.specs.Cluster.{class_of, clusters}
use Rattle.text.specs.Cluster.Laws.{clusters_first}
use Rattle.text.specs.Segmentation.{first_of}
use Rattle.text.specs.Utf8.Code.{sequence_or_zero, size}
use Rattle.text.specs.Utf8.Code.Laws.{ScalarAt, none_at, none_past, scalar_at_law}
use Rattle.std.specs.Prelude.{Option, None, Some, is_some, false}
use Rattle.text.specs.Scalar.{as_scalar, number_in, packed_at, scalar as as_number, scalar_here}
use Rattle.text.specs.declared.scalar.Scalar as code
use Rattle.text.specs.Tests.{and_T, cases}
use Rattle.text.specs.TextParts.{text_at}
use Rattle.text.specs.Utf8.{Range, Scalar, decode, decode_from, fits, length_in, scalar, sequence, table}
use Rattle.text.specs.Utf8.Laws.{decode_bad, decode_good, sequence_le}
use Rattle.text.specs.declared.utf8.Sequence.{Sequence}

-- ---- bounds

short : List (List Range) → Bool
short [] = true
short (r ∷ rs) = leb (length r) 4 && short rs

short_table : T (short table)
unfolding short table
short_table = tt

in_short : (rows : List (List Range)) (s : List ℕ) → T (short rows) → length_in rows s ≤ 4
unfolding short length_in
in_short [] s t = omega arith
in_short (r ∷ rs) s t =
    let q = and_T (leb (length r) 4) (short rs) t in
    cases (fits r s) (λ e. rw e (leb→le _ _ q.0)) (λ e. rw e (in_short rs s q.1))

first_len : (b : ℕ) (s : List ℕ) (n : ℕ) → sequence (b ∷ s) ≡ n → (sequence_or_zero (decode (b ∷ s))).len ≡ n
unfolding sequence_or_zero scalar
first_len b s zero e = rw (decode_bad b s e) refl
first_len b s (suc n) e = rw (decode_good b s n e) (length-take-le (suc n) (b ∷ s) (rw e at (sequence_le (b ∷ s))))

len_le : (s : List ℕ) → (sequence_or_zero (decode s)).len ≤ 4
unfolding sequence_or_zero decode decode_from sequence
len_le [] = omega arith
len_le (b ∷ s) = rw (first_len b s (sequence (b ∷ s)) refl) (in_short table (b ∷ s) short_table)

module _ (P : Profile) (s : List ℕ) (p : ℕ) where
  pub packed_past : length s ≤ p → packed_at P s p ≡ 0
  unfolding packed_at decode decode_from sequence_or_zero
  packed_past h = rw (drop_of_length-le s h) refl

  module _ (u : ℕ) (read : u ≡ packed_at P s p) where
    pub packed_inside : (u ≢ 0) → p < length s
    packed_inside z = cases (ltb p (length s)) (λ e. ltb-true p (length s) e) (λ e. absurd (z (rw (packed_past (ltb-false p (length s) e)) at read)))

    -- none stands there
    pub packed_none : u ≡ 0 → text_at s p ≡ []
    unfolding packed_at
    packed_none z =
        cases (ltb p (length s))
        (λ e.
        let h : p < length s = ltb-true p (length s) e in
        cases (eqb (sequence_or_zero (decode (drop p s))).len 0)
        (λ n. none_at s p (sequence_or_zero (decode (drop p s))) h refl (eqb-true _ 0 n))
        (λ n.
        let a = scalar_at_law s p (sequence_or_zero (decode (drop p s))) h refl (eqb-false _ 0 n) in
        absurd (omega (arith, z, a.some, rw n at read))))
        (λ e. none_past s p (ltb-false p (length s) e))

    pub packed_some : (u ≢ 0) → ScalarAt s p (sequence_or_zero (decode (drop p s)))
    unfolding packed_at
    packed_some z =
        cases (eqb (sequence_or_zero (decode (drop p s))).len 0)
        (λ n. absurd (z (rw n at read)))
        (λ n. scalar_at_law s p (sequence_or_zero (decode (drop p s))) (packed_inside z) refl (eqb-false _ 0 n))

    pub first_some : (u ≢ 0) → 1 ≤ size (first_of (clusters P (text_at s p)))
    unfolding first_of size
    first_some z = let a = packed_some z in rw (a.run, clusters_first P a.scalar) (omega (arith, a.some, a.len))

-- ---- what stands at a place

pub record PackedScalar (P : Profile) (s : List ℕ) (p v : ℕ) : Type 0 where
  pub c : Scalar
  pub run : text_at s p ≡ c ∷ text_at s (p + v % 8)
  pub class : class_of P c ≡ v / 8 % 16
  pub len : length c.bytes ≡ v % 8
  pub columns : P.width c.code ≡ v / 128
  pub some : 1 ≤ v % 8
  pub room : p + v % 8 ≤ length s

pub record NoScalar (s : List ℕ) (p v : ℕ) : Type 0 where
  pub run : text_at s p ≡ []
  pub zero : v ≡ 0

rest_of : (k w : ℕ) → k ≤ 12 → (k + 16 * w) % 16 ≡ k
rest_of k w g = omega (arith, g)

pub packed_view : (P : Profile) (s : List ℕ) (p v : ℕ) → p < length s → v ≡ packed_at P s p → NoScalar s p v ⊎ PackedScalar P s p v
unfolding packed_at
packed_view P s p v here read =
    let q : Sequence = sequence_or_zero (decode (drop p s)) in
    let k : ℕ = number (P.class q.code) in
    let w : ℕ = P.width q.code in
    let h : q.len ≤ 4 = len_le (drop p s) in
    let g : k ≤ 12 = number_le (P.class q.code) in
    cases (eqb q.len 0)
    (λ e. inl (record { run = none_at s p q here refl (eqb-true q.len 0 e); zero = rw e at read }))
    (λ e.
    let z = scalar_at_law s p q here refl (eqb-false q.len 0 e) in
    let r : v ≡ q.len + 8 * (k + 16 * w) = rw e at read in
    let n : v % 8 ≡ q.len = omega (arith, r, h) in
    let y : v / 8 ≡ k + 16 * w = omega (arith, r, h) in
    let d : v / 8 % 16 ≡ k = rw y (rest_of k w g) in
    let x : v / 128 ≡ w = omega (arith, r, h, g) in
    inr (record {
      c = z.scalar;
      run = rw n z.run;
      class = ap (λ (y : ℕ). number (P.class y)) z.code ∙ sym d;
      len = z.len ∙ sym n;
      columns = ap P.width z.code ∙ sym x;
      some = rw n z.some;
      room = rw n z.fits;
    }))

pub packed_scalar : (P : Profile) (s : List ℕ) (p v : ℕ) → v ≡ packed_at P s p → (v ≢ 0) → PackedScalar P s p v
packed_scalar P s p v read z = ⊎_elim (λ (n : NoScalar s p v). absurd (z n.zero)) (λ (x : PackedScalar P s p v). x) (packed_view P s p v (packed_inside P s p v read z) read)

-- ---- as the code holds it

as_some : (n : ℕ) (r : Option code.Scalar) (v : code.Scalar) → r ≡ as_scalar n → r ≡ Some v → (v.0 ≡ n) × (v.0 ≢ 0)
unfolding as_scalar
as_some n r v read e =
    cases (eqb n 0)
    (λ z. let f : r ≡ None = rw z at read in absurd (apart f))
    (λ z. let f : r ≡ Some (as_number n) = rw z at read in let g : v ≡ as_number n = cc in (ap (λ (x : code.Scalar). x.0) g, rw g (eqb-false n 0 z)))
  where
    apart : r ≡ None → ⊥
    apart f = cc (e, f)

as_none : (n : ℕ) (r : Option code.Scalar) → r ≡ as_scalar n → r ≡ None → n ≡ 0
unfolding as_scalar
as_none n r read e =
    cases (eqb n 0)
    (λ z. eqb-true n 0 z)
    (λ z. let f : r ≡ Some (as_number n) = rw z at read in absurd (apart f))
  where
    apart : r ≡ Some (as_number n) → ⊥
    apart f = cc (e, f)

module _ (P : Profile) (s : List ℕ) (p : ℕ) where
  -- what was read is what stands there
  pub scalar_is : (v : code.Scalar) → v.0 ≡ packed_at P s p → (v.0 ≢ 0) → Some v ≡ scalar_here P s p
  unfolding scalar_here as_scalar
  scalar_is v e z = rw (← e, ne_eqb v.0 0 z) refl

  pub nothing_is : 0 ≡ packed_at P s p → None ≡ scalar_here P s p
  unfolding scalar_here as_scalar
  nothing_is e = rw (← e) refl

  pub past_is : length s ≤ p → None ≡ scalar_here P s p
  past_is h = nothing_is (sym (packed_past P s p h))

  module _ (r : Option code.Scalar) (read : r ≡ scalar_here P s p) where
    pub some_here : (v : code.Scalar) → r ≡ Some v → (v.0 ≡ packed_at P s p) × (v.0 ≢ 0)
    unfolding scalar_here
    some_here v e = as_some (packed_at P s p) r v read e

    pub none_here : r ≡ None → packed_at P s p ≡ 0
    unfolding scalar_here
    none_here e = as_none (packed_at P s p) r read e

    pub none_text : r ≡ None → text_at s p ≡ []
    none_text e = packed_none P s p 0 (sym (none_here e)) refl

    pub number_here : number_in r ≡ packed_at P s p
    unfolding number_in scalar_here as_scalar
    number_here = rw read (cases (eqb (packed_at P s p) 0) (λ z. rw z (sym (eqb-true _ 0 z))) (λ z. rw z refl))

    pub packed_here : (v : code.Scalar) → r ≡ Some v → PackedScalar P s p v.0
    packed_here v e = let h = some_here v e in packed_scalar P s p v.0 h.0 h.1

    -- what `Scalar::class` asks for
    pub class_known : (v : code.Scalar) → r ≡ Some v → v.0 / 8 % 16 ≤ 12
    class_known v e = let x = packed_here v e in rw (← x.class) (number_le (P.class x.c.code))

-- ---- a walk that goes on while a scalar stands there

pub no_scalar : (u : Option code.Scalar) → is_some u ≡ false → u ≡ None
no_scalar None z = refl
no_scalar (Some v) z = cc

pub scalar_there : (P : Profile) (s : List ℕ) (p : ℕ) (u : Option code.Scalar) → u ≡ scalar_here P s p → is_some u ≡ true → (packed_at P s p ≢ 0)
scalar_there P s p None e z = cc
scalar_there P s p (Some v) e z = let h = some_here P s p (Some v) e v refl in λ y. h.1 (h.0 ∙ y)
