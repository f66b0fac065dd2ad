-- A scalar is below 80 only where its first byte is.
use Rattle.std.specs.Prelude.{◌≡◌, refl, ℕ, ◌+◌, ◌*◌, ◌%◌, ◌≤◌, T, leb, length, take, get_or}
use Rattle.std.proofs.Common.{ap, arith, leb→le, take_all}
use mathlib.Core.List.{List, [], ◌∷◌}
use Rattle.text.specs.Tests.{and_T, cases, true_T}
use Rattle.text.specs.Each.{All, all_nil, all_cons}
use Rattle.text.specs.Utf8.{Range, to, within, tail, table, fits, length_in, sequence, more, value, Scalar, scalar}
use Rattle.text.specs.Utf8.Valid.{Valid, valid_sequence}

-- bytes that fit a row begin with one in its first range
record First (r : Range) (rs : List Range) (s : List ℕ) : Type 0 where
  byte : ℕ
  behind : List ℕ
  is : s ≡ byte ∷ behind
  low : r.low ≤ byte
  high : byte ≤ r.high
  rest : T (fits rs behind)

first : (r : Range) (rs : List Range) (s : List ℕ) → T (fits (r ∷ rs) s) → First r rs s
unfolding fits
first r rs [] t = absurd t
first r rs (b ∷ s) t =
    let w = and_T (within r b) (fits rs s) t in
    let x = and_T (leb r.low b) (leb b r.high) w.0 in
    record { byte = b; behind = s; is = refl; low = leb→le _ _ x.0; high = leb→le _ _ x.1; rest = w.1 }

-- the bytes that fit a row are those of a scalar above 7F
abbrev High : List ℕ → List Range → Type 0
High s row = T (fits row s) → 0x80 ≤ value (take (length row) s)

module _ (s : List ℕ) where
  one_low : 0x80 ≤ get_or s 0 0 → High s (to 0x00 0x7F ∷ [])
  one_low h t = let x = first (to 0x00 0x7F) [] s t in absurd (omega (arith, x.high, ap (λ (l : List ℕ). get_or l 0 0) x.is))

  two_high : High s (to 0xC2 0xDF ∷ tail ∷ [])
  unfolding value more
  two_high t =
      let x = first (to 0xC2 0xDF) (tail ∷ []) s t in
      let y = first tail [] x.behind x.rest in
      rw (x.is, y.is) (omega (arith, x.low, x.high))

  module _ (q r : Range) where
    three_high : ((a b : ℕ) → q.low ≤ a → a ≤ q.high → r.low ≤ b → b ≤ r.high → 2 ≤ a % 16 * 64 + b % 64) → High s (q ∷ r ∷ tail ∷ [])
    unfolding value more
    three_high h t =
        let x = first q (r ∷ tail ∷ []) s t in
        let y = first r (tail ∷ []) x.behind x.rest in
        let z = first tail [] y.behind y.rest in
        rw (x.is, y.is, z.is) (omega (arith, h x.byte y.byte x.low x.high y.low y.high))

    four_high : ((a b : ℕ) → q.low ≤ a → a ≤ q.high → r.low ≤ b → b ≤ r.high → 2 ≤ a % 8 * 64 + b % 64) → High s (q ∷ r ∷ tail ∷ tail ∷ [])
    unfolding value more
    four_high h t =
        let x = first q (r ∷ tail ∷ tail ∷ []) s t in
        let y = first r (tail ∷ tail ∷ []) x.behind x.rest in
        let z = first tail (tail ∷ []) y.behind y.rest in
        let w = first tail [] z.behind z.rest in
        rw (x.is, y.is, z.is, w.is) (omega (arith, h x.byte y.byte x.low x.high y.low y.high))

  table_high : 0x80 ≤ get_or s 0 0 → All (High s) table
  unfolding table
  table_high h =
      all_cons (one_low h)
      (all_cons two_high
      (all_cons (three_high (to 0xE0 0xE0) (to 0xA0 0xBF) (λ a b i j k l. omega arith))
      (all_cons (three_high (to 0xE1 0xEC) tail (λ a b i j k l. omega arith))
      (all_cons (three_high (to 0xED 0xED) (to 0x80 0x9F) (λ a b i j k l. omega arith))
      (all_cons (three_high (to 0xEE 0xEF) tail (λ a b i j k l. omega arith))
      (all_cons (four_high (to 0xF0 0xF0) (to 0x90 0xBF) (λ a b i j k l. omega arith))
      (all_cons (four_high (to 0xF1 0xF3) tail (λ a b i j k l. omega arith))
      (all_cons (four_high (to 0xF4 0xF4) (to 0x80 0x8F) (λ a b i j k l. omega arith)) all_nil))))))))

  rows_high : {rows : List (List Range)} → All (High s) rows → 1 ≤ length_in rows s → 0x80 ≤ value (take (length_in rows s) s)
  unfolding length_in
  rows_high all_nil h = absurd (omega arith)
  rows_high (all_cons {a = row} h a) k = cases (fits row s) (λ f. rw f (h (true_T f))) (λ f. rw f (rows_high a (rw f at k)))

pub high_code : (c : Scalar) → Valid c → 0x80 ≤ get_or c.bytes 0 0 → 0x80 ≤ c.code
unfolding scalar sequence
high_code c v h =
    let w = valid_sequence c v in
    let k : 0x80 ≤ value (take (length c.bytes) c.bytes) = rw w.length at (rows_high c.bytes (table_high c.bytes h) (rw w.length v.some)) in
    rw (ap (λ (x : Scalar). x.code) w.is) (rw (take_all (length c.bytes) c.bytes (omega arith)) at k)
