-- A byte below 80 is a scalar by itself, wherever it stands in a run.
use Rattle.std.specs.Prelude.{◌≡◌, refl, ℕ, zero, suc, ◌+◌, ◌-◌, ◌≤◌, ◌<◌, Bool, true, ◌&&◌, List, [], ◌∷◌, ◌++◌, T, leb, length, drop, get_or}
use Rattle.std.proofs.Common.{sym, ap, ◌∙◌, zero-le, arith, leb→le, leb-true, leb-false, le-leb, length-append, get_or-append-add}
use Rattle.std.proofs.Math.ListN.{get_or-append}
use Rattle.text.specs.Tests.{and_T, cases, true_T}
use Rattle.text.specs.Each.{All, all_nil, all_cons}
use Rattle.text.specs.Utf8.{Range, table, fits, length_in, sequence, value, Scalar, scalar, ascii, decode, run_of, bytes_of}
use Rattle.text.specs.Utf8.Laws.{decode_good}
use Rattle.text.specs.Utf8.Valid.{Valid, valid_sequence}
use Rattle.text.specs.Utf8.Runs.{run_valid, run_bytes}

-- ---- the bytes behind a sequence's first are continuation bytes

tail_ranges : List Range → Bool
tail_ranges [] = true
tail_ranges (r ∷ rs) = (leb 0x80 r.low && leb r.high 0xBF) && tail_ranges rs

tail_row : List Range → Bool
unfolding tail_ranges
tail_row [] = true
tail_row (r ∷ rs) = tail_ranges rs

tail_rows : List (List Range) → Bool
unfolding tail_row
tail_rows [] = true
tail_rows (row ∷ rows) = ◌&&◌ (tail_row row) (tail_rows rows)

abbrev pub Continuation : ℕ → Type 0
Continuation b = (0x80 ≤ b) × (b ≤ 0xBF)

fits_tails : (rs : List Range) (s : List ℕ) (i : ℕ) → T (tail_ranges rs) → T (fits rs s) → i < length rs → Continuation (get_or s i 0)
unfolding tail_ranges fits
fits_tails [] s i t f h = absurd (omega arith)
fits_tails (r ∷ rs) [] i t f h = absurd f
fits_tails (r ∷ rs) (b ∷ s) zero t f h =
    let w = and_T (leb r.low b) (leb b r.high) (and_T (◌&&◌ (leb r.low b) (leb b r.high)) (fits rs s) f).0 in
    let x = and_T (leb 0x80 r.low) (leb r.high 0xBF) (and_T (◌&&◌ (leb 0x80 r.low) (leb r.high 0xBF)) (tail_ranges rs) t).0 in
    let h₁ : r.low ≤ b = leb→le _ _ w.0 in
    let h₂ : b ≤ r.high = leb→le _ _ w.1 in
    let h₃ : 0x80 ≤ r.low = leb→le _ _ x.0 in
    let h₄ : r.high ≤ 0xBF = leb→le _ _ x.1 in
    (omega arith, omega arith)
fits_tails (r ∷ rs) (b ∷ s) (suc i) t f h =
    fits_tails rs s i (and_T (◌&&◌ (leb 0x80 r.low) (leb r.high 0xBF)) (tail_ranges rs) t).1 (and_T (◌&&◌ (leb r.low b) (leb b r.high)) (fits rs s) f).1 (omega arith)

row_tails : (row : List Range) (s : List ℕ) (i : ℕ) → T (tail_row row) → T (fits row s) → suc i < length row → Continuation (get_or s (suc i) 0)
unfolding tail_row fits
row_tails [] s i t f h = absurd (omega arith)
row_tails (r ∷ rs) [] i t f h = absurd f
row_tails (r ∷ rs) (b ∷ s) i t f h = fits_tails rs s i t (and_T (◌&&◌ (leb r.low b) (leb b r.high)) (fits rs s) f).1 (omega arith)

rows_tails : (rows : List (List Range)) (s : List ℕ) (i n : ℕ) → T (tail_rows rows) → length_in rows s ≡ n → suc i < n → Continuation (get_or s (suc i) 0)
unfolding tail_rows length_in
rows_tails [] s i n t e h = absurd (omega arith)
rows_tails (row ∷ rows) s i n t e h =
    cases (fits row s)
    (λ f. row_tails row s i (and_T (tail_row row) (tail_rows rows) t).0 (true_T f) (let l : length row ≡ n = rw f at e in omega arith))
    (λ f. rows_tails rows s i n (and_T (tail_row row) (tail_rows rows) t).1 (rw f at e) h)

pub sequence_tails : (s : List ℕ) (i n : ℕ) → sequence s ≡ n → suc i < n → Continuation (get_or s (suc i) 0)
unfolding sequence tail_rows table
sequence_tails s i n e h = rows_tails table s i n tt e h

-- ---- the bytes of a valid scalar

valid_tails : (c : Scalar) → Valid c → (i : ℕ) → suc i < length c.bytes → Continuation (get_or c.bytes (suc i) 0)
valid_tails c v i h = sequence_tails c.bytes i (length c.bytes) (valid_sequence c v).length h

pub low_sequence : (b : ℕ) (s : List ℕ) → b < 0x80 → sequence (b ∷ s) ≡ 1
unfolding sequence length_in fits table
low_sequence b s h = rw (le-leb 0 b zero-le, le-leb b 0x7F (omega arith))

pub ascii_run : (b : ℕ) (s : List ℕ) → b < 0x80 → run_of (decode (b ∷ s)) ≡ ascii b ∷ run_of (decode s)
unfolding run_of scalar value
ascii_run b s h = ap run_of (decode_good b s 0 (low_sequence b s h))

-- the code of a scalar whose first byte is below 80
pub valid_low : (c : Scalar) → Valid c → get_or c.bytes 0 0 < 0x80 → c.code ≡ get_or c.bytes 0 0
unfolding scalar value
valid_low c v h = ap (λ (x : Scalar). x.code) (valid_sequence c v).is ∙ one c.bytes (valid_sequence c v).length h
  where
    one : (l : List ℕ) → sequence l ≡ length l → get_or l 0 0 < 0x80 → value l ≡ get_or l 0 0
    one [] e k = refl
    one (b ∷ []) e k = refl
    one (b ∷ d ∷ s) e k = absurd (omega (arith, e, low_sequence b (d ∷ s) k))

-- ---- a byte below 80 in a run

-- the scalar that begins at byte n, and the scalars before and behind it
pub record Split (r : List Scalar) (n b : ℕ) : Type 0 where
  pub before : List Scalar
  pub here : Scalar
  pub behind : List Scalar
  pub text : r ≡ before ++ (here ∷ behind)
  pub size : length (bytes_of before) ≡ n
  pub code : here.code ≡ b

pub split_in : (r : List Scalar) → All Valid r → (n : ℕ) → n < length (bytes_of r) → get_or (bytes_of r) n 0 < 0x80 → Split r n (get_or (bytes_of r) n 0)
unfolding bytes_of
split_in [] all_nil n h l = absurd (omega arith)
split_in (c ∷ r) (all_cons v a) n h l =
    cases (leb (length c.bytes) n)
    (λ e. later (split_in r a) (n - length c.bytes) (omega (arith, leb-true (length c.bytes) n e)))
    (λ e. inside n (leb-false (length c.bytes) n e) refl)
  where
    first_code : n ≡ 0 → 0 < length c.bytes → c.code ≡ get_or (c.bytes ++ bytes_of r) n 0
    first_code q k =
        let x : get_or (c.bytes ++ bytes_of r) n 0 ≡ get_or c.bytes 0 0 = rw q (get_or-append c.bytes (bytes_of r) 0 0 k) in
        valid_low c v (rw x at l) ∙ sym x

    inside : (m : ℕ) → m < length c.bytes → m ≡ n → Split (c ∷ r) n (get_or (c.bytes ++ bytes_of r) n 0)
    inside zero k q = record { before = []; here = c; behind = r; text = refl; size = q; code = first_code (sym q) k }
    inside (suc m) k q =
        let x : get_or (c.bytes ++ bytes_of r) n 0 ≡ get_or c.bytes (suc m) 0 = rw (← q) (get_or-append c.bytes (bytes_of r) 0 (suc m) k) in
        absurd (omega (arith, (valid_tails c v m k).0, x, l))

    later : ((m : ℕ) → m < length (bytes_of r) → get_or (bytes_of r) m 0 < 0x80 → Split r m (get_or (bytes_of r) m 0)) → (m : ℕ) → n ≡ length c.bytes + m → Split (c ∷ r) n (get_or (c.bytes ++ bytes_of r) n 0)
    later go m q =
        let x : get_or (c.bytes ++ bytes_of r) n 0 ≡ get_or (bytes_of r) m 0 = rw q (get_or-append-add c.bytes (bytes_of r) m 0) in
        let w : Split r m (get_or (bytes_of r) m 0) = go m (omega (arith, length-append c.bytes (bytes_of r))) (rw x at l) in
        record {
          before = c ∷ w.before;
          here = w.here;
          behind = w.behind;
          text = ap (λ (t : List Scalar). c ∷ t) w.text;
          size = omega (arith, length-append c.bytes (bytes_of w.before), w.size);
          code = rw x w.code;
        }

pub ascii_splits : (s : List ℕ) (n : ℕ) → n < length (bytes_of (run_of (decode s))) → get_or s n 0 < 0x80 → Split (run_of (decode s)) n (get_or s n 0)
ascii_splits s n h l =
    let r : List Scalar = run_of (decode s) in
    let e : get_or s n 0 ≡ get_or (bytes_of r) n 0 = ap (λ (t : List ℕ). get_or t n 0) (sym (run_bytes s)) ∙ get_or-append (bytes_of r) (drop (length (bytes_of r)) s) 0 n h in
    rw e (split_in r (run_valid s) n h (rw e at l))
