-- Little-endian numbers of n bytes: read where they were written, and written again where they were read.
use Rattle.std.specs.Prelude.{◌≡◌, refl, ℕ, zero, suc, ◌+◌, ◌*◌, ◌/◌, ◌%◌, ◌≤◌, ◌<◌, List, [], ◌∷◌, length, take}
use Rattle.std.proofs.Common.{ap, ap₂, ◌∙◌, arith}
use Rattle.std.proofs.Math.Nat.{mod-add-div}
use Rattle.text.specs.Each.{All, all_nil, all_cons}
use Rattle.text.specs.Overstrike.Bytes.{Byte}
use Rattle.buffer.specs.Numbers.{le2, le4}
use Rattle.screen.specs.Records.{little_endian, length_bytes}

-- the low n bytes of a number, and the first number that has more
unfoldable pub low_bytes : ℕ → ℕ → List ℕ
low_bytes zero x = []
low_bytes (suc n) x = x % 256 ∷ low_bytes n (x / 256)

unfoldable pub limit : ℕ → ℕ
limit zero = 1
limit (suc n) = 256 * limit n

pub low_length : (n x : ℕ) → length (low_bytes n x) ≡ n
unfolding low_bytes
low_length zero x = refl
low_length (suc n) x = ap suc (low_length n (x / 256))

pub low_read : (n x : ℕ) → x < limit n → little_endian (low_bytes n x) ≡ x
unfolding low_bytes little_endian limit
low_read zero x h = omega arith
low_read (suc n) x h = rw (low_read n (x / 256) (omega arith)) (mod-add-div x 256)

pub low_again : (n : ℕ) {s : List ℕ} → All Byte s → n ≤ length s → low_bytes n (little_endian (take n s)) ≡ take n s
unfolding low_bytes little_endian
low_again zero e h = refl
low_again (suc n) all_nil h = absurd (let z : suc n ≤ 0 = h in omega arith)
low_again (suc n) (all_cons {a = a} {s = s} p e) h =
    let m : ℕ = little_endian (take n s) in
    let x : (a + 256 * m) % 256 ≡ a = omega arith in
    let y : (a + 256 * m) / 256 ≡ m = omega arith in
    rw (x, y) (ap (λ (l : List ℕ). a ∷ l) (low_again n e (omega arith)))

pub low_less : (n : ℕ) {s : List ℕ} → All Byte s → little_endian (take n s) < limit n
unfolding little_endian limit
low_less zero e = omega arith
low_less (suc n) all_nil = omega (arith, low_less n all_nil)
low_less (suc n) (all_cons p e) = omega (arith, low_less n e)

-- a length of n bytes is its low n bytes
abbrev pub LengthOf : ℕ → Type 0
LengthOf n = (x : ℕ) → length_bytes n x ≡ low_bytes n x

pub length_of_2 : LengthOf 2
unfolding low_bytes le2
length_of_2 x = refl

pub length_of_4 : LengthOf 4
unfolding low_bytes le4
length_of_4 x =
    let a : x / 65536 ≡ x / 256 / 256 = omega arith in
    let b : x / 16777216 ≡ x / 256 / 256 / 256 = omega arith in
    ap₂ (λ (i j : ℕ). x % 256 ∷ x / 256 % 256 ∷ i % 256 ∷ j % 256 ∷ []) a b

-- read where it was written
pub le4_read : (x : ℕ) → x < 4294967296 → little_endian (le4 x) ≡ x
unfolding limit
le4_read x h = ap little_endian (length_of_4 x) ∙ low_read 4 x h
