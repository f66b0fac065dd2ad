-- The fewest digits that hold a number are its digits without the zeros in front, in any base up to 16.
use Rattle.std.specs.Prelude.{◌≡◌, ℕ, zero, suc, ◌+◌, ◌-◌, ◌*◌, ◌/◌, ◌%◌, ◌^◌, ◌<◌, ◌≤◌, Bool, true, false, cond, List, [], ◌∷◌, ◌++◌, length, ◌==◌, ◌≢◌, nat_lt, refl}
use Rattle.std.proofs.Common.{sym, ap, subst, ◌∙◌, ⊎_elim, add-zero, div-one, div-lt_iff_lt-mul, le-div_iff_mul-le, mod-eq_of_lt, one-mul, arith, length-append, ne_eqb}
use Rattle.std.proofs.Math.Nat.{div-eq_of_lt, div-div-eq-div-mul, one-le-pow, pow-zero, pow-succ', pow-le-pow_right, zero-mod}
use Rattle.io.specs.Digits.{last_digits, hex_digit_ascii, IsDigitCount}
use Rattle.unicode_io.specs.Tests.{le_or_lt}
use Rattle.unicode_io.specs.Digits.{without_zeros, decimal, hexadecimal}

zero_dropped : (l : List ℕ) → 0 < length l → without_zeros (0x30 ∷ l) ≡ without_zeros l
unfolding without_zeros
zero_dropped [] h = absurd (omega arith)
zero_dropped (x ∷ l) h = refl

no_zero : (e : ℕ) → 1 ≤ e → hex_digit_ascii e ≢ 0x30
no_zero e l p = by_case (nat_lt e 10) p
  where
    by_case : (t : Bool) → cond t (48 + e) (87 + e) ≢ 0x30
    by_case true q = omega arith
    by_case false q = omega arith

digit_kept : (x : ℕ) (l : List ℕ) → (x ≢ 0x30) → without_zeros (x ∷ l) ≡ x ∷ l
unfolding without_zeros
digit_kept x [] h = refl
digit_kept x (y ∷ l) h = rw (ne_eqb x 0x30 h)

one_kept : (x : ℕ) → without_zeros (x ∷ []) ≡ x ∷ []
unfolding without_zeros
one_kept x = refl

module _ (b : ℕ) (base : 0 < b) where
  digits_length : (k n : ℕ) → length (last_digits b k n) ≡ k
  digits_length zero n = refl
  digits_length (suc k) n = length-append (last_digits b k (n / b)) (hex_digit_ascii (n % b) ∷ []) ∙ (omega (arith, digits_length k (n / b)))

  first_digit : (k n : ℕ) → last_digits b (suc k) n ≡ hex_digit_ascii (n / b ^ k % b) ∷ last_digits b k n
  first_digit zero n = ap (λ (m : ℕ). hex_digit_ascii (m % b) ∷ []) (sym (div-one n)) ∙ ap (λ (m : ℕ). hex_digit_ascii (n / m % b) ∷ []) (sym (pow-zero b))
  first_digit (suc k) n =
      let q : n / b / b ^ k ≡ n / b ^ suc k = div-div-eq-div-mul n b (b ^ k) ∙ ap (λ (d : ℕ). n / d) (sym (pow-succ' b k)) in
      ap (λ (l : List ℕ). l ++ (hex_digit_ascii (n % b) ∷ [])) (first_digit k (n / b)) ∙ ap (λ (m : ℕ). hex_digit_ascii (m % b) ∷ last_digits b (suc k) n) q

  zero_in_front : (k n : ℕ) → n < b ^ k → last_digits b (suc k) n ≡ 0x30 ∷ last_digits b k n
  zero_in_front k n h = first_digit k n ∙ ap (λ (m : ℕ). hex_digit_ascii (m % b) ∷ last_digits b k n) (div-eq_of_lt h) ∙ ap (λ (m : ℕ). hex_digit_ascii m ∷ last_digits b k n) (zero-mod b)

  zeros_dropped : (j r n : ℕ) → 0 < r → n < b ^ r → without_zeros (last_digits b (r + j) n) ≡ without_zeros (last_digits b r n)
  zeros_dropped zero r n p h = ap (λ (m : ℕ). without_zeros (last_digits b m n)) (add-zero r)
  zeros_dropped (suc j) r n p h =
      let le : r ≤ r + j = omega arith in
      let q : b ^ r ≤ b ^ (r + j) = pow-le-pow_right base le in
      let next : r + suc j ≡ suc (r + j) = omega arith in
      ap (λ (m : ℕ). without_zeros (last_digits b m n)) next
      ∙ ap without_zeros (zero_in_front (r + j) n (omega arith))
      ∙ zero_dropped (last_digits b (r + j) n) (omega (arith, digits_length (r + j) n))
      ∙ zeros_dropped j r n p h

  digits_kept : (r n : ℕ) → IsDigitCount b 1 n r → without_zeros (last_digits b r n) ≡ last_digits b r n
  digits_kept zero n few = absurd (omega (arith, few.0))
  digits_kept (suc zero) n few = one_kept (hex_digit_ascii (n % b))
  digits_kept (suc (suc k)) n few =
      let p : 1 ≤ b ^ suc k = one-le-pow (suc k) b base in
      let less : suc (suc k) - 1 ≡ suc k = omega arith in
      let low : 1 * b ^ suc k ≤ n = rw one-mul (subst (λ (m : ℕ). b ^ m ≤ n) less (few.2 (omega arith))) in
      let high : n < b * b ^ suc k = rw (pow-succ' b (suc k)) at few.1 in
      let d : ℕ = n / b ^ suc k in
      let low' : 1 ≤ d = (le-div_iff_mul-le p).1 low in
      let high' : d < b = (div-lt_iff_lt-mul p).1 high in
      let same : d % b ≡ d = mod-eq_of_lt high' in
      let x : (hex_digit_ascii (d % b) ≢ 0x30) = no_zero (d % b) (rw same low') in
      ap without_zeros (first_digit (suc k) n) ∙ digit_kept (hex_digit_ascii (d % b)) (last_digits b (suc k) n) x ∙ sym (first_digit (suc k) n)

  few_digits : (most n r : ℕ) → 1 ≤ most → n < b ^ most → IsDigitCount b 1 n r → r ≤ most
  few_digits most n r one h few = ⊎_elim (λ (p : r ≤ most). p) (λ (over : most < r).
      let le : most ≤ r - 1 = omega arith in
      let q : b ^ most ≤ b ^ (r - 1) = pow-le-pow_right base le in
      absurd (omega (arith, few.2 (omega arith)))) (le_or_lt r most)

  fewest : (most n r : ℕ) → 1 ≤ most → n < b ^ most → IsDigitCount b 1 n r → last_digits b r n ≡ without_zeros (last_digits b most n)
  fewest most n r one h few =
      let k = few_digits most n r one h few in
      let e : r + (most - r) ≡ most = omega arith in
      sym (digits_kept r n few) ∙ sym (zeros_dropped (most - r) r n (omega (arith, few.0)) few.1) ∙ ap (λ (m : ℕ). without_zeros (last_digits b m n)) e

pub fewest_decimal : (n r : ℕ) → n < 10 ^ 20 → IsDigitCount 10 1 n r → last_digits 10 r n ≡ decimal n
unfolding decimal
fewest_decimal n r h few = fewest 10 (omega arith) 20 n r (omega arith) h few

pub fewest_hexadecimal : (n r : ℕ) → n < 16 ^ 16 → IsDigitCount 16 1 n r → last_digits 16 r n ≡ hexadecimal n
unfolding hexadecimal
fewest_hexadecimal n r h few = fewest 16 (omega arith) 16 n r (omega arith) h few

-- ---- lengths

fewer : (l : List ℕ) → length (without_zeros l) ≤ length l
unfolding without_zeros
fewer [] = omega arith
fewer (d ∷ []) = omega arith
fewer (d ∷ e ∷ l) = by_case (d == 0x30) (fewer (e ∷ l))
  where
    by_case : (t : Bool) → length (without_zeros (e ∷ l)) ≤ length (e ∷ l) → length (cond t (without_zeros (e ∷ l)) (d ∷ e ∷ l)) ≤ length (d ∷ e ∷ l)
    by_case true h = omega arith
    by_case false h = omega arith

pub decimal_length : (n : ℕ) → length (decimal n) ≤ 20
unfolding decimal
decimal_length n = omega (arith, fewer (last_digits 10 20 n), digits_length 10 (omega arith) 20 n)

pub hexadecimal_length : (n : ℕ) → length (hexadecimal n) ≤ 16
unfolding hexadecimal
hexadecimal_length n = omega (arith, fewer (last_digits 16 16 n), digits_length 16 (omega arith) 16 n)
