-- The digits of a number are the fewest that hold it, and write it; what stands behind the bytes that question 1 looks at changes nothing.
use Rattle.std.specs.Prelude.{◌≡◌, refl, ℕ, zero, suc, ◌+◌, ◌-◌, ◌*◌, ◌/◌, ◌%◌, ◌^◌, ◌≤◌, ◌<◌, List, [], ◌∷◌, ◌++◌, length, take, drop, replicate, eqb, leb}
use Rattle.std.proofs.Common.{sym, ap, subst, ◌∙◌, add-zero, div-one, div-lt_iff_lt-mul, le-div_iff_mul-le, arith, length-append, length-take, take_all, length-take-le, eqb-true, ne_eqb, lt-ltb, le-leb, leb-true, leb-false}
use Rattle.std.proofs.Math.Nat.{div-eq_of_lt, div-div-eq-div-mul, one-le-pow, pow-succ', pow-le-pow_right}
use Rattle.std.proofs.lemmas.List.{length-replicate}
use Rattle.std.proofs.Math.Seq.{take-append_seam}
use Rattle.std.proofs.lemmas.Bool.{lt-leb}
use Rattle.text.specs.Tests.{cases, by_case}
use Rattle.text.specs.Each.{all_nil, all_cons, all_append, all_drop}
use Rattle.io.specs.Digits.{last_digits, hex_digit_ascii, IsDigitCount}
use Rattle.text.specs.Width.{profile01}
use Rattle.text.specs.Overstrike.{convert}
use Rattle.spans.specs.Sgr.Parameters.{value_from, value_last, value_zero, Numeral}
use Rattle.spans.specs.Spans.{spans}
use Rattle.rows.specs.Rows.{Row, rows}
use Rattle.spans.specs.Calls.{no_record, read_call}
use Rattle.text.specs.Calls.{question1}
use Rattle.text.specs.Calls.Laws.{decide_no}
use Rattle.spans.specs.Calls.Laws.{read_number}
use Rattle.rows.specs.Calls.{Wrapped, rows_call, mode_and_width, mode_of, numbers_of}
use Rattle.rows.specs.Calls.Laws.{rows_refused, rows_five, rows_six, rows_accepted}
use Rattle.rows.specs.Wrap.Laws.{numbers_of_length}
use Rattle.rows_io.specs.FirstLine.{width_of}
use Rattle.rows_io.specs.Input.{first_of, line_of, read_into, read_input}
use Rattle.rows_io.specs.Output.{without_zeros, decimal, row_line, row_lines, refusal, answer_text, printed, rows_program}
use Rattle.rows_io.specs.declared.first_line.FirstLine.{FirstLine}

-- ---- digits

digits_length : (k n : ℕ) → length (last_digits 10 k n) ≡ k
digits_length zero n = refl
digits_length (suc k) n = length-append (last_digits 10 k (n / 10)) (hex_digit_ascii (n % 10) ∷ []) ∙ (omega (arith, digits_length k (n / 10)))

first_digit : (k n : ℕ) → last_digits 10 (suc k) n ≡ hex_digit_ascii (n / 10 ^ k % 10) ∷ last_digits 10 k n
first_digit zero n = ap (λ (m : ℕ). hex_digit_ascii (m % 10) ∷ []) (sym (div-one n))
first_digit (suc k) n =
    let q : n / 10 / 10 ^ k ≡ n / 10 ^ suc k = div-div-eq-div-mul n 10 (10 ^ k) ∙ ap (λ (d : ℕ). n / d) (sym (pow-succ' 10 k)) in
    ap (λ (l : List ℕ). l ++ (hex_digit_ascii (n % 10) ∷ [])) (first_digit k (n / 10)) ∙ ap (λ (m : ℕ). hex_digit_ascii (m % 10) ∷ last_digits 10 (suc k) n) q

zero_in_front : (k n : ℕ) → n < 10 ^ k → last_digits 10 (suc k) n ≡ 0x30 ∷ last_digits 10 k n
zero_in_front k n h = first_digit k n ∙ ap (λ (m : ℕ). hex_digit_ascii (m % 10) ∷ last_digits 10 k n) (div-eq_of_lt h)

zero_dropped : (l : List ℕ) → 0 < length l → without_zeros (0x30 ∷ l) ≡ without_zeros l
unfolding without_zeros
zero_dropped [] h = absurd (omega arith)
zero_dropped (x ∷ l) h = refl

zeros_dropped : (j r n : ℕ) → 0 < r → n < 10 ^ r → without_zeros (last_digits 10 (r + j) n) ≡ without_zeros (last_digits 10 r n)
zeros_dropped zero r n p h = ap (λ (m : ℕ). without_zeros (last_digits 10 m n)) (add-zero r)
zeros_dropped (suc j) r n p h =
    let ten : 0 < 10 = omega arith in
    let le : r ≤ r + j = omega arith in
    let q : 10 ^ r ≤ 10 ^ (r + j) = pow-le-pow_right ten le in
    let next : r + suc j ≡ suc (r + j) = omega arith in
    ap (λ (m : ℕ). without_zeros (last_digits 10 m n)) next
    ∙ ap without_zeros (zero_in_front (r + j) n (omega arith))
    ∙ zero_dropped (last_digits 10 (r + j) n) (omega (arith, digits_length (r + j) n))
    ∙ zeros_dropped j r n p h

no_zero : (e : ℕ) → 1 ≤ e → e < 10 → hex_digit_ascii e ≡ 0x30 → ⊥
no_zero e l h p = omega (arith, rw (lt-ltb e 10 h) at p)

digit_kept : (x : ℕ) (l : List ℕ) → (x ≡ 0x30 → ⊥) → without_zeros (x ∷ l) ≡ x ∷ l
unfolding without_zeros
digit_kept x [] h = refl
digit_kept x (y ∷ l) h = rw (ne_eqb x 0x30 h)

one_kept : (x : ℕ) → without_zeros (x ∷ []) ≡ x ∷ []
unfolding without_zeros
one_kept x = refl

digits_kept : (r n : ℕ) → IsDigitCount 10 1 n r → without_zeros (last_digits 10 r n) ≡ last_digits 10 r n
digits_kept zero n few = absurd (omega (arith, few.0))
digits_kept (suc zero) n few = one_kept (hex_digit_ascii (n % 10))
digits_kept (suc (suc k)) n few =
    let p : 1 ≤ 10 ^ suc k = one-le-pow (suc k) 10 (omega arith) in
    let less : suc (suc k) - 1 ≡ suc k = omega arith in
    let low : 1 * 10 ^ suc k ≤ n = omega (arith, subst (λ (m : ℕ). 10 ^ m ≤ n) less (few.2 (omega arith))) in
    let high : n < 10 * 10 ^ suc k = rw (pow-succ' 10 (suc k)) at few.1 in
    let d : ℕ = n / 10 ^ suc k in
    let low' : 1 ≤ d = (le-div_iff_mul-le p).1 low in
    let high' : d < 10 = (div-lt_iff_lt-mul p).1 high in
    let same : d % 10 ≡ d = omega arith in
    let x : (hex_digit_ascii (d % 10) ≡ 0x30 → ⊥) = no_zero (d % 10) (omega arith) (omega arith) in
    ap without_zeros (first_digit (suc k) n) ∙ digit_kept (hex_digit_ascii (d % 10)) (last_digits 10 (suc k) n) x ∙ sym (first_digit (suc k) n)

fewest_of : (most n r : ℕ) → r ≤ most → IsDigitCount 10 1 n r → last_digits 10 r n ≡ without_zeros (last_digits 10 most n)
fewest_of most n r h few =
    let e : r + (most - r) ≡ most = omega arith in
    sym (digits_kept r n few) ∙ sym (zeros_dropped (most - r) r n (omega (arith, few.0)) few.1) ∙ ap (λ (m : ℕ). without_zeros (last_digits 10 m n)) e

few_digits : (most n r : ℕ) → 1 ≤ most → n < 10 ^ most → IsDigitCount 10 1 n r → r ≤ most
few_digits most n r one h few = cases (leb r most) (λ p. leb-true r most p) (λ p.
    let over : most < r = omega (arith, leb-false r most p) in
    let ten : 0 < 10 = omega arith in
    let le : most ≤ r - 1 = omega arith in
    let q : 10 ^ most ≤ 10 ^ (r - 1) = pow-le-pow_right ten le in
    absurd (omega (arith, few.2 (omega arith))))

pub fewest_digits : (n r : ℕ) → n < 10 ^ 20 → IsDigitCount 10 1 n r → last_digits 10 r n ≡ decimal n
unfolding decimal
fewest_digits n r h few = fewest_of 20 n r (few_digits 20 n r (omega arith) h few) few

-- ---- they write the number

digits_numeral : (k n : ℕ) → n < 10 ^ k → Numeral (last_digits 10 k n) n
unfolding value_from
digits_numeral zero n h = record { digits = all_nil; value = omega arith }
digits_numeral (suc k) n h =
    let ten : 0 < 10 = omega arith in
    let less : n / 10 < 10 ^ k = (div-lt_iff_lt-mul ten).1 (omega (arith, pow-succ' 10 k)) in
    let w = digits_numeral k (n / 10) less in
    let d : n % 10 < 10 = omega arith in
    record {
      digits = all_append w.digits (all_cons (rw (lt-ltb (n % 10) 10 d, le-leb 0x30 (48 + n % 10) (omega arith), le-leb (48 + n % 10) 0x39 (omega arith)) refl) all_nil);
      value = value_last (last_digits 10 k (n / 10)) 0 (hex_digit_ascii (n % 10)) ∙ rw (w.value, lt-ltb (n % 10) 10 d) (omega arith);
    }

zeros_left : (ds : List ℕ) (n : ℕ) → Numeral ds n → Numeral (without_zeros ds) n
unfolding without_zeros
zeros_left [] n w = w
zeros_left (d ∷ []) n w = w
zeros_left (d ∷ e ∷ ds) n w =
    by_case (λ (l : List ℕ). Numeral l n) (eqb d 0x30)
    (λ p. zeros_left (e ∷ ds) n (record { digits = all_drop 1 w.digits; value = sym (value_zero (e ∷ ds)) ∙ (rw (eqb-true d 0x30 p) at w.value) }))
    (λ p. w)

pub decimal_numeral : (n : ℕ) → n < 10 ^ 20 → Numeral (decimal n) n
unfolding decimal
decimal_numeral n h = zeros_left (last_digits 10 20 n) n (digits_numeral 20 n h)

-- ---- the line as far as question 1 looks

abbrev call : FirstLine → List ℕ → Wrapped
call f line = rows_call profile01 32768 2048 8192 (width_of f) f.mode line

too_long : (f : FirstLine) (line : List ℕ) → 4096 < length line → call f line ≡ record { number = 1; count = 0; conv = replicate 32768 0; spans = replicate 2048 no_record; rows = replicate 8192 0 }
too_long f line h =
    let one : (read_call profile01 32768 2048 [] line).number ≡ 1 = read_number profile01 32768 2048 [] line ∙ decide_no (question1 line) _ (lt-leb (length line) 4096 h) in
    rows_refused profile01 32768 2048 line (width_of f) f.mode 8192 0 one

pub as_far : (f : FirstLine) (line : List ℕ) → printed f (take 4097 line) ≡ printed f line
unfolding printed
as_far f line = cases (leb (length line) 4097)
    (λ p. ap (printed f) (take_all 4097 line (leb-true (length line) 4097 p)))
    (λ p. let h : 4097 < length line = omega (arith, leb-false (length line) 4097 p) in
    let n : length (take 4097 line) ≡ 4097 = length-take-le 4097 line (omega arith) in
    ap (λ (w : Wrapped). answer_text w.number w.count w.rows) (too_long f (take 4097 line) (omega arith) ∙ sym (too_long f line (omega arith))))

-- what is printed of an input that was read into 4,097 bytes is what the program prints for it
pub program_prints : (buffer s : List ℕ) → length buffer ≡ 4097 → printed (read_input buffer s).input.first (take (read_input buffer s).input.count (read_input buffer s).buffer) ≡ rows_program s
unfolding read_into
program_prints buffer s n =
    let kept : List ℕ = take (length buffer) (line_of s) in
    ap (printed (first_of s)) (take-append_seam kept (drop (length kept) buffer) ∙ ap (λ (k : ℕ). take k (line_of s)) n) ∙ as_far (first_of s) (line_of s)

-- ---- what is printed fits into 258,048 bytes

fewer : (l : List ℕ) → length (without_zeros l) ≤ length l
unfolding without_zeros
fewer [] = omega arith
fewer (d ∷ []) = omega arith
fewer (d ∷ e ∷ l) = cases (eqb d 0x30) (λ p. rw p (omega (arith, fewer (e ∷ l)))) (λ p. rw p (omega arith))

pub decimal_length : (n : ℕ) → length (decimal n) ≤ 20
unfolding decimal
decimal_length n = omega (arith, fewer (last_digits 10 20 n), digits_length 20 n)

line_length_law : (i start end : ℕ) → length (row_line i start end) ≤ 63
unfolding row_line
line_length_law i start end = simp length-append (omega (arith, decimal_length i, decimal_length start, decimal_length end))

lines_length : (ns : List ℕ) (i : ℕ) → 2 * length (row_lines i ns) ≤ 63 * length ns
unfolding row_lines
lines_length [] i = omega arith
lines_length (n ∷ []) i = omega arith
lines_length (n ∷ m ∷ ns) i = omega (arith, length-append (row_line i n m) (row_lines (suc i) ns), line_length_law i n m, lines_length ns (suc i))

refusal_length : (n : ℕ) → length (refusal n) ≤ 29
unfolding refusal
refusal_length n = simp length-append (omega (arith, decimal_length n))

found : FirstLine → List ℕ → List Row
found f line = rows profile01 (width_of f) (mode_of f.mode) (spans profile01 (convert profile01 line))

accepted_length : (rs : List Row) → 2 * length rs ≤ 8192 → length (numbers_of rs ++ replicate (8192 - length (numbers_of rs)) 0) ≡ 8192
accepted_length rs h = omega (arith, length-append (numbers_of rs) (replicate (8192 - length (numbers_of rs)) 0), length-replicate {A = ℕ} (8192 - length (numbers_of rs)) 0, numbers_of_length rs)

rows_length : (f : FirstLine) (line : List ℕ) (n : ℕ) → (read_call profile01 32768 2048 [] line).number ≡ n → length (call f line).rows ≡ 8192
unfolding found
rows_length f line (suc r) e = ap (λ (w : Wrapped). length w.rows) (rows_refused profile01 32768 2048 line (width_of f) f.mode 8192 r e) ∙ length-replicate {A = ℕ} 8192 0
rows_length f line zero e = cases (mode_and_width f.mode (width_of f))
    (λ p. cases (leb (2 * length (found f line)) 8192)
    (λ q. let h : 2 * length (found f line) ≤ 8192 = leb-true (2 * length (found f line)) 8192 q in
    ap (λ (w : Wrapped). length w.rows) (rows_accepted profile01 32768 2048 line (width_of f) f.mode 8192 e p h) ∙ accepted_length (found f line) h)
    (λ q. ap (λ (w : Wrapped). length w.rows) (rows_six profile01 32768 2048 line (width_of f) f.mode 8192 e p (omega (arith, leb-false (2 * length (found f line)) 8192 q))) ∙ length-replicate {A = ℕ} 8192 0))
    (λ p. ap (λ (w : Wrapped). length w.rows) (rows_five profile01 32768 2048 line (width_of f) f.mode 8192 e p) ∙ length-replicate {A = ℕ} 8192 0)

answer_length : (number count : ℕ) (ns : List ℕ) → length ns ≡ 8192 → length (answer_text number count ns) ≤ 258048
unfolding answer_text
answer_length number count ns h = cases (eqb number 0)
    (λ p. rw p (omega (arith, lines_length (take (2 * count) ns) 0, length-take (2 * count) ns)))
    (λ p. rw p (omega (arith, refusal_length number)))

pub printed_length : (f : FirstLine) (line : List ℕ) → length (printed f line) ≤ 258048
unfolding printed
printed_length f line =
    let w : Wrapped = call f line in
    answer_length w.number w.count w.rows (rows_length f line (read_call profile01 32768 2048 [] line).number refl)
