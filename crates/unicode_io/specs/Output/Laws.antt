-- What the writers leave.
use Rattle.std.specs.Prelude.{◌≡◌, ℕ, suc, ◌+◌, ◌-◌, ◌*◌, ◌/◌, ◌%◌, ◌^◌, ◌<◌, ◌≤◌, Bool, true, false, cond, ◌||◌, List, [], ◌∷◌, ◌++◌, length, take, drop, ◌==◌, ◌≢◌, refl}
use Rattle.std.proofs.Common.{sym, ap, ap₂, ◌∙◌, mod-lt, arith, length-append}
use Rattle.std.proofs.Math.Seq.{take-append_seam}
use borrow.Author.Tests.{eq-eqb, ne_eqb}
use Rattle.io.specs.Digits.{last_digits, IsDigitCount}
use Rattle.buffer.specs.Sink.{Sink, sink, emit}
use Rattle.buffer.specs.Sink.Laws.{emit_none, then_emit, fitted}
use Rattle.buffer.specs.Numbers.{smaller_of}
use Rattle.buffer.specs.Numbers.Laws.{smaller_left}
use Rattle.unicode_io.specs.Text.{ascii}
use Rattle.unicode_io.specs.Digits.{decimal, hexadecimal}
use Rattle.unicode_io.specs.Digits.Laws.{fewest_decimal, fewest_hexadecimal, decimal_length, hexadecimal_length}
use Rattle.unicode_io.specs.Output.{number_line, part_size, head, foot, numbers, head_of, foot_of, gap, row_text, row_texts, table_text, refusal}
use Rattle.unicode_io.specs.declared.rows.Row.{Row}

pub decimal_pushed : (n k : ℕ) (ds : List ℕ) (s z : Sink ℕ) → n < 10 ^ 20 → IsDigitCount 10 1 n k → take k ds ≡ last_digits 10 k n → z ≡ emit s (take k ds) → z ≡ emit s (decimal n)
decimal_pushed n k ds s z h few e p = p ∙ ap (emit s) (e ∙ fewest_decimal n k h few)

pub hexadecimal_pushed : (n k : ℕ) (ds : List ℕ) (s z : Sink ℕ) → n < 16 ^ 16 → IsDigitCount 16 1 n k → take k ds ≡ last_digits 16 k n → z ≡ emit s (take k ds) → z ≡ emit s (hexadecimal n)
hexadecimal_pushed n k ds s z h few e p = p ∙ ap (emit s) (e ∙ fewest_hexadecimal n k h few)

-- three texts, one after the other
three : (s a b z : Sink ℕ) (x y w : List ℕ) → a ≡ emit s x → b ≡ emit a y → z ≡ emit b w → z ≡ emit s (x ++ y ++ w)
three s a b z x y w p q r = then_emit s b z (x ++ y) w (then_emit s a b x y p q) r

pub number_pushed : (n : ℕ) (s a b z : Sink ℕ) → a ≡ emit s (ascii "    0x") → b ≡ emit a (hexadecimal n) → z ≡ emit b (ascii ",\n") → z ≡ emit s (number_line n)
unfolding number_line
number_pushed n s a b z p q r = three s a b z (ascii "    0x") (hexadecimal n) (ascii ",\n") p q r

pub numbers_pushed : (row : Row) (s a b z : Sink ℕ) (last : ℕ) → last ≡ row.end - 1 → a ≡ emit s (number_line row.low) → b ≡ emit a (number_line last) → z ≡ emit b (number_line row.kind) → z ≡ emit s (numbers row)
unfolding numbers
numbers_pushed row s a b z last e p q r = three s a b z _ _ _ p (rw e at q) r

pub gap_due : (part : ℕ) (s z : Sink ℕ) → (part ≢ 0) → z ≡ emit s (ascii "\n") → z ≡ emit s (gap part)
unfolding gap
gap_due part s z n p = rw (ne_eqb part 0 n) p

pub no_gap : (part : ℕ) (s : Sink ℕ) → part ≡ 0 → s ≡ emit s (gap part)
unfolding gap
no_gap part s e = rw (eq-eqb part 0 e) (sym (emit_none s))

pub head_pushed : (part rows : ℕ) (s g a b c d z : Sink ℕ) → g ≡ emit s (gap part) → a ≡ emit g (ascii "pub(crate) const PART_") → b ≡ emit a (decimal part) → c ≡ emit b (ascii ": [u32; ") → d ≡ emit c (decimal (rows * 3)) → z ≡ emit d (ascii "] = [\n") → z ≡ emit s (head part rows)
unfolding head
head_pushed part rows s g a b c d z o p q r t u = three s c d z _ _ _ (three s a b c _ _ _ (then_emit s g a _ _ o p) q r) t u

pub refusal_pushed : (n m : ℕ) (s a b z : Sink ℕ) → m ≡ n → a ≡ emit s (ascii "refused ") → b ≡ emit a (decimal m) → z ≡ emit b (ascii "\n") → z ≡ emit s (refusal n)
unfolding refusal
refusal_pushed n m s a b z e p q r = three s a b z _ _ _ p (q ∙ ap (λ (k : ℕ). emit a (decimal k)) e) r

module _ (total i : ℕ) (s z : Sink ℕ) (size : ℕ) (e : size ≡ part_size total) where
  pub head_due : (n rest : ℕ) → i % size ≡ 0 → rest ≡ total - i → n ≡ smaller_of size rest → z ≡ emit s (head (i / size) n) → z ≡ emit s (head_of total i)
  unfolding head_of
  head_due n rest h t k p = rw (← e, eq-eqb (i % size) 0 h, ← t, ← k) p

  pub foot_due : (rest : ℕ) → rest ≡ total - i → (i % size + 1 == size) || (rest == 1) ≡ true → z ≡ emit s foot → z ≡ emit s (foot_of total i)
  unfolding foot_of
  foot_due rest t h p = rw (← e, ← t, h) p

pub no_head : (total i : ℕ) (s : Sink ℕ) (size : ℕ) → size ≡ part_size total → (i % size ≢ 0) → s ≡ emit s (head_of total i)
unfolding head_of
no_head total i s size e h = rw (← e, ne_eqb (i % size) 0 h) (sym (emit_none s))

pub no_foot : (total i : ℕ) (s : Sink ℕ) (size rest : ℕ) → size ≡ part_size total → rest ≡ total - i → (i % size + 1 == size) || (rest == 1) ≡ false → s ≡ emit s (foot_of total i)
unfolding foot_of
no_foot total i s size rest e t h = rw (← e, ← t, h) (sym (emit_none s))

pub row_pushed : (total i : ℕ) (r : Row) (s a b z : Sink ℕ) → a ≡ emit s (head_of total i) → b ≡ emit a (numbers r) → z ≡ emit b (foot_of total i) → z ≡ emit s (row_text total i r)
unfolding row_text
row_pushed total i r s a b z p q t = three s a b z _ _ _ p q t

pub few_rows : (total size rest n : ℕ) → total < 18446744073709551616 → size ≡ part_size total → n ≡ smaller_of size rest → n ≤ 1152921504606846976
few_rows total size rest n h e k = omega (arith, smaller_left size rest n k)

pub place_fits : (total i size : ℕ) → total < 18446744073709551616 → size ≡ part_size total → i % size + 1 < 18446744073709551616
place_fits total i size h e = let k : i % size < size = mod-lt i (omega arith) in omega arith

-- ---- a text that fits stands in the buffer

pub text_pushed : (l xs l' : List ℕ) (r : ℕ) → length xs ≤ length l → sink l' r ≡ emit (sink l 0) xs → take r l' ≡ xs
text_pushed l xs l' r h e = let f = fitted l xs l' r e h in ap₂ take f.0 f.1 ∙ take-append_seam xs (drop (length xs) l)

sum_length : (a b : List ℕ) (m n : ℕ) → length a ≤ m → length b ≤ n → length (a ++ b) ≤ m + n
sum_length a b m n h k = omega (arith, length-append a b)

number_length : (n : ℕ) → length (number_line n) ≤ 24
unfolding number_line ascii
number_length n = sum_length (ascii "    0x" ++ hexadecimal n) (ascii ",\n") 22 2 (sum_length (ascii "    0x") (hexadecimal n) 6 16 (omega arith) (hexadecimal_length n)) (omega arith)

numbers_length : (r : Row) → length (numbers r) ≤ 72
unfolding numbers
numbers_length r = sum_length (number_line r.low ++ number_line (r.end - 1)) (number_line r.kind) 48 24 (sum_length (number_line r.low) (number_line (r.end - 1)) 24 24 (number_length r.low) (number_length (r.end - 1))) (number_length r.kind)

or_none : (t : Bool) (x : List ℕ) (n : ℕ) → length x ≤ n → length (cond t x []) ≤ n
or_none true x n h = h
or_none false x n h = omega arith

gap_length : (part : ℕ) → length (gap part) ≤ 1
unfolding gap ascii
gap_length part = by_case (part == 0)
  where
    by_case : (t : Bool) → length (cond t [] (ascii "\n")) ≤ 1
    by_case true = omega arith
    by_case false = omega arith

head_length : (part rows : ℕ) → length (head part rows) ≤ 77
unfolding head ascii
head_length part rows =
    let a : List ℕ = ascii "pub(crate) const PART_" in
    let c : List ℕ = ascii ": [u32; " in
    let e : List ℕ = ascii "] = [\n" in
    sum_length (gap part ++ a ++ decimal part ++ c ++ decimal (rows * 3)) e 71 6
    (sum_length (gap part ++ a ++ decimal part ++ c) (decimal (rows * 3)) 51 20
    (sum_length (gap part ++ a ++ decimal part) c 43 8 (sum_length (gap part ++ a) (decimal part) 23 20 (sum_length (gap part) a 1 22 (gap_length part) (omega arith)) (decimal_length part)) (omega arith))
    (decimal_length (rows * 3)))
    (omega arith)

head_of_length : (total i : ℕ) → length (head_of total i) ≤ 77
unfolding head_of
head_of_length total i = or_none (i % part_size total == 0) _ 77 (head_length (i / part_size total) (smaller_of (part_size total) (total - i)))

foot_length : length foot ≤ 3
unfolding foot ascii
foot_length = omega arith

foot_of_length : (total i : ℕ) → length (foot_of total i) ≤ 3
unfolding foot_of
foot_of_length total i = or_none (i % part_size total + 1 == part_size total || total - i == 1) foot 3 foot_length

pub row_length : (total i : ℕ) (r : Row) → length (row_text total i r) ≤ 256
unfolding row_text
row_length total i r = omega (arith, sum_length (head_of total i ++ numbers r) (foot_of total i) 149 3 (sum_length (head_of total i) (numbers r) 77 72 (head_of_length total i) (numbers_length r)) (foot_of_length total i))

pub refusal_length : (n : ℕ) → length (refusal n) ≤ 64
unfolding refusal ascii
refusal_length n = omega (arith, sum_length (ascii "refused " ++ decimal n) (ascii "\n") 28 1 (sum_length (ascii "refused ") (decimal n) 8 20 (omega arith) (decimal_length n)) (omega arith))

-- ---- row by row

pub texts_none : (total i : ℕ) → row_texts total i [] ≡ []
unfolding row_texts
texts_none total i = refl

pub texts_more : (total i : ℕ) (r : Row) (rs : List Row) → row_texts total i (r ∷ rs) ≡ row_text total i r ++ row_texts total (suc i) rs
unfolding row_texts
texts_more total i r rs = refl

pub table_texts : (rs : List Row) → row_texts (length rs) 0 rs ≡ table_text rs
unfolding table_text
table_texts rs = refl
