-- What the code has read and filled after the last file makes the text that is to be printed.
use Rattle.std.specs.Prelude.{◌≡◌, ℕ, zero, suc, ◌+◌, ◌-◌, ◌*◌, ◌/◌, ◌%◌, ◌^◌, ◌<◌, ◌≤◌, Bool, true, false, cond, ◌||◌, List, [], ◌∷◌, ◌++◌, map, length, get_or, ◌==◌, nat_eq, nat_le, slice_index, slice_index_or}
use Rattle.std.proofs.Math.Path.{refl, ap}
use Rattle.std.proofs.Common.{sym, ◌∙◌, arith, ext_get_or, eq-eqb, ne_eqb, leb-false}
use Rattle.std.proofs.Math.Nat.{div-div-eq-div-mul, div-eq_of_lt, zero-div}
use Rattle.std.proofs.Math.ListN.{length-map, get_or-map}
use Rattle.unicode_io.specs.Names.{value_of}
use Rattle.unicode_io.specs.Names.Laws.{names_in}
use Rattle.unicode_io.specs.Grammar.{Entry, line_of}
use Rattle.unicode_io.specs.Line.{empty, line_from, entry_of}
use Rattle.unicode_io.specs.Cells.{bit_of, is_taken, kept_of, class_of, width_of, kind_of}
use Rattle.unicode_io.specs.Reading.{State, state_of, reading, line_ended, bytes_read, file_ended}
use Rattle.unicode_io.specs.Rows.{rows_from}
use Rattle.unicode_io.specs.Output.{table_text, refusal}
use Rattle.unicode_io.specs.Entries.{says, name_at, entries_from, entries_of, malformed, overlap, class_by, width_by, conjunct_by, kind_by, kind_at}
use Rattle.unicode_io.specs.Entries.Cell.{covered, valued, Holds}
use Rattle.unicode_io.specs.Entries.Steps.{AllGood}
use Rattle.unicode_io.specs.Entries.Bytes.{Stands, file_stands, ended_line, good_of}
use Rattle.unicode_io.specs.Generator.{refusal_of, kinds_from, answer, generated3, generated4}

-- ---- from file to file

bits_low : (p c : ℕ) → c < 256 → is_taken (bit_of p) c ≡ false
bits_low p c h =
    let z : c / bit_of p ≡ 0 = sym (div-div-eq-div-mul c 256 (2 ^ p)) ∙ ap (λ (m : ℕ). m / 2 ^ p) (div-eq_of_lt h) ∙ zero-div (2 ^ p) in
    ap (λ (m : ℕ). nat_eq (m % 2) 1) z

names_none : (file p x : ℕ) → name_at file p [] x ≡ 0
unfolding name_at
names_none file p x = refl

covered_none : (file p x : ℕ) → covered file p [] x ≡ false
unfolding covered
covered_none file p x = refl

-- a cell of a file that is not begun
holds_none : (file kept x c : ℕ) → value_of file 0 ≡ 0 → c < 256 → c ≡ kept → Holds file kept [] x c
holds_none file kept x c v h e = record {
  low = let a : value_of file (name_at file (valued file) [] x) ≡ 0 = ap (value_of file) (names_none file (valued file) x) ∙ v in omega (arith, a, e);
  bits = λ p. bits_low p c h ∙ sym (covered_none file p x);
  small = omega arith;
}

-- what a file adds to a scalar's cell
abbrev pub adds : ℕ → List Entry → ℕ → ℕ
adds file es x = value_of file (name_at file (valued file) es x)

module _ (file next : ℕ) (v : value_of next 0 ≡ 0) (kept : ℕ → ℕ) (m₀ o₀ : Bool) (es : List Entry) (s : State) (h : Stands file kept m₀ o₀ es s) where
  after : Stands next (λ x. kept x + adds file es x) (malformed es || m₀) (overlap file es || o₀) [] (state_of s.reading (map kept_of s.cells))
  unfolding malformed overlap
  after = record {
    malformed = h.malformed;
    overlap = h.overlap;
    tells = λ o. let t = h.tells o in record {
      many = length-map s.cells kept_of ∙ t.many;
      each = λ x k. let c : ℕ = get_or s.cells x 0 in
          let g : get_or (map kept_of s.cells) x 0 ≡ c % 256 = get_or-map kept_of s.cells x 0 in
          rw g (holds_none next (kept x + adds file es x) x (c % 256) v (omega arith) (t.each x k).low);
    };
    good = tt;
  }

empty_line : line_from empty [] ≡ empty
unfolding line_from
empty_line = refl

pub file_after : (file next : ℕ) → value_of next 0 ≡ 0 → (kept : ℕ → ℕ) → ((x : ℕ) → kept x ≤ 63) → (m₀ o₀ : Bool) (s : State) → s.reading.line ≡ empty → Stands file kept m₀ o₀ [] s → (bs : List ℕ)
    → Stands next (λ x. kept x + adds file (entries_of file bs) x) (malformed (entries_of file bs) || m₀) (overlap file (entries_of file bs) || o₀) [] (file_ended file (bytes_read file s bs))
file_after file next v kept room m₀ o₀ s l h bs =
    after file next v kept m₀ o₀ (entries_of file bs) (line_ended file (bytes_read file s bs)) (file_stands file kept room m₀ o₀ bs s [] [] (l ∙ sym empty_line) h)

-- the first file, over cells of which none is filled
pub begins : (cells : List ℕ) → length cells ≡ 1114112 → ((x : ℕ) → x < 1114112 → slice_index cells x ≡ 0) → Stands 0 (λ x. 0) false false [] (state_of (reading empty false false) cells)
unfolding malformed overlap
begins cells n z = record {
  malformed = refl;
  overlap = refl;
  tells = λ o. record { many = n; each = λ x h. rw (z x h) (holds_none 0 0 x 0 refl (omega arith) refl) };
  good = tt;
}

ended_empty : (file : ℕ) (s : State) → (file_ended file s).reading.line ≡ empty
ended_empty file s = ended_line file (entry_of file s.reading.line) s

-- ---- names are few

good_from : (file : ℕ) (bs line : List ℕ) (found : List Entry) → AllGood file found → AllGood file (entries_from file line found bs)
unfolding entries_from
good_from file [] line found g = (good_of file line, g)
good_from file (b ∷ bs) line found g = by_case (b == 0x0A) (good_from file bs [] (line_of file line ∷ found) (good_of file line, g)) (good_from file bs (line ++ b ∷ []) found g)
  where
    by_case : (t : Bool) → AllGood file (entries_from file [] (line_of file line ∷ found) bs) → AllGood file (entries_from file (line ++ b ∷ []) found bs) → AllGood file (cond t (entries_from file [] (line_of file line ∷ found) bs) (entries_from file (line ++ b ∷ []) found bs))
    by_case true p q = p
    by_case false p q = q

name_bound : (file p : ℕ) (es : List Entry) (x : ℕ) → AllGood file es → name_at file p es x ≤ names_in file
unfolding name_at
name_bound file p [] x g = omega arith
name_bound file p (e ∷ es) x g = by_case (says file p x e) g.0.most (name_bound file p es x g.1)
  where
    by_case : (t : Bool) → e.name ≤ names_in file → name_at file p es x ≤ names_in file → cond t e.name (name_at file p es x) ≤ names_in file
    by_case true a b = a
    by_case false a b = b

pub name_of : (file p : ℕ) (bs : List ℕ) (x : ℕ) → name_at file p (entries_of file bs) x ≤ names_in file
name_of file p bs x = name_bound file p (entries_of file bs) x (good_from file bs [] [] tt)

value_1 : (n : ℕ) → value_of 1 n ≤ 16
value_1 n = by_case (nat_le 5 n)
  where
    by_case : (t : Bool) → cond t 16 0 ≤ 16
    by_case true = omega arith
    by_case false = omega arith

value_2 : (n : ℕ) → value_of 2 n ≤ 32
value_2 n = by_case (n == 6)
  where
    by_case : (t : Bool) → cond t 32 0 ≤ 32
    by_case true = omega arith
    by_case false = omega arith

value_3 : (n : ℕ) → value_of 3 n ≡ 64 * (n - 19)
value_3 n = by_case (nat_le 20 n) refl
  where
    by_case : (t : Bool) → nat_le 20 n ≡ t → cond t (64 * (n - 19)) 0 ≡ 64 * (n - 19)
    by_case true e = refl
    by_case false e = omega (arith, leb-false 20 n e)

-- ---- what a cell comes to

parts : (a j : ℕ) (t u : Bool) → a ≤ 13 → j ≤ 3 → (s : ℕ) → s % 256 ≡ a + cond t 16 0 + cond u 32 0 + 64 * j → (s % 16 ≡ a) × (s / 16 % 2 ≡ cond t 1 0) × (s / 32 % 2 ≡ cond u 1 0) × (s / 64 % 4 ≡ j)
parts a j true true h k s e = (omega arith, omega arith, omega arith, omega arith)
parts a j true false h k s e = (omega arith, omega arith, omega arith, omega arith)
parts a j false true h k s e = (omega arith, omega arith, omega arith, omega arith)
parts a j false false h k s e = (omega arith, omega arith, omega arith, omega arith)

is_one : (t : Bool) → (cond t 1 0 == 1) ≡ t
is_one true = refl
is_one false = refl

kind_parts : (s : ℕ) → kind_of s ≡ s / 64 % 4 * 64 + class_of s * 4 + width_of s
unfolding kind_of
kind_parts s = refl

kind_by_parts : (a b c d : ℕ) → kind_by a b c d ≡ conjunct_by d * 64 + class_by a c * 4 + width_by (class_by a c) b
unfolding kind_by
kind_by_parts a b c d = refl

module _ (a b c : ℕ) (j : ℕ) (h : a ≤ 13) (k : j ≤ 3) (s : ℕ) (e : s % 256 ≡ a + value_of 1 b + value_of 2 c + 64 * j) where
  split : (s % 16 ≡ a) × (s / 16 % 2 ≡ cond (nat_le 5 b) 1 0) × (s / 32 % 2 ≡ cond (c == 6) 1 0) × (s / 64 % 4 ≡ j)
  split = parts a j (nat_le 5 b) (c == 6) h k s e

  class_is : class_of s ≡ class_by a c
  unfolding class_of class_by
  class_is = rw (split.0, split.2, is_one (c == 6)) refl

  width_is : width_of s ≡ width_by (class_by a c) b
  unfolding width_of width_by
  width_is = rw (class_is, split.1, is_one (nat_le 5 b)) refl

  kind_is : (d : ℕ) → conjunct_by d ≡ j → kind_of s ≡ kind_by a b c d
  kind_is d q = kind_parts s ∙ (rw (width_is, class_is, split.3, q) refl) ∙ sym (kind_by_parts a b c d)

-- ---- the table

kinds_length : (f : ℕ → ℕ) (at n : ℕ) → length (kinds_from f at n) ≡ n
unfolding kinds_from
kinds_length f at zero = refl
kinds_length f at (suc n) = ap suc (kinds_length f (suc at) n)

kinds_at : (f : ℕ → ℕ) (at n i d : ℕ) → i < n → slice_index_or (kinds_from f at n) i d ≡ f (at + i)
unfolding kinds_from
kinds_at f at zero i d h = absurd (omega arith)
kinds_at f at (suc n) zero d h = let e : at + 0 ≡ at = omega arith in rw e refl
kinds_at f at (suc n) (suc i) d h = let e : suc at + i ≡ at + suc i = omega arith in kinds_at f (suc at) n i d (omega arith) ∙ ap f e

kinds_are : (f : ℕ → ℕ) (n : ℕ) (cells : List ℕ) → length cells ≡ n → ((x : ℕ) → x < n → kind_of (slice_index cells x) ≡ f x) → map kind_of cells ≡ kinds_from f 0 n
kinds_are f n cells l h = ext_get_or (kind_of 0) (map kind_of cells) (kinds_from f 0 n) (length-map cells kind_of ∙ l ∙ sym (kinds_length f 0 n))
    (λ i k. let m : i < n = omega (arith, l, length-map cells kind_of) in let z : 0 + i ≡ i = omega arith in get_or-map kind_of cells i 0 ∙ h i m ∙ sym (kinds_at f 0 n i (kind_of 0) m ∙ ap f z))

answer_same : (m o : Bool) (t u : List ℕ) → (o ≡ false → t ≡ u) → answer m o t ≡ answer m o u
unfolding answer
answer_same true o t u h = refl
answer_same false true t u h = refl
answer_same false false t u h = h refl

-- what the program prints of a state after the last file
abbrev pub printed_of : State → List ℕ
printed_of s = answer s.reading.malformed s.reading.overlap (table_text (rows_from 0 (map kind_of s.cells)))

pub answer_refused : (m o : Bool) (table : List ℕ) (n : ℕ) → n ≡ refusal_of m o → 0 < n → refusal n ≡ answer m o table
unfolding answer
answer_refused m o table n e h = rw (← e, ne_eqb n 0 (λ z. omega (arith, z))) refl

pub answer_table : (m o : Bool) (table : List ℕ) (n : ℕ) → n ≡ refusal_of m o → n ≤ 0 → table ≡ answer m o table
unfolding answer
answer_table m o table n e h = let z : n ≡ 0 = omega arith in rw (← e, eq-eqb n 0 z) refl

or_false : (a : Bool) → a || false ≡ a
or_false true = refl
or_false false = refl

printed_as : (m m' o o' : Bool) (t u : List ℕ) → m ≡ m' → o ≡ o' → (o' ≡ false → t ≡ u) → answer m o t ≡ answer m' o' u
printed_as m m' o o' t u p q h = ap (λ (x : Bool). answer x o t) p ∙ ap (λ (x : Bool). answer m' x t) q ∙ answer_same m' o' t u h

generated_3 : (b w e : List ℕ) → generated3 b w e ≡ answer (malformed (entries_of 2 e) || (malformed (entries_of 1 w) || malformed (entries_of 0 b))) (overlap 2 (entries_of 2 e) || (overlap 1 (entries_of 1 w) || overlap 0 (entries_of 0 b)))
    (table_text (rows_from 0 (kinds_from (kind_at (entries_of 0 b) (entries_of 1 w) (entries_of 2 e) []) 0 1114112)))
unfolding generated3
generated_3 b w e = refl

generated_4 : (b w e d : List ℕ) → generated4 b w e d ≡ answer (malformed (entries_of 3 d) || (malformed (entries_of 2 e) || (malformed (entries_of 1 w) || malformed (entries_of 0 b)))) (overlap 3 (entries_of 3 d) || (overlap 2 (entries_of 2 e) || (overlap 1 (entries_of 1 w) || overlap 0 (entries_of 0 b))))
    (table_text (rows_from 0 (kinds_from (kind_at (entries_of 0 b) (entries_of 1 w) (entries_of 2 e) (entries_of 3 d)) 0 1114112)))
unfolding generated4
generated_4 b w e d = refl

module _ (b w e : List ℕ) (cells : List ℕ) (many : length cells ≡ 1114112) (zeros : (x : ℕ) → x < 1114112 → slice_index cells x ≡ 0) where
  abbrev s₁ : State
  s₁ = file_ended 0 (bytes_read 0 (state_of (reading empty false false) cells) b)

  abbrev s₂ : State
  s₂ = file_ended 1 (bytes_read 1 s₁ w)

  abbrev s₃ : State
  s₃ = file_ended 2 (bytes_read 2 s₂ e)

  abbrev k₁ : ℕ → ℕ
  k₁ x = 0 + adds 0 (entries_of 0 b) x

  abbrev k₂ : ℕ → ℕ
  k₂ x = k₁ x + adds 1 (entries_of 1 w) x

  abbrev k₃ : ℕ → ℕ
  k₃ x = k₂ x + adds 2 (entries_of 2 e) x

  first : Stands 1 k₁ (malformed (entries_of 0 b) || false) (overlap 0 (entries_of 0 b) || false) [] s₁
  first = file_after 0 1 refl (λ x. 0) (λ x. omega arith) false false (state_of (reading empty false false) cells) refl (begins cells many zeros) b

  second : Stands 2 k₂ (malformed (entries_of 1 w) || (malformed (entries_of 0 b) || false)) (overlap 1 (entries_of 1 w) || (overlap 0 (entries_of 0 b) || false)) [] s₂
  second = file_after 1 2 refl k₁ (λ x. omega (arith, name_of 0 0 b x)) _ _ s₁ (ended_empty 0 (bytes_read 0 (state_of (reading empty false false) cells) b)) first w

  small₃ : (x : ℕ) → k₃ x ≤ 63
  small₃ x = omega (arith, name_of 0 0 b x, value_1 (name_at 1 0 (entries_of 1 w) x), value_2 (name_at 2 6 (entries_of 2 e) x))

  third : Stands 3 k₃ (malformed (entries_of 2 e) || (malformed (entries_of 1 w) || (malformed (entries_of 0 b) || false))) (overlap 2 (entries_of 2 e) || (overlap 1 (entries_of 1 w) || (overlap 0 (entries_of 0 b) || false))) [] s₃
  third = file_after 2 3 refl k₂ (λ x. omega (arith, name_of 0 0 b x, value_1 (name_at 1 0 (entries_of 1 w) x))) _ _ s₂ (ended_empty 1 (bytes_read 1 s₁ w)) second e

  abbrev three : ℕ → ℕ
  three x = kind_at (entries_of 0 b) (entries_of 1 w) (entries_of 2 e) [] x

  -- of three files
  kind₃ : s₃.reading.overlap ≡ false → (x : ℕ) → x < 1114112 → kind_of (slice_index s₃.cells x) ≡ three x
  unfolding kind_at
  kind₃ o x h =
      let a : ℕ = name_at 0 0 (entries_of 0 b) x in
      let p : get_or s₃.cells x 0 % 256 ≡ k₃ x + value_of 3 (name_at 3 20 [] x) = ((third.tells o).each x h).low in
      let z : value_of 3 (name_at 3 20 [] x) ≡ 0 = ap (value_of 3) (names_none 3 20 x) in
      kind_is a (name_at 1 0 (entries_of 1 w) x) (name_at 2 6 (entries_of 2 e) x) 0 (name_of 0 0 b x) (omega arith) (slice_index s₃.cells x) (omega (arith, p, z)) (name_at 3 20 [] x) (ap conjunct_by (names_none 3 20 x))

  abbrev wrong₃ : Bool
  wrong₃ = malformed (entries_of 2 e) || (malformed (entries_of 1 w) || malformed (entries_of 0 b))

  abbrev twice₃ : Bool
  twice₃ = overlap 2 (entries_of 2 e) || (overlap 1 (entries_of 1 w) || overlap 0 (entries_of 0 b))

  wrong_is : s₃.reading.malformed ≡ wrong₃
  unfolding malformed
  wrong_is = third.malformed ∙ ap (λ (t : Bool). malformed (entries_of 2 e) || (malformed (entries_of 1 w) || t)) (or_false (malformed (entries_of 0 b)))

  twice_is : s₃.reading.overlap ≡ twice₃
  unfolding overlap
  twice_is = third.overlap ∙ ap (λ (t : Bool). overlap 2 (entries_of 2 e) || (overlap 1 (entries_of 1 w) || t)) (or_false (overlap 0 (entries_of 0 b)))

  kinds_three : twice₃ ≡ false → map kind_of s₃.cells ≡ kinds_from three 0 1114112
  kinds_three n = kinds_are three 1114112 s₃.cells (third.tells (twice_is ∙ n)).many (kind₃ (twice_is ∙ n))

  pub prints_three : printed_of s₃ ≡ generated3 b w e
  prints_three = printed_as s₃.reading.malformed wrong₃ s₃.reading.overlap twice₃ (table_text (rows_from 0 (map kind_of s₃.cells))) (table_text (rows_from 0 (kinds_from three 0 1114112))) wrong_is twice_is (λ n. ap (λ (l : List ℕ). table_text (rows_from 0 l)) (kinds_three n)) ∙ sym (generated_3 b w e)

  -- of four files
  module _ (d : List ℕ) where
    abbrev s₄ : State
    s₄ = file_ended 3 (bytes_read 3 s₃ d)

    fourth : Stands 4 (λ x. k₃ x + adds 3 (entries_of 3 d) x) (malformed (entries_of 3 d) || (malformed (entries_of 2 e) || (malformed (entries_of 1 w) || (malformed (entries_of 0 b) || false)))) (overlap 3 (entries_of 3 d) || (overlap 2 (entries_of 2 e) || (overlap 1 (entries_of 1 w) || (overlap 0 (entries_of 0 b) || false)))) [] s₄
    fourth = file_after 3 4 refl k₃ small₃ _ _ s₃ (ended_empty 2 (bytes_read 2 s₂ e)) third d

    abbrev four : ℕ → ℕ
    four x = kind_at (entries_of 0 b) (entries_of 1 w) (entries_of 2 e) (entries_of 3 d) x

    kind₄ : s₄.reading.overlap ≡ false → (x : ℕ) → x < 1114112 → kind_of (slice_index s₄.cells x) ≡ four x
    unfolding kind_at
    kind₄ o x h =
        let n : ℕ = name_at 3 20 (entries_of 3 d) x in
        let p : get_or s₄.cells x 0 % 256 ≡ k₃ x + adds 3 (entries_of 3 d) x + value_of 4 (name_at 4 20 [] x) = ((fourth.tells o).each x h).low in
        let z : value_of 4 (name_at 4 20 [] x) ≡ 0 = ap (value_of 4) (names_none 4 20 x) in
        let v : adds 3 (entries_of 3 d) x ≡ 64 * (n - 19) = value_3 n in
        kind_is (name_at 0 0 (entries_of 0 b) x) (name_at 1 0 (entries_of 1 w) x) (name_at 2 6 (entries_of 2 e) x) (n - 19) (name_of 0 0 b x) (omega (arith, name_of 3 20 d x)) (slice_index s₄.cells x) (omega (arith, p, z, v)) n refl

    abbrev wrong₄ : Bool
    wrong₄ = malformed (entries_of 3 d) || (malformed (entries_of 2 e) || (malformed (entries_of 1 w) || malformed (entries_of 0 b)))

    abbrev twice₄ : Bool
    twice₄ = overlap 3 (entries_of 3 d) || (overlap 2 (entries_of 2 e) || (overlap 1 (entries_of 1 w) || overlap 0 (entries_of 0 b)))

    wrong_4 : s₄.reading.malformed ≡ wrong₄
    unfolding malformed
    wrong_4 = fourth.malformed ∙ ap (λ (t : Bool). malformed (entries_of 3 d) || (malformed (entries_of 2 e) || (malformed (entries_of 1 w) || t))) (or_false (malformed (entries_of 0 b)))

    twice_4 : s₄.reading.overlap ≡ twice₄
    unfolding overlap
    twice_4 = fourth.overlap ∙ ap (λ (t : Bool). overlap 3 (entries_of 3 d) || (overlap 2 (entries_of 2 e) || (overlap 1 (entries_of 1 w) || t))) (or_false (overlap 0 (entries_of 0 b)))

    kinds_four : twice₄ ≡ false → map kind_of s₄.cells ≡ kinds_from four 0 1114112
    kinds_four n = kinds_are four 1114112 s₄.cells (fourth.tells (twice_4 ∙ n)).many (kind₄ (twice_4 ∙ n))

    pub prints_four : printed_of s₄ ≡ generated4 b w e d
    prints_four = printed_as s₄.reading.malformed wrong₄ s₄.reading.overlap twice₄ (table_text (rows_from 0 (map kind_of s₄.cells))) (table_text (rows_from 0 (kinds_from four 0 1114112))) wrong_4 twice_4 (λ n. ap (λ (l : List ℕ). table_text (rows_from 0 l)) (kinds_four n)) ∙ sym (generated_4 b w e d)
