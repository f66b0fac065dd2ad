-- What the writers of the program's output leave: digits, lines, and the lines of a list of rows.
use mathlib.Core.Path.{◌≡◌, refl, sym, ap, ◌∙◌}
use Prim.Native.Nat.{ℕ, suc, ◌+◌, ◌*◌, ◌/◌, ◌^◌, ◌≤◌, ◌<◌}
use native.Mathlib.Numerals.{add-one}
use native.Mathlib.Omega.{arith}
use mathlib.Core.List.{List, [], ◌∷◌, ◌++◌}
use lib.ListN.{length, take, drop, get_or, length-drop}
use lib.Seq.{drop-cons}
use borrow.Author.Tests.{eq-eqb, ne_eqb}
use Rattle.io.specs.Digits.{last_digits, IsDigitCount}
use Rattle.buffer.specs.Sink.{Sink, put, emit}
use Rattle.buffer.specs.Sink.Laws.{emit_none, emit_append, then_emit}
use Rattle.buffer.specs.Numbers.{smaller_of}
use Rattle.buffer.specs.Numbers.Parts.{take_smaller}
use Rattle.text.specs.Width.{profile01}
use Rattle.text.specs.declared.Answer.{Answer}
use Rattle.rows.specs.Calls.{Wrapped, rows_call}
use Rattle.rows.specs.Numbers.{RowsNumbers}
use Rattle.rows_io.specs.FirstLine.{width_of}
use Rattle.rows_io.specs.Output.{decimal, row_line, row_lines, refusal, answer_text, printed}
use Rattle.rows_io.specs.declared.first_line.FirstLine.{FirstLine}
use Rattle.rows_io.specs.Output.Laws.{fewest_digits}

pub decimal_pushed : (n k : ℕ) (ds : List ℕ) (s z : Sink ℕ) → n < 10 ^ 20 → IsDigitCount 10 1 n k → take k ds ≡ last_digits 10 k n → z ≡ emit s (take k ds) → z ≡ emit s (decimal n)
decimal_pushed n k ds s z h few e p = p ∙ ap (emit s) (e ∙ fewest_digits n k h few)

pub row_pushed : (i start end : ℕ) (s a b c d e z : Sink ℕ) → a ≡ emit s (decimal i) → b ≡ put a 0x20 → c ≡ emit b (decimal start) → d ≡ put c 0x20 → e ≡ emit d (decimal end) → z ≡ put e 0x0A → z ≡ emit s (row_line i start end)
unfolding row_line emit
row_pushed i start end s a b c d e z p q p' q' p'' q'' =
    let space : List ℕ = 0x20 ∷ [] in
    let i₁ : List ℕ = decimal i ++ space in
    let i₂ : List ℕ = i₁ ++ decimal start in
    let i₃ : List ℕ = i₂ ++ space in
    let t₁ : b ≡ emit s i₁ = then_emit s a b (decimal i) space p q in
    let t₂ : c ≡ emit s i₂ = then_emit s b c i₁ (decimal start) t₁ p' in
    let t₃ : d ≡ emit s i₃ = then_emit s c d i₂ space t₂ q' in
    then_emit s e z (i₃ ++ decimal end) (0x0A ∷ []) (then_emit s d e i₃ (decimal end) t₃ p'') q''

pub refusal_pushed : (n : ℕ) (s a b z : Sink ℕ) → a ≡ emit s (0x72 ∷ 0x65 ∷ 0x66 ∷ 0x75 ∷ 0x73 ∷ 0x65 ∷ 0x64 ∷ 0x20 ∷ []) → b ≡ emit a (decimal n) → z ≡ put b 0x0A → z ≡ emit s (refusal n)
unfolding refusal emit
refusal_pushed n s a b z p q r =
    let word : List ℕ = 0x72 ∷ 0x65 ∷ 0x66 ∷ 0x75 ∷ 0x73 ∷ 0x65 ∷ 0x64 ∷ 0x20 ∷ [] in
    then_emit s b z (word ++ decimal n) (0x0A ∷ []) (then_emit s a b word (decimal n) p q) r

-- ---- the rows of a list, one by one

pair_at_law : (ns : List ℕ) (i : ℕ) → i < length ns / 2 → drop (2 * i) ns ≡ get_or ns (2 * i) 0 ∷ get_or ns (2 * i + 1) 0 ∷ drop (2 * (i + 1)) ns
pair_at_law ns i h =
    let n : suc (2 * i) ≡ 2 * i + 1 = omega arith in
    let m : suc (2 * i + 1) ≡ 2 * (i + 1) = omega arith in
    drop-cons ns (2 * i) 0 (omega arith)
    ∙ ap (λ (l : List ℕ). get_or ns (2 * i) 0 ∷ l) (ap (λ (k : ℕ). drop k ns) n ∙ drop-cons ns (2 * i + 1) 0 (omega arith) ∙ ap (λ (k : ℕ). get_or ns (2 * i + 1) 0 ∷ drop k ns) m)

rows_past : (i : ℕ) (ns : List ℕ) → length ns ≤ 1 → row_lines i ns ≡ []
unfolding row_lines
rows_past i [] h = refl
rows_past i (n ∷ []) h = refl
rows_past i (n ∷ m ∷ ns) h = absurd (omega arith)

row_more : (i : ℕ) (start end : ℕ) (ns : List ℕ) → row_lines i (start ∷ end ∷ ns) ≡ row_line i start end ++ row_lines (suc i) ns
unfolding row_lines
row_more i start end ns = refl

-- what is left to write behind i rows
pub record RowsLeft (s₀ : Sink ℕ) (ns : List ℕ) (s : Sink ℕ) (i : ℕ) : Type 0 where
  pub work : emit s (row_lines i (drop (2 * i) ns)) ≡ emit s₀ (row_lines 0 ns)

pub rows_begin : (s : Sink ℕ) (ns : List ℕ) → RowsLeft s ns s 0
rows_begin s ns = record { work = refl }

module _ (s₀ : Sink ℕ) (ns : List ℕ) (s : Sink ℕ) (i : ℕ) (left : RowsLeft s₀ ns s i) where
  pub rows_turn : (s' : Sink ℕ) → i < length ns / 2 → s' ≡ emit s (row_line i (get_or ns (2 * i) 0) (get_or ns (2 * i + 1) 0)) → RowsLeft s₀ ns s' (i + 1)
  rows_turn s' h e =
      let line : List ℕ = row_line i (get_or ns (2 * i) 0) (get_or ns (2 * i + 1) 0) in
      let p : row_lines i (drop (2 * i) ns) ≡ line ++ row_lines (i + 1) (drop (2 * (i + 1)) ns) =
      ap (row_lines i) (pair_at_law ns i h) ∙ row_more i (get_or ns (2 * i) 0) (get_or ns (2 * i + 1) 0) (drop (2 * (i + 1)) ns) ∙ ap (λ (k : ℕ). line ++ row_lines k (drop (2 * (i + 1)) ns)) (sym (add-one i)) in
      record { work = ap (λ (x : Sink ℕ). emit x (row_lines (i + 1) (drop (2 * (i + 1)) ns))) e ∙ sym (emit_append s line (row_lines (i + 1) (drop (2 * (i + 1)) ns))) ∙ ap (emit s) (sym p) ∙ left.work }

  pub rows_end : length ns / 2 ≤ i → s ≡ emit s₀ (row_lines 0 ns)
  rows_end h =
      let few : length (drop (2 * i) ns) ≤ 1 = rw (length-drop (2 * i) ns) (omega arith) in
      sym (emit_none s) ∙ ap (emit s) (sym (rows_past i (drop (2 * i) ns) few)) ∙ left.work

-- ---- the answer

module _ (number count : ℕ) (rows : List ℕ) (s z : Sink ℕ) where
  pub accepted : (n : ℕ) → number ≡ 0 → n ≡ smaller_of (2 * count) (length rows) → z ≡ emit s (row_lines 0 (take n rows)) → z ≡ emit s (answer_text number count rows)
  unfolding answer_text
  accepted n e t p = rw (eq-eqb number 0 e) (p ∙ ap (λ (l : List ℕ). emit s (row_lines 0 l)) (take_smaller rows (2 * count) n t))

  pub refused : (number ≡ 0 → ⊥) → z ≡ emit s (refusal number) → z ≡ emit s (answer_text number count rows)
  unfolding answer_text
  refused e p = rw (ne_eqb number 0 e) p

-- ---- an input that was read

pub printed_of_law : (f : FirstLine) (line : List ℕ) (n count width size places pairs m : ℕ) (a : Answer) (conv numbers rows : List ℕ) (s z : Sink ℕ) → n ≡ smaller_of count (length line) → width ≡ width_of f
    → size ≡ 32768 → places ≡ 2048 → pairs ≡ 8192 → RowsNumbers (rows_call profile01 size places pairs width f.mode (take n line)) m a conv numbers rows
    → z ≡ emit s (answer_text a.number a.count rows) → z ≡ emit s (printed f (take count line))
unfolding printed
printed_of_law f line n count width size places pairs m a conv numbers rows s z k w e₁ e₂ e₃ r p =
    let call : Wrapped = rows_call profile01 size places pairs width f.mode (take n line) in
    let told : answer_text a.number a.count rows ≡ answer_text call.number call.count call.rows = rw (r.read.number, r.read.count, r.pairs) in
    p ∙ ap (emit s) (told ∙ rw (e₁, e₂, e₃, w, take_smaller line count n k))
