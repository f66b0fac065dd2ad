-- The spans of a line as text, written one part after the other.
use mathlib.Core.Path.{◌≡◌, refl, sym, ap, ◌∙◌}
use mathlib.Core.Logic.{◌≢◌}
use Prim.Native.Nat.{ℕ, suc, ◌+◌, ◌-◌, ◌*◌, ◌/◌, ◌≤◌, ◌<◌}
use native.Mathlib.Numerals.{add-one}
use native.Mathlib.Omega.{arith}
use mathlib.Core.Bool.{true, false, ◌&&◌}
use mathlib.Core.List.{List, [], ◌∷◌, ◌++◌}
use lib.ListN.{length, take, drop, get_or, replicate, length-append, length-drop, length-replicate, drop_of_length-le}
use lib.Seq.{drop-cons}
use lib.Dec.{eqb, leb}
use borrow.Author.Tests.{eq-eqb, ne_eqb, le-leb, leb-true, eqb-true}
use Rattle.text.specs.Tests.{cases}
use Rattle.text.specs.Utf8.{bytes_of}
use Rattle.text.specs.Width.{profile01}
use Rattle.text.specs.Overstrike.{convert}
use Rattle.text.specs.Calls.{question1, question2}
use Rattle.text.specs.Calls.Laws.{first_yes}
use Rattle.text.specs.declared.Answer.{Answer}
use Rattle.buffer.specs.Numbers.{smaller_of}
use Rattle.buffer.specs.Numbers.Parts.{part_is}
use Rattle.buffer.specs.Sink.{Sink, put, emit, written_or_zero}
use Rattle.buffer.specs.Sink.Laws.{emit_none, emit_append, then_emit, emit_put, then_put}
use Rattle.spans.specs.Spans.{Span, spans, Record, records}
use Rattle.spans.specs.Spans.Laws.{records_length}
use Rattle.spans.specs.Calls.{Read, read_call, question4, no_record}
use Rattle.spans.specs.Calls.Laws.{unmatched, unmatched_accepted}
use Rattle.spans.specs.Numbers.{numbers_of_all, places_in, ReadNumbers}
use Rattle.spans.specs.Numbers.Laws.{numbers_length, numbers_take}
use Rattle.drawing.specs.Marks.{byte_mark}
use Rattle.rows_io.specs.Output.{decimal}
use Rattle.show_io.specs.SpanText.{sequence_word, kind_word, visible_byte, visible, shown, head_text, place_text, span_text, records_text}
use Rattle.show_io.specs.SpanText.Contracts.{numbers_text}
use Rattle.show_io.specs.Lines.{refusal_text, read_text, spans_text}
use Rattle.show_io.specs.Lines.Contracts.{answer_text}
use Rattle.buffer.specs.Numbers.Laws.{smaller_first, smaller_second}
use Rattle.buffer.specs.Numbers.Parts.{take_smaller}

-- ---- kinds

pub sequence_last : (n : ℕ) (s z : Sink ℕ) → (n ≢ 6) → (n ≢ 7) → (n ≢ 8) → (n ≢ 9) → z ≡ emit s (sequence_word 13) → z ≡ emit s (sequence_word n)
unfolding sequence_word
sequence_last n s z a b c d p = rw (ne_eqb n 6 a, ne_eqb n 7 b, ne_eqb n 8 c, ne_eqb n 9 d) p

pub kind_last : (n : ℕ) (s z : Sink ℕ) → (n ≢ 1) → (n ≢ 2) → (n ≢ 3) → (n ≢ 4) → (n ≢ 5) → (n ≢ 10) → (n ≢ 11) → (n ≢ 12) → z ≡ emit s (sequence_word n) → z ≡ emit s (kind_word n)
unfolding kind_word
kind_last n s z a b c d e f g h p = rw (ne_eqb n 1 a, ne_eqb n 2 b, ne_eqb n 3 c, ne_eqb n 4 d, ne_eqb n 5 e, ne_eqb n 10 f, ne_eqb n 11 g, ne_eqb n 12 h) p

-- ---- bytes

module _ (s z : Sink ℕ) (b : ℕ) where
  pub byte_plain : (leb 0x20 b && leb b 0x7E) ≡ true → z ≡ put s b → z ≡ emit s (visible_byte b)
  unfolding visible_byte
  byte_plain e p = rw e (emit_put s z b p)

  pub byte_marked : (leb 0x20 b && leb b 0x7E) ≡ false → z ≡ emit s (bytes_of (byte_mark b)) → z ≡ emit s (visible_byte b)
  unfolding visible_byte
  byte_marked e p = rw e p

visible_none : visible [] ≡ []
unfolding visible
visible_none = refl

visible_more : (b : ℕ) (l : List ℕ) → visible (b ∷ l) ≡ visible_byte b ++ visible l
unfolding visible
visible_more b l = refl

-- what is left to write behind i bytes
pub record VisibleLeft (s₀ : Sink ℕ) (l : List ℕ) (s : Sink ℕ) (i : ℕ) : Type 0 where
  pub work : emit s (visible (drop i l)) ≡ emit s₀ (visible l)

pub visible_begin : (s : Sink ℕ) (l : List ℕ) → VisibleLeft s l s 0
visible_begin s l = record { work = refl }

module _ (s₀ : Sink ℕ) (l : List ℕ) (s : Sink ℕ) (i : ℕ) (left : VisibleLeft s₀ l s i) where
  pub visible_turn : (s' : Sink ℕ) → i < length l → s' ≡ emit s (visible_byte (get_or l i 0)) → VisibleLeft s₀ l s' (i + 1)
  visible_turn s' h e =
      let b : ℕ = get_or l i 0 in
      let p : visible (drop i l) ≡ visible_byte b ++ visible (drop (i + 1) l) =
      ap visible (drop-cons l i 0 h ∙ ap (λ (k : ℕ). b ∷ drop k l) (sym (add-one i))) ∙ visible_more b (drop (i + 1) l) in
      record { work = ap (λ (x : Sink ℕ). emit x (visible (drop (i + 1) l))) e ∙ sym (emit_append s (visible_byte b) (visible (drop (i + 1) l))) ∙ ap (emit s) (sym p) ∙ left.work }

  pub visible_end : length l ≤ i → s ≡ emit s₀ (visible l)
  visible_end h = sym (emit_none s) ∙ ap (emit s) (sym (ap visible (drop_of_length-le l h) ∙ visible_none)) ∙ left.work

module _ (s z : Sink ℕ) (kind : ℕ) (l : List ℕ) where
  pub shown_plain : kind ≡ 1 → z ≡ emit s l → z ≡ emit s (shown kind l)
  unfolding shown
  shown_plain e p = rw (eq-eqb kind 1 e) p

  pub shown_visible : (kind ≢ 1) → z ≡ emit s (visible l) → z ≡ emit s (shown kind l)
  unfolding shown
  shown_visible e p = rw (ne_eqb kind 1 e) p

pub part_pushed : (conv : List ℕ) (place len from n kind : ℕ) → from ≡ smaller_of place (length conv) → n ≡ smaller_of len (length conv - from) → (s z : Sink ℕ) → z ≡ emit s (shown kind (take (from + n - from) (drop from conv))) → z ≡ emit s (shown kind (take len (drop place conv)))
part_pushed conv place len from n kind is cut s z p = p ∙ ap (λ (l : List ℕ). emit s (shown kind l)) (part_is conv place from is len n cut)

-- ---- a span

pub head_pushed : (number kind : ℕ) (s a b c z : Sink ℕ) → a ≡ emit s (decimal number) → b ≡ emit a (0x3A ∷ 0x20 ∷ []) → c ≡ emit b (kind_word kind) → z ≡ put c 0x20 → z ≡ emit s (head_text number kind)
unfolding head_text
head_pushed number kind s a b c z e f g h = then_emit s a z (decimal number) _ e (then_emit a b z (0x3A ∷ 0x20 ∷ []) _ f (then_put b c z (kind_word kind) 0x20 g h))

pub place_pushed : (place len : ℕ) (s a b c z : Sink ℕ) → a ≡ emit s (decimal place) → b ≡ put a 0x20 → c ≡ emit b (decimal len) → z ≡ put c 0x20 → z ≡ emit s (place_text place len)
unfolding place_text
place_pushed place len s a b c z e f g h = then_emit s a z (decimal place) _ e (then_emit a b z (0x20 ∷ []) _ (emit_put a b 0x20 f) (then_put b c z (decimal len) 0x20 g h))

pub span_pushed : (number : ℕ) (conv : List ℕ) (kind place len : ℕ) (s a b c z : Sink ℕ) → a ≡ emit s (head_text number kind) → b ≡ emit a (place_text place len) → c ≡ emit b (shown kind (take len (drop place conv))) → z ≡ put c 0x0A → z ≡ emit s (span_text number conv kind place len)
unfolding span_text
span_pushed number conv kind place len s a b c z e f g h =
    then_emit s a z (head_text number kind) _ e (then_emit a b z (place_text place len) _ f (then_put b c z (shown kind (take len (drop place conv))) 0x0A g h))

-- ---- spans as numbers, one by one

four_at : (ns : List ℕ) (i : ℕ) → i < length ns / 4 → drop (4 * i) ns ≡ get_or ns (4 * i) 0 ∷ get_or ns (4 * i + 1) 0 ∷ get_or ns (4 * i + 2) 0 ∷ get_or ns (4 * i + 3) 0 ∷ drop (4 * (i + 1)) ns
four_at ns i h =
    let at : (j k : ℕ) → k ≡ suc j → j < length ns → drop j ns ≡ get_or ns j 0 ∷ drop k ns = λ j k e l. drop-cons ns j 0 l ∙ ap (λ (m : ℕ). get_or ns j 0 ∷ drop m ns) (sym e) in
    at (4 * i) (4 * i + 1) (omega arith) (omega arith)
    ∙ ap (λ (l : List ℕ). get_or ns (4 * i) 0 ∷ l) (at (4 * i + 1) (4 * i + 2) (omega arith) (omega arith)
    ∙ ap (λ (l : List ℕ). get_or ns (4 * i + 1) 0 ∷ l) (at (4 * i + 2) (4 * i + 3) (omega arith) (omega arith)
    ∙ ap (λ (l : List ℕ). get_or ns (4 * i + 2) 0 ∷ l) (at (4 * i + 3) (4 * (i + 1)) (omega arith) (omega arith))))

module _ (number : ℕ) (conv : List ℕ) where
  numbers_past : (ns : List ℕ) → length ns ≤ 3 → numbers_text number conv ns ≡ []
  unfolding numbers_text
  numbers_past [] h = refl
  numbers_past (k ∷ []) h = refl
  numbers_past (k ∷ p ∷ []) h = refl
  numbers_past (k ∷ p ∷ n ∷ []) h = refl
  numbers_past (k ∷ p ∷ n ∷ m ∷ ns) h = absurd (omega arith)

  numbers_more : (k p n m : ℕ) (ns : List ℕ) → numbers_text number conv (k ∷ p ∷ n ∷ m ∷ ns) ≡ span_text number conv k p n ++ numbers_text number conv ns
  unfolding numbers_text
  numbers_more k p n m ns = refl

  -- what is left to write behind i spans
  pub record NumbersLeft (s₀ : Sink ℕ) (ns : List ℕ) (s : Sink ℕ) (i : ℕ) : Type 0 where
    pub work : emit s (numbers_text number conv (drop (4 * i) ns)) ≡ emit s₀ (numbers_text number conv ns)

  pub numbers_begin : (s : Sink ℕ) (ns : List ℕ) → NumbersLeft s ns s 0
  numbers_begin s ns = record { work = refl }

  module _ (s₀ : Sink ℕ) (ns : List ℕ) (s : Sink ℕ) (i : ℕ) (left : NumbersLeft s₀ ns s i) where
    pub numbers_turn : (s' : Sink ℕ) → i < length ns / 4 → s' ≡ emit s (span_text number conv (get_or ns (4 * i) 0) (get_or ns (4 * i + 1) 0) (get_or ns (4 * i + 2) 0)) → NumbersLeft s₀ ns s' (i + 1)
    numbers_turn s' h e =
        let t : List ℕ = span_text number conv (get_or ns (4 * i) 0) (get_or ns (4 * i + 1) 0) (get_or ns (4 * i + 2) 0) in
        let more : List ℕ = numbers_text number conv (drop (4 * (i + 1)) ns) in
        let p : numbers_text number conv (drop (4 * i) ns) ≡ t ++ more = ap (numbers_text number conv) (four_at ns i h) ∙ numbers_more _ _ _ _ _ in
        record { work = ap (λ (x : Sink ℕ). emit x more) e ∙ sym (emit_append s t more) ∙ ap (emit s) (sym p) ∙ left.work }

    pub numbers_end : length ns / 4 ≤ i → s ≡ emit s₀ (numbers_text number conv ns)
    numbers_end h =
        let few : length (drop (4 * i) ns) ≤ 3 = rw (length-drop (4 * i) ns) (omega arith) in
        sym (emit_none s) ∙ ap (emit s) (sym (numbers_past (drop (4 * i) ns) few)) ∙ left.work

-- ---- how many numbers

pub numbers_all : (n count : ℕ) → count ≤ n / 4 → 4 * count ≡ smaller_of (4 * count) n
numbers_all n count h = sym (smaller_first (4 * count) n (omega arith))

pub numbers_few : (n count : ℕ) → n / 4 < count → n ≡ smaller_of (4 * count) n
numbers_few n count h = sym (smaller_second (4 * count) n (omega arith))

-- ---- an answer

module _ (name : List ℕ) (number refusal count : ℕ) (conv ns : List ℕ) (s z : Sink ℕ) where
  pub answer_spans : (n : ℕ) → refusal ≡ 0 → n ≡ smaller_of (4 * count) (length ns) → z ≡ emit s (numbers_text number conv (take n ns)) → z ≡ emit s (answer_text name number refusal count conv ns)
  unfolding answer_text
  answer_spans n e f p = rw (eq-eqb refusal 0 e) (p ∙ ap (λ (l : List ℕ). emit s (numbers_text number conv l)) (take_smaller ns (4 * count) n f))

  pub answer_refused : (refusal ≢ 0) → z ≡ emit s (refusal_text name number refusal) → z ≡ emit s (answer_text name number refusal count conv ns)
  unfolding answer_text
  answer_refused e p = rw (ne_eqb refusal 0 e) p

-- ---- the numbers are those of the records

numbers_text_law : (number : ℕ) (conv : List ℕ) (rs : List Record) → numbers_text number conv (numbers_of_all rs) ≡ records_text number conv rs
unfolding numbers_text records_text numbers_of_all
numbers_text_law number conv [] = refl
numbers_text_law number conv (r ∷ rs) = ap (λ (l : List ℕ). span_text number conv r.kind r.place.0 r.len ++ l) (numbers_text_law number conv rs)

module _ (line : List ℕ) where
  abbrev call : Read
  call = read_call profile01 32768 2048 [] line

  abbrev ss : List Span
  ss = spans profile01 (convert profile01 line)

  module _ (fine : call.number ≡ 0) where
    few : length ss ≤ 2048
    few =
        let a = first_yes (question1 line) _ tt (sym (unmatched profile01 32768 2048 line) ∙ fine) in
        let b = first_yes (question2 32768 line) _ tt a.1 in
        leb-true (length ss) 2048 (first_yes (question4 2048 ss) [] tt b.1).0

    count_is : call.count ≡ length ss
    count_is = ap (λ (c : Read). c.count) (unmatched_accepted profile01 32768 2048 line fine)

    places_length : length call.spans ≡ 2048
    places_length =
        ap length (ap (λ (c : Read). c.spans) (unmatched_accepted profile01 32768 2048 line fine))
        ∙ length-append (records ss) (replicate (2048 - length (records ss)) no_record)
        ∙ ap (λ (k : ℕ). length (records ss) + k) (length-replicate (2048 - length (records ss)) no_record) ∙ omega (arith, records_length ss, few)

    numbers_front : take (4 * call.count) (written_or_zero 8192 (numbers_of_all call.spans)) ≡ numbers_of_all (take call.count call.spans)
    unfolding written_or_zero
    numbers_front =
        let l : length (numbers_of_all call.spans) ≤ 8192 = omega (arith, numbers_length call.spans, places_length) in
        rw (le-leb (length (numbers_of_all call.spans)) 8192 l)
        (numbers_take call.spans (replicate (8192 - length (numbers_of_all call.spans)) 0) call.count (omega (arith, count_is, places_length, few)))

  read_text_law : (name : List ℕ) (number : ℕ) (a : Answer) (conv ns : List ℕ) → ReadNumbers call 8192 a conv ns → answer_text name number a.number a.count conv ns ≡ read_text name number call
  unfolding answer_text read_text
  read_text_law name number a conv ns is = cases (eqb call.number 0)
      (λ e. rw (is.number, is.count, is.bytes, is.records, e) (ap (numbers_text number call.conv) (numbers_front (eqb-true call.number 0 e)) ∙ numbers_text_law number call.conv (take call.count call.spans)))
      (λ e. rw (is.number, e) refl)

pub spans_pushed : (name : List ℕ) (number c n m : ℕ) (line : List ℕ) (a : Answer) (conv ns : List ℕ) (s z : Sink ℕ) → c ≡ 32768 → n ≡ 8192 → m ≡ 8192 → ReadNumbers (read_call profile01 c (places_in n) [] line) m a conv ns → z ≡ emit s (answer_text name number a.number a.count conv ns) → z ≡ emit s (spans_text name number line)
unfolding spans_text
spans_pushed name number c n m line a conv ns s z e f g is p =
    let r : ReadNumbers (read_call profile01 32768 2048 [] line) 8192 a conv ns = rw (e, f, g) at is in
    p ∙ ap (emit s) (read_text_law line name number a conv ns r)
