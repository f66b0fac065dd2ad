-- What `read` leaves, for those who go on with the spans: the converted line at the front of the buffer, and a record for each span.
use Rattle.std.specs.Prelude.{◌≡◌, ℕ, zero, suc, ◌+◌, ◌-◌, ◌≤◌, List, ◌++◌, length, take, replicate}
use Rattle.std.proofs.Common.{sym, ap, ◌∙◌, arith, length-append, take_at}
use Rattle.std.proofs.Math.Seq.{take-append-add}
use Rattle.text.specs.Each.{All}
use Rattle.text.specs.Width.{profile01}
use Rattle.text.specs.Overstrike.{convert}
use Rattle.text.specs.Overstrike.Length.{convert_size}
use Rattle.text.specs.declared.Answer.{Answer}
use Rattle.spans.specs.Spans.{Span, Record, record_of, records}
use Rattle.spans.specs.Spans.Laws.{records_length}
use Rattle.spans.specs.Spans.SpanCount.{few}
use Rattle.spans.specs.Spans.ContentLaw.{content_of, content_front}
use Rattle.spans.specs.Search as search
use Rattle.spans.specs.Calls.{Read, read_call, no_record}
use Rattle.spans.specs.Calls.Laws.{read_accepted, read_refused, read_passed}
use Rattle.spans.specs.Calls.Contracts.{read_as}
use Rattle.rows.specs.Calls.Contracts.{line_room}

module _ (size places : ℕ) (matches line : List ℕ) (a : Answer) (cs : List ℕ) (rs : List Record) (read : read_as a cs rs ≡ read_call profile01 size places matches line) where
  abbrev pub s : List ℕ
  s = convert profile01 line

  abbrev pub ss : List Span
  ss = search.read profile01 matches s

  pub number_is : (read_call profile01 size places matches line).number ≡ a.number
  number_is = sym (ap (λ (x : Read). x.number) read)

  pub count_none : (r : ℕ) → a.number ≡ suc r → a.count ≡ 0
  count_none r e = ap (λ (x : Read). x.count) (read ∙ read_refused profile01 size places matches line r (number_is ∙ e))

  module _ (fine : a.number ≡ 0) where
    found_is : read_as a cs rs ≡ record { number = 0; count = length ss; conv = s ++ replicate (size - length s) 0; spans = records ss ++ replicate (places - length (records ss)) no_record }
    found_is = read ∙ read_accepted profile01 size places matches line (number_is ∙ fine)

    count_is : a.count ≡ length ss
    count_is = ap (λ (x : Read). x.count) found_is

    line_fits : length s ≤ line_room size
    line_fits =
        let y = read_passed profile01 size places matches line (number_is ∙ fine) in
        omega (arith, y.room, y.short, convert_size profile01 line)

    -- what stands behind the line
    abbrev pub after : List ℕ
    after = take (line_room size - length s) (replicate (size - length s) 0)

    pub line_part : take (line_room size) cs ≡ s ++ after
    line_part =
        let n : line_room size ≡ length s + (line_room size - length s) = omega (arith, line_fits) in
        ap (take (line_room size)) (ap (λ (x : Read). x.conv) found_is)
        ∙ ap (λ (k : ℕ). take k (s ++ replicate (size - length s) 0)) n ∙ take-append-add s (replicate (size - length s) 0) (line_room size - length s)

    pub spans_part : take a.count rs ≡ records ss
    spans_part =
        ap (take a.count) (ap (λ (x : Read). x.spans) found_is)
        ∙ take_at (records ss) (replicate (places - length (records ss)) no_record) a.count (records_length ss ∙ sym count_is)

    -- each span holds what its record says of the line
    pub held_in : All (λ (x : Span). content_of (s ++ after) (record_of x) ≡ x.content) ss
    held_in = content_front profile01 matches s after

    counted : (a.count ≤ length rs) × (a.count ≤ 32768)
    counted =
        let y = read_passed profile01 size places matches line (number_is ∙ fine) in
        let k : length rs ≡ length (records ss) + length (replicate (places - length (records ss)) no_record) = ap length (ap (λ (x : Read). x.spans) found_is) ∙ length-append (records ss) (replicate (places - length (records ss)) no_record) in
        (omega (arith, count_is, records_length ss), omega (arith, count_is, few profile01 matches s y.ordered, y.short, convert_size profile01 line))

  -- so many records there are, and few enough to draw or wrap
  pub count_in : (n : ℕ) → a.number ≡ n → (a.count ≤ length rs) × (a.count ≤ 32768)
  count_in zero e = counted e
  count_in (suc r) e = (omega (arith, count_none r e), omega (arith, count_none r e))

-- the room for a line in a buffer is in the buffer, and small
pub line_room_law : (cs : List ℕ) (len : ℕ) → len ≡ line_room (length cs) → (len ≤ 32768) × (len ≤ length cs)
line_room_law cs len e = (omega arith, omega arith)
