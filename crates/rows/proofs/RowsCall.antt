-- The calls `rows` and `height`: what `read` leaves is wrapped, and what is answered and left is that of the definition.
use Rattle.std.proofs.Common.{◌≡◌, refl, sym, ap, subst, ◌∙◌, ℕ, suc, ◌-◌, ◌*◌, ◌/◌, ◌≤◌, ◌<◌, Bool, true, false, List, [], ◌++◌, length, take, drop, replicate, leb, ltb, Option, Some, None, Ok, Err, arith, leb-true, leb-false, le-leb}
use Rattle.std.proofs.lemmas.Bool.{lt-leb}
use Rattle.std.proofs.lemmas.List.{length-reverse}
use lib.ListN.{length-take}
use borrow.Author.Tests.{lt-ltb, le-ltb}
use mathlib.Core.Bool.{not, ◌&&◌, ◌||◌}
use mathlib.Core.List.{reverse, reverse-reverse}
use Rattle.buffer.specs.Sink.{cleared}
use Rattle.buffer.specs.Sink.Laws.{cleared_none, cleared_behind}
use Rattle.text.specs.Tests.{cases, and_T, true_T, is_true}
use Rattle.text.specs.Calls.Code.{number_of, answer_of}
use Rattle.text.specs.Width.{profile01}
use Rattle.text.specs.Overstrike.{convert}
use Rattle.text.specs.Calls.Code.Laws.{number_some}
use Rattle.text.specs.declared.refusal.Refusal.{Refusal}
use Rattle.spans.specs.Spans.{Span, spans, Record, records}
use Rattle.spans.specs.Spans.Laws.{unmatched_spans}
use Rattle.spans.specs.Calls.{Read, read_call, no_record}
use Rattle.spans.specs.Calls.Contracts.{read_as}
use Rattle.rows.specs.Rows.{Row}
use Rattle.rows.specs.Calls.{mode_and_width, numbers_of, Wrapped}
use Rattle.rows.specs.Calls.Contracts.{line_room, row_count, numbers_kept, RowsCounted, wrapped_as, answered}
use Rattle.rows.specs.Calls.Contracts.Laws.{rows_found, count, pairs, answered_refused, answered_five, answered_six, answered_accepted}
use Rattle.rows.specs.Calls.Reading as reading
use Rattle.rows.specs.Wrap.{RowList, row_list, with_rows, beginning, SpansRoom, MadeWrap}
use Rattle.rows.specs.Wrap.Laws.{rows_written, written_count, written_numbers, numbers_of_length}
use Rattle.rows.specs.declared.Request.{Request}
use Rattle.rows.specs.declared.wrap.RowCounts.{RowCounts}

pub number_next : (e : Refusal) → (r : ℕ) × (number_of e ≡ suc r)
number_next e = (number_of e - 1, omega (arith, number_some e))

-- ---- a call that `read` refuses

module _ (q : Request) (size places numbers : ℕ) (line : List ℕ) (e : Refusal) (cs : List ℕ) (rs : List Record) where
  -- what is left of a refused call
  abbrev cleared_all : (l : List ℕ) → Wrapped
  cleared_all l = wrapped_as (answer_of (Err e)) (replicate (length cs) 0) (replicate (length rs) no_record) (replicate (length l) 0)

  abbrev refused_read : List ℕ → List Record → Type 0
  refused_read cs' rs' = read_as (answer_of (Err e)) cs' rs' ≡ read_call profile01 size places [] line

  pub line_refused : (cs' : List ℕ) (rs' : List Record) → refused_read cs' rs' → length cs ≡ size → length rs ≡ places → (l : List ℕ) → length l ≡ numbers → cleared_all l ≡ answered q size places numbers line
  line_refused cs' rs' read c d l k =
      let r = number_next e in
      rw (c, d, k, r.1) (sym (answered_refused q size places numbers line r.0 (sym (ap (λ (x : Read). x.number) read) ∙ r.1)))

-- ---- a call that `read` accepts

module _ (size places : ℕ) (line : List ℕ) (n : ℕ) (cs : List ℕ) (rs : List Record) (read : read_as (answer_of (Ok n)) cs rs ≡ read_call profile01 size places [] line) where
  abbrev s : List ℕ
  s = convert profile01 line

  abbrev ss : List Span
  ss = spans profile01 s

  abbrev call : Read
  call = read_call profile01 size places [] line

  number_is : call.number ≡ 0
  number_is = reading.number_is size places [] line (answer_of (Ok n)) cs rs read

  abbrev after : List ℕ
  after = reading.after size places [] line (answer_of (Ok n)) cs rs read refl

  pub spans_there : n ≤ length rs
  spans_there = (reading.count_in size places [] line (answer_of (Ok n)) cs rs read 0 refl).0

  -- the line and the spans that are wrapped
  abbrev pub the_line : List ℕ
  the_line = take (line_room (length cs)) cs

  pub spans_room : SpansRoom (take n rs) the_line (beginning 0 0)
  spans_room =
      let c = reading.count_in size places [] line (answer_of (Ok n)) cs rs read 0 refl in
      record { few = rw length-take (omega (arith, c.1)); short = rw length-take (omega arith); low = omega arith; near = omega arith; more = omega arith }

  module _ (cs_length : length cs ≡ size) where
    pub line_is : the_line ≡ s ++ after
    line_is = rw cs_length (reading.line_part size places [] line (answer_of (Ok n)) cs rs read refl)

    pub spans_are : take n rs ≡ records ss
    spans_are = rw (unmatched_spans profile01 s) at (reading.spans_part size places [] line (answer_of (Ok n)) cs rs read refl)

    module _ (q : Request) (numbers : ℕ) where
      -- question 5
      pub five : mode_and_width q.mode q.width ≡ false → (l : List ℕ) → length rs ≡ places → length l ≡ numbers → cleared_all q size places numbers line Refusal.OutOfRange cs rs l ≡ answered q size places numbers line
      five e l d k = rw (cs_length, d, k) (sym (answered_five q size places numbers line number_is e))

      module _ (asked : mode_and_width q.mode q.width ≡ true) (l l' : List ℕ) (l_length : length l ≡ numbers) (l'_length : length l' ≡ numbers) where
        abbrev wrapped : List Row
        wrapped = rows_found q size places numbers line

        abbrev none_yet : RowList
        none_yet = row_list l (beginning 0 0).tally

        mode_low : q.mode ≤ 4
        mode_low = leb-true q.mode 4 (is_true (leb q.mode 4) (and_T (leb q.mode 4) (leb q.width 65535) (true_T asked)).0)

        -- what was counted, and what is kept of the row list
        record Listed (k : ℕ) : Type 0 where
          count_is : k ≡ count q size places numbers line
          kept : cleared 0 (numbers_kept q k numbers) l' ≡ pairs q size places numbers line ++ replicate (numbers - length (pairs q size places numbers line)) 0

        nothing_kept : cleared 0 0 l' ≡ replicate (numbers - 0) 0
        nothing_kept = let z : numbers - 0 ≡ numbers = omega arith in rw z (cleared_none 0 l' numbers l'_length)

        module _ (new : q.known ≡ None) (t : RowCounts) (made : MadeWrap profile01 q.width q.mode the_line (take n rs) l (beginning 0 0) l' t) where
          rows_are : row_list l' t ≡ with_rows none_yet (reverse wrapped)
          rows_are =
              let m = rw (line_is, spans_are) at made in
              m.same ∙ rows_written profile01 q.width (s ++ after) l 0 0 ss q.mode mode_low (rw (unmatched_spans profile01 s) at (reading.held_in size places [] line (answer_of (Ok n)) cs rs read refl))

          few_rows : (with_rows none_yet (reverse wrapped)).tally.count < 0xFFFF_FFFF_FFFF_FFFF
          few_rows = rw (ap (λ (k : RowList). k.tally.count) rows_are) at made.more

          rows_count : t.count ≡ length wrapped
          rows_count = ap (λ (k : RowList). k.tally.count) rows_are ∙ written_count none_yet refl (reverse wrapped) few_rows ∙ length-reverse wrapped

          rows_numbers : 2 * length wrapped ≤ numbers → l' ≡ numbers_of wrapped ++ drop (2 * length (reverse wrapped)) l
          rows_numbers h =
              ap (λ (k : RowList). k.numbers) rows_are ∙ written_numbers l (beginning 0 0).tally refl (reverse wrapped) (rw (length-reverse wrapped, l_length) h) few_rows
              ∙ ap (λ (x : List Row). numbers_of x ++ drop (2 * length (reverse wrapped)) l) (reverse-reverse wrapped)

          listed_new : Listed t.count
          unfolding row_count
          listed_new =
              record {
                count_is = rw new rows_count;
                kept =
                    cases (leb (2 * length wrapped) numbers)
                    (λ f. rw (new, f, rows_count, le-leb (length wrapped) (numbers / 2) (omega (arith, leb-true (2 * length wrapped) numbers f)))
                    (cleared_behind 0 l' (numbers_of wrapped) (drop (2 * length (reverse wrapped)) l) numbers (2 * length wrapped) (rows_numbers (leb-true (2 * length wrapped) numbers f)) (numbers_of_length wrapped) l'_length))
                    (λ f. rw (new, f, rows_count, lt-leb (length wrapped) (numbers / 2) (omega (arith, leb-false (2 * length wrapped) numbers f))) nothing_kept);
              }

        listed_at : (o : Option ℕ) → q.known ≡ o → (k : ℕ) → RowsCounted profile01 q.width q.mode the_line (take n rs) o l l' k → Listed k
        unfolding row_count
        listed_at None e k c = subst Listed c.2 (listed_new e c.0 c.1)
        listed_at (Some m) e k c = record { count_is = rw e c; kept = rw e nothing_kept }

        -- question 6
        half : (b : Bool) (k m : ℕ) → k ≡ m → (not b || leb (2 * m) numbers) ≡ not (b && ltb (length l' / 2) k)
        half false k m e = refl
        half true k m e =
            rw (e, l'_length)
            (cases (leb (2 * m) numbers)
            (λ f. let h : ltb (numbers / 2) m ≡ false = le-ltb _ _ (omega (arith, leb-true (2 * m) numbers f)) in rw (f, h) refl)
            (λ f. let h : ltb (numbers / 2) m ≡ true = lt-ltb _ _ (omega (arith, leb-false (2 * m) numbers f)) in rw (f, h) refl))

        module _ (k : ℕ) (c : RowsCounted profile01 q.width q.mode the_line (take n rs) q.known l l' k) where
          counted : Listed k
          counted = listed_at q.known refl k c

          pub six : (q.listed && ltb (length l' / 2) k) ≡ true → length rs ≡ places → cleared_all q size places numbers line Refusal.RowsTooFew cs rs l' ≡ answered q size places numbers line
          six e d = rw (cs_length, d, l'_length) (sym (answered_six q size places numbers line number_is asked (half q.listed k _ counted.count_is ∙ ap not e)))

          pub accepted : (q.listed && ltb (length l' / 2) k) ≡ false → wrapped_as (answer_of (Ok k)) cs rs (cleared 0 (numbers_kept q k (length l')) l') ≡ answered q size places numbers line
          accepted e =
              let c = ap (λ (x : Read). x.conv) read in
              let d = ap (λ (x : Read). x.spans) read in
              let f = ap (λ (m : ℕ). cleared 0 (numbers_kept q k m) l') l'_length ∙ counted.kept in
              rw (f, c, d) (ap (λ (m : ℕ). wrapped_as (answer_of (Ok m)) call.conv call.spans (pairs q size places numbers line ++ replicate (numbers - length (pairs q size places numbers line)) 0)) counted.count_is)
              ∙ sym (answered_accepted q size places numbers line number_is asked (half q.listed k _ counted.count_is ∙ ap not e))
