-- The calls `draw_window` and `draw_row`: what `read` leaves is drawn, and what the call answers and leaves is that of the definition.
use Rattle.std.proofs.Common.{◌≡◌, refl, sym, ap, ◌∙◌, ℕ, suc, ◌+◌, ◌-◌, ◌≤◌, ◌<◌, Bool, true, false, cond, List, ◌++◌, length, take, drop, replicate, eqb, leb, ltb, Ok, Err, arith}
use Rattle.std.proofs.Math.Option.{Option}
use mathlib.Core.Bool.{not, ◌&&◌, ◌||◌, and-false, or-true}
use mathlib.Core.Logic.{◌≢◌, ◌⊎◌, inl, inr}
use lib.ListN.{length-take}
use borrow.Author.Tests.{le-leb, lt-leb, leb-true, leb-false, lt-ltb, ltb-true, ltb-false, ne_eqb, eqb-true, eqb-false}
use Rattle.buffer.specs.Sink.{cleared}
use Rattle.buffer.specs.Sink.Laws.{fitted, overfull, cleared_behind}
use Rattle.text.specs.Tests.{cases, and_T, true_T, is_true, or_false}
use Rattle.text.specs.Calls.{Question, decide}
use Rattle.text.specs.Calls.Code.{number_of, answer_of}
use Rattle.text.specs.Width.{profile01}
use Rattle.text.specs.Calls.Code.Laws.{number_some}
use Rattle.text.specs.declared.refusal.Refusal.{Refusal}
use Rattle.spans.specs.Spans.{Span, Record, records}
use Rattle.spans.specs.Spans.RecordSpans.{HasContents, spans_in, spans_in_records}
use Rattle.spans.specs.Calls.{Read, no_record, read_call}
use Rattle.spans.specs.Calls.Contracts.{read_as}
use Rattle.rows.specs.Calls.{mode_and_width}
use Rattle.rows.specs.Calls.Contracts.{line_room}
use Rattle.rows.specs.Calls.Reading as reading
use Rattle.rows.specs.Modes.{number_of_mode}
use Rattle.rows.specs.declared.modes.Mode.{Mode}
use Rattle.drawing.specs.Change.{Change, encode}
use Rattle.drawing.specs.Change as change
use Rattle.drawing.specs.Calls as calls
use Rattle.drawing.specs.Calls.{drawing, window_questions, row_questions}
use Rattle.drawing.specs.Calls.Laws.{further, drawing_unknown, drawing_unread, drawing_refused, drawing_accepted, none_torn, window_torn, row_torn}
use Rattle.drawing.specs.Requests.{asked_of, InWindow, InRows, DrawRoom, changes_of, Drew, part_call, drawn_as}
use Rattle.drawing.specs.Rendering.{reader_number}
use Rattle.drawing.specs.declared.reader.Reader.{Reader}
use Rattle.drawing.specs.declared.reader.Reader.TheVariants.{Bench, Crew}
use Rattle.drawing.specs.declared.Part.{Part}
use Rattle.drawing.specs.declared.Part.TheVariants.{Window, Rows}
use Rattle.drawing.specs.declared.state.Drawn.{Drawn}

number_next : (e : Refusal) → (r : ℕ) × (number_of e ≡ suc r)
number_next e = (number_of e - 1, omega (arith, number_some e))

-- ---- questions 5 and 7

either : (a b : Bool) → (a || b) ≡ true → (a ≡ true) ⊎ (b ≡ true)
either true b h = inl refl
either false b h = inr h

neither : (a b : Bool) → (a || b) ≡ false → (a ≡ false) × (b ≡ false)
neither a b h = or_false a b h

module _ (start end : ℕ) where
  near : (ltb 1048576 start || ltb 1048576 end) ≡ false → (start ≤ 1048576) × (end ≤ 1048576)
  near h = let x = neither (ltb 1048576 start) (ltb 1048576 end) h in (ltb-false 1048576 start x.0, ltb-false 1048576 end x.1)

  in_range : (ltb 1048576 start || ltb 1048576 end) ≡ false → (leb start 1048576 && leb end 1048576) ≡ true
  in_range h = let x = near h in rw (le-leb start 1048576 x.0, le-leb end 1048576 x.1) refl

  pub window_far : (ltb 1048576 start || ltb 1048576 end) ≡ true → number_of Refusal.OutOfRange ≡ asked_of (Window start end)
  unfolding asked_of
  window_far h = far (either (ltb 1048576 start) (ltb 1048576 end) h)
    where
      far : (ltb 1048576 start ≡ true) ⊎ (ltb 1048576 end ≡ true) → ◌≡◌ {A = ℕ} 5 (cond (leb start 1048576 && leb end 1048576) (cond (eqb start 0 || leb (start + 1) end) 0 7) 5)
      far (inl e) = rw (lt-leb start 1048576 (ltb-true 1048576 start e)) refl
      far (inr e) = rw (lt-leb end 1048576 (ltb-true 1048576 end e), and-false) refl

  pub window_none : (ltb 1048576 start || ltb 1048576 end) ≡ false → (ltb 0 start && leb end start) ≡ true → number_of Refusal.WindowEmpty ≡ asked_of (Window start end)
  unfolding asked_of
  window_none h k =
      let x = and_T (ltb 0 start) (leb end start) (true_T k) in
      let low : 0 < start = ltb-true 0 start (is_true (ltb 0 start) x.0) in
      let less : end ≤ start = leb-true end start (is_true (leb end start) x.1) in
      rw (in_range h, ne_eqb start 0 (λ e. absurd (omega (arith, e, low))), lt-leb (start + 1) end (omega (arith, less))) refl

  pub window_fine : (ltb 1048576 start || ltb 1048576 end) ≡ false → (ltb 0 start && leb end start) ≡ false → InWindow start end
  unfolding asked_of
  window_fine h k =
      record {
        asked = rw (in_range h)
            (cases (eqb start 0) (λ e. rw e refl)
            (λ e.
            let low : 0 < start = let n : start ≢ 0 = eqb-false start 0 e in omega (arith, n) in
            let f : leb end start ≡ false = rw (lt-ltb 0 start low) at k in
            rw (le-leb (start + 1) end (omega (arith, leb-false end start f)), or-true) refl));
        near = (near h).0;
      }

module _ (first count width mode : ℕ) where
  pub rows_mode : (e : Refusal) → e ≡ Refusal.OutOfRange → mode_and_width mode width ≡ false → number_of e ≡ asked_of (Rows first count width mode)
  unfolding asked_of
  rows_mode e f h = rw (f, h) refl

  pub rows_far : mode_and_width mode width ≡ true → ((ltb 65535 first || ltb 65535 count) || eqb count 0) ≡ true → number_of Refusal.OutOfRange ≡ asked_of (Rows first count width mode)
  unfolding asked_of
  rows_far e h = far (either (ltb 65535 first || ltb 65535 count) (eqb count 0) h)
    where
      far_two : (ltb 65535 first ≡ true) ⊎ (ltb 65535 count ≡ true) → (leb first 65535 && (leb count 65535 && leb 1 count)) ≡ false
      far_two (inl f) = rw (lt-leb first 65535 (ltb-true 65535 first f)) refl
      far_two (inr f) = rw (lt-leb count 65535 (ltb-true 65535 count f), and-false) refl

      far : ((ltb 65535 first || ltb 65535 count) ≡ true) ⊎ (eqb count 0 ≡ true) → ◌≡◌ {A = ℕ} 5 (cond (mode_and_width mode width && (leb first 65535 && (leb count 65535 && leb 1 count))) 0 5)
      far (inl f) = rw (e, far_two (either (ltb 65535 first) (ltb 65535 count) f)) refl
      far (inr f) = let z : count ≡ 0 = eqb-true count 0 f in rw (e, z, and-false (leb first 65535)) refl

  pub rows_fine : (m : Mode) → number_of_mode m ≡ mode → mode_and_width mode width ≡ true → ((ltb 65535 first || ltb 65535 count) || eqb count 0) ≡ false → InRows first count width mode m
  unfolding asked_of
  rows_fine m q e h =
      let x = neither (ltb 65535 first || ltb 65535 count) (eqb count 0) h in
      let y = neither (ltb 65535 first) (ltb 65535 count) x.0 in
      let a : first ≤ 65535 = ltb-false 65535 first y.0 in
      let b : count ≤ 65535 = ltb-false 65535 count y.1 in
      let n : count ≢ 0 = eqb-false count 0 x.1 in
      let k : 1 ≤ count = omega (arith, n) in
      let z = and_T (leb mode 4) (leb width 65535) (true_T e) in
      record {
        asked = rw (e, le-leb first 65535 a, le-leb count 65535 b, le-leb 1 count k) refl;
        limits = record { first = a; count = b; some = k; width = leb-true width 65535 (is_true (leb width 65535) z.1); mode = leb-true mode 4 (is_true (leb mode 4) z.0) };
        mode = q;
      }

-- questions 5 and 7 of either call
abbrev questions_of : Part → List Question
questions_of (Window start end) = window_questions start end
questions_of (Rows first count width mode) = row_questions first count width mode

-- the first of them that says no, or else what the others decide
asked_first : (part : Part) (others : List Question) → decide (questions_of part ++ others) ≡ cond (ltb 0 (asked_of part)) (asked_of part) (decide others)
unfolding decide asked_of
asked_first (Window start end) others = cases (leb start 1048576 && leb end 1048576) (λ e. cases (eqb start 0 || leb (start + 1) end) (λ f. rw (e, f)) (λ f. rw (e, f))) (λ e. rw e)
asked_first (Rows first count width mode) others = cases (mode_and_width mode width && (leb first 65535 && (leb count 65535 && leb 1 count))) (λ e. rw e) (λ e. rw e)

module _ (reader size places room : ℕ) (current : Option ℕ) (part : Part) (matches line : List ℕ) where
  abbrev changes : List Span → List Change
  changes = changes_of reader current part

  abbrev call : calls.Drawn
  call = part_call part reader size places room current matches line

  abbrev asking : calls.Drawn
  asking = drawing profile01 reader size places room matches (questions_of part) (none_torn changes) changes line

call_is : (reader size places room : ℕ) (current : Option ℕ) (part : Part) (matches line : List ℕ) → call reader size places room current part matches line ≡ asking reader size places room current part matches line
unfolding changes_of
call_is reader size places room current (Window start end) matches line = window_torn profile01 reader size places room start end current matches line
call_is reader size places room current (Rows first count width mode) matches line = row_torn profile01 reader size places room first count width mode current matches line

-- ---- a call that is refused before it draws

module _ (reader size places room : ℕ) (current : Option ℕ) (part : Part) (matches line : List ℕ) where
  abbrev the_call : calls.Drawn
  the_call = call reader size places room current part matches line

  -- what is left of a refused call
  abbrev Left : Refusal → List ℕ → List Record → List ℕ → Type 0
  Left e cs rs l = drawn_as (answer_of (Err e)) (replicate (length cs) 0) (replicate (length rs) no_record) (replicate (length l) 0) ≡ the_call

  module _ (cs : List ℕ) (rs : List Record) (l : List ℕ) (c : length cs ≡ size) (d : length rs ≡ places) (k : length l ≡ room) where
    pub unknown : 1 < reader → Left Refusal.NoSuchReader cs rs l
    unknown h =
        rw (c, d, k) (sym (call_is reader size places room current part matches line ∙ drawing_unknown profile01 reader size places room matches (questions_of part) (none_torn (changes_of reader current part)) (changes_of reader current part) line (lt-leb reader 1 h)))

    pub unread : reader ≤ 1 → (e : Refusal) (cs' : List ℕ) (rs' : List Record) → read_as (answer_of (Err e)) cs' rs' ≡ read_call profile01 size places matches line → Left e cs rs l
    unread h e cs' rs' read =
        let r = number_next e in
        rw (c, d, k, r.1) (sym (call_is reader size places room current part matches line ∙ drawing_unread profile01 reader size places room matches (questions_of part) (none_torn (changes_of reader current part)) (changes_of reader current part) line (le-leb reader 1 h) r.0 (sym (ap (λ (x : Read). x.number) read) ∙ r.1)))

-- ---- a call that `read` accepts

module _ (size places : ℕ) (matches line : List ℕ) (n : ℕ) (cs : List ℕ) (rs : List Record) (read : read_as (answer_of (Ok n)) cs rs ≡ read_call profile01 size places matches line) where
  abbrev ss : List Span
  ss = reading.ss size places matches line (answer_of (Ok n)) cs rs read

  -- the line and the records that are drawn
  abbrev the_line : List ℕ
  the_line = take (line_room (length cs)) cs

  pub spans_there : n ≤ length rs
  spans_there = (reading.count_in size places matches line (answer_of (Ok n)) cs rs read 0 refl).0

  module _ (c : length cs ≡ size) where
    held : HasContents the_line ss
    held = rw (ap (λ (n : ℕ). take (line_room n) cs) c ∙ reading.line_part size places matches line (answer_of (Ok n)) cs rs read refl) (reading.held_in size places matches line (answer_of (Ok n)) cs rs read refl)

    spans_part : take n rs ≡ records ss
    spans_part = reading.spans_part size places matches line (answer_of (Ok n)) cs rs read refl

    spans_are : spans_in the_line (take n rs) ≡ ss
    spans_are = rw spans_part (spans_in_records the_line held)

    pub draw_room : DrawRoom (take n rs) the_line
    draw_room =
        let k = reading.count_in size places matches line (answer_of (Ok n)) cs rs read 0 refl in
        record { few = rw length-take (omega (arith, k.1)); short = rw length-take (omega arith); held = ap records spans_are ∙ sym spans_part }

    module _ (reader room : ℕ) (current : Option ℕ) (part : Part) (h : reader ≤ 1) (d : length rs ≡ places) where
      abbrev sent : List Change
      sent = changes_of reader current part ss

      abbrev bytes : List ℕ
      bytes = encode sent

      abbrev later : ℕ
      later = further profile01 reader size places room matches (questions_of part) (none_torn (changes_of reader current part)) (changes_of reader current part) line

      fine : (read_call profile01 size places matches line).number ≡ 0
      fine = reading.number_is size places matches line (answer_of (Ok n)) cs rs read

      later_is : later ≡ cond (ltb 0 (asked_of part)) (asked_of part) (cond (change.whole sent) (cond (leb (length bytes) room) 0 9) 8)
      unfolding decide
      later_is = asked_first part _

      refused : (e : Refusal) → later ≡ number_of e → (l : List ℕ) → length l ≡ room → Left reader size places room current part matches line e cs rs l
      refused e f l k =
          let r = number_next e in
          rw (c, d, k, r.1) (sym (call_is reader size places room current part matches line ∙ drawing_refused profile01 reader size places room matches (questions_of part) (none_torn (changes_of reader current part)) (changes_of reader current part) line (le-leb reader 1 h) fine r.0 (f ∙ r.1)))

      pub not_asked : (e : Refusal) → number_of e ≡ asked_of part → (l : List ℕ) → length l ≡ room → Left reader size places room current part matches line e cs rs l
      not_asked e f l k = let r = number_next e in refused e (later_is ∙ rw (← f, r.1, lt-ltb 0 (suc r.0) (omega arith)) refl) l k

      -- questions 8 and 9 of a part that passes 5 and 7
      module _ (asked : asked_of part ≡ 0) (l l' : List ℕ) (made : Drawn) (drew : Drew (changes_of reader current part (spans_in the_line (take n rs))) l l' made) (k : length l ≡ room) (k' : length l' ≡ length l) where
        drawn : Drew sent l l' made
        drawn = rw spans_are at drew

        torn_is : (b : Bool) → made.torn ≡ b → change.whole sent ≡ not b
        torn_is b e = cases (change.whole sent) (λ f. let g : made.torn ≡ false = drawn.torn ∙ ap not f in f ∙ ap not (sym g ∙ e)) (λ f. let g : made.torn ≡ true = drawn.torn ∙ ap not f in f ∙ ap not (sym g ∙ e))

        pub eight : made.torn ≡ true → Left reader size places room current part matches line Refusal.ClusterWiderThanWindow cs rs l'
        eight e = refused Refusal.ClusterWiderThanWindow (later_is ∙ rw (asked, torn_is true e) refl) l' (k' ∙ k)

        pub nine : made.torn ≡ false → length l' < made.at → Left reader size places room current part matches line Refusal.OutputTooShort cs rs l'
        nine e f =
            refused Refusal.OutputTooShort
            (later_is ∙ rw (asked, torn_is false e)
            (cases (leb (length bytes) room)
            (λ g. absurd (omega (arith, (fitted l bytes l' made.at drawn.bytes (omega (arith, leb-true (length bytes) room g, k))).0, leb-true (length bytes) room g, f, k, k')))
            (λ g. rw g refl)))
            l' (k' ∙ k)

        pub accepted : made.torn ≡ false → made.at ≤ length l' → (l'' : List ℕ) → l'' ≡ cleared 0 made.at l' → drawn_as (answer_of (Ok made.at)) cs rs l'' ≡ call reader size places room current part matches line
        accepted e f l'' g =
            cases (leb (length bytes) room)
            (λ h'.
            let few : length bytes ≤ length l = omega (arith, leb-true (length bytes) room h', k) in
            let x = fitted l bytes l' made.at drawn.bytes few in
            let o : later ≡ 0 = later_is ∙ rw (asked, torn_is false e, h') refl in
            let y = sym (call_is reader size places room current part matches line ∙ drawing_accepted profile01 reader size places room matches (questions_of part) (none_torn (changes_of reader current part)) (changes_of reader current part) line (le-leb reader 1 h) fine o) in
            let z : cleared 0 (length bytes) l' ≡ bytes ++ replicate (length l - length bytes) 0 = cleared_behind 0 l' bytes (drop (length bytes) l) (length l) (length bytes) x.1 refl k' in
            rw (g, x.0, z, k, ap (λ (r : Read). r.conv) read, ap (λ (r : Read). r.spans) read) y)
            (λ h'. absurd (omega (arith, overfull l bytes l' made.at drawn.bytes (omega (arith, leb-false (length bytes) room h', k)), f, k')))

pub reader_low : (x : Reader) (n : ℕ) → reader_number x ≡ n → n ≤ 1
reader_low Bench n e = omega (arith, e)
reader_low Crew n e = omega (arith, e)
