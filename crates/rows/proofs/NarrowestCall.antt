-- The call `narrowest`: the width found for what `read` leaves, and what is answered, are those of the definition.
use Rattle.std.proofs.Common.{◌≡◌, refl, sym, ap, ◌∙◌, ℕ, zero, suc, ◌≤◌, true, false, List, [], length, take, replicate, leb, Option, Ok, Err, arith, ◌+◌, ap₂}
use Rattle.std.specs.Option.{unwrap_or}
use Rattle.std.proofs.lemmas.List.{length-reverse}
use Rattle.text.specs.Calls.Code.{number_of, answer_of}
use Rattle.text.specs.Width.{profile01}
use Rattle.text.specs.Overstrike.{convert}
use Rattle.text.specs.declared.refusal.Refusal.{Refusal}
use Rattle.spans.specs.Spans.{Span, spans, Record}
use Rattle.spans.specs.Spans.Laws.{unmatched_spans}
use Rattle.spans.specs.Calls.{Read, read_call, no_record}
use Rattle.spans.specs.Calls.Contracts.{read_as}
use Rattle.rows.specs.Rows.{Row, rows}
use Rattle.rows.specs.Calls.{mode_of}
use Rattle.rows.specs.Calls.Reading as reading
use Rattle.rows.specs.Wrap.Laws.{rows_of_spans}
use Rattle.rows.specs.Narrowest.{tried_of, mode_rows_and_width, Narrowed, takes_at_most, narrowest, narrowest_call}
use Rattle.rows.specs.Narrowest.Laws.{narrowest_refused, narrowest_five, narrowest_accepted, asked_ranges, first_alike}
use Rattle.rows.specs.Widths.{Widths, widths_to, tried_from, fits_at, narrowed}
use Rattle.rows.specs.Widths.Laws.{found_at, answer, tried_first}
use Rattle.rows.proofs.RowsCall.{number_next, the_line, line_is, spans_are}

found_is : (w : ℕ) → unwrap_or (found_at w) 0 ≡ w
found_is zero = refl
found_is (suc w) = refl

module _ (size places mode wanted greatest : ℕ) (line : List ℕ) where
  abbrev call : Narrowed
  call = narrowest_call profile01 size places mode wanted greatest line

  -- what is left of a refused call
  abbrev cleared : Refusal → Narrowed
  cleared e = narrowed (number_of e) 0 0 (replicate size 0) (replicate places no_record)

  pub widths_refused : (e : Refusal) (cs : List ℕ) (rs : List Record) → read_as (answer_of (Err e)) cs rs ≡ read_call profile01 size places [] line → cleared e ≡ call
  widths_refused e cs rs read =
      let r = number_next e in
      rw r.1 (sym (narrowest_refused profile01 size places mode wanted greatest line r.0 (sym (ap (λ (x : Read). x.number) read) ∙ r.1)))

  module _ (n : ℕ) (cs : List ℕ) (rs : List Record) (read : read_as (answer_of (Ok n)) cs rs ≡ read_call profile01 size places [] line) where
    abbrev s : List ℕ
    s = convert profile01 line

    abbrev ss : List Span
    ss = spans profile01 s

    number_is : (read_call profile01 size places [] line).number ≡ 0
    number_is = reading.number_is size places [] line (answer_of (Ok n)) cs rs read

    pub widths_five : mode_rows_and_width mode wanted greatest ≡ false → cleared Refusal.OutOfRange ≡ call
    widths_five e = sym (narrowest_five profile01 size places mode wanted greatest line number_is e)

    module _ (e : mode_rows_and_width mode wanted greatest ≡ true) (cs_length : length cs ≡ size) where
      -- the records left take the rows of the line
      same_test : (w : ℕ) → fits_at mode wanted (the_line size places line n cs rs read) (take n rs) w ≡ takes_at_most profile01 wanted (mode_of mode) ss w
      same_test w =
          let held = rw (unmatched_spans profile01 s) at (reading.held_in size places [] line (answer_of (Ok n)) cs rs read refl) in
          let k : mode ≤ 4 = omega (arith, (asked_ranges mode wanted greatest e).0.1) in
          ap (λ (n : ℕ). leb n wanted)
          (rw (line_is size places line n cs rs read cs_length, spans_are size places line n cs rs read cs_length)
          (ap (λ (x : List Row). length x) (rows_of_spans profile01 w _ ss held mode k) ∙ length-reverse (rows profile01 w (mode_of mode) ss)))

      pub widths_found : (o : Option ℕ) → widths_to greatest o ≡ tried_from (fits_at mode wanted (the_line size places line n cs rs read) (take n rs)) greatest 0
          → narrowed 0 (unwrap_or o 0) (unwrap_or o greatest) cs rs ≡ call
      unfolding narrowest
      widths_found o f =
          let w : ℕ = narrowest profile01 (mode_of mode) wanted greatest ss in
          let z : 0 + greatest ≡ greatest = omega arith in
          let a : widths_to greatest o ≡ answer greatest w = f ∙ tried_first _ greatest 0 ∙ ap₂ answer z (first_alike _ _ same_test greatest 1) in
          let t : unwrap_or o greatest ≡ tried_of greatest w = ap (λ (x : Widths). x.tried) a in
          let b : unwrap_or o 0 ≡ w = ap (λ (x : Widths). unwrap_or x.found 0) a ∙ found_is w in
          rw (t, b, ap (λ (x : Read). x.conv) read, ap (λ (x : Read). x.spans) read) (sym (narrowest_accepted profile01 size places mode wanted greatest line number_is e))
