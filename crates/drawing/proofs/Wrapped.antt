-- render_wrapped: the bounds of the wanted rows, and what is drawn within them.
use mathlib.Core.Path.{◌≡◌, refl, sym, ap, ap₂, ◌∙◌}
use Prim.Native.Nat.{ℕ, zero, suc, ◌+◌, ◌-◌, ◌*◌, ◌≤◌, ◌<◌, ◌^◌}
use native.Mathlib.Omega.{arith}
use mathlib.Core.Bool.{Bool, true, false, cond, not, and-true}
use mathlib.Core.List.{List, [], ◌++◌, map}
use lib.Dec.{eqb, ltb}
use borrow.Author.Tests.{lt-ltb}
use Rattle.buffer.specs.Sink.{sink, emit}
use Rattle.text.specs.Width.{profile01}
use Rattle.text.specs.Class.Code.{profile_of}
use Rattle.text.specs.Class.Profile01.{profile_is}
use Rattle.text.specs.declared.Column.{Column}
use Rattle.spans.specs.Spans.{Span, Record, records}
use Rattle.spans.specs.Spans.RecordSpans.{HasContents, spans_in, spans_in_contents}
use Rattle.rows.specs.Rows.{Row, rows}
use Rattle.rows.specs.Calls.{mode_of}
use Rattle.rows.specs.Wrap.{RowList, row_list, SpansRoom, MadeWrap, beginning}
use Rattle.rows.specs.Calls.Contracts.{wrapping_at}
use Rattle.rows.specs.Wrap.Laws.{rows_written, with_all_rows, written_all, last_stays, first_stays, end_written, start_written}
use Rattle.rows.specs.declared.wrap.RowCounts.{RowCounts}
use Rattle.rows.specs.declared.wrap.WrapState.{WrapState}
use Rattle.rows.specs.declared.wrap.Wrapping.{Wrapping}
use Rattle.drawing.specs.Change.{Change, encode}
use Rattle.drawing.specs.Change as change
use Rattle.drawing.specs.Draw.{State, Sent, render_spans, initial, left_arrow, close_window, render, end_of, start_of, render_wrapped}
use Rattle.drawing.specs.Straddled.Laws.{arrow_whole, window_whole, rows_whole}
use Rattle.drawing.specs.Reader.HiddenUris.{hidden, seen_append, arrow_seen, window_seen, rows_seen}
use Rattle.drawing.specs.State.{state_of, new_state}
use Rattle.drawing.specs.Attributes.Code.{style_of}
use Rattle.drawing.specs.Rendering.{reader_number, is_crew, current_in, opening, closing, Rendered, render_records}
use Rattle.drawing.specs.Requests.{bounds_end, bounds_of, InLimits, DrawRoom, changes_of, Drew}
use Rattle.drawing.specs.declared.Part.{Part}
use Rattle.drawing.specs.declared.Part.TheVariants.{Window, Rows}
use Rattle.drawing.specs.declared.reader.Reader.{Reader}
use Rattle.drawing.specs.declared.reader.Reader.TheVariants.{Bench, Crew}
use Rattle.drawing.specs.declared.render.Edges.{Edges}
use Rattle.drawing.specs.declared.render.Edges.TheVariants as edges
use Rattle.drawing.specs.declared.write.Window as write
use Rattle.std.specs.Prelude as code
use native.Mathlib.Nat.{mul-le-mul_right}
use Rattle.drawing.specs.declared.state.Drawn.{Drawn}
use Rattle.drawing.specs.declared.render.Rendering.{Rendering}
use Rattle.drawing.proofs.Contents.{records_drawn}
use Rattle.drawing.specs.Change.Laws.{whole_append}

column_cond : (b : Bool) (x y : Column) → (cond b x y).0 ≡ cond b x.0 y.0
column_cond true x y = refl
column_cond false x y = refl

-- ---- what is drawn before and after the spans is whole

opening_whole : (e : Edges) → change.whole (opening e) ≡ true
unfolding change.whole
opening_whole (edges.Window true) = arrow_whole
opening_whole (edges.Window false) = refl
opening_whole (edges.Rows room) = refl

closing_whole : (e : Edges) (end : ℕ) (t : State) → change.whole (closing e end t) ≡ true
closing_whole (edges.Window arrow) end t = window_whole end t
closing_whole (edges.Rows room) end t = rows_whole room t

new_is : state_of new_state ≡ initial
unfolding state_of style_of initial
new_is = refl

-- ---- the changes of a part

crew_is : (reader : Reader) → eqb (reader_number reader) 1 ≡ is_crew reader
crew_is Bench = refl
crew_is Crew = refl

-- a part's changes are what stands before the spans, and the spans with what stands after them
abbrev Changes : Part → Rendering → List Span → Type 0
Changes part d ss = changes_of (reader_number d.view.reader) (current_in d.view.current) part ss ≡ opening d.edges ++ render_spans (profile_of d.window.profile) d.window.start.0 d.window.end.0 (current_in d.view.current) (closing d.edges d.window.end.0) initial (map (hidden (is_crew d.view.reader)) ss)

abbrev in_window : Reader → code.Option ℕ → (start end : ℕ) → (arrow : Bool) → Rendering
in_window reader current start end arrow = record { window = record { profile = record { version = 0 }; start = record { 0 = start }; end = record { 0 = end } }; edges = edges.Window arrow; view = record { reader = reader; current = current } }

window_changes_law : (reader : Reader) (current : code.Option ℕ) (start end : ℕ) (ss : List Span) → Changes (Window start end) (in_window reader current (cond (ltb 0 start) (start + 1) 0) end (ltb 0 start)) ss
unfolding changes_of render
window_changes_law reader current zero end ss = rw (← crew_is reader, profile_is) (window_seen (reader_number reader) profile01 0 end (current_in current) ss end)
window_changes_law reader current (suc n) end ss =
    let z : suc n + 1 ≡ suc (suc n) = omega arith in
    rw (lt-ltb 0 (suc n) (omega arith), z, ← crew_is reader, profile_is)
    (seen_append (reader_number reader) left_arrow (render_spans profile01 (suc (suc n)) end (current_in current) (close_window end) initial ss)
    ∙ ap₂ (λ (x y : List Change). x ++ y) (arrow_seen (reader_number reader)) (window_seen (reader_number reader) profile01 (suc (suc n)) end (current_in current) ss end))

abbrev in_rows : Reader → code.Option ℕ → write.Window → (room : Bool) → Rendering
in_rows reader current window room = record { window = window; edges = edges.Rows room; view = record { reader = reader; current = current } }

rows_changes : (reader : Reader) (current : code.Option ℕ) (first count width mode : ℕ) (y : RowCounts) (ss : List Span)
    → (bounds_of y).end.0 ≡ end_of 0 (first + count - 1) (rows profile01 width (mode_of mode) ss)
    → (bounds_of y).start.0 ≡ start_of (bounds_of y).end.0 first (rows profile01 width (mode_of mode) ss)
    → Changes (Rows first count width mode) (in_rows reader current (bounds_of y) (ltb ((bounds_of y).end.0 - (bounds_of y).start.0) (width * count))) ss
unfolding changes_of render_wrapped
rows_changes reader current first count width mode y ss f g =
    let rs : List Row = rows profile01 width (mode_of mode) ss in
    let end : ℕ = end_of 0 (first + count - 1) rs in
    let start : ℕ = start_of end first rs in
    rw (g, f, ← crew_is reader, profile_is) (rows_seen (reader_number reader) profile01 start end (current_in current) ss (ltb (end - start) (width * count)))

-- ---- what the walk asks of its calls, and what it leaves

module _ (rs : List Record) (line : List ℕ) (enough : DrawRoom rs line) where
  abbrev ss : List Span
  ss = spans_in line rs

  held : HasContents line ss
  held = spans_in_contents line rs enough.held

  drew : (part : Part) (d : Rendering) → Changes part d ss → (l l' : List ℕ) (r : Drawn) → Rendered d line rs l l' r → Drew (changes_of (reader_number d.view.reader) (current_in d.view.current) part ss) l l' r
  drew part d same l l' r k =
      let x : Sent = render_records d line initial (records ss) in
      let close : State → List Change = closing d.edges d.window.end.0 in
      let cs : List Change = opening d.edges ++ (x.changes ++ close x.after) in
      let m : changes_of (reader_number d.view.reader) (current_in d.view.current) part ss ≡ cs = same ∙ ap (λ (z : List Change). opening d.edges ++ z) (records_drawn d line close held initial) in
      let b : sink l' r.at ≡ emit (sink l 0) (encode cs) = rw (new_is, ← enough.held) at k.bytes in
      let u : r.torn ≡ not (change.whole x.changes) = rw (new_is, ← enough.held) at k.torn in
      rw m record {
        bytes = b;
        torn = u ∙ rw (whole_append (opening d.edges) (x.changes ++ close x.after), opening_whole d.edges, whole_append x.changes (close x.after), closing_whole d.edges d.window.end.0 x.after) (ap not (sym (and-true (change.whole x.changes))));
      }

  pub window_drawn : (reader : Reader) (current : code.Option ℕ) (start end n : ℕ) → n ≡ cond (ltb 0 start) (start + 1) 0 → (l l' : List ℕ) (r : Drawn) → Rendered (in_window reader current n end (ltb 0 start)) line rs l l' r
      → Drew (changes_of (reader_number reader) (current_in current) (Window start end) ss) l l' r
  window_drawn reader current start end n e l l' r k = drew (Window start end) _ (window_changes_law reader current start end ss) l l' r (rw e at k)

  -- ---- wrapped rows

  module _ (first count width mode : ℕ) (limits : InLimits first count width mode) where
    pub wrap_room : (last : ℕ) (t : WrapState) → t ≡ beginning first last → SpansRoom rs line t
    wrap_room last t e = rw e record { few = enough.few; short = enough.short; low = omega arith; near = omega arith; more = omega arith }

    pub area_fits : width * count < 2 ^ 64
    area_fits = let a : width * count ≤ 65535 * count = mul-le-mul_right count limits.width in omega (arith, a, limits.count)

    module _ (last : ℕ) (last_is : last ≡ first + count - 1) (w : Wrapping) (w_is : w ≡ wrapping_at width mode) (t : WrapState) (t_is : t ≡ beginning first last) (y : RowCounts) (none : List ℕ)
        (made : MadeWrap (profile_of w.profile) w.width.0 w.mode line rs [] t none y) where
      abbrev wanted : List Row
      wanted = rows profile01 width (mode_of mode) ss

      abbrev nothing_yet : RowList
      nothing_yet = row_list [] (beginning first last).tally

      abbrev z : RowCounts
      z = (with_all_rows nothing_yet wanted).tally

      made_is : MadeWrap profile01 width mode line (records ss) [] (beginning first last) none y
      made_is = rw (enough.held, ← t_is) (rw (w_is, profile_is) at made)

      y_is : y ≡ z
      y_is = ap (λ (k : RowList). k.tally) (made_is.same ∙ rows_written profile01 width line [] first last ss mode limits.mode held ∙ written_all nothing_yet wanted)

      few_rows : z.count < 0xFFFF_FFFF_FFFF_FFFF
      few_rows = rw y_is at made_is.more

      end_is : (bounds_of y).end.0 ≡ end_of 0 (first + count - 1) wanted
      unfolding end_of
      end_is =
          ap (λ (x : RowCounts). (bounds_of x).end.0) y_is ∙ column_cond (ltb z.last z.count) _ _
          ∙ ap (λ (i : ℕ). cond (ltb i z.count) z.end.0 z.ended.0) (last_stays wanted nothing_yet)
          ∙ end_written end_of (λ e i. refl) nothing_yet wanted few_rows refl (λ e r rs. refl) (λ e i r rs. refl) ∙ ap (λ (i : ℕ). end_of 0 i wanted) last_is

      start_is : (bounds_of y).start.0 ≡ start_of (bounds_of y).end.0 first wanted
      unfolding start_of
      start_is =
          ap (λ (x : RowCounts). (bounds_of x).start.0) y_is ∙ column_cond (ltb z.first z.count) z.start (bounds_end z)
          ∙ ap (λ (i : ℕ). cond (ltb i z.count) z.start.0 (bounds_end z).0) (first_stays wanted nothing_yet)
          ∙ start_written start_of (λ e i. refl) nothing_yet wanted few_rows refl (λ e r rs. refl) (λ e i r rs. refl) (bounds_end z).0 ∙ ap (λ (x : RowCounts). start_of (bounds_end x).0 first wanted) (sym y_is)

      pub rows_drawn : (reader : Reader) (current : code.Option ℕ) (window : write.Window) (columns : Column) → window ≡ bounds_of y → columns.0 ≡ window.end.0 - window.start.0
          → (l l' : List ℕ) (r : Drawn) → Rendered (in_rows reader current window (ltb columns.0 (width * count))) line rs l l' r
          → Drew (changes_of (reader_number reader) (current_in current) (Rows first count width mode) ss) l l' r
      rows_drawn reader current window columns b c l l' r k = drew (Rows first count width mode) _ (rows_changes reader current first count width mode y ss end_is start_is) l l' r (rw (c, b) at k)
