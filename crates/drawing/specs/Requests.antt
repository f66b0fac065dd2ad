-- What the values of lib.rt, the calls, say of the definitions' ones.
use Rattle.std.specs.Prelude.{◌≡◌, ℕ, ◌+◌, ◌≤◌, cond, not, ◌&&◌, ◌||◌, List, length, eqb, leb, ltb, Result, MatchResult}
use Rattle.std.proofs.Math.Option.{Option}
use Rattle.buffer.specs.Sink.{sink, emit}
use Rattle.text.specs.Width.{profile01}
use Rattle.text.specs.Calls.Code.{number_of}
use Rattle.text.specs.declared.Answer.{Answer}
use Rattle.text.specs.declared.Column.{Column}
use Rattle.text.specs.declared.refusal.Refusal.{Refusal}
use Rattle.spans.specs.Spans.{Span, Record, records}
use Rattle.spans.specs.Spans.RecordSpans.{spans_in}
use Rattle.rows.specs.Calls.{mode_of, mode_and_width}
use Rattle.rows.specs.Modes.{number_of_mode}
use Rattle.rows.specs.declared.modes.Mode.{Mode}
use Rattle.rows.specs.declared.wrap.RowCounts.{RowCounts}
use Rattle.drawing.specs.Change.{Change, encode}
use Rattle.drawing.specs.Change as change
use Rattle.drawing.specs.Draw.{render, render_wrapped}
use Rattle.drawing.specs.Reader.{seen_by}
use Rattle.drawing.specs.Calls as calls
use Rattle.drawing.specs.Calls.{window_call, row_call}
use Rattle.drawing.specs.declared.Part.{Part}
use Rattle.drawing.specs.declared.Part.TheVariants.{Window, Rows}
use Rattle.drawing.specs.declared.state.Drawn.{Drawn}
use Rattle.drawing.specs.declared.write.Window as write

abbrev pub part_window : (start end : ℕ) → Part
part_window start end = Window start end

abbrev pub part_rows : (first count width mode : ℕ) → Part
part_rows first count width mode = Rows first count width mode

-- questions 5 and 7, as the definitions of the calls put them
unfoldable pub asked_of : Part → ℕ
asked_of (Window start end) = cond (leb start 1048576 && leb end 1048576) (cond (eqb start 0 || leb (start + 1) end) 0 7) 5
asked_of (Rows first count width mode) = cond (mode_and_width mode width && (leb first 65535 && (leb count 65535 && leb 1 count))) 0 5

pub record InWindow (start end : ℕ) : Type 0 where
  pub asked : asked_of (Window start end) ≡ 0
  pub near : start ≤ 1048576

abbrev pub WindowAsked : (start end : ℕ) → Result (Unit {0}) Refusal → Type 0
WindowAsked start end r = MatchResult r (λ u. InWindow start end) (λ e. number_of e ≡ asked_of (Window start end))

-- numbers small enough to compute with
pub record InLimits (f n w k : ℕ) : Type 0 where
  pub first : f ≤ 65535
  pub count : n ≤ 65535
  pub some : 1 ≤ n
  pub width : w ≤ 65535
  pub mode : k ≤ 4

pub record InRows (first count width k : ℕ) (m : Mode) : Type 0 where
  pub asked : asked_of (Rows first count width k) ≡ 0
  pub limits : InLimits first count width k
  pub mode : number_of_mode m ≡ k

abbrev pub RowsAsked : (first count width mode : ℕ) → Result Mode Refusal → Type 0
RowsAsked first count width mode r = MatchResult r (InRows first count width mode) (λ e. number_of e ≡ asked_of (Rows first count width mode))

-- wrap_bounds_for_rows, of the rows that are asked for
abbrev pub bounds_end : RowCounts → Column
bounds_end y = cond (ltb y.last y.count) y.end y.ended

abbrev pub bounds_of : RowCounts → write.Window
bounds_of y = record { profile = record { version = 0 }; start = cond (ltb y.first y.count) y.start (bounds_end y); end = bounds_end y }

-- records of spans of a line, few enough to draw
pub record DrawRoom (rs : List Record) (line : List ℕ) : Type 0 where
  pub few : length rs ≤ 32768
  pub short : length line ≤ 32768
  pub held : records (spans_in line rs) ≡ rs

-- the changes that a reader is sent of a part, by the definitions
unfoldable pub changes_of : (reader : ℕ) → Option ℕ → Part → List Span → List Change
unfolding render render_wrapped mode_of seen_by
changes_of reader current (Window start end) = λ ss. seen_by reader (render profile01 start end current ss)
changes_of reader current (Rows first count width mode) = λ ss. seen_by reader (render_wrapped profile01 first count width (mode_of mode) current ss)

-- the bytes of changes from the front of a list on, and whether a text is torn
pub record Drew (cs : List Change) (l l' : List ℕ) (r : Drawn) : Type 0 where
  pub bytes : sink l' r.at ≡ emit (sink l 0) (encode cs)
  pub torn : r.torn ≡ not (change.whole cs)

-- a part drawn, or the question that refuses it
abbrev pub PartDrawn : (reader : ℕ) → Option ℕ → Part → List Span → (l l' : List ℕ) → Result Drawn Refusal → Type 0
PartDrawn reader current part ss l l' r = MatchResult r (λ d. (asked_of part ≡ 0) × Drew (changes_of reader current part ss) l l' d) (λ e. number_of e ≡ asked_of part)

-- the call that draws a part
abbrev pub part_call : Part → (reader conv places room : ℕ) → Option ℕ → (matches line : List ℕ) → calls.Drawn
part_call (Window start end) reader conv places room current matches line = window_call profile01 reader conv places room start end current matches line
part_call (Rows first count width mode) reader conv places room current matches line = row_call profile01 reader conv places room first count width mode current matches line

abbrev pub drawn_as : Answer → List ℕ → List Record → List ℕ → calls.Drawn
drawn_as a conv spans list = record { number = a.number; count = a.count; conv = conv; spans = spans; list = list }
