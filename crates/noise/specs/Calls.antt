-- Document 01's six calls, as one.
use Rattle.std.specs.Prelude.{ℕ, Bool, true, false}
use mathlib.Core.List.{List, [], ◌∷◌}
use Rattle.std.proofs.Math.Option.{Option, none, some}
use Rattle.text.specs.Class.{Profile}
use Rattle.text.specs.Calls.{Converted, convert_call}
use Rattle.spans.specs.Spans.{Record}
use Rattle.spans.specs.Calls.{Read, read_call}
use Rattle.rows.specs.Calls.{Wrapped, rows_call, height_call}
use Rattle.drawing.specs.Calls.{Drawn, window_call, row_call}
use Rattle.text.specs.Overstrike as overstrike
use Rattle.spans.specs.Search as search
use Rattle.rows.specs.Calls.{mode_of}
use Rattle.drawing.specs.Change.{Change}
use Rattle.drawing.specs.Draw.{render, render_wrapped}
use Rattle.drawing.specs.Reader.{seen_by}

-- a call: the sizes of the memory lent to it and its other arguments, all but the line
pub data Call : Type 0 where
  convert : (conv : ℕ) → Call
  read : (conv places : ℕ) (matches : List ℕ) → Call
  rows : (conv places numbers width mode : ℕ) → Call
  height : (conv places width mode : ℕ) → Call
  draw_window : (reader conv places room start end : ℕ) (current : Option ℕ) (matches : List ℕ) → Call
  draw_row : (reader conv places room first count width mode : ℕ) (current : Option ℕ) (matches : List ℕ) → Call

-- what a call returns, and leaves in the memory lent to it
pub record Outcome : Type 0 where
  pub number : ℕ
  pub count : ℕ
  pub conv : List ℕ
  pub spans : List Record
  pub rows : List ℕ
  pub list : List ℕ

abbrev pub outcome : ℕ → ℕ → List ℕ → List Record → List ℕ → List ℕ → Outcome
outcome r n c ss rs cs = record { number = r; count = n; conv = c; spans = ss; rows = rs; list = cs }

abbrev pub from_read : Read → Outcome
from_read a = outcome a.number a.count a.conv a.spans [] []

abbrev pub from_drawn : Drawn → Outcome
from_drawn a = outcome a.number a.count a.conv a.spans [] a.list

module _ (P : Profile) where
  unfoldable pub answer : Call → List ℕ → Outcome
  unfolding convert_call read_call rows_call height_call window_call row_call
  answer (convert conv) line = let a : Converted = convert_call P conv line in outcome a.number a.count a.conv [] [] []
  answer (read conv places ms) line = from_read (read_call P conv places ms line)
  answer (rows conv places numbers width mode) line =
      let a : Wrapped = rows_call P conv places numbers width mode line in outcome a.number a.count a.conv a.spans a.rows []
  answer (height conv places width mode) line = from_read (height_call P conv places width mode line)
  answer (draw_window reader conv places room start end current ms) line = from_drawn (window_call P reader conv places room start end current ms line)
  answer (draw_row reader conv places room first count width mode current ms) line = from_drawn (row_call P reader conv places room first count width mode current ms line)

-- without search matches
unfoldable pub no_matches : List ℕ → Bool
no_matches [] = true
no_matches (m ∷ ms) = false

unfoldable pub without_matches : Call → Bool
unfolding no_matches
without_matches (convert conv) = true
without_matches (read conv places ms) = no_matches ms
without_matches (rows conv places numbers width mode) = true
without_matches (height conv places width mode) = true
without_matches (draw_window reader conv places room start end current ms) = no_matches ms
without_matches (draw_row reader conv places room first count width mode current ms) = no_matches ms

-- the bytes of the conversion buffer
unfoldable pub conv_of : Call → ℕ
conv_of (convert conv) = conv
conv_of (read conv places ms) = conv
conv_of (rows conv places numbers width mode) = conv
conv_of (height conv places width mode) = conv
conv_of (draw_window reader conv places room start end current ms) = conv
conv_of (draw_row reader conv places room first count width mode current ms) = conv

-- the places of the span list; conversion is lent none
unfoldable pub places_of : Call → Option ℕ
places_of (convert conv) = none
places_of (read conv places ms) = some places
places_of (rows conv places numbers width mode) = some places
places_of (height conv places width mode) = some places
places_of (draw_window reader conv places room start end current ms) = some places
places_of (draw_row reader conv places room first count width mode current ms) = some places

-- the bytes of the change list; only drawings are lent one
unfoldable pub room_of : Call → ℕ
room_of (convert conv) = 0
room_of (read conv places ms) = 0
room_of (rows conv places numbers width mode) = 0
room_of (height conv places width mode) = 0
room_of (draw_window reader conv places room start end current ms) = room
room_of (draw_row reader conv places room first count width mode current ms) = room

-- the changes that a drawing's reader is sent; other calls make none
unfoldable pub changes_of : Profile → Call → List ℕ → List Change
unfolding overstrike.convert search.read render render_wrapped mode_of seen_by
changes_of P (convert conv) line = []
changes_of P (read conv places ms) line = []
changes_of P (rows conv places numbers width mode) line = []
changes_of P (height conv places width mode) line = []
changes_of P (draw_window reader conv places room start end current ms) line = seen_by reader (render P start end current (search.read P ms (overstrike.convert P line)))
changes_of P (draw_row reader conv places room first count width mode current ms) line =
    seen_by reader (render_wrapped P first count width (mode_of mode) current (search.read P ms (overstrike.convert P line)))
