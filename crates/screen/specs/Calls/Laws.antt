-- A drawing's change list in a screen row: never refused 10, and refused 11 exactly where the row has fewer columns than its texts take.
use Rattle.std.specs.Prelude.{◌≡◌, ◌≢◌, ℕ, ◌-◌, ◌≤◌, max, take, eqb, ltb}
use mathlib.Core.List.{List}
use Rattle.std.proofs.Math.Option.{Option}
use Rattle.text.specs.Each.{All}
use Rattle.text.specs.Class.{Profile}
use Rattle.text.specs.Overstrike.{convert}
use Rattle.spans.specs.Spans.{Span}
use Rattle.spans.specs.Search.{read}
use Rattle.rows.specs.Rows.{Mode}
use Rattle.rows.specs.Calls.{mode_of}
use Rattle.drawing.specs.Change.{Change, encode}
use Rattle.drawing.specs.Draw.{render, render_wrapped}
use Rattle.drawing.specs.Calls.{Drawn, window_call, row_call}
use Rattle.drawing.specs.Reader.{seen_by}
use Rattle.screen.specs.Calls.{screen_call}
use Rattle.text.specs.Overstrike.Bytes.{Byte}
use Rattle.screen.specs.Drawn.{Line, columns, row_columns}

-- a change list drawn into n columns, of which its texts take c, in a row of W columns
pub record InRow (P : Profile) (n c : ℕ) (list : List ℕ) : Type 0 where
  pub never_10 : (W room : ℕ) → (screen_call P W room list).number ≢ 10
  pub never_11 : (W room : ℕ) → n ≤ W → (screen_call P W room list).number ≢ 11
  pub exactly_11 : (W room : ℕ) → 1 ≤ W → W ≤ 4096 → eqb (screen_call P W room list).number 11 ≡ ltb W c
  pub few : c ≤ max 1 n

-- the change list that a call leaves
abbrev pub list_of : Drawn → List ℕ
list_of d = take d.count d.list

module _ (P : Profile) where
  -- a window drawing of any converted line, for any reader
  abbrev pub WindowInRow : Type 0
  WindowInRow = (s : List ℕ) → Line s → (reader start end : ℕ) (current : Option ℕ) (matches : List ℕ)
      → let cs : List Change = render P start end current (read P matches s) in InRow P (end - start) (columns P cs) (encode (seen_by reader cs))

  -- a row drawing
  abbrev pub RowsInRow : Type 0
  RowsInRow = (s : List ℕ) → Line s → (reader first count width : ℕ) (mode : Mode) (current : Option ℕ) (matches : List ℕ)
      → let ss : List Span = read P matches s in
      let cs : List Change = render_wrapped P first count width mode current ss in InRow P (row_columns P first count width mode ss) (columns P cs) (encode (seen_by reader cs))

  -- what an accepted `draw_window` leaves, of any line of bytes
  abbrev pub WindowCallInRow : Type 0
  WindowCallInRow = (line : List ℕ) → All Byte line → (reader conv places room start end : ℕ) (current : Option ℕ) (matches : List ℕ) → (window_call P reader conv places room start end current matches line).number ≡ 0
      → InRow P (end - start) (columns P (render P start end current (read P matches (convert P line)))) (list_of (window_call P reader conv places room start end current matches line))

  -- what an accepted `draw_row` leaves
  abbrev pub RowCallInRow : Type 0
  RowCallInRow = (line : List ℕ) → All Byte line → (reader conv places room first count width mode : ℕ) (current : Option ℕ) (matches : List ℕ) → (row_call P reader conv places room first count width mode current matches line).number ≡ 0
      → let ss : List Span = read P matches (convert P line) in
      InRow P (row_columns P first count width (mode_of mode) ss) (columns P (render_wrapped P first count width (mode_of mode) current ss)) (list_of (row_call P reader conv places room first count width mode current matches line))

-- ---- questions 10 and 11
