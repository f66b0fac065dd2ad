-- Document 02, U4 and U5. Rows together show the line: they run end to end, and drawn one by one they show what is drawn Unwrapped.
use Rattle.std.specs.Prelude.{◌≡◌, ◌≢◌, true, length, take}
use Prim.Native.Nat.{ℕ, zero, suc, ◌≤◌, ◌<◌}
use mathlib.Core.List.{List, [], ◌∷◌, ◌++◌, map}
use Rattle.std.proofs.Math.Option.{Option}
use Rattle.text.specs.Each.{All}
use Rattle.text.specs.Utf8.{Scalar}
use Rattle.text.specs.Class.{Profile}
use Rattle.text.specs.Class.Ascii.{AsciiClasses}
use Rattle.text.specs.Width.{profile01}
use Rattle.text.specs.Cluster.{clusters}
use Rattle.text.specs.Overstrike.{convert}
use Rattle.text.specs.Overstrike.Bytes.{Byte}
use Rattle.spans.specs.Spans.{Span, spans}
use Rattle.spans.specs.Calls.{read_call}
use Rattle.rows.specs.Marks.{drawn_columns}
use Rattle.rows.specs.Rows.{Mode, unwrapped, rows, EndToEnd}
use Rattle.rows.specs.Calls.{mode_of, height_call}
use Rattle.drawing.specs.declared.attributes.Attributes.{Attributes}
use Rattle.drawing.specs.Attributes.{plain}
use Rattle.drawing.specs.Change as change
use Rattle.drawing.specs.Change.{Change, torn, all_attributes, clear_to_end, cursor_right, encode}
use Rattle.drawing.specs.Draw.{render_wrapped}
use Rattle.drawing.specs.Reader.{seen_by}
use Rattle.drawing.specs.Calls.{Drawn, row_call}
use Rattle.columns.specs.Columns.{last_column}
use Rattle.picture.specs.Conditions.{PlainComposed, WordBreakClasses, UnsharedLine, Drawable, SingleMarks}
pub mod Window
pub mod Clipping
pub mod AttributesInForce
pub mod LineCells
pub mod WindowDrawing
pub mod DrawnWidths
pub mod WordClusters
pub mod RowBoundaries
pub mod Readers
pub mod RowDrawing
pub mod Calls
pub mod Examples

-- ---- what changes show

-- a cluster and the attributes that it is drawn with
pub record Cell : Type 0 where
  pub cluster : List Scalar
  pub attributes : Attributes

abbrev pub cell : Attributes → List Scalar → Cell
cell a g = record { cluster = g; attributes = a }

-- an accepted drawing whose list holds these changes
pub record Draws (drawn : Drawn) (cs : List Change) : Type 0 where
  pub accepted : drawn.number ≡ 0
  pub list : take drawn.count drawn.list ≡ encode cs

module _ (P : Profile) where
  -- the clusters of each text, with the attributes in force: the last ones sent, `a` before the first
  unfoldable pub shown_from : Attributes → List Change → List Cell
  unfolding clusters
  shown_from a [] = []
  shown_from a (change.text s ∷ cs) = map (cell a) (clusters P s) ++ shown_from a cs
  shown_from a (torn ∷ cs) = shown_from a cs
  shown_from a (all_attributes b ∷ cs) = shown_from b cs
  shown_from a (clear_to_end c ∷ cs) = shown_from a cs
  shown_from a (cursor_right ∷ cs) = shown_from a cs

  unfoldable pub shown : List Change → List Cell
  unfolding shown_from plain
  shown cs = shown_from plain cs

  -- the changes that a reader is sent of rows
  unfoldable pub row_changes : (reader first count width : ℕ) → Mode → Option ℕ → List Span → List Change
  unfolding render_wrapped seen_by
  row_changes reader first count width mode current ss = seen_by reader (render_wrapped P first count width mode current ss)

  -- n rows from row i on, each drawn by itself, joined
  unfoldable pub rows_shown : (reader width : ℕ) → Mode → Option ℕ → List Span → (i n : ℕ) → List Cell
  unfolding shown row_changes
  rows_shown reader width mode current ss i zero = []
  rows_shown reader width mode current ss i (suc n) = shown (row_changes reader i 1 width mode current ss) ++ rows_shown reader width mode current ss (suc i) n

  -- ---- the row picture

  -- as a reader is sent it
  pub record Picture (reader width : ℕ) (mode : Mode) (current : Option ℕ) (ss : List Span) : Type 0 where
    -- rows run end to end from column 0 to the line's last, as drawn
    pub run : EndToEnd 0 (last_column P drawn_columns ss) (rows P width mode ss)
    -- question 8 refuses no drawing of rows, of several at once or after the last neither
    pub whole : (first count : ℕ) → 1 ≤ count → change.whole (row_changes reader first count width mode current ss) ≡ true
    -- nor any drawing Unwrapped
    pub whole_unwrapped : (first count : ℕ) → 1 ≤ count → change.whole (row_changes reader first count width unwrapped current ss) ≡ true
    -- drawn row by row, joined, they show what is drawn Unwrapped
    pub same : rows_shown reader width mode current ss 0 (length (rows P width mode ss)) ≡ shown (row_changes reader 0 1 width unwrapped current ss)

  -- to every reader, in every mode that wraps, at every width
  abbrev pub RowsShow : List Span → Type 0
  RowsShow ss = (reader : ℕ) (mode : Mode) → mode ≢ unwrapped → SingleMarks mode ss → (width : ℕ) (current : Option ℕ) → Picture reader width mode current ss

  -- ---- paging by the calls

  -- `draw_row` of the row `first` draws these changes, lent room for them
  abbrev pub DrawsRow : (reader conv places first width mode : ℕ) → Option ℕ → (line : List ℕ) → List Change → Type 0
  DrawsRow reader conv places first width mode current line cs = (room : ℕ) → length (encode cs) ≤ room → Draws (row_call P reader conv places room first 1 width mode current [] line) cs

  -- paging by `draw_row` from row 0 to the last that `height` counts shows what `draw_row` shows in mode 0
  pub record Paged (reader conv places width mode : ℕ) (current : Option ℕ) (line : List ℕ) : Type 0 where
    pub height : (height_call P conv places width mode line).number ≡ 0
    pub rows : (first : ℕ) → first < (height_call P conv places width mode line).count
        → DrawsRow reader conv places first width mode current line (row_changes reader first 1 width (mode_of mode) current (spans P (convert P line)))
    pub mode0 : DrawsRow reader conv places 0 width 0 current line (row_changes reader 0 1 width unwrapped current (spans P (convert P line)))
    pub same : rows_shown reader width (mode_of mode) current (spans P (convert P line)) 0 (height_call P conv places width mode line).count
        ≡ shown (row_changes reader 0 1 width unwrapped current (spans P (convert P line)))

  -- to both readers, in modes 1 to 4, at every width
  abbrev pub PagingShows : (conv places : ℕ) (line : List ℕ) → Type 0
  PagingShows conv places line =
      (reader mode width : ℕ) → reader ≤ 1 → 1 ≤ mode → mode ≤ 4 → width ≤ 65535 → SingleMarks (mode_of mode) (spans P (convert P line)) → (current : Option ℕ)
      → Paged reader conv places width mode current line

-- ---- the statements

-- any such profile, and any spans within the columns of mode 0's row
abbrev pub RowPicture : Profile → Type 0
RowPicture P = PlainComposed P → WordBreakClasses P → (ss : List Span) → All (λ (s : Span). Drawable P s.content) ss → last_column P drawn_columns ss ≤ 0xFFFF_FFFF_FFFF_FFFF → RowsShow P ss

-- any such profile of widths up to 2, and every accepted line read without matches in whose converted form no whitespace or hyphen shares a cluster with another scalar of width above 0
abbrev pub OfLines : Profile → (List ℕ → (conv places : ℕ) → Type 0) → Type 0
OfLines P Q =
    PlainComposed P → WordBreakClasses P → ((v : ℕ) → P.width v ≤ 2)
    → (line : List ℕ) → All Byte line → (conv places : ℕ) → (read_call P conv places [] line).number ≡ 0 → UnsharedLine P (convert P line) → Q line conv places

abbrev pub RowsShowLines : Profile → Type 0
RowsShowLines P = OfLines P (λ line conv places. RowsShow P (spans P (convert P line)))

-- paging asks for document 01's classes below 80 too: a style order is then a sequence and takes no row
abbrev pub PagingShowsLines : Profile → Type 0
PagingShowsLines P = AsciiClasses P → OfLines P (λ line conv places. PagingShows P conv places line)

-- document 01's profile, and every accepted line read without matches
abbrev pub OfEveryLine : (List ℕ → (conv places : ℕ) → Type 0) → Type 0
OfEveryLine Q = (line : List ℕ) → All Byte line → (conv places : ℕ) → (read_call profile01 conv places [] line).number ≡ 0 → Q line conv places

abbrev pub RowsShowTheLine : Type 0
RowsShowTheLine = OfEveryLine (λ line conv places. RowsShow profile01 (spans profile01 (convert profile01 line)))

abbrev pub PagingShowsTheLine : Type 0
PagingShowsTheLine = OfEveryLine (λ line conv places. PagingShows profile01 conv places line)
