-- The calls `rows` and `height`.
use Prim.Native.Nat.{ℕ, zero, suc, ◌*◌}
use Rattle.std.specs.Prelude.{Bool, ◌&&◌, length, leb}
use mathlib.Core.List.{List, [], ◌∷◌}
use Rattle.text.specs.Class.{Profile}
use Rattle.text.specs.Overstrike.{convert}
use Rattle.text.specs.Calls.{Question, ask, decide, lent, counted, question1, question2}
use Rattle.spans.specs.Spans.{Span, spans, Record, records}
use Rattle.spans.specs.Calls.{Read, question4, no_record}
use Rattle.rows.specs.Rows.{Row, Mode, unwrapped, grapheme_boundary, word_boundary, drawn_grapheme_boundary, drawn_word_boundary, rows}
pub mod Laws
pub mod Contracts
pub mod Reading

-- the modes by number
unfoldable pub mode_of : ℕ → Mode
mode_of zero = unwrapped
mode_of (suc zero) = grapheme_boundary
mode_of (suc (suc zero)) = word_boundary
mode_of (suc (suc (suc zero))) = drawn_grapheme_boundary
mode_of (suc (suc (suc (suc n)))) = drawn_word_boundary

abbrev pub mode_and_width : ℕ → ℕ → Bool
mode_and_width mode width = leb mode 4 && leb width 65535

-- the row list is numbers, start and end for each row
unfoldable pub numbers_of : List Row → List ℕ
numbers_of [] = []
numbers_of (r ∷ rs) = r.start ∷ r.end ∷ numbers_of rs

-- a row list of n numbers has a pair for each row
abbrev pub question6 : ℕ → List Row → Question
question6 n rs = ask 6 (leb (2 * length rs) n)

-- what `rows` returns and leaves
pub record Wrapped : Type 0 where
  pub number : ℕ
  pub count : ℕ
  pub conv : List ℕ
  pub spans : List Record
  pub rows : List ℕ

module _ (P : Profile) where
  -- the call `rows`, lent a buffer of conv bytes, a list of `places` records and a list of `numbers` numbers
  unfoldable pub rows_call : (conv places numbers width mode : ℕ) (line : List ℕ) → Wrapped
  unfolding decide lent counted convert spans records rows mode_of numbers_of
  rows_call conv places numbers width mode line =
      let s : List ℕ = convert P line in
      let ss : List Span = spans P s in
      let rs : List Row = rows P width (mode_of mode) ss in
      let r : ℕ = decide (question1 line ∷ question2 conv line ∷ question4 places ss ∷ ask 5 (mode_and_width mode width) ∷ question6 numbers rs ∷ []) in
      record { number = r; count = counted (length rs) r; conv = lent 0 conv s r; spans = lent no_record places (records ss) r; rows = lent 0 numbers (numbers_of rs) r }

  -- the call `height`, lent a buffer of conv bytes and a list of `places` records
  unfoldable pub height_call : (conv places width mode : ℕ) (line : List ℕ) → Read
  unfolding decide lent counted convert spans records rows mode_of
  height_call conv places width mode line =
      let s : List ℕ = convert P line in
      let ss : List Span = spans P s in
      let r : ℕ = decide (question1 line ∷ question2 conv line ∷ question4 places ss ∷ ask 5 (mode_and_width mode width) ∷ []) in
      record { number = r; count = counted (length (rows P width (mode_of mode) ss)) r; conv = lent 0 conv s r; spans = lent no_record places (records ss) r }
