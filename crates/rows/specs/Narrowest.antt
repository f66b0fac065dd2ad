-- Document 02, U13: the call `narrowest`, the least width at which a line takes at most the wanted number of rows.
use Prim.Native.Nat.{ℕ, zero, suc}
use Rattle.std.specs.Prelude.{Bool, cond, ◌&&◌, length, leb}
use mathlib.Core.List.{List, [], ◌∷◌}
use Rattle.text.specs.Class.{Profile}
use Rattle.text.specs.Overstrike.{convert}
use Rattle.text.specs.Calls.{ask, decide, lent, counted, question1, question2}
use Rattle.spans.specs.Spans.{Span, spans, Record, records}
use Rattle.spans.specs.Calls.{question4, no_record}
use Rattle.rows.specs.Rows.{Mode, rows}
use Rattle.rows.specs.Calls.{mode_of}
pub mod Laws

-- the first of n numbers from w on that passes the test, or 0
unfoldable pub first_from : (ℕ → Bool) → ℕ → ℕ → ℕ
first_from p zero w = 0
first_from p (suc n) w = let later : ℕ = first_from p n (suc w) in cond (p w) w later

-- how many widths are tried one after the other from 1 up: to the one found, or all up to the greatest
unfoldable pub tried_of : ℕ → ℕ → ℕ
tried_of greatest zero = greatest
tried_of greatest (suc w) = suc w

abbrev pub mode_rows_and_width : ℕ → ℕ → ℕ → Bool
mode_rows_and_width mode wanted greatest = (leb 1 mode && leb mode 2) && ((leb 1 wanted && leb wanted 65535) && (leb 1 greatest && leb greatest 65535))

-- what `narrowest` returns and leaves
pub record Narrowed : Type 0 where
  pub number : ℕ
  pub count : ℕ
  pub tried : ℕ
  pub conv : List ℕ
  pub spans : List Record

module _ (P : Profile) where
  abbrev pub takes_at_most : ℕ → Mode → List Span → ℕ → Bool
  takes_at_most wanted mode ss w = leb (length (rows P w mode ss)) wanted

  -- the least width from 1 up to the greatest at which the line takes at most so many rows, or 0
  unfoldable pub narrowest : Mode → (wanted greatest : ℕ) → List Span → ℕ
  unfolding first_from rows
  narrowest mode wanted greatest ss = first_from (takes_at_most wanted mode ss) greatest 1

  -- the call `narrowest`, lent a buffer of conv bytes and a list of `places` records
  unfoldable pub narrowest_call : (conv places mode wanted greatest : ℕ) (line : List ℕ) → Narrowed
  unfolding decide lent counted convert spans records narrowest tried_of mode_of
  narrowest_call conv places mode wanted greatest line =
      let s : List ℕ = convert P line in
      let ss : List Span = spans P s in
      let w : ℕ = narrowest (mode_of mode) wanted greatest ss in
      let r : ℕ = decide (question1 line ∷ question2 conv line ∷ question4 places ss ∷ ask 5 (mode_rows_and_width mode wanted greatest) ∷ []) in
      record { number = r; count = counted w r; tried = counted (tried_of greatest w) r; conv = lent 0 conv s r; spans = lent no_record places (records ss) r }
