-- Document 02, U13: what the width that `narrowest` finds is, and how many widths are tried.
use Rattle.std.specs.Prelude.{◌≡◌, ◌⊎◌, ℕ, ◌≤◌, ◌<◌, max, List, length}
use Rattle.text.specs.Class.{Profile}
use Rattle.text.specs.Overstrike.{convert}
use Rattle.spans.specs.Spans.{Span, spans}
use Rattle.rows.specs.Rows.{Mode, grapheme_boundary, word_boundary, eight, rows}
use Rattle.rows.specs.Calls.{mode_of}
use Rattle.rows.specs.Narrowest.{tried_of, narrowest, narrowest_call}
use Rattle.columns.specs.Columns.{last_column}
pub mod Examples

-- every width from 1 up to w takes more rows than wanted
abbrev pub MoreUpTo : Profile → Mode → ℕ → List Span → ℕ → Type 0
MoreUpTo P mode wanted ss w = (v : ℕ) → 1 ≤ v → v ≤ w → wanted < length (rows P v mode ss)

-- the width w is found, or 0 said
pub record Narrowest (P : Profile) (mode : Mode) (wanted greatest : ℕ) (ss : List Span) (w : ℕ) : Type 0 where
  -- a width found is the least at which the line takes at most the wanted rows
  pub within : 1 ≤ w → w ≤ greatest
  pub enough : 1 ≤ w → length (rows P w mode ss) ≤ wanted
  pub least : (v : ℕ) → 1 ≤ v → v < w → wanted < length (rows P v mode ss)
  -- none is said precisely if every width up to the greatest takes more rows
  pub none : w ≡ 0 → MoreUpTo P mode wanted ss greatest
  pub precisely : MoreUpTo P mode wanted ss greatest → w ≡ 0
  -- the widths tried are never above the larger of 1 and the line's last column, as wrapping counts it
  pub bound : tried_of greatest w ≤ max 1 (last_column P eight ss)

-- modes 1 and 2, a wanted row count and a greatest width from 1 up
abbrev pub NarrowestWidth : Profile → Type 0
NarrowestWidth P =
    (mode : Mode) → (mode ≡ grapheme_boundary) ⊎ (mode ≡ word_boundary) → (wanted greatest : ℕ) → 1 ≤ wanted → 1 ≤ greatest
    → (ss : List Span) → Narrowest P mode wanted greatest ss (narrowest P mode wanted greatest ss)

-- an accepted call `narrowest`: its count is such a width of the line's spans, and so many widths were tried
abbrev pub NarrowestAnswer : Profile → Type 0
NarrowestAnswer P =
    (conv places mode wanted greatest : ℕ) (line : List ℕ) → (narrowest_call P conv places mode wanted greatest line).number ≡ 0
    → Narrowest P (mode_of mode) wanted greatest (spans P (convert P line)) (narrowest_call P conv places mode wanted greatest line).count
    × ((narrowest_call P conv places mode wanted greatest line).tried ≡ tried_of greatest (narrowest_call P conv places mode wanted greatest line).count)
