-- What the contracts of widths.rt say.
use Rattle.std.specs.Prelude.{◌≡◌, ℕ, zero, suc, ◌+◌, Bool, cond, true, false, List, length, leb, replicate, Option, Some, None, Result, MatchResult}
use Rattle.std.specs.Option.{unwrap_or}
use Rattle.text.specs.Width.{profile01}
use Rattle.spans.specs.Spans.{Record}
use Rattle.spans.specs.Calls.{no_record}
use Rattle.rows.specs.Wrap.{rows_of}
use Rattle.text.specs.Calls.Code.{number_of}
use Rattle.rows.specs.Modes.{number_of_mode}
use Rattle.rows.specs.Narrowest.{mode_rows_and_width, Narrowed, narrowest_call}
use Rattle.rows.specs.declared.WidthAnswer.{WidthAnswer}
use Rattle.text.specs.declared.refusal.Refusal.{Refusal}
use Rattle.text.specs.declared.refusal.Refusal.TheVariants.{OutOfRange}
use Rattle.rows.specs.declared.modes.Mode.{Mode}
pub mod Laws

abbrev pub narrowed_as : WidthAnswer → List ℕ → List Record → Narrowed
narrowed_as a conv spans = record { number = a.number; count = a.count; tried = a.tried; conv = conv; spans = spans }

-- question 5 admits a mode, a number of rows and a greatest width, and the mode has the number, or it refuses them
abbrev pub WidthsAsked : (mode wanted greatest : ℕ) → Result Mode Refusal → Type 0
WidthsAsked mode wanted greatest r =
    MatchResult r
    (λ m. (number_of_mode m ≡ mode) × (mode_rows_and_width mode wanted greatest ≡ true))
    (λ e. (e ≡ OutOfRange) × (mode_rows_and_width mode wanted greatest ≡ false))

-- ---- widths one after the other

-- how many widths were tried, and the one found
pub record Widths : Type 0 where
  pub tried : ℕ
  pub found : Option ℕ

abbrev pub widths : ℕ → Option ℕ → Widths
widths tried found = record { tried = tried; found = found }

-- n widths more are tried, up to the first that passes the test
unfoldable pub tried_from : (ℕ → Bool) → ℕ → ℕ → Widths
tried_from p zero tried = widths tried None
tried_from p (suc n) tried = let later : Widths = tried_from p n (tried + 1) in cond (p (tried + 1)) (widths (tried + 1) (Some (tried + 1))) later

-- one found up to the greatest was tried last; where there is none, all were
abbrev pub widths_to : ℕ → Option ℕ → Widths
widths_to greatest found = widths (unwrap_or found greatest) found

-- how many rows the records of a line take at a width
abbrev pub rows_at : (mode : ℕ) (line : List ℕ) → List Record → ℕ → ℕ
rows_at mode line rs w = length (rows_of profile01 w mode line rs)

-- they are at most the wanted rows
abbrev pub fits_at : (mode wanted : ℕ) (line : List ℕ) → List Record → ℕ → Bool
fits_at mode wanted line rs w = leb (rows_at mode line rs w) wanted

-- ---- the call

abbrev pub narrowed : (number count tried : ℕ) → List ℕ → List Record → Narrowed
narrowed number count tried conv spans = record { number = number; count = count; tried = tried; conv = conv; spans = spans }

-- what is left, where the call is accepted, and once all is cleared, where it is refused
abbrev pub LineNarrowed : (mode wanted greatest size places : ℕ) (line : List ℕ) → Result (Option ℕ) Refusal → List ℕ → List Record → Type 0
LineNarrowed mode wanted greatest size places line r conv spans =
    MatchResult r
    (λ o. narrowed 0 (unwrap_or o 0) (unwrap_or o greatest) conv spans ≡ narrowest_call profile01 size places mode wanted greatest line)
    (λ e. narrowed (number_of e) 0 0 (replicate size 0) (replicate places no_record) ≡ narrowest_call profile01 size places mode wanted greatest line)
