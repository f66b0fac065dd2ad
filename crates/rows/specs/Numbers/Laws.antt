-- A call that was lent as many places as numbers have room for.
use Rattle.std.specs.Prelude.{◌≡◌, ℕ, List}
use Rattle.std.proofs.Common.{ap, ◌∙◌}
use Rattle.buffer.specs.Sink.{written_or_zero}
use Rattle.text.specs.declared.Answer.{Answer}
use Rattle.spans.specs.Spans.{Record}
use Rattle.spans.specs.Numbers.{numbers_of_all, places_in}
use Rattle.spans.specs.Numbers.Laws.{read_told}
use Rattle.rows.specs.Calls.{Wrapped}
use Rattle.rows.specs.Calls.Contracts.{wrapped_as}
use Rattle.rows.specs.Narrowest.{Narrowed}
use Rattle.rows.specs.Widths.{narrowed_as}
use Rattle.rows.specs.Numbers.{read_of, RowsNumbers, read_in, NarrowestNumbers}
use Rattle.rows.specs.declared.WidthAnswer.{WidthAnswer}

pub rows_told : (call : ℕ → Wrapped) {k m : ℕ} → k ≡ places_in m → {r : Answer} {conv numbers rows : List ℕ} {zs : List Record} → wrapped_as r conv zs rows ≡ call k → numbers ≡ written_or_zero m (numbers_of_all zs) → RowsNumbers (call (places_in m)) m r conv numbers rows
rows_told call h e f = record { read = read_told (λ k. read_of (call k)) h (ap read_of e) f; pairs = ap (λ (x : Wrapped). x.rows) (e ∙ ap call h) }

pub narrowest_told : (call : ℕ → Narrowed) {k m : ℕ} → k ≡ places_in m → {r : WidthAnswer} {conv numbers : List ℕ} {zs : List Record} → narrowed_as r conv zs ≡ call k → numbers ≡ written_or_zero m (numbers_of_all zs) → NarrowestNumbers (call (places_in m)) m r conv numbers
narrowest_told call h e f = record { read = read_told (λ k. read_in (call k)) h (ap read_in e) f; tried = ap (λ (x : Narrowed). x.tried) (e ∙ ap call h) }
