-- What a reader is sent of a drawing's list is such a list again, of as many columns.
use Rattle.std.specs.Prelude.{◌≡◌, ℕ, ◌+◌, eqb}
use Rattle.std.proofs.Math.Path.{refl, ap}
use mathlib.Core.List.{List, [], ◌∷◌, map}
use Rattle.text.specs.Tests.{cases}
use Rattle.text.specs.Class.{Profile}
use Rattle.text.specs.Width.{width_of}
use Rattle.drawing.specs.Attributes.{apply_all, apply, arrows, plain}
use Rattle.drawing.specs.Change.{Change, text, torn, all_attributes, clear_to_end, cursor_right}
use Rattle.drawing.specs.Reader.{unlinked, without_uri, seen_by}
use Rattle.screen.specs.Drawn.{columns}
use Rattle.screen.specs.Drawn.WellFormed.{Sendable, DrawnList, done, next, arrow}

module _ (P : Profile) where
  without_sendable : {c : Change} → Sendable P c → Sendable P (without_uri c)
  unfolding without_uri unlinked
  without_sendable (Sendable.text t h) = Sendable.text t h
  without_sendable Sendable.torn = Sendable.torn
  without_sendable (Sendable.attributes f) = Sendable.attributes f
  without_sendable Sendable.clear = Sendable.clear

  without_list : {cs : List Change} → DrawnList P cs → DrawnList P (map without_uri cs)
  unfolding without_uri unlinked arrows apply_all apply plain
  without_list done = done
  without_list (next s d) = next (without_sendable s) (without_list d)
  without_list arrow = arrow

  without_columns : (cs : List Change) → columns P (map without_uri cs) ≡ columns P cs
  unfolding columns without_uri
  without_columns [] = refl
  without_columns (text s ∷ cs) = ap (λ (n : ℕ). width_of P s + n) (without_columns cs)
  without_columns (torn ∷ cs) = without_columns cs
  without_columns (all_attributes a ∷ cs) = without_columns cs
  without_columns (clear_to_end c ∷ cs) = without_columns cs
  without_columns (cursor_right ∷ cs) = refl

  pub seen_list : (reader : ℕ) {cs : List Change} → DrawnList P cs → DrawnList P (seen_by reader cs)
  unfolding seen_by
  seen_list reader d = cases (eqb reader 1) (λ e. rw e (without_list d)) (λ e. rw e d)

  pub seen_columns : (reader : ℕ) (cs : List Change) → columns P (seen_by reader cs) ≡ columns P cs
  unfolding seen_by
  seen_columns reader cs = cases (eqb reader 1) (λ e. rw e (without_columns cs)) (λ e. rw e)
