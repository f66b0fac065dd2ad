-- What each reader is sent shows the bench's cells, to the crew without URI.
use Rattle.std.specs.Prelude.{◌≡◌, ℕ, cond, eqb}
use Rattle.std.proofs.Math.Path.{refl}
use Rattle.std.proofs.Common.{ap}
use mathlib.Core.List.{List, [], ◌∷◌, ◌++◌, map}
use Rattle.text.specs.Tests.{cases}
use Rattle.text.specs.Utf8.{Scalar}
use Rattle.text.specs.Class.{Profile}
use Rattle.text.specs.Cluster.{clusters}
use Rattle.spans.specs.Spans.Laws.{map_append}
use Rattle.drawing.specs.declared.attributes.Attributes.{Attributes}
use Rattle.drawing.specs.Attributes.{plain}
use Rattle.drawing.specs.Change.{Change, text, torn, all_attributes, clear_to_end, cursor_right}
use Rattle.drawing.specs.Reader.{unlinked, without_uri, seen_by}
use Rattle.picture.specs.Picture.{Cell, cell, shown_from, shown}

abbrev bare : Cell → Cell
bare c = cell (unlinked c.attributes) c.cluster

-- the cells that a reader is shown of the bench's
unfoldable pub seen_cells : ℕ → List Cell → List Cell
seen_cells reader cs = cond (eqb reader 1) (map bare cs) cs

module _ (P : Profile) where
  bare_text : (a : Attributes) (gs : List (List Scalar)) → map (cell (unlinked a)) gs ≡ map bare (map (cell a) gs)
  bare_text a [] = refl
  bare_text a (g ∷ gs) = ap (λ (cs : List Cell). cell (unlinked a) g ∷ cs) (bare_text a gs)

  shown_bare : (cs : List Change) (a : Attributes) → shown_from P (unlinked a) (map without_uri cs) ≡ map bare (shown_from P a cs)
  unfolding shown_from without_uri
  shown_bare [] a = refl
  shown_bare (text s ∷ cs) a = rw (bare_text a (clusters P s), shown_bare cs a, map_append bare (map (cell a) (clusters P s)) (shown_from P a cs))
  shown_bare (torn ∷ cs) a = shown_bare cs a
  shown_bare (all_attributes b ∷ cs) a = shown_bare cs b
  shown_bare (clear_to_end c ∷ cs) a = shown_bare cs a
  shown_bare (cursor_right ∷ cs) a = shown_bare cs a

  pub shown_seen : (reader : ℕ) (cs : List Change) → shown P (seen_by reader cs) ≡ seen_cells reader (shown P cs)
  unfolding shown seen_by seen_cells unlinked plain
  shown_seen reader cs = cases (eqb reader 1) (λ e. rw e (shown_bare cs plain)) (λ e. rw e)

pub seen_join : (reader : ℕ) (cs ds : List Cell) → seen_cells reader cs ++ seen_cells reader ds ≡ seen_cells reader (cs ++ ds)
unfolding seen_cells
seen_join reader cs ds = cases (eqb reader 1) (λ e. rw (e, map_append bare cs ds)) (λ e. rw e)
