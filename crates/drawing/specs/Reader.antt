-- Readers of a drawing (document 02, U12): 0 is the bench, 1 the crew.
use Rattle.std.specs.Prelude.{ℕ, cond, List, map, eqb}
use Rattle.drawing.specs.declared.attributes.Attributes.{Attributes}
use Rattle.drawing.specs.Attributes.{attributes, link}
use Rattle.drawing.specs.Change.{Change, text, torn, all_attributes, clear_to_end, cursor_right}
pub mod Laws
pub mod HiddenUris

-- URI place and length 0
unfoldable pub unlinked : Attributes → Attributes
unlinked a = attributes a.font a.flags a.colors (link 0 0)

unfoldable pub without_uri : Change → Change
unfolding unlinked
without_uri (text s) = text s
without_uri torn = torn
without_uri (all_attributes a) = all_attributes (unlinked a)
without_uri (clear_to_end c) = clear_to_end c
without_uri cursor_right = cursor_right

-- what a reader is sent of changes: the bench all, the crew no URI
unfoldable pub seen_by : ℕ → List Change → List Change
unfolding without_uri
seen_by reader cs = cond (eqb reader 1) (map without_uri cs) cs
