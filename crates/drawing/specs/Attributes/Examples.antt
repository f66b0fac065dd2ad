-- Vertical alignment (document 02, U7) in the attributes and in their body, computed.
use Rattle.std.specs.Prelude.{◌≡◌, refl, [], ◌∷◌, ◌++◌, replicate}
use Rattle.spans.specs.declared.sgr.Sgr.TheVariants.{Reset, Intensity, VerticalAlign}
use Rattle.drawing.specs.Attributes.{plain, apply, apply_all, linked, control, match, current_match, styled, arrows}
use Rattle.drawing.specs.Change.{attribute_bytes}
use Rattle.drawing.specs.declared.attributes.Attributes.{Attributes}

unfoldable raised : Attributes
unfolding apply plain
raised = apply plain (VerticalAlign 1)

-- the last byte of 25
body : attribute_bytes raised ≡ replicate 24 0 ++ (1 ∷ [])
unfolding attribute_bytes raised
body = refl

-- the last one wins, and other orders leave it
last : (apply_all raised (VerticalAlign 2 ∷ Intensity 0 ∷ [])).font.alignment ≡ 2
unfolding apply_all raised
last = refl

-- a reset clears it and keeps the hyperlink
reset : apply_all (linked raised 5 1) (Intensity 1 ∷ Reset ∷ []) ≡ linked plain 5 1
unfolding apply_all linked raised plain
reset = refl

-- a match and the current match keep it; marks and arrows have none
matched : (styled raised match).font.alignment ≡ 1
unfolding styled raised
matched = refl

current : (styled raised current_match).font.alignment ≡ 1
unfolding styled raised
current = refl

mark : (styled raised control).font.alignment ≡ 0
unfolding styled raised
mark = refl

arrow : arrows.font.alignment ≡ 0
unfolding arrows
arrow = refl
