-- What orders do to attributes: a reset leaves the link alone, every other order selects the value of one field.
use Rattle.std.specs.Prelude.{◌≡◌, refl, List, ◌∷◌}
use Rattle.spans.specs.declared.sgr.Sgr.{Sgr}
use Rattle.spans.specs.declared.sgr.Sgr.TheVariants.{Reset, Intensity, Underline, Blink, VerticalAlign, Italic, Inverse, Invisible, StrikeThrough, Overline, Foreground, Background, UnderlineColor}
use Rattle.drawing.specs.declared.attributes.Font.{Font}
use Rattle.drawing.specs.declared.attributes.Flags.{Flags}
use Rattle.drawing.specs.declared.attributes.Colors.{Colors}
use Rattle.drawing.specs.declared.attributes.Link.{Link}
use Rattle.drawing.specs.declared.attributes.Attributes.{Attributes}
use Rattle.drawing.specs.Attributes.{font, flags, colors, attributes, plain_with, apply_all}

pub apply_all_reset : (a : Attributes) (os : List Sgr) → apply_all a (Reset ∷ os) ≡ apply_all (plain_with a.link) os
unfolding apply_all
apply_all_reset a os = refl

-- orders of a kind select the value of one field, whatever it was: `at x` are attributes that have x there
abbrev pub Selects : {X : Type 0} → (X → Sgr) → (X → Attributes) → Type 0
Selects {X} o at = (x y : X) (os : List Sgr) → apply_all (at x) (o y ∷ os) ≡ apply_all (at y) os

pub record Selected (f : Font) (g : Flags) (c : Colors) (l : Link) : Type 0 where
  pub intensity : Selects Intensity (λ x. attributes (font x f.underline f.blink f.alignment) g c l)
  pub underline : Selects Underline (λ x. attributes (font f.intensity x f.blink f.alignment) g c l)
  pub blink : Selects Blink (λ x. attributes (font f.intensity f.underline x f.alignment) g c l)
  pub alignment : Selects VerticalAlign (λ x. attributes (font f.intensity f.underline f.blink x) g c l)
  pub italic : Selects Italic (λ x. attributes f (flags x g.reverse g.invisible g.strike g.overline) c l)
  pub reverse : Selects Inverse (λ x. attributes f (flags g.italic x g.invisible g.strike g.overline) c l)
  pub invisible : Selects Invisible (λ x. attributes f (flags g.italic g.reverse x g.strike g.overline) c l)
  pub strike : Selects StrikeThrough (λ x. attributes f (flags g.italic g.reverse g.invisible x g.overline) c l)
  pub overline : Selects Overline (λ x. attributes f (flags g.italic g.reverse g.invisible g.strike x) c l)
  pub foreground : Selects Foreground (λ x. attributes f g (colors x c.background c.underline) l)
  pub background : Selects Background (λ x. attributes f g (colors c.foreground x c.underline) l)
  pub underline_color : Selects UnderlineColor (λ x. attributes f g (colors c.foreground c.background x) l)

pub selected : (f : Font) (g : Flags) (c : Colors) (l : Link) → Selected f g c l
unfolding apply_all
selected f g c l =
    record { intensity = λ x y os. refl; underline = λ x y os. refl; blink = λ x y os. refl; alignment = λ x y os. refl; italic = λ x y os. refl; reverse = λ x y os. refl; invisible = λ x y os. refl; strike = λ x y os. refl; overline = λ x y os. refl; foreground = λ x y os. refl; background = λ x y os. refl; underline_color = λ x y os. refl }
