-- Parameters, and the orders that they give, computed.
use Rattle.std.specs.Prelude.{◌≡◌, refl, ℕ, List, [], ◌∷◌}
use Rattle.spans.specs.Sgr.{parameters, orders}
use Rattle.spans.specs.declared.sgr.Color.TheVariants.{Palette}
use Rattle.spans.specs.declared.sgr.Sgr.{Sgr}
use Rattle.spans.specs.declared.sgr.Sgr.TheVariants.{Reset, Intensity, Underline, VerticalAlign, Foreground}

unfoldable orders_in : List ℕ → List Sgr
unfolding orders parameters
orders_in s = orders (parameters 0 s)

-- ---- vertical alignment (document 02, U7): 73 raised, 74 lowered, 75 baseline

-- 73;74;75
alignments : orders_in (0x37 ∷ 0x33 ∷ 0x3B ∷ 0x37 ∷ 0x34 ∷ 0x3B ∷ 0x37 ∷ 0x35 ∷ []) ≡ VerticalAlign 1 ∷ VerticalAlign 2 ∷ VerticalAlign 0 ∷ []
unfolding orders_in
alignments = refl

-- 72 and 76 stay unknown
below : orders_in (0x37 ∷ 0x32 ∷ []) ≡ []
unfolding orders_in
below = refl

above : orders_in (0x37 ∷ 0x36 ∷ []) ≡ []
unfolding orders_in
above = refl

-- 1;73;4: the reading goes on
between : orders_in (0x31 ∷ 0x3B ∷ 0x37 ∷ 0x33 ∷ 0x3B ∷ 0x34 ∷ []) ≡ Intensity 1 ∷ VerticalAlign 1 ∷ Underline 1 ∷ []
unfolding orders_in
between = refl

-- 38;5;73: an index
index : orders_in (0x33 ∷ 0x38 ∷ 0x3B ∷ 0x35 ∷ 0x3B ∷ 0x37 ∷ 0x33 ∷ []) ≡ Foreground (Palette 73) ∷ []
unfolding orders_in
index = refl

-- 073;: leading zeros; an empty parameter resets
reset : orders_in (0x30 ∷ 0x37 ∷ 0x33 ∷ 0x3B ∷ []) ≡ VerticalAlign 1 ∷ Reset ∷ []
unfolding orders_in
reset = refl

-- 73;10;74: stops at 10
stops : orders_in (0x37 ∷ 0x33 ∷ 0x3B ∷ 0x31 ∷ 0x30 ∷ 0x3B ∷ 0x37 ∷ 0x34 ∷ []) ≡ VerticalAlign 1 ∷ []
unfolding orders_in
stops = refl
