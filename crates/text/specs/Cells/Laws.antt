-- How many bytes are written for a byte in a style.
use Rattle.std.specs.Prelude.{◌≡◌, refl, ℕ, length}
use Rattle.text.specs.Overstrike.{Style, normal, bold, underline, bold_underline}
use Rattle.text.specs.Cells.{overstruck}
use Rattle.text.specs.Cells.Code.{overstruck_length}

pub overstruck_length_law : (t : Style) (b : ℕ) → length (overstruck t b) ≡ overstruck_length t
unfolding overstruck
overstruck_length_law normal b = refl
overstruck_length_law bold b = refl
overstruck_length_law underline b = refl
overstruck_length_law bold_underline b = refl
