-- What cells' code says of the definitions.
use Rattle.std.specs.Prelude.{ℕ}
use Rattle.text.specs.Overstrike.{Style, normal, bold, underline, bold_underline}

-- how many bytes are written for a byte in a style
abbrev pub overstruck_length : Style → ℕ
overstruck_length normal = 1
overstruck_length bold = 3
overstruck_length underline = 3
overstruck_length bold_underline = 5
