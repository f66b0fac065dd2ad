-- Arguments and what they say.
use Rattle.std.specs.Prelude.{◌≡◌, refl, true, false, [], ◌∷◌}
use Rattle.show.specs.Arguments.{arguments_of}

-- `80`, `4`, `10`
abbrev example : arguments_of (0x38 ∷ 0x30 ∷ []) (0x34 ∷ []) (0x31 ∷ 0x30 ∷ []) 4 ≡ record { ok = true; view = record { mode = 4; start = 10; width = 80 }; count = 4 }
unfolding arguments_of
example = refl

-- `4096`, `0`, `65535`: the greatest
abbrev greatest : (arguments_of (0x34 ∷ 0x30 ∷ 0x39 ∷ 0x36 ∷ []) (0x30 ∷ []) (0x36 ∷ 0x35 ∷ 0x35 ∷ 0x33 ∷ 0x35 ∷ []) 4).ok ≡ true
unfolding arguments_of
greatest = refl

-- `0 1 0`, `4097 1 0`, `80 1 65536`; none for the third, `-1`, `8 0` in one
abbrev others :
    ((arguments_of (0x30 ∷ []) (0x31 ∷ []) (0x30 ∷ []) 4).ok ∷ (arguments_of (0x34 ∷ 0x30 ∷ 0x39 ∷ 0x37 ∷ []) (0x31 ∷ []) (0x30 ∷ []) 4).ok
    ∷ (arguments_of (0x38 ∷ 0x30 ∷ []) (0x31 ∷ []) (0x36 ∷ 0x35 ∷ 0x35 ∷ 0x33 ∷ 0x36 ∷ []) 4).ok ∷ (arguments_of (0x38 ∷ 0x30 ∷ []) (0x31 ∷ []) [] 3).ok
    ∷ (arguments_of (0x38 ∷ 0x30 ∷ []) (0x31 ∷ []) (0x2D ∷ 0x31 ∷ []) 4).ok ∷ (arguments_of (0x38 ∷ 0x20 ∷ 0x30 ∷ []) (0x31 ∷ []) (0x30 ∷ []) 4).ok ∷ []) ≡ false ∷ false ∷ false ∷ false ∷ false ∷ false ∷ []
unfolding arguments_of
others = refl
