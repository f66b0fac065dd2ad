-- What the calls of a case leave of the wraps that are kept.
use Rattle.std.specs.Prelude.{ℕ, cond, List, [], ◌∷◌}
use Rattle.text.specs.Utf8.{same_bytes}
use Rattle.text.specs.Width.{profile01}
use Rattle.spans.specs.Numbers.{places_in}
use Rattle.cache.specs.Calls.{cached_rows_call, cached_height_call}

-- lent 32,776 bytes, 4,096 numbers for spans and as many for rows
unfoldable pub after_rows : (wraps line : List ℕ) (width mode : ℕ) → List ℕ
after_rows wraps line width mode = (cached_rows_call profile01 wraps 32776 (places_in 4096) 4096 width mode line).wraps

unfoldable pub after_height : (wraps line : List ℕ) (width mode : ℕ) → List ℕ
after_height wraps line width mode = (cached_height_call profile01 wraps 32776 (places_in 4096) width mode line).wraps

-- a call by its name; of another there is none, and the wraps stay
unfoldable pub after_call : (name wraps line : List ℕ) (width mode : ℕ) → List ℕ
unfolding same_bytes after_rows after_height
after_call name wraps line width mode =
    cond (same_bytes name (0x72 ∷ 0x6F ∷ 0x77 ∷ 0x73 ∷ [])) (after_rows wraps line width mode)
    (cond (same_bytes name (0x68 ∷ 0x65 ∷ 0x69 ∷ 0x67 ∷ 0x68 ∷ 0x74 ∷ [])) (after_height wraps line width mode) wraps)
