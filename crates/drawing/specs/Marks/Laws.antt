-- A digit of a mark as its byte, and the bytes of a byte's mark.
use Rattle.std.specs.Prelude.{◌≡◌, refl, ℕ, ◌/◌, ◌%◌, List, [], ◌∷◌, ltb}
use Rattle.std.proofs.Common.{ap, ◌∙◌}
use Rattle.buffer.specs.Numbers as numbers
use Rattle.text.specs.Tests.{cases}
use Rattle.text.specs.Utf8.{ascii, asciis, bytes_of}
use Rattle.text.specs.Utf8.AsciiTexts.{asciis_bytes, asciis_cons, asciis_nil}
use Rattle.drawing.specs.Marks.{hex_digit, byte_mark}

pub digit_is : (d : ℕ) → hex_digit d ≡ ascii (numbers.hex_digit d)
unfolding hex_digit numbers.hex_digit
digit_is d = cases (ltb d 10) (λ e. rw e refl) (λ e. rw e refl)

pub byte_bytes : (b : ℕ) → bytes_of (byte_mark b) ≡ 0x3C ∷ numbers.hex_digit (b / 16) ∷ numbers.hex_digit (b % 16) ∷ 0x3E ∷ []
unfolding byte_mark
byte_bytes b =
    let s : List ℕ = 0x3C ∷ numbers.hex_digit (b / 16) ∷ numbers.hex_digit (b % 16) ∷ 0x3E ∷ [] in
    let e : byte_mark b ≡ asciis s = simp (digit_is, asciis_cons, asciis_nil) refl in
    ap bytes_of e ∙ asciis_bytes s
