-- Demand 3 for document 01's profile.
use Rattle.std.specs.Prelude.{◌≡◌, ℕ, ◌<◌, true, List}
use Rattle.std.proofs.Common.{subst}
use Rattle.text.specs.Tests.{every}
use Rattle.text.specs.Class.{Profile}
use Rattle.text.specs.Class.Ascii.{AsciiClasses, printable_class, printable_columns}
use Rattle.text.specs.Class.Code.{printable}
use Rattle.text.specs.Class.Laws.{number_other}
use Rattle.text.specs.Class.Profile01.{ascii_classes, profile_is}
use Rattle.text.specs.Width.{profile01}
use Rattle.drawing.specs.Marks.{hex_digit}
use Rattle.drawing.specs.Marks.Scalars.{digit_code}
use Rattle.drawing.specs.Draw.Noise.{PlainDigits}
use Rattle.noise.specs.Demand3.{Separation, Exchange}
use Rattle.noise.proofs.Demand3.SeparationProof.{separation_of}
use Rattle.noise.proofs.Demand3.ExchangeProof.{exchange_of}

digit_printable : (d : ℕ) → d < 16 → printable (hex_digit d).code ≡ true
unfolding every
digit_printable = digit_code printable tt tt

plain_digits : (P : Profile) → AsciiClasses P → PlainDigits P
plain_digits P a = record {
  class = λ d h. number_other _ (printable_class P a (hex_digit d).code (digit_printable d h));
  width = λ d h. printable_columns P a (hex_digit d).code (digit_printable d h);
}

plain01 : PlainDigits profile01
plain01 = plain_digits profile01 (subst AsciiClasses (profile_is (record { version = 0 })) (ascii_classes (record { version = 0 })))

pub separation01 : (first noises second : List ℕ) → Separation profile01 first noises second
separation01 = separation_of profile01

pub exchange01 : Exchange profile01
exchange01 = exchange_of profile01 plain01
