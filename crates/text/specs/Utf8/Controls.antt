-- No byte of a text without controls is below 20 or 7F.
use Rattle.std.specs.Prelude.{◌≡◌, refl, ◌≢◌, ℕ, ◌≤◌, ◌<◌, true, false, List, leb, ltb, length, get_or}
use Rattle.std.proofs.Common.{arith, true≢false, le-leb, leb-false, ltb-true, ltb-false}
use Rattle.text.specs.Tests.{cases}
use Rattle.text.specs.Each.{All, all_first, all_places, all_split}
use Rattle.text.specs.Utf8.{Scalar, bytes_of}
use Rattle.text.specs.Utf8.Ascii.{split_in}
use Rattle.text.specs.Utf8.Valid.{Valid}
use Rattle.text.specs.Class.{in_any, is_control}

abbrev pub NoControl : Scalar → Type 0
NoControl c = is_control c.code ≡ false

pub record NoControlByte (b : ℕ) : Type 0 where
  pub low : 0x20 ≤ b
  pub del : b ≢ 0x7F

no_control_byte : (b : ℕ) → is_control b ≡ false → NoControlByte b
unfolding is_control in_any
no_control_byte b e =
    let any : leb 0 b ≡ true = le-leb 0 b (omega arith) in
    record {
      low = cases (leb b 0x1F) (λ f. absurd (true≢false (rw (any, f) at e))) (λ f. omega (arith, leb-false b 0x1F f));
      del = λ d. true≢false (rw d at e);
    }

-- a byte below 80 is a scalar of the text
pub no_control_bytes : (t : List Scalar) → All Valid t → All NoControl t → All NoControlByte (bytes_of t)
no_control_bytes t v f = all_places (bytes_of t) 0 (λ n h. by n h (get_or (bytes_of t) n 0) refl)
  where
    by : (n : ℕ) → n < length (bytes_of t) → (b : ℕ) → get_or (bytes_of t) n 0 ≡ b → NoControlByte b
    by n h b q = cases (ltb b 0x80)
        (λ e.
        let w = split_in t v n h (rw q (ltb-true b 0x80 e)) in
        let g = all_first (all_split w.before (rw w.text at f)).1 in
        no_control_byte b (rw (w.code, q) at g))
        (λ e. let k = ltb-false b 0x80 e in record { low = omega arith; del = λ d. omega arith })
