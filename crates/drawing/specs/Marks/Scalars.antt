-- What marks are composed of: hexadecimal digits, `<`, `>`, `U` and `+`; and how many scalars a scalar's mark has.
use Rattle.std.specs.Prelude.{◌≡◌, ℕ, ◌+◌, ◌/◌, ◌%◌, ◌≤◌, ◌<◌, Bool, true, length, T, ltb}
use Rattle.std.proofs.Common.{arith, ltb-true, ltb-false}
use Rattle.text.specs.Tests.{both, cases, every, every_one}
use Rattle.text.specs.Each.{All, all_nil, all_cons, all_append}
use Rattle.text.specs.Utf8.{Scalar, ascii}
use Rattle.rows.specs.Marks.{mark_columns}
use Rattle.drawing.specs.Marks.{hex_digit, byte_mark, upper_digits, scalar_mark}

-- a test of `0` to `9` and `A` to `F`
pub digit_code : (f : ℕ → Bool) → T (every f 0x30 10) → T (every f 0x41 6) → (d : ℕ) → d < 16 → f (hex_digit d).code ≡ true
unfolding hex_digit
digit_code f s t d h =
    cases (ltb d 10)
    (λ e. rw e (every_one f 10 0x30 (0x30 + d) s (omega arith) (omega (arith, ltb-true d 10 e))))
    (λ e. rw e (every_one f 6 0x41 (0x37 + d) t (omega (arith, ltb-false d 10 e)) (omega arith)))

pub digit_ascii : (d : ℕ) → hex_digit d ≡ ascii (hex_digit d).code
unfolding hex_digit
digit_ascii d = cases (ltb d 10) (λ e. rw e) (λ e. rw e)

-- what holds of them holds of each scalar of a mark
module _ (F : Scalar → Type 0) (digit : (d : ℕ) → d < 16 → F (hex_digit d)) (left : F (ascii 0x3C)) (right : F (ascii 0x3E)) where
  pub byte_scalars : (b : ℕ) → b ≤ 0xFF → All F (byte_mark b)
  unfolding byte_mark
  byte_scalars b h = all_cons left (all_cons (digit (b / 16) (omega arith)) (all_cons (digit (b % 16) (omega arith)) (all_cons right all_nil)))

  upper_scalars : (v : ℕ) → All F (upper_digits v)
  unfolding upper_digits
  upper_scalars v =
      let low = digit (v / 0x10000 % 16) (omega arith) in
      both (All F) (ltb v 0x10000) all_nil (both (All F) (ltb v 0x100000) (all_cons low all_nil) (all_cons (digit (v / 0x100000 % 16) (omega arith)) (all_cons low all_nil)))

  pub scalar_scalars : F (ascii 0x55) → F (ascii 0x2B) → (v : ℕ) → All F (scalar_mark v)
  unfolding scalar_mark
  scalar_scalars u plus v =
      all_cons left (all_cons u (all_cons plus (all_append (upper_scalars v)
      (all_cons (digit (v / 0x1000 % 16) (omega arith)) (all_cons (digit (v / 0x100 % 16) (omega arith)) (all_cons (digit (v / 0x10 % 16) (omega arith)) (all_cons (digit (v % 16) (omega arith)) (all_cons right all_nil))))))))

pub byte_length : (b : ℕ) → length (byte_mark b) ≡ 4
unfolding byte_mark
byte_length b = omega arith

pub scalar_length : (v : ℕ) → length (scalar_mark v) ≡ mark_columns v
unfolding mark_columns scalar_mark
scalar_length v = cases (ltb v 0x10000) (λ e. rw e) (λ e. cases (ltb v 0x100000) (λ f. rw (e, f)) (λ f. rw (e, f)))
