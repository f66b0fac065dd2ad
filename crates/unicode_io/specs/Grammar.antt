-- A line of a file: spaces and a `#` comment aside, nothing, or one scalar or a rising `..` range of 4 to 6 capital hexadecimal digits up to
-- 10FFFF, `;` and a name that the file publishes.
use Rattle.std.specs.Prelude.{ℕ, ◌+◌, ◌*◌, ◌%◌, Bool, cond, ◌&&◌, ◌||◌, List, [], ◌∷◌, length, ◌==◌, nat_le, nat_lt}
use Rattle.unicode_io.specs.Names.{name_number}
pub mod Laws

-- ---- what a line is: 0 nothing, 1 an entry, 2 a line of another form

pub record Entry : Type 0 where
  pub kind : ℕ
  pub low : ℕ
  pub high : ℕ
  pub name : ℕ

abbrev pub nothing : Entry
nothing = record { kind = 0; low = 0; high = 0; name = 0 }

abbrev pub other_form : Entry
other_form = record { kind = 2; low = 0; high = 0; name = 0 }

abbrev pub entry : ℕ → ℕ → ℕ → Entry
entry low high name = record { kind = 1; low = low; high = high; name = name }

-- ---- spaces and a comment aside

unfoldable pub uncommented : List ℕ → List ℕ
uncommented [] = []
uncommented (b ∷ s) = let more : List ℕ = b ∷ uncommented s in cond (b == 0x23) [] more

-- what stands after the spaces in front
unfoldable pub unspaced : List ℕ → List ℕ
unspaced [] = []
unspaced (b ∷ s) = let more : List ℕ = unspaced s in cond (b == 0x20) more (b ∷ s)

-- ---- a scalar, or a range

-- capital hexadecimal digits
abbrev pub is_hex : ℕ → Bool
is_hex b = (nat_le 0x30 b && nat_le b 0x39) || (nat_le 0x41 b && nat_le b 0x46)

abbrev pub hex_value : ℕ → ℕ
hex_value b = cond (nat_le b 0x39) (b % 16) (b % 16 + 9)

unfoldable pub digits_of : List ℕ → List ℕ
digits_of [] = []
digits_of (b ∷ s) = let more : List ℕ = b ∷ digits_of s in cond (is_hex b) more []

unfoldable pub after_digits : List ℕ → List ℕ
after_digits [] = []
after_digits (b ∷ s) = let more : List ℕ = after_digits s in cond (is_hex b) more (b ∷ s)

unfoldable pub value_from : ℕ → List ℕ → ℕ
value_from n [] = n
value_from n (b ∷ s) = value_from (n * 16 + hex_value b) s

abbrev pub scalar_of : List ℕ → ℕ
scalar_of ds = value_from 0 ds

-- 4 to 6 digits, up to 10FFFF
unfoldable pub is_number : List ℕ → Bool
unfolding value_from
is_number ds = nat_le 4 (length ds) && (nat_le (length ds) 6 && nat_le (scalar_of ds) 0x10FFFF)

pub data Range : Type 0 where
  one : List ℕ → Range
  range : List ℕ → List ℕ → Range

-- a range rises
unfoldable pub range_entry : Range → ℕ → Entry
unfolding is_number
range_entry (one low) name = cond (is_number low) (entry (scalar_of low) (scalar_of low) name) other_form
range_entry (range low high) name = cond (is_number low) (cond (is_number high) (cond (nat_lt (scalar_of low) (scalar_of high)) (entry (scalar_of low) (scalar_of high) name) other_form) other_form) other_form

-- ---- a name, without the spaces at its ends and around a `;` in it; spaces elsewhere are one space, which no name has

unfoldable pub space_before : List ℕ → List ℕ
space_before [] = []
space_before (b ∷ s) = cond (b == 0x20 || b == 0x3B) (b ∷ s) (0x20 ∷ b ∷ s)

unfoldable pub trimmed : List ℕ → List ℕ
unfolding unspaced space_before
trimmed [] = []
trimmed (b ∷ s) = let more : List ℕ = trimmed s in cond (b == 0x20) (space_before more) (cond (b == 0x3B) (0x3B ∷ unspaced more) (b ∷ more))

-- ---- the line

module _ (file : ℕ) where
  -- a name after `;`
  unfoldable pub named : Range → List ℕ → Entry
  unfolding trimmed range_entry name_number
  named r s = cond (name_number file (unspaced (trimmed s)) == 0) other_form (range_entry r (name_number file (unspaced (trimmed s))))

  -- after `..` and its number: `;`
  unfoldable pub after_high : List ℕ → List ℕ → List ℕ → Entry
  unfolding named
  after_high low high [] = other_form
  after_high low high (b ∷ s) = cond (b == 0x3B) (named (range low high) s) other_form

  -- after one `.`: another, and a number
  unfoldable pub after_dot : List ℕ → List ℕ → Entry
  unfolding after_high digits_of after_digits
  after_dot low [] = other_form
  after_dot low (b ∷ s) = cond (b == 0x2E) (after_high low (digits_of (unspaced s)) (unspaced (after_digits (unspaced s)))) other_form

  -- after the first number: `;`, or `.`
  unfoldable pub after_low : List ℕ → List ℕ → Entry
  unfolding after_dot
  after_low low [] = other_form
  after_low low (b ∷ s) = cond (b == 0x3B) (named (one low) s) (cond (b == 0x2E) (after_dot low s) other_form)

  -- nothing, or a number
  unfoldable pub content : List ℕ → Entry
  unfolding after_low
  content [] = nothing
  content (b ∷ s) = after_low (digits_of (b ∷ s)) (unspaced (after_digits (b ∷ s)))

  unfoldable pub line_of : List ℕ → Entry
  unfolding content uncommented
  line_of s = content (unspaced (uncommented s))
