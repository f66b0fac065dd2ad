-- Noise bytes: ranges in which none lies, texts that hold none, and lines that differ only in which they hold.
use Rattle.std.specs.Prelude.{◌≡◌, ℕ, Bool, true, false, ◌&&◌, ◌||◌, List, [], ◌∷◌, T, leb, ltb}
use Rattle.text.specs.Each.{Each}
use Rattle.text.specs.Utf8.{Range, table, Decoded, ill_formed, Piece, damaged, noise}

unfoldable pub clean : Range → Bool
clean r = ◌||◌ (ltb r.high 0xC0) (◌&&◌ (leb 0xC2 r.low) (ltb r.high 0xF5))

unfoldable pub clean_row : List Range → Bool
unfolding clean
clean_row [] = true
clean_row (r ∷ rs) = ◌&&◌ (clean r) (clean_row rs)

unfoldable pub clean_table : List (List Range) → Bool
unfolding clean_row
clean_table [] = true
clean_table (r ∷ rs) = ◌&&◌ (clean_row r) (clean_table rs)

-- of the table, by one computed test
pub table_clean : T (clean_table table)
unfolding clean_table table
table_clean = tt

abbrev pub NoNoise : ℕ → Type 0
NoNoise b = noise b ≡ false

-- two bytes: the same, or _&&_ noise
pub data Byte : ℕ → ℕ → Type 0 where
  same : {b : ℕ} → Byte b b
  exchanged : {b c : ℕ} → T (noise b) → T (noise c) → Byte b c

-- two lines that differ only at places where _&&_ hold a noise byte
abbrev pub Twin : List ℕ → List ℕ → Type 0
Twin s t = Each Byte s t

pub data TwinUnit : Decoded → Decoded → Type 0 where
  same : {u : Decoded} → TwinUnit u u
  exchanged : {b c : ℕ} → Byte b c → TwinUnit (ill_formed b) (ill_formed c)

pub data TwinPiece : Piece → Piece → Type 0 where
  same : {p : Piece} → TwinPiece p p
  exchanged : {b c : ℕ} → Byte b c → TwinPiece (damaged b) (damaged c)
