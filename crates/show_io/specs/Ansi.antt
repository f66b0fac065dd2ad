-- A screen row as ANSI text: its clusters in order, and before each change of attributes a style order (ECMA-48, SGR) or a hyperlink
-- (OSC 8). A missing byte of an attribute body reads 0, so that no bytes are default attributes.
use Rattle.std.specs.Prelude.{ℕ, zero, suc, ◌+◌, ◌/◌, ◌%◌, Bool, true, ◌&&◌, take, drop, get_or, eqb}
use Rattle.std.proofs.Math.Bool.{cond}
use mathlib.Core.List.{List, [], ◌∷◌, ◌++◌}
use Rattle.screen.specs.Records.{little_endian}
use Rattle.screen.specs.WellFormed.{body_size}
use Rattle.screen.specs.Row.{Cell, cell}
use Rattle.rows_io.specs.Output.{decimal}
pub mod Contracts
pub mod Vectors
pub mod Cells
pub mod Orders
pub mod Changes

-- ---- the cells of a screen row's bytes: per cell a 4-byte length of its cluster, the cluster and its attribute body

-- the cluster's length in the cell that the bytes begin with
abbrev pub length_at : List ℕ → ℕ
length_at s = little_endian (take 4 s)

abbrev pub cell_at : List ℕ → Cell
cell_at s = cell (take (length_at s) (drop 4 s)) (take body_size (drop (4 + length_at s) s))

-- the cells, after k bytes that are passed over
unfoldable pub cells_from : ℕ → List ℕ → List Cell
unfolding little_endian
cells_from k [] = []
cells_from zero (b ∷ s) = cell_at (b ∷ s) ∷ cells_from (length_at (b ∷ s) + body_size + 3) s
cells_from (suc k) (b ∷ s) = cells_from k s

unfoldable pub cells : List ℕ → List Cell
unfolding cells_from
cells s = cells_from zero s

-- ---- style orders

-- the parameter of a value: p says 1, q says 2
abbrev pub valued : ℕ → ℕ → ℕ → List ℕ
valued p q v = cond (eqb v 1) (p ∷ []) (cond (eqb v 2) (q ∷ []) [])

-- the parameter of a flag, whose place in the flags has the value n
abbrev pub flagged : ℕ → ℕ → ℕ → List ℕ
flagged p n flags = cond (eqb (flags / n % 2) 1) (p ∷ []) []

-- a colour at a place of a body: 5 and its index, or 2 and red, green, blue, behind p
unfoldable pub colored : ℕ → List ℕ → ℕ → List ℕ
colored p b at =
    cond (eqb (get_or b at 0) 1) (p ∷ 5 ∷ get_or b (at + 1) 0 ∷ [])
    (cond (eqb (get_or b at 0) 2) (p ∷ 2 ∷ get_or b (at + 1) 0 ∷ get_or b (at + 2) 0 ∷ get_or b (at + 3) 0 ∷ []) [])

-- intensity, underline, blink
abbrev pub font_of : List ℕ → List ℕ
font_of b = valued 1 2 (get_or b 0 0) ++ (valued 4 21 (get_or b 1 0) ++ valued 5 6 (get_or b 2 0))

-- italic, reverse, invisible, strike, overline
abbrev pub flags_of : ℕ → List ℕ
flags_of f = flagged 3 1 f ++ (flagged 7 2 f ++ (flagged 8 4 f ++ (flagged 9 8 f ++ flagged 53 16 f)))

-- foreground, background, underline colour
abbrev pub colors_of : List ℕ → List ℕ
colors_of b = colored 38 b 4 ++ (colored 48 b 8 ++ colored 58 b 12)

-- raised, lowered
abbrev pub alignment_of : List ℕ → List ℕ
alignment_of b = valued 73 74 (get_or b 24 0)

-- the parameters of what a body has on
unfoldable pub parameters_of : List ℕ → List ℕ
unfolding colored
parameters_of b = font_of b ++ (flags_of (get_or b 3 0) ++ (colors_of b ++ alignment_of b))

-- parameters behind another, each behind `;`
unfoldable pub further : List ℕ → List ℕ
unfolding decimal
further [] = []
further (p ∷ ps) = 0x3B ∷ (decimal p ++ further ps)

-- `ESC [ 0`, what is on, `m`
unfoldable pub style_order : List ℕ → List ℕ
unfolding further parameters_of
style_order b = 0x1B ∷ 0x5B ∷ 0x30 ∷ (further (parameters_of b) ++ (0x6D ∷ []))

-- ---- hyperlinks

-- a body's URI in the converted line, by its place and its length
unfoldable pub uri : List ℕ → List ℕ → List ℕ
unfolding little_endian
uri line b = take (little_endian (take 4 (drop 20 b))) (drop (little_endian (take 4 (drop 16 b))) line)

-- `ESC ] 8 ; ;`, the URI, `ESC \`; none closes the link
unfoldable pub link_order : List ℕ → List ℕ
link_order u = 0x1B ∷ 0x5D ∷ 0x38 ∷ 0x3B ∷ 0x3B ∷ (u ++ (0x1B ∷ 0x5C ∷ []))

-- ---- what is printed

-- n bytes alike in two bodies, from a place on
unfoldable pub alike : ℕ → ℕ → List ℕ → List ℕ → Bool
alike zero at a b = true
alike (suc n) at a b = eqb (get_or a at 0) (get_or b at 0) && alike n (suc at) a b

-- the bytes of a body other than its URI's place and length, and these
abbrev pub same_style : List ℕ → List ℕ → Bool
same_style a b = alike 16 0 a b && alike 1 24 a b

abbrev pub same_link : List ℕ → List ℕ → Bool
same_link a b = alike 8 16 a b

module _ (line : List ℕ) where
  -- from the attributes of one body to those of another
  unfoldable pub change : List ℕ → List ℕ → List ℕ
  unfolding alike style_order link_order uri
  change a b = cond (same_style a b) [] (style_order b) ++ cond (same_link a b) [] (link_order (uri line b))

  -- the cells behind one with the body a; at the end attributes are default and the link is closed
  unfoldable pub text_from : List ℕ → List Cell → List ℕ
  unfolding change
  text_from a [] = change a []
  text_from a (c ∷ cs) = change a c.body ++ (c.cluster ++ text_from c.body cs)

  -- a row, of which default attributes are in force at first
  unfoldable pub row_text : List Cell → List ℕ
  unfolding text_from
  row_text cs = text_from [] cs
