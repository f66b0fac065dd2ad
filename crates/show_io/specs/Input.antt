-- Input read in parts: lines end behind a newline, which belongs to them; a line is kept as far as question 1 looks.
use Prim.Native.Nat.{ℕ, suc, ◌+◌, ◌-◌}
use Rattle.std.specs.Prelude.{Bool, ◌||◌, length, take, get_or, eqb, leb, ltb}
use Rattle.std.proofs.Math.Bool.{cond}
use mathlib.Core.List.{List, [], ◌∷◌, ◌++◌}
use Rattle.buffer.specs.Sink.{Sink, sink, emit}
use Rattle.show_io.specs.Lines.{line_text, refusal_text}
use Rattle.show_io.specs.declared.lines.View.{View}
pub mod Contracts
pub mod Laws
pub mod Parts
pub mod Vectors

-- ---- lines in a part

-- how many bytes the first line has, its newline counted
unfoldable pub line_length : List ℕ → ℕ
line_length [] = 0
line_length (b ∷ s) = let more : ℕ = suc (line_length s) in cond (eqb b 0x0A) 1 more

unfoldable pub join_first : ℕ → List (List ℕ) → List (List ℕ)
join_first b [] = (b ∷ []) ∷ []
join_first b (p ∷ ps) = (b ∷ p) ∷ ps

-- the lines of a part, of which the last may go on behind it
unfoldable pub pieces : List ℕ → List (List ℕ)
unfolding join_first
pieces [] = []
pieces (b ∷ s) = let ps : List (List ℕ) = pieces s in cond (eqb b 0x0A) ((b ∷ []) ∷ ps) (join_first b ps)

-- a piece of a line ends it where its last byte is a newline
abbrev pub is_end : List ℕ → Bool
is_end s = eqb (get_or s (length s - 1) 0) 0x0A

-- ---- what was read and printed

-- how many lines were read, the next one as far as it was, and a buffer with what was printed
pub record State : Type 0 where
  pub number : ℕ
  pub line : List ℕ
  pub printed : Sink ℕ

abbrev pub state : ℕ → List ℕ → Sink ℕ → State
state n l s = record { number = n; line = l; printed = s }

-- what was read of a part, and the pieces that are left of it
pub record Read : Type 0 where
  pub state : State
  pub rest : List (List ℕ)

abbrev pub read : State → List (List ℕ) → Read
read t ps = record { state = t; rest = ps }

-- the next line's number; the largest that 8 bytes hold stays
abbrev pub next_number : ℕ → ℕ
next_number n = cond (ltb n 0xFFFFFFFFFFFFFFFF) (n + 1) n

abbrev pub count_of : Sink ℕ → ℕ
count_of (sink l r) = r

-- a line printed behind a count, or a refusal there where it printed more than 524,288 bytes or did not fit
unfoldable pub fitted_of : (name : List ℕ) (number before : ℕ) → Sink ℕ → Sink ℕ
unfolding refusal_text
fitted_of name number before (sink l r) = cond (ltb (length l) r || ltb 524288 (r - before)) (emit (sink l before) (refusal_text name number 9)) (sink l r)

module _ (name : List ℕ) (view : View) where
  -- a whole line
  unfoldable pub with_line : State → List ℕ → Sink ℕ
  unfolding fitted_of line_text
  with_line t line = fitted_of name (next_number t.number) (count_of t.printed) (emit t.printed (line_text name (next_number t.number) view line))

  module _ (room : ℕ) where
    -- a line begun and a piece more, as far as there is room for it
    abbrev pub begun : List ℕ → List ℕ → List ℕ
    begun line piece = line ++ take (room - length line) piece

    -- a piece more: the line is printed where the piece ends it
    unfoldable pub with_piece : State → List ℕ → State
    unfolding with_line
    with_piece t piece =
        let line : List ℕ = begun t.line piece in
        cond (is_end piece) (state (next_number t.number) [] (with_line t line)) (state t.number line t.printed)

    -- pieces one after the other, until `enough` bytes are printed
    unfoldable pub with_pieces : ℕ → State → List (List ℕ) → Read
    unfolding with_piece
    with_pieces enough t [] = read t []
    with_pieces enough t (p ∷ ps) =
        let more : Read = with_pieces enough (with_piece t p) ps in
        cond (leb enough (count_of t.printed)) (read t (p ∷ ps)) more
