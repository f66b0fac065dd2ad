-- What is shown of a whole file: its lines in turn, each with its number there.
use Prim.Native.Nat.{ℕ}
use Rattle.std.proofs.Math.Bool.{cond}
use mathlib.Core.List.{List, [], ◌∷◌, ◌++◌}
use Rattle.std.specs.Prelude.{length, take, leb}
use Rattle.buffer.specs.Sink.{Sink, sink}
use Rattle.show_io.specs.Lines.{line_text, refusal_text}
use Rattle.show_io.specs.Input.{pieces, next_number}
use Rattle.show_io.specs.declared.lines.View.{View}
pub mod Buffers
pub mod Laws

-- what was printed, and the buffer for it
abbrev pub text_of : Sink ℕ → List ℕ
text_of (sink l n) = take n l

abbrev pub list_of : Sink ℕ → List ℕ
list_of (sink l n) = l

module _ (name : List ℕ) (view : View) where
  -- a line, or a refusal where it prints more than 524,288 bytes
  unfoldable pub line_shown : ℕ → List ℕ → List ℕ
  unfolding line_text refusal_text
  line_shown number line =
      let text : List ℕ = line_text name number view line in
      cond (leb (length text) 524288) text (refusal_text name number 9)

  -- the lines behind so many, each as far as question 1 looks
  unfoldable pub lines_shown : ℕ → List (List ℕ) → List ℕ
  unfolding line_shown
  lines_shown n [] = []
  lines_shown n (l ∷ ls) = line_shown (next_number n) (take 4097 l) ++ lines_shown (next_number n) ls

  unfoldable pub file_shown : List ℕ → List ℕ
  unfolding lines_shown pieces
  file_shown s = lines_shown 0 (pieces s)
