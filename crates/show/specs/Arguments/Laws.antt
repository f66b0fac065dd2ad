-- Arguments that are decimal digits are the numbers that these say.
use Rattle.std.specs.Prelude.{ℕ, ◌<◌, true, ◌&&◌, ◌≡◌, length}
use mathlib.Core.List.{List, [], ◌∷◌, ◌++◌}
use Rattle.std.proofs.Math.Path.{refl, sym}
use Rattle.std.proofs.Common.{ap₂, ◌∙◌, arith}
use Rattle.rows_io.specs.FirstLine.{empty, with_bytes, in_form}
use Rattle.rows_io.specs.FirstLine.Form.{all_digits, number_from, form_read}
use Rattle.rows_io.specs.declared.first_line.FirstLine.{FirstLine}
use Rattle.show_io.specs.declared.lines.View.{View}
use Rattle.show.specs.Arguments.{pair_of, number_of, in_range, arguments_of}

pub pair_is : (a b : List ℕ) → pair_of a b ≡ with_bytes empty (a ++ 0x20 ∷ (b ++ 0x0A ∷ []))
unfolding pair_of
pair_is a b = refl

-- in the terms of what was read of them
pub arguments_are : (w m s : List ℕ) (count : ℕ) (f g : FirstLine) → f ≡ pair_of w m → g ≡ number_of s
    → record { ok = in_form f && (in_form g && in_range (record { mode = f.mode; start = g.width; width = f.width })); view = record { mode = f.mode; start = g.width; width = f.width }; count = count } ≡ arguments_of w m s count
unfolding arguments_of
arguments_are w m s count f g e d =
    ap₂ (λ (x y : FirstLine). record { ok = in_form x && (in_form y && in_range (record { mode = x.mode; start = y.width; width = x.width })); view = record { mode = x.mode; start = y.width; width = x.width }; count = count }) e d

module _ (w m s : List ℕ) (dw : all_digits w ≡ true) (lw : 0 < length w) (dm : all_digits m ≡ true) (lm : 0 < length m) (ds : all_digits s ≡ true) (ls : 0 < length s) where
  abbrev view : View
  view = record { mode = number_from 0 m; start = number_from 0 s; width = number_from 0 w }

  abbrev read : ℕ → ℕ → FirstLine
  read a b = record { stage = 1; digits = true; width = a; mode = b; ended = true }

  pub digits_read : (count : ℕ) → arguments_of w m s count ≡ record { ok = in_range view; view = view; count = count }
  unfolding all_digits number_from
  digits_read count =
      sym (arguments_are w m s count (read (number_from 0 w) (number_from 0 m)) (read (number_from 0 s) 0)
      (sym (pair_is w m ∙ form_read w m [] dw lw dm lm)) (sym (pair_is s (0x30 ∷ []) ∙ form_read s (0x30 ∷ []) [] ds ls refl (omega arith))))
