-- The call `convert`: the short cut without 08, refusals, and what an accepted call leaves.
use Prim.Native.Nat.{◌*◌, ◌+◌, ◌-◌, ◌<◌, ◌≤◌, ℕ}
use native.Mathlib.Numerals.{add-one}
use native.Mathlib.Omega.{arith}
use mathlib.Core.Bool.{Bool, ◌||◌, false, true}
use mathlib.Core.List.{List, [], ◌++◌, ◌∷◌}
use mathlib.Core.Path.{◌∙◌, ◌≡◌, ap, refl, sym}
use lib.Dec.{eqb}
use lib.ListN.{drop, drop_of_length-le, get_or, length, replicate, set, take}
use lib.Seq.{drop-cons, length-take-le, take_all, take-suc, take-suc-set}
use borrow.Author.Tests.{le-leb, lt-leb}
use Rattle.text.specs.Calls.{convert_call, counted, decide, lent}
use Rattle.text.specs.Class.{Profile}
use Rattle.text.specs.Calls.Code.{converted}
use Rattle.text.specs.Overstrike.Code.{LineCopied, Wrote}
use Rattle.text.specs.Overstrike.{convert, convert_pieces, has_backspace}
use Rattle.text.specs.Utf8.{decode, runs}

-- ---- the loop that copies a line and looks for 08: a turn, and the end

pub found_turn : (line : List ℕ) (i : ℕ) (found : Bool) → i < length line → has_backspace line ≡ (found || has_backspace (drop i line)) → has_backspace line ≡ ((found || eqb (get_or line i 0) 0x08) || has_backspace (drop (i + 1) line))
unfolding has_backspace
found_turn line i true h e = e
found_turn line i false h e = rw (add-one) (rw (drop-cons line i 0 h) at e)

pub found_end : (line : List ℕ) (i : ℕ) (found : Bool) → length line ≤ i → has_backspace line ≡ (found || has_backspace (drop i line)) → found ≡ has_backspace line
unfolding has_backspace
found_end line i true h e = sym e
found_end line i false h e = sym (rw (drop_of_length-le line h) at e)

pub copied_turn : (line l₀ l : List ℕ) (i : ℕ) → i < length line → length line ≤ length l₀ → length l ≡ length l₀ → take i l ≡ take i line → take (i + 1) (set l i (get_or line i 0)) ≡ take (i + 1) line
copied_turn line l₀ l i h k n e =
    rw add-one
    (take-suc-set l i (get_or line i 0) (omega arith) ∙ ap (λ (ys : List ℕ). ys ++ (get_or line i 0 ∷ [])) e ∙ sym (take-suc line i 0 h))

pub line_copied : (line l₀ l : List ℕ) (i : ℕ) (found : Bool) → length line ≤ i → length line ≤ length l₀ → length l ≡ length l₀ → has_backspace line ≡ (found || has_backspace (drop i line)) → i ≤ length line → take i l ≡ take i line → LineCopied line l found
line_copied line l₀ l i found h k m e g t =
    let n : i ≡ length line = omega arith in
    record { wrote = record { inside = omega arith; bytes = rw (← n) t ∙ take_all i line h }; found = found_end line i found h e }

-- ---- with 08 and without it

pub struck_line : (P : Profile) (line l₀ l : List ℕ) (b : Bool) (r : ℕ) → LineCopied line l₀ b → b ≡ true → Wrote l r (convert_pieces P (runs (decode line))) → Wrote l r (convert P line)
unfolding convert
struck_line P line l₀ l b r c t w = rw (sym c.found ∙ t) w

pub plain_line : (P : Profile) (line l : List ℕ) (b : Bool) → LineCopied line l b → b ≡ false → Wrote l (length line) (convert P line)
unfolding convert
plain_line P line l b c t = rw (sym c.found ∙ t) c.wrote

-- ---- the answers

module _ (P : Profile) (line l : List ℕ) where
  pub refused_long : 4096 < length line → converted (record { number = 1; count = 0 }) (replicate (length l) 0) ≡ convert_call P (length l) line
  unfolding convert_call decide lent counted
  refused_long h = rw (lt-leb (length line) 4096 h)

  pub refused_small : length line ≤ 4096 → length l < 8 * length line → converted (record { number = 2; count = 0 }) (replicate (length l) 0) ≡ convert_call P (length l) line
  unfolding convert_call decide lent counted
  refused_small k h = rw (le-leb (length line) 4096 k, lt-leb (8 * length line) (length l) h)

  pub accepted : (l₁ l₂ : List ℕ) (n : ℕ) → length line ≤ 4096 → 8 * length line ≤ length l → length l₁ ≡ length l → Wrote l₁ n (convert P line) → l₂ ≡ take n l₁ ++ replicate (length l₁ - n) 0
      → converted (record { number = 0; count = n }) l₂ ≡ convert_call P (length l) line
  unfolding convert_call decide lent counted
  accepted l₁ l₂ n h k m w e =
      let c : n ≡ length (convert P line) = sym (length-take-le n l₁ w.inside) ∙ ap length w.bytes in
      rw (e, le-leb (length line) 4096 h, le-leb (8 * length line) (length l) k, w.bytes, m, c) refl
