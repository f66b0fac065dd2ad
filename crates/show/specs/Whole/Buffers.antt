-- A line printed in the buffer that the program lends is printed alike, whatever stands before it there.
use Rattle.std.specs.Prelude.{◌≡◌, refl, Bool, true, ◌||◌, set, take, drop, leb}
use Rattle.std.proofs.Math.Path.{sym, ap, ap₂}
use Rattle.std.proofs.Common.{◌∙◌, length-set, length-append, take_at, length-take-le}
use Prim.Native.Nat.{ℕ, ◌+◌, ◌-◌, ◌≤◌, ◌<◌}
use native.Mathlib.Omega.{arith}
use Rattle.std.proofs.Math.Bool.{false, cond}
use mathlib.Core.List.{List, [], ◌∷◌, ◌++◌}
use Rattle.std.proofs.Math.ListN.{length}
use Rattle.std.proofs.lemmas.List.{take-set-le}
use Rattle.std.proofs.Math.Dec.{ltb}
use borrow.Author.Tests.{lt-ltb, le-ltb, leb-true, leb-false, ltb-true, ltb-false}
use Rattle.text.specs.Tests.{cases}
use Rattle.buffer.specs.Sink.{Sink, sink, put, emit, written}
use Rattle.buffer.specs.Sink.Laws.{put_in, put_past, emit_room, written_length}
use Rattle.rows_io.specs.Output.Laws.{decimal_length}
use Rattle.show_io.specs.Lines.{refusal_text}
use Rattle.show_io.specs.Input.{count_of, fitted_of}
use Rattle.show.specs.Whole.{text_of, list_of}

-- ---- a buffer that is written behind a count

emit_front : (xs l : List ℕ) (at c : ℕ) → c ≤ at → c ≤ length l → (take c (list_of (emit (sink l at) xs)) ≡ take c l) × (length (list_of (emit (sink l at) xs)) ≡ length l)
unfolding emit
emit_front [] l at c h k = (refl, refl)
emit_front (x ∷ xs) l at c h k = cases (ltb at (length l))
    (λ e. let p : at < length l = ltb-true at (length l) e in
    let n : length (set l at x) ≡ length l = length-set l at x in
    let z = emit_front xs (set l at x) (at + 1) c (omega arith) (omega arith) in
    let s : emit (sink (set l at x) (at + 1)) xs ≡ emit (put (sink l at) x) xs = ap (λ (y : Sink ℕ). emit y xs) (put_in l at x p) in
    (ap (λ (y : Sink ℕ). take c (list_of y)) (sym s) ∙ z.0 ∙ take-set-le c l at x h, ap (λ (y : Sink ℕ). length (list_of y)) (sym s) ∙ z.1 ∙ n))
    (λ e. let p : length l ≤ at = ltb-false at (length l) e in
    let z = emit_front xs l (length l + 1) c (omega arith) k in
    let s : emit (sink l (length l + 1)) xs ≡ emit (put (sink l at) x) xs = ap (λ (y : Sink ℕ). emit y xs) (put_past l at x p) in
    (ap (λ (y : Sink ℕ). take c (list_of y)) (sym s) ∙ z.0, ap (λ (y : Sink ℕ). length (list_of y)) (sym s) ∙ z.1))

emit_over : (xs l : List ℕ) (at : ℕ) → length l < at + length xs → length l < count_of (emit (sink l at) xs)
unfolding emit
emit_over [] l at h = omega arith
emit_over (x ∷ xs) l at h = cases (ltb at (length l))
    (λ e. let p : at < length l = ltb-true at (length l) e in
    let n : length (set l at x) ≡ length l = length-set l at x in
    let z : length (set l at x) < count_of (emit (sink (set l at x) (at + 1)) xs) = emit_over xs (set l at x) (at + 1) (omega arith) in
    omega (arith, ap (λ (y : Sink ℕ). count_of (emit y xs)) (put_in l at x p)))
    (λ e. let p : length l ≤ at = ltb-false at (length l) e in
    let z : length l < count_of (emit (sink l (length l + 1)) xs) = emit_over xs l (length l + 1) (omega arith) in
    omega (arith, ap (λ (y : Sink ℕ). count_of (emit y xs)) (put_past l at x p)))

-- what fits stands behind what was there
emit_text : (l xs : List ℕ) (c : ℕ) → c + length xs ≤ length l → (text_of (emit (sink l c) xs) ≡ take c l ++ xs) × (length (list_of (emit (sink l c) xs)) ≡ length l)
emit_text l xs c h =
    let s : emit (sink l c) xs ≡ sink (written l c xs) (c + length xs) = emit_room l xs c h in
    let front : length (take c l ++ xs) ≡ c + length xs = length-append (take c l) xs ∙ ap (λ (k : ℕ). k + length xs) (length-take-le c l (omega arith)) in
    (ap text_of s ∙ take_at (take c l ++ xs) (drop (c + length xs) l) (c + length xs) front, ap (λ (y : Sink ℕ). length (list_of y)) s ∙ written_length l xs c h)

-- ---- a line printed behind fewer than 65,536 bytes, in a buffer of 589,824

-- names whose refusals fit
abbrev pub ShortName : List ℕ → Type 0
ShortName name = (number : ℕ) → length (refusal_text name number 9) ≤ 524288

pub short_name : (name : List ℕ) → length name ≤ 4096 → ShortName name
unfolding refusal_text
short_name name h number = simp length-append (omega (arith, decimal_length number))

-- xs stands behind the first c bytes of l
pub record Behind (l : List ℕ) (c : ℕ) (xs : List ℕ) (z : Sink ℕ) : Type 0 where
  pub text : text_of z ≡ take c l ++ xs
  pub size : length (list_of z) ≡ 589824

module _ (name : List ℕ) (short : ShortName name) (number : ℕ) (text l : List ℕ) (c : ℕ) (size : length l ≡ 589824) (few : c < 65536) where
  abbrev refusal : List ℕ
  refusal = refusal_text name number 9

  abbrev result : Sink ℕ
  result = fitted_of name number c (emit (sink l c) text)

  fits_in : length text ≤ 524288 → Behind l c text result
  unfolding fitted_of
  fits_in h =
      let room : c + length text ≤ length l = omega arith in
      let w : List ℕ = written l c text in
      let n : ℕ = c + length text in
      let s : emit (sink l c) text ≡ sink w n = emit_room l text c room in
      let long : length w ≡ length l = written_length l text c room in
      let a : ltb (length w) n ≡ false = le-ltb (length w) n (omega arith) in
      let b : ltb 524288 (n - c) ≡ false = le-ltb 524288 (n - c) (omega arith) in
      let r : result ≡ sink w n = ap (fitted_of name number c) s ∙ ap₂ (λ (x y : Bool). cond (x || y) (emit (sink w c) refusal) (sink w n)) a b in
      let z = emit_text l text c room in
      record { text = ap text_of (r ∙ sym s) ∙ z.0; size = ap (λ (y : Sink ℕ). length (list_of y)) (r ∙ sym s) ∙ z.1 ∙ size }

  refused_in : (z : Sink ℕ) → take c (list_of z) ≡ take c l → length (list_of z) ≡ 589824 → (ltb (length (list_of z)) (count_of z) || ltb 524288 (count_of z - c)) ≡ true → Behind l c refusal (fitted_of name number c z)
  unfolding fitted_of
  refused_in (sink m r) e n t =
      let s : fitted_of name number c (sink m r) ≡ emit (sink m c) refusal = ap (λ (x : Bool). cond x (emit (sink m c) refusal) (sink m r)) t in
      let z = emit_text m refusal c (omega (arith, short number)) in
      record { text = ap text_of s ∙ z.0 ∙ ap (λ (x : List ℕ). x ++ refusal) e; size = ap (λ (y : Sink ℕ). length (list_of y)) s ∙ z.1 ∙ n }

  or_left : (a b : Bool) → a ≡ true → (a || b) ≡ true
  or_left a b e = ap (λ (x : Bool). x || b) e

  or_right : (a b : Bool) → b ≡ true → (a || b) ≡ true
  or_right true b e = refl
  or_right false b e = e

  too_long : 524288 < length text → Behind l c refusal result
  too_long h =
      let z : Sink ℕ = emit (sink l c) text in
      let f = emit_front text l c c (omega arith) (omega arith) in
      refused_in z f.0 (f.1 ∙ size)
      (cases (leb (c + length text) (length l))
      (λ e. let room : c + length text ≤ length l = leb-true (c + length text) (length l) e in
      let n : count_of z ≡ c + length text = ap count_of (emit_room l text c room) in
      or_right (ltb (length (list_of z)) (count_of z)) (ltb 524288 (count_of z - c)) (lt-ltb 524288 (count_of z - c) (omega arith)))
      (λ e. let over : length l < count_of z = emit_over text l c (leb-false (c + length text) (length l) e) in
      or_left (ltb (length (list_of z)) (count_of z)) (ltb 524288 (count_of z - c)) (lt-ltb (length (list_of z)) (count_of z) (omega (arith, f.1)))))

  pub fitted_text : Behind l c (cond (leb (length text) 524288) text refusal) result
  fitted_text = cases (leb (length text) 524288) (λ e. rw e (fits_in (leb-true (length text) 524288 e))) (λ e. rw e (too_long (leb-false (length text) 524288 e)))
