-- New cells in a row that is blank from a column on.
use Rattle.std.specs.Prelude.{◌≡◌, true, false, ◌&&◌, get_or, ltb}
use Rattle.std.proofs.Math.Path.{refl, sym, ap, ap₂}
use Rattle.std.proofs.Common.{◌∙◌, arith, length-drop, length-take-le, take-take, take_at, get_or-take, get_or-append-add, ltb-true, ltb-false}
use Prim.Native.Nat.{ℕ, zero, suc, ◌+◌, ◌-◌, ◌≤◌, ◌<◌}
use Rattle.std.proofs.Math.Bool.{cond}
use mathlib.Core.List.{List, [], ◌∷◌, ◌++◌, append_assoc}
use Rattle.std.proofs.Math.ListN.{length, take, drop, replicate, length-append, get_or-append}
use Rattle.std.proofs.lemmas.List.{length-replicate, take-append-le, drop-append-le}
use Rattle.std.proofs.Math.Seq.{take-nil, take-append-add, drop-append-add}
use Rattle.text.specs.Tests.{cases}
use Rattle.screen.specs.Row.{Cell, plain, blank, is_later, lost_end, lost_start, put}
use Rattle.screen.specs.Row.Contracts.{laters}
use Rattle.screen.specs.Row.Contracts.Laws.{lost_start_law, laters_le}
use Rattle.screen.specs.Screen.{larger_of}

-- ---- lists

pub drop_take : {A : Type 0} (k n : ℕ) (l : List A) → drop k (take n l) ≡ take (n - k) (drop k l)
drop_take zero n l = ap (λ (m : ℕ). take m l) (let e : n ≡ n - 0 = omega arith in e)
drop_take (suc k) zero l = ap (λ (m : ℕ). take m (drop (suc k) l)) (let e : 0 ≡ zero - suc k = omega arith in e)
drop_take (suc k) (suc n) [] = sym (take-nil (suc n - suc k))
drop_take (suc k) (suc n) (c ∷ l) = drop_take k n l ∙ ap (λ (m : ℕ). take m (drop k l)) (let e : n - k ≡ suc n - suc k = omega arith in e)

drop_blanks : (k n : ℕ) (c : Cell) → drop k (replicate n c) ≡ replicate (n - k) c
drop_blanks zero n c = ap (λ (m : ℕ). replicate m c) (let e : n ≡ n - 0 = omega arith in e)
drop_blanks (suc k) zero c = ap (λ (m : ℕ). replicate m c) (let e : 0 ≡ zero - suc k = omega arith in e)
drop_blanks (suc k) (suc n) c = drop_blanks k n c ∙ ap (λ (m : ℕ). replicate m c) (let e : n - k ≡ suc n - suc k = omega arith in e)

-- ---- a blank end is not a later cell

module _ (c : Cell) (whole : is_later c ≡ false) where
  lost_blanks : (n : ℕ) → lost_start (replicate n c) ≡ replicate n c
  unfolding lost_start
  lost_blanks zero = refl
  lost_blanks (suc n) = rw whole refl

  lost_tail : (z : List Cell) (n : ℕ) → lost_start (z ++ replicate n c) ≡ lost_start z ++ replicate n c
  unfolding lost_start
  lost_tail [] n = lost_blanks n
  lost_tail (d ∷ z) n = cases (is_later d) (λ e. rw e (ap (λ (ds : List Cell). blank plain ∷ ds) (lost_tail z n))) (λ e. rw e refl)

  no_later : (n : ℕ) → is_later (get_or (replicate n c) 0 (blank plain)) ≡ false
  no_later zero = refl
  no_later (suc n) = whole

  -- ---- the row: cells X and Y up to the column `end`, blank from there on

  module _ (X Y new : List Cell) (at w end width : ℕ) (before : length X ≡ at) (size : length new ≡ w) (near : at ≤ end) (inside : end ≤ width) (fits : at + w ≤ width) (enough : width ≤ at + length Y) where
    abbrev cells : List Cell
    cells = take end (X ++ Y) ++ replicate (width - end) c

    abbrev behind : List Cell
    behind = take (end - (at + w)) (drop w Y)

    long : length (X ++ Y) ≡ at + length Y
    long = length-append X Y ∙ ap (λ (n : ℕ). n + length Y) before

    front : take at cells ≡ X
    front =
        take-append-le at (take end (X ++ Y)) (replicate (width - end) c) (omega (arith, near, length-take-le end (X ++ Y) (omega (arith, long, inside, enough))))
        ∙ take-take at end (X ++ Y) near ∙ take_at X Y at before

    rest : drop (at + w) cells ≡ behind ++ replicate (width - larger_of end (at + w)) c
    rest = cases (ltb end (at + w)) past within
      where
        upto : length (take end (X ++ Y)) ≡ end
        upto = length-take-le end (X ++ Y) (omega (arith, long, inside, enough))

        within : ltb end (at + w) ≡ false → drop (at + w) cells ≡ behind ++ replicate (width - larger_of end (at + w)) c
        within e =
            let h : at + w ≤ end = ltb-false end (at + w) e in
            let d : drop (at + w) (X ++ Y) ≡ drop w Y = ap (λ (n : ℕ). drop (n + w) (X ++ Y)) (sym before) ∙ drop-append-add X Y w in
            drop-append-le (at + w) (take end (X ++ Y)) (replicate (width - end) c) (omega (arith, h, upto))
            ∙ ap₂ (λ (a b : List Cell). a ++ b) (drop_take (at + w) end (X ++ Y) ∙ ap (take (end - (at + w))) d) (rw e refl)

        past : ltb end (at + w) ≡ true → drop (at + w) cells ≡ behind ++ replicate (width - larger_of end (at + w)) c
        past e =
            let h : end < at + w = ltb-true end (at + w) e in
            let k : at + w ≡ length (take end (X ++ Y)) + (at + w - end) = omega (arith, upto, h) in
            let z : end - (at + w) ≡ 0 = omega (arith, h) in
            let m : width - end - (at + w - end) ≡ width - (at + w) = omega (arith, h, inside, fits) in
            ap (λ (n : ℕ). drop n cells) k ∙ drop-append-add (take end (X ++ Y)) (replicate (width - end) c) (at + w - end)
            ∙ drop_blanks (at + w - end) (width - end) c ∙ ap (λ (n : ℕ). replicate n c) m
            ∙ rw (z, e) refl

    here : is_later (get_or cells at (blank plain)) ≡ (ltb at end && is_later (get_or (X ++ Y) at (blank plain)))
    here = cases (ltb at end)
        (λ e.
        let h : at < end = ltb-true at end e in
        rw e (ap is_later (get_or-append (take end (X ++ Y)) (replicate (width - end) c) (blank plain) at (omega (arith, h, upto)) ∙ get_or-take end (X ++ Y) at (blank plain) h)))
        (λ e.
        let k : at ≡ length (take end (X ++ Y)) + 0 = omega (arith, upto, near, ltb-false at end e) in
        rw e (ap (λ (n : ℕ). is_later (get_or cells n (blank plain))) k ∙ ap is_later (get_or-append-add (take end (X ++ Y)) (replicate (width - end) c) 0 (blank plain)) ∙ no_later (width - end)))
      where
        upto : length (take end (X ++ Y)) ≡ end
        upto = length-take-le end (X ++ Y) (omega (arith, long, inside, enough))

    -- the column behind the last cell
    reach : larger_of end (at + w) ≡ (at + w) + (end - (at + w))
    reach = cases (ltb end (at + w)) (λ e. rw e (let h = ltb-true end (at + w) e in omega arith)) (λ e. rw e (let h = ltb-false end (at + w) e in omega arith))

    few : laters behind ≤ end - (at + w)
    few = omega (arith, laters_le behind, length-take-le (end - (at + w)) (drop w Y) (omega (arith, length-drop w Y, inside, enough)))

    abbrev lost : List Cell
    lost = replicate (laters behind) (blank plain)

    -- up to there, what stands behind the new cells
    cells_behind : take (end - (at + w)) (lost ++ drop (laters behind) (drop w Y)) ≡ lost ++ drop (laters behind) behind
    cells_behind =
        let n : ℕ = end - (at + w) in
        let k : n ≡ length lost + (n - laters behind) = omega (arith, few, length-replicate (laters behind) (blank plain)) in
        ap (λ (m : ℕ). take m (lost ++ drop (laters behind) (drop w Y))) k ∙ take-append-add lost (drop (laters behind) (drop w Y)) (n - laters behind)
        ∙ ap (λ (l : List Cell). lost ++ l) (sym (drop_take (laters behind) n (drop w Y)))

    pub put_cells : (X' : List Cell) → length X' ≡ at → X' ≡ cond (ltb at end && is_later (get_or (X ++ Y) at (blank plain))) (lost_end X) X
        → take (larger_of end (at + w)) (X' ++ new ++ (lost ++ drop (laters behind) (drop w Y))) ++ replicate (width - larger_of end (at + w)) c ≡ put at new cells
    unfolding put
    put_cells X' same is =
        let p : at + w ≡ length (X' ++ new) = omega (arith, length-append X' new, same, size) in
        let l : List Cell = lost ++ drop (laters behind) (drop w Y) in
        let tail : List Cell = replicate (width - larger_of end (at + w)) c in
        let f : X' ≡ cond (is_later (get_or cells at (blank plain))) (lost_end (take at cells)) (take at cells) = rw (front, here) is in
        ap (λ (s : List Cell). s ++ tail)
        (ap (λ (n : ℕ). take n (X' ++ new ++ l)) (reach ∙ ap (λ (n : ℕ). n + (end - (at + w))) p) ∙ take-append-add (X' ++ new) l (end - (at + w)) ∙ ap (λ (s : List Cell). X' ++ new ++ s) cells_behind)
        ∙ append_assoc (X' ++ new) (lost ++ drop (laters behind) behind) tail
        ∙ ap₂ (λ (a b : List Cell). a ++ new ++ b) f
        (ap (λ (s : List Cell). s ++ tail) (sym (lost_start_law behind)) ∙ sym (lost_tail behind (width - larger_of end (at + w))) ∙ ap lost_start (sym (ap (λ (n : ℕ). drop (at + n) cells) size ∙ rest)))
