-- Parts read one after the other are read as the whole: a line that the end of a part cuts is put together again.
use Rattle.std.specs.Prelude.{◌≡◌, false, length, take, get_or, eqb, leb}
use Rattle.std.proofs.Math.Path.{refl, ap, ap₂}
use Rattle.std.proofs.Common.{sym, ◌∙◌, arith, length-append, take_all, length-take-le, leb-true, leb-false}
use Prim.Native.Nat.{ℕ, suc, ◌+◌, ◌-◌, ◌≤◌, ◌<◌}
use Rattle.std.proofs.Math.Bool.{Bool, cond}
use mathlib.Core.List.{List, [], ◌∷◌, ◌++◌, append-nil, append_assoc}
use Rattle.std.proofs.lemmas.List.{take-append-le}
use Rattle.std.proofs.Math.Seq.{take-append-add}
use Rattle.text.specs.Tests.{cases}
use Rattle.show_io.specs.declared.lines.View.{View}
use Rattle.show_io.specs.Input.{join_first, pieces, is_end, State, state, next_number, with_line, begun, with_piece}

-- ---- pieces in turn, whatever is made of one

module _ (R : Type 0) (step : R → List ℕ → R) where
  unfoldable pub each : R → List (List ℕ) → R
  each r [] = r
  each r (p ∷ ps) = each (step r p) ps

  pub each_none : (r : R) → each r [] ≡ r
  unfolding each
  each_none r = refl

  pub each_more : (r : R) (p : List ℕ) (ps : List (List ℕ)) → each r (p ∷ ps) ≡ each (step r p) ps
  unfolding each
  each_more r p ps = refl

  -- a byte that is no newline may be read by itself
  module _ (joins : (r : R) (b : ℕ) (p : List ℕ) → eqb b 0x0A ≡ false → step (step r (b ∷ [])) p ≡ step r (b ∷ p)) where
    joined : (r : R) (b : ℕ) (ps : List (List ℕ)) → eqb b 0x0A ≡ false → each r (join_first b ps) ≡ each (step r (b ∷ [])) ps
    unfolding each join_first
    joined r b [] e = refl
    joined r b (p ∷ ps) e = ap (λ (x : R). each x ps) (sym (joins r b p e))

    first_byte : (r : R) (b : ℕ) (s : List ℕ) → each r (pieces (b ∷ s)) ≡ each (step r (b ∷ [])) (pieces s)
    unfolding each pieces
    first_byte r b s = cases (eqb b 0x0A)
        (λ e. ap (λ (x : Bool). each r (cond x ((b ∷ []) ∷ pieces s) (join_first b (pieces s)))) e)
        (λ e. ap (λ (x : Bool). each r (cond x ((b ∷ []) ∷ pieces s) (join_first b (pieces s)))) e ∙ joined r b (pieces s) e)

    pub in_parts : (s t : List ℕ) (r : R) → each r (pieces (s ++ t)) ≡ each (each r (pieces s)) (pieces t)
    unfolding each pieces
    in_parts [] t r = refl
    in_parts (b ∷ s) t r = first_byte r b (s ++ t) ∙ in_parts s t (step r (b ∷ [])) ∙ ap (λ (x : R). each x (pieces t)) (sym (first_byte r b s))

-- ---- a line kept as far as there is room

pub end_joined : (b : ℕ) (p : List ℕ) → eqb b 0x0A ≡ false → is_end (b ∷ p) ≡ is_end p
end_joined b [] e = e
end_joined b (c ∷ p) e =
    ap (λ (i : ℕ). eqb (get_or (b ∷ c ∷ p) i 0) 0x0A) (let f : suc (suc (length p)) - 1 ≡ suc (length p) = omega arith in f)
    ∙ sym (ap (λ (i : ℕ). eqb (get_or (c ∷ p) i 0) 0x0A) (let f : suc (length p) - 1 ≡ length p = omega arith in f))

module _ (name : List ℕ) (view : View) (room : ℕ) where
  abbrev kept : List ℕ → List ℕ → List ℕ
  kept line p = begun name view room line p

  pub begun_twice : (line p q : List ℕ) → kept (kept line p) q ≡ kept line (p ++ q)
  begun_twice line p q =
      let k : ℕ = room - length line in
      let n : ℕ = room - length (line ++ take k p) in
      append_assoc line (take k p) (take n q)
      ∙ ap (λ (x : List ℕ). line ++ x)
      (cases (leb (length p) k)
      (λ e. let h : length p ≤ k = leb-true (length p) k e in
      let all : take k p ≡ p = take_all k p h in
      let left : n ≡ k - length p = omega (arith, ap length all, length-append line (take k p)) in
      ap₂ (λ (x : List ℕ) (i : ℕ). x ++ take i q) all left
      ∙ sym (ap (λ (i : ℕ). take i (p ++ q)) (let f : k ≡ length p + (k - length p) = omega arith in f) ∙ take-append-add p q (k - length p)))
      (λ e. let h : k < length p = leb-false (length p) k e in
      let none : n ≡ 0 = omega (arith, length-take-le k p (omega arith), length-append line (take k p)) in
      ap (λ (i : ℕ). take k p ++ take i q) none ∙ append-nil (take k p) ∙ sym (take-append-le k p q (omega arith))))

  -- two pieces of a line, of which the first has no newline at its end, are read as one
  pub piece_twice : (t : State) (p q : List ℕ) → is_end p ≡ false → is_end (p ++ q) ≡ is_end q → with_piece name view room (with_piece name view room t p) q ≡ with_piece name view room t (p ++ q)
  unfolding with_piece
  piece_twice t p q e f =
      let at : Bool → List ℕ → State = λ x l. cond x (state (next_number t.number) [] (with_line name view t l)) (state t.number l t.printed) in
      ap (λ (x : Bool). with_piece name view room (at x (kept t.line p)) q) e ∙ ap₂ at (sym f) (begun_twice t.line p q)

  abbrev read_pieces : State → List (List ℕ) → State
  read_pieces t ps = each State (with_piece name view room) t ps

  -- what is read of two parts, one after the other, is what is read of both at once
  pub parts_read : (s s' : List ℕ) (t : State) → read_pieces t (pieces (s ++ s')) ≡ read_pieces (read_pieces t (pieces s)) (pieces s')
  parts_read s s' t = in_parts State (with_piece name view room) (λ r b p e. piece_twice r (b ∷ []) p e (end_joined b p e)) s s' t
