-- Questions put one after the other, and what a call that was accepted or refused leaves.
use Rattle.std.specs.Prelude.{◌≡◌, ℕ, zero, suc, ◌-◌, ◌<◌, Bool, true, false, ◌&&◌, List, [], ◌∷◌, ◌++◌, length, replicate, T, leb, ltb}
use Rattle.std.proofs.Math.Path.{refl, ap}
use Rattle.std.proofs.Common.{sym, ◌∙◌, arith, ltb→lt}
use Rattle.text.specs.Tests.{and_T, cases}
use Rattle.text.specs.Each.{Each, each_append, each_length, each_same}
use Rattle.text.specs.Class.{Profile}
use Rattle.text.specs.Overstrike.{convert}
use Rattle.text.specs.Cells.{are_cells, overstruck_cells}
use Rattle.text.specs.Calls.{Converted, Question, Written, ask, convert_call, counted, decide, lent, question1, question2, write_cells_call}

-- each refusal has a number
abbrev pub numbered : List Question → Bool
numbered [] = true
numbered (q ∷ qs) = ltb 0 q.refusal && numbered qs

pub decide_nil : decide [] ≡ 0
unfolding decide
decide_nil = refl

pub decide_yes : (q : Question) (qs : List Question) → q.answer ≡ true → decide (q ∷ qs) ≡ decide qs
unfolding decide
decide_yes q qs e = rw e

pub decide_no : (q : Question) (qs : List Question) → q.answer ≡ false → decide (q ∷ qs) ≡ q.refusal
unfolding decide
decide_no q qs e = rw e

-- a question of those that all say yes, and the others
pub first_yes : (q : Question) (qs : List Question) → T (ltb 0 q.refusal) → decide (q ∷ qs) ≡ 0 → (q.answer ≡ true) × (decide qs ≡ 0)
first_yes q qs t e =
    cases q.answer
    (λ y. (y, rw (decide_yes q qs y) at e))
    (λ y. absurd (let h : 0 < q.refusal = ltb→lt _ _ t in let z : q.refusal ≡ 0 = rw (decide_no q qs y) at e in omega arith))

-- questions put before others: the first no of theirs decides, or else the others
pub decided_before : (a b : List Question) (r : ℕ) → decide a ≡ suc r → decide (a ++ b) ≡ suc r
decided_before [] b r e = absurd (omega (arith, decide_nil, e))
decided_before (q ∷ a) b r e =
    cases q.answer
    (λ y. rw (decide_yes q (a ++ b) y) (decided_before a b r (rw (decide_yes q a y) at e)))
    (λ y. rw (decide_no q (a ++ b) y) (rw (decide_no q a y) at e))

pub decided_behind : (a b : List Question) → T (numbered a) → decide a ≡ 0 → decide (a ++ b) ≡ decide b
decided_behind [] b t e = refl
decided_behind (q ∷ a) b t e =
    let w = and_T (ltb 0 q.refusal) (numbered a) t in
    let y = first_yes q a w.0 e in
    rw (decide_yes q (a ++ b) y.0) (decided_behind a b w.1 y.1)

-- ---- what is left in lent places, and the count

pub lent_accepted : {A : Type 0} (blank : A) (n : ℕ) (xs : List A) → lent blank n xs 0 ≡ xs ++ replicate (n - length xs) blank
unfolding lent
lent_accepted blank n xs = refl

pub lent_refused : {A : Type 0} (blank : A) (n : ℕ) (xs : List A) (r : ℕ) → lent blank n xs (suc r) ≡ replicate n blank
unfolding lent
lent_refused blank n xs r = refl

-- what is related element by element is left related
pub lent_each : {A : Type 0} {R : A → A → Type 0} → ((a : A) → R a a) → (blank : A) (n : ℕ) {xs ys : List A} (q r : ℕ) → q ≡ r → Each R xs ys → Each R (lent blank n xs q) (lent blank n ys r)
unfolding lent
lent_each f blank n {xs} {ys} zero zero e d = rw (sym (each_length d)) (each_append d (each_same f (replicate (n - length xs) blank)))
lent_each f blank n zero (suc r) e d = absurd (omega arith)
lent_each f blank n (suc q) zero e d = absurd (omega arith)
lent_each f blank n (suc q) (suc r) e d = each_same f (replicate n blank)

pub counted_accepted : (n : ℕ) → counted n 0 ≡ n
unfolding counted
counted_accepted n = refl

pub counted_refused : (n r : ℕ) → counted n (suc r) ≡ 0
unfolding counted
counted_refused n r = refl

-- ---- the call `convert`

module _ (P : Profile) (conv : ℕ) (line : List ℕ) where
  -- what it leaves if it decides r
  abbrev convert_by : ℕ → Converted
  convert_by r = record { number = r; count = counted (length (convert P line)) r; conv = lent 0 conv (convert P line) r }

  abbrev pub convert_questions : List Question
  convert_questions = question1 line ∷ question2 conv line ∷ []

  convert_by_law : convert_call P conv line ≡ convert_by (decide convert_questions)
  unfolding convert_call
  convert_by_law = refl

  pub convert_number : (convert_call P conv line).number ≡ decide convert_questions
  convert_number = ap (λ (c : Converted). c.number) convert_by_law

  pub convert_accepted : decide convert_questions ≡ 0 → convert_call P conv line ≡ record { number = 0; count = length (convert P line); conv = convert P line ++ replicate (conv - length (convert P line)) 0 }
  unfolding counted lent
  convert_accepted e = convert_by_law ∙ ap convert_by e

  pub convert_refused : (r : ℕ) → decide convert_questions ≡ suc r → convert_call P conv line ≡ record { number = suc r; count = 0; conv = replicate conv 0 }
  unfolding counted lent
  convert_refused r e = convert_by_law ∙ ap convert_by e

-- ---- the call `write_cells`

-- what an accepted one says
pub record WrittenAll (room : ℕ) (cells : List ℕ) : Type 0 where
  pub whole : are_cells cells ≡ true
  pub short : leb (length (overstruck_cells cells)) 4096 ≡ true
  pub count : (write_cells_call room cells).count ≡ length (overstruck_cells cells)
  pub out : (write_cells_call room cells).out ≡ overstruck_cells cells ++ replicate (room - length (overstruck_cells cells)) 0

module _ (room : ℕ) (cells : List ℕ) where
  -- what it leaves if it decides r
  abbrev written_by : ℕ → Written
  written_by r = record { number = r; count = counted (length (overstruck_cells cells)) r; out = lent 0 room (overstruck_cells cells) r }

  abbrev write_cells_questions : List Question
  write_cells_questions = ask 16 (are_cells cells) ∷ question1 (overstruck_cells cells) ∷ ask 17 (leb (length (overstruck_cells cells)) room) ∷ []

  written_by_law : write_cells_call room cells ≡ written_by (decide write_cells_questions)
  unfolding write_cells_call
  written_by_law = refl

  pub written_accepted : (write_cells_call room cells).number ≡ 0 → WrittenAll room cells
  unfolding counted lent
  written_accepted e =
      let d : decide write_cells_questions ≡ 0 = ap (λ (w : Written). w.number) (sym written_by_law) ∙ e in
      let w : write_cells_call room cells ≡ written_by 0 = written_by_law ∙ ap written_by d in
      let y = first_yes (ask 16 (are_cells cells)) _ tt d in
      record { whole = y.0; short = (first_yes (question1 (overstruck_cells cells)) _ tt y.1).0; count = ap (λ (v : Written). v.count) w; out = ap (λ (v : Written). v.out) w }
