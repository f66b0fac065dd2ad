-- U13's laws, proved for any profile.
use Rattle.std.specs.Prelude.{◌≡◌, ◌⊎◌, Bool, true, false, List, [], length, eqb, leb}
use Rattle.std.proofs.Math.Path.{refl}
use Rattle.std.proofs.Common.{sym, ap, subst, inl, inr, arith, eqb-true, leb-true, leb-false}
use Prim.Native.Nat.{ℕ, zero, suc, ◌+◌, ◌≤◌, ◌<◌, max}
use Rattle.std.proofs.lemmas.Bool.{eqb-false}
use Rattle.text.specs.Tests.{cases}
use Rattle.text.specs.Class.{Profile}
use Rattle.text.specs.Width.{profile01}
use Rattle.text.specs.Overstrike.{convert}
use Rattle.spans.specs.Spans.{Span, spans}
use Rattle.spans.specs.Calls.{read_call}
use Rattle.rows.specs.Rows.{Row, Mode, grapheme_boundary, word_boundary, eight, rows}
use Rattle.rows.specs.Calls.{mode_of}
use Rattle.rows.specs.Narrowest.{first_from, tried_of, mode_rows_and_width, Narrowed, takes_at_most, narrowest, narrowest_call}
use Rattle.rows.specs.Narrowest.Laws.{asked_ranges, narrowest_refused, narrowest_five, narrowest_accepted}
use Rattle.columns.specs.Columns.{last_column}
use Rattle.columns.specs.Columns.OneRow.{one_row_law}
use Rattle.columns.specs.Narrowest.{Narrowest, NarrowestWidth, NarrowestAnswer}

-- ---- the first number that passes

-- a number that passes, none before it passing; or 0, none passing
data First (p : ℕ → Bool) (n w : ℕ) : ℕ → Type 0 where
  here : {v : ℕ} → w ≤ v → v < w + n → p v ≡ true → ((u : ℕ) → w ≤ u → u < v → p u ≡ false) → First p n w v
  nowhere : ((u : ℕ) → w ≤ u → u < w + n → p u ≡ false) → First p n w 0

module _ (p : ℕ → Bool) (n w : ℕ) (e : p w ≡ false) where
  or_later : (u : ℕ) → w ≤ u → (suc w ≤ u → p u ≡ false) → p u ≡ false
  or_later u h f = cases (eqb w u) (λ k. subst (λ (x : ℕ). p x ≡ false) (eqb-true w u k) e) (λ k. f (let d = eqb-false w u k in omega arith))

  first_later : {v : ℕ} → First p n (suc w) v → First p (suc n) w v
  first_later (here {v = v} a b c d) = here {v = v} (omega arith) (omega arith) c (λ u h k. or_later u h (λ l. d u l k))
  first_later (nowhere d) = nowhere (λ u h k. or_later u h (λ l. d u l (omega arith)))

first : (p : ℕ → Bool) (n w : ℕ) → First p n w (first_from p n w)
unfolding first_from
first p zero w = nowhere (λ u h k. absurd (omega arith))
first p (suc n) w =
    cases (p w)
    (λ e. rw e (here {v = w} (omega arith) (omega arith) e (λ u h k. absurd (omega arith))))
    (λ e. rw e (first_later p n w e (first p n (suc w))))

-- ---- the laws

module _ (P : Profile) (mode : Mode) (wanted greatest : ℕ) (ss : List Span) where
  abbrev most : ℕ
  most = max 1 (last_column P eight ss)

  passed : (w : ℕ) → takes_at_most P wanted mode ss w ≡ true → length (rows P w mode ss) ≤ wanted
  passed w e = leb-true _ _ e

  failed : (w : ℕ) → takes_at_most P wanted mode ss w ≡ false → wanted < length (rows P w mode ss)
  failed w e = leb-false _ _ e

  module _ (wide : length (rows P most mode ss) ≤ wanted) (some : 1 ≤ greatest) where
    -- where each width below n fails, n is at most the larger of 1 and the last column
    not_beyond : (n : ℕ) → ((u : ℕ) → 1 ≤ u → u < n → takes_at_most P wanted mode ss u ≡ false) → n ≤ most
    not_beyond n d = cases (leb n most) (λ t. leb-true n most t) (λ t. let k = leb-false n most t in let f = failed most (d most (omega arith) (omega arith)) in absurd (omega arith))

    tried_found : (w : ℕ) → 1 ≤ w → tried_of greatest w ≡ w
    unfolding tried_of
    tried_found zero h = absurd (omega arith)
    tried_found (suc w) h = refl

    laws : {w : ℕ} → First (takes_at_most P wanted mode ss) greatest 1 w → Narrowest P mode wanted greatest ss w
    unfolding tried_of
    laws (here {v = w} a b c d) = record {
      within = λ h. omega arith;
      enough = λ h. passed w c;
      least = λ v h k. failed v (d v h k);
      none = λ z. absurd (omega arith);
      precisely = λ f. let k = f w a (omega arith) in let l = passed w c in absurd (omega arith);
      bound = rw (tried_found w a) (not_beyond w d);
    }
    laws (nowhere d) = record {
      within = λ h. absurd (omega arith);
      enough = λ h. absurd (omega arith);
      least = λ v h k. absurd (omega arith);
      none = λ z v h k. failed v (d v h (omega arith));
      precisely = λ f. refl;
      bound = not_beyond greatest (λ u h k. d u h (omega arith));
    }

-- at the last column, or wider, there is one row
one : (P : Profile) (mode : Mode) → (mode ≡ grapheme_boundary) ⊎ (mode ≡ word_boundary) → (width : ℕ) (ss : List Span) → last_column P eight ss ≤ width → length (rows P width mode ss) ≡ 1
unfolding rows
one P mode (inl e) width ss h = rw e (ap (λ (l : List Row). length l) (one_row_law width P eight false ss h))
one P mode (inr e) width ss h = rw e (ap (λ (l : List Row). length l) (one_row_law width P eight true ss h))

pub narrowest_width : (P : Profile) → NarrowestWidth P
unfolding narrowest
narrowest_width P mode m wanted greatest h k ss =
    let e = one P mode m (most P mode wanted greatest ss) ss (omega arith) in laws P mode wanted greatest ss (omega arith) k (first (takes_at_most P wanted mode ss) greatest 1)

-- ---- of an accepted call

mode_wraps : (mode : ℕ) → 1 ≤ mode → mode ≤ 2 → (mode_of mode ≡ grapheme_boundary) ⊎ (mode_of mode ≡ word_boundary)
unfolding mode_of
mode_wraps zero h k = absurd (omega arith)
mode_wraps (suc zero) h k = inl refl
mode_wraps (suc (suc zero)) h k = inr refl
mode_wraps (suc (suc (suc n))) h k = absurd (omega arith)

module _ (P : Profile) (conv places mode wanted greatest : ℕ) (line : List ℕ) where
  abbrev call : Narrowed
  call = narrowest_call P conv places mode wanted greatest line

  abbrev ss : List Span
  ss = spans P (convert P line)

  abbrev Said : Narrowed → Type 0
  Said c = Narrowest P (mode_of mode) wanted greatest ss c.count × (c.tried ≡ tried_of greatest c.count)

  asked : mode_rows_and_width mode wanted greatest ≡ true → Narrowest P (mode_of mode) wanted greatest ss (narrowest P (mode_of mode) wanted greatest ss)
  asked e =
      let r = asked_ranges mode wanted greatest e in
      narrowest_width P (mode_of mode) (mode_wraps mode r.0.0 r.0.1) wanted greatest r.1.0 r.2.0 ss

  said : (n : ℕ) → (read_call P conv places [] line).number ≡ n → call.number ≡ 0 → Said call
  said (suc r) e z = absurd (let k = ap (λ (c : Narrowed). c.number) (narrowest_refused P conv places mode wanted greatest line r e) in omega arith)
  said zero e z =
      cases (mode_rows_and_width mode wanted greatest)
      (λ a. subst Said (sym (narrowest_accepted P conv places mode wanted greatest line e a)) (asked a, refl))
      (λ a. absurd (let k = ap (λ (c : Narrowed). c.number) (narrowest_five P conv places mode wanted greatest line e a) in omega arith))

pub narrowest_answer : (P : Profile) → NarrowestAnswer P
narrowest_answer P conv places mode wanted greatest line z = said P conv places mode wanted greatest line (read_call P conv places [] line).number refl z

pub narrowest_answer01 : NarrowestAnswer profile01
narrowest_answer01 = narrowest_answer profile01
