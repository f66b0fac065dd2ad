-- Units taken one after the other, each into the present row where it fits: no list of rows cut between them is shorter.
use Rattle.std.specs.Prelude.{◌≡◌, refl, ℕ, suc, ◌+◌, ◌-◌, ◌≤◌, ◌<◌, leb, ltb}
use Rattle.std.proofs.Math.Path.{subst}
use Rattle.std.proofs.Common.{arith}
use mathlib.Core.List.{List, [], ◌∷◌}
use Rattle.std.proofs.Math.ListN.{length}
use borrow.Author.Tests.{leb-true, leb-false}
use Rattle.text.specs.Tests.{cases, both}
use Rattle.text.specs.Each.{All, all_cons, all_map}
use Rattle.rows.specs.Rows.{Row, row, Wrap, wrap, unbroken, last_row, EndToEnd, last, next}
use Rattle.columns.specs.Columns.Wrapping.{total}
use Rattle.columns.specs.Fewest.{Between, front, behind}

-- ---- columns between units

-- behind the first unit
between_rest : (u : ℕ) (us : List ℕ) {c : ℕ} → u ≤ c → Between c (u ∷ us) → Between (c - u) us
between_rest u us h front = subst (λ (n : ℕ). Between n us) (let e : 0 ≡ 0 - u = omega arith in e) front
between_rest u us h (behind {c = c} b) = subst (λ (n : ℕ). Between n us) (let e : c ≡ u + c - u = omega arith in e) b

-- not inside it
between_first : {c u : ℕ} {us : List ℕ} → c < u → Between c (u ∷ us) → c ≡ 0
between_first h front = refl
between_first h (behind b) = absurd (omega arith)

-- each row ends left of column p, or between the units from there on
abbrev pub Cuts : ℕ → List ℕ → List Row → Type 0
Cuts p us rs = All (λ (r : Row). p ≤ r.end → Between (r.end - p) us) rs

cuts_rest : (p u : ℕ) (us : List ℕ) {rs : List Row} → Cuts p (u ∷ us) rs → Cuts (p + u) us rs
cuts_rest p u us cs =
    all_map (λ (r : Row) (f : p ≤ r.end → Between (r.end - p) (u ∷ us)) (h : p + u ≤ r.end).
    subst (λ (n : ℕ). Between n us) (let e : r.end - p - u ≡ r.end - (p + u) = omega arith in e) (between_rest u us (omega arith) (f (omega arith)))) cs

-- ---- rows

some_rows : {a z : ℕ} {rs : List Row} → EndToEnd a z rs → 1 ≤ length rs
some_rows (last h) = omega arith
some_rows (next h e) = omega arith

last_row_few : (s p : ℕ) (rs : List Row) → length (last_row s p rs) ≤ suc (length rs)
unfolding last_row
last_row_few s p [] = omega arith
last_row_few s p (r ∷ rs) = both (λ (x : List Row). length x ≤ suc (length (r ∷ rs))) (ltb s p) (omega arith) (omega arith)

-- the rows at the end, the last one first
abbrev pub finished : Wrap → List Row
finished t = last_row t.start t.position t.rows

module _ (width : ℕ) where
  unfoldable pub taken : Wrap → List ℕ → Wrap
  unfolding unbroken
  taken t [] = t
  taken t (u ∷ us) = taken (unbroken width t u) us

  abbrev pub Narrow : List Row → Type 0
  Narrow rs = All (λ (r : Row). r.end - r.start ≤ width) rs

  -- a unit, within the present row or in the next
  pub taking {ℓ} : (F : Wrap → Type ℓ) (rs : List Row) (s p u : ℕ) → s ≤ p → (p + u ≤ s + width → F (wrap rs s (p + u))) → (s + width < p + u → F (wrap (row s p ∷ rs) p (p + u))) → F (unbroken width (wrap rs s p) u)
  unfolding unbroken
  taking F rs s p u h f g =
      cases (leb (p + u - s) width) (λ e. rw e (f (let k = leb-true (p + u - s) width e in omega arith))) (λ e. rw e (g (let k = leb-false (p + u - s) width e in omega arith)))

  -- the unit wraps to the next row: the other list's row ends no later
  anew : (us : List ℕ) (done : List Row) (s p u a n : ℕ) {rs : List Row} → a ≤ s → p ≤ s + width → s + width < p + u → EndToEnd a (p + u + total us) rs → Cuts p (u ∷ us) rs → Narrow rs
      → ((b : ℕ) (qs : List Row) → b ≤ p → EndToEnd b (p + u + total us) qs → Cuts (p + u) us qs → Narrow qs → n ≤ suc (length done) + length qs) → n ≤ length done + length rs
  anew us done s p u a n h k m (last l) cs (all_cons w ws) go = absurd (omega arith)
  anew us done s p u a n h k m (next {b = b} {rs = qs} l e) (all_cons c cs) (all_cons w ws) go =
      let q : b ≤ p = cases (leb p b)
      (λ f. let g : p ≤ b = leb-true p b f in let z : b - p ≡ 0 = between_first (omega arith) (c g) in omega arith)
      (λ f. let g = leb-false p b f in omega arith) in
      omega (arith, go b qs q e (cuts_rest p u us cs) ws)

  -- units from column p on, the present row begun at s, and a list of rows begun no later
  pub greedy : (us : List ℕ) (done : List Row) (s p a : ℕ) {rs : List Row} → a ≤ s → s ≤ p → p ≤ s + width → All (λ (u : ℕ). u ≤ width) us → EndToEnd a (p + total us) rs → Cuts p us rs → Narrow rs
      → length (finished (taken (wrap done s p) us)) ≤ length done + length rs
  unfolding taken total
  greedy [] done s p a h k m small e cs ws = omega (arith, last_row_few s p done, some_rows e)
  greedy (u ∷ us) done s p a {rs} h k m (all_cons q small) e cs ws =
      let e' : EndToEnd a (p + u + total us) rs = subst (λ (n : ℕ). EndToEnd a n rs) (omega arith) e in
      taking (λ (t : Wrap). length (finished (taken t us)) ≤ length done + length rs) done s p u k
      (λ l. greedy us done s (p + u) a h (omega arith) l small e' (cuts_rest p u us cs) ws)
      (λ l. anew us done s p u a (length (finished (taken (wrap (row s p ∷ done) p (p + u)) us))) h m l e' cs ws
      (λ (b : ℕ) (qs : List Row) d e'' cs' ws'. greedy us (row s p ∷ done) p (p + u) b {rs = qs} d (omega arith) (omega arith) small e'' cs' ws'))
