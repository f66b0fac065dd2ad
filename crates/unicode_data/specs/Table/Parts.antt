-- A table in parts: each is a table of its own, and a scalar is looked up in the last part whose first scalar is not above it.
use Rattle.std.specs.Prelude.{ℕ, zero, suc, ◌≤◌, ◌<◌, ◌≡◌, refl, Bool, true, false, cond, ◌&&◌, List, [], ◌∷◌, ◌++◌, map, T, ltb, get_or}
use Rattle.std.proofs.Common.{arith, sym, ap, ◌∙◌, lt-ltb, le-ltb, ltb-true, ltb-false}
use Rattle.std.proofs.Math.ListN.{get_or-map}
use Rattle.unicode_data.specs.Table.{Row, row_of, kind_of, kind_in, ascending, ascending_from, joined}
use Rattle.unicode_data.specs.Table.Laws.{and_T, cases, first, first_back, skip, keep}

-- its first scalar
unfoldable pub begins : List Row → ℕ
begins [] = 0
begins (r ∷ t) = r.low

-- each has a row
unfoldable pub filled : List (List Row) → Bool
filled [] = true
filled ([] ∷ ts) = false
filled ((r ∷ t) ∷ ts) = filled ts

-- what the part says that the tests of the code choose
unfoldable pub chosen : List (List Row) → ℕ → ℕ
unfolding begins row_of
chosen [] x = kind_in [] x
chosen (t ∷ []) x = kind_in t x
chosen (t ∷ u ∷ us) x = let later : ℕ = chosen (u ∷ us) x in cond (ltb x (begins u)) (kind_in t x) later

front_from : (p q : List Row) (b : ℕ) → T (ascending_from b (p ++ q)) → T (ascending_from b p)
unfolding ascending_from
front_from [] q b a = tt
front_from (r ∷ p) q b a =
    let f = first b r (p ++ q) a in
    first_back b r p (record { from = f.from; rises = f.rises; rest = front_from p q (suc r.high) f.rest })

weaker : (t : List Row) (b : ℕ) → T (ascending_from b t) → T (ascending t)
unfolding ascending ascending_from
weaker [] b a = tt
weaker (r ∷ t) b a = let f = first b r t a in first_back 0 r t (record { from = omega arith; rises = f.rises; rest = f.rest })

rest_of : (p q : List Row) (b : ℕ) → T (ascending_from b (p ++ q)) → T (ascending q)
rest_of [] q b a = weaker q b a
rest_of (r ∷ p) q b a = rest_of p q (suc r.high) (first b r (p ++ q) a).rest

module _ (p q : List Row) (a : T (ascending (p ++ q))) where
  front : T (ascending p)
  unfolding ascending
  front = front_from p q 0 a

  rest : T (ascending q)
  unfolding ascending
  rest = rest_of p q 0 a

part_ascends : (ts : List (List Row)) (k : ℕ) → T (ascending (joined ts)) → T (ascending (get_or ts k []))
unfolding joined ascending ascending_from
part_ascends [] k a = tt
part_ascends (t ∷ ts) zero a = front t (joined ts) a
part_ascends (t ∷ ts) (suc k) a = part_ascends ts k (rest t (joined ts) a)

append_none : (t : List Row) → t ++ [] ≡ t
append_none [] = refl
append_none (r ∷ t) = ap (λ (u : List Row). r ∷ u) (append_none t)

chosen_is : (ts : List (List Row)) (x : ℕ) → T (ascending (joined ts)) → T (filled ts) → chosen ts x ≡ kind_in (joined ts) x
unfolding joined filled chosen begins
chosen_is [] x a n = refl
chosen_is (t ∷ []) x a n = ap (λ (u : List Row). kind_in u x) (sym (append_none t))
chosen_is ([] ∷ u ∷ us) x a n = absurd n
chosen_is ((q ∷ t) ∷ [] ∷ us) x a n = absurd n
chosen_is ((q ∷ t) ∷ (r ∷ u) ∷ us) x a n =
    cases (ltb x r.low)
    (λ e. rw e (ap kind_of (sym (keep r (u ++ joined us) (q ∷ t) x a (ltb-true x r.low e)))))
    (λ e.
    rw e
    (chosen_is ((r ∷ u) ∷ us) x (rest (q ∷ t) (r ∷ u ++ joined us) a) n
    ∙ ap kind_of (sym (skip r (u ++ joined us) (q ∷ t) x a (ltb-false x r.low e)))))

-- what the code's tests say of it
module _ (t u : List Row) (us : List (List Row)) (x z : ℕ) where
  pub choose_first : x < begins u → z ≡ kind_in t x → z ≡ chosen (t ∷ u ∷ us) x
  unfolding chosen
  choose_first h e = rw (lt-ltb x (begins u) h) e

  pub choose_later : begins u ≤ x → z ≡ chosen (u ∷ us) x → z ≡ chosen (t ∷ u ∷ us) x
  unfolding chosen
  choose_later h e = rw (le-ltb x (begins u) h) e

pub choose_last : (t : List Row) (x z : ℕ) → z ≡ kind_in t x → z ≡ chosen (t ∷ []) x
unfolding chosen
choose_last t x z e = e

pub ruleset choice = (choose_first, choose_later, choose_last)

-- ---- parts in groups, each group a table of its own

unfoldable pub filled_groups : List (List (List Row)) → Bool
unfolding filled
filled_groups [] = true
filled_groups (g ∷ gs) = filled g && filled_groups gs

filled_at : (gs : List (List (List Row))) (g : ℕ) → T (filled_groups gs) → T (filled (get_or gs g []))
unfolding filled_groups filled
filled_at [] g f = tt
filled_at (ts ∷ gs) zero f = (and_T (filled ts) (filled_groups gs) f).0
filled_at (ts ∷ gs) (suc g) f = filled_at gs g (and_T (filled ts) (filled_groups gs) f).1

module _ (gs : List (List (List Row))) (a : T (ascending (joined (map joined gs)))) where
  group_ascends : (g : ℕ) → T (ascending (joined (get_or gs g [])))
  unfolding joined
  group_ascends g = rw (← get_or-map joined gs g []) (part_ascends (map joined gs) g a)

  pub ascends_in : (g k : ℕ) → T (ascending (get_or (get_or gs g []) k []))
  ascends_in g k = part_ascends (get_or gs g []) k (group_ascends g)

  pub in_group : T (filled_groups gs) → (g x z : ℕ) → z ≡ chosen (get_or gs g []) x → z ≡ kind_in (joined (get_or gs g [])) x
  in_group f g x z e = e ∙ chosen_is (get_or gs g []) x (group_ascends g) (filled_at gs g f)

  pub in_groups : T (filled (map joined gs)) → (x z : ℕ) → z ≡ chosen (map joined gs) x → z ≡ kind_in (joined (map joined gs)) x
  in_groups f x z e = e ∙ chosen_is (map joined gs) x a f
