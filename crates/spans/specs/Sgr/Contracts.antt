-- What the contracts of src/sgr.rt say beyond the definitions.
use Rattle.std.specs.Prelude.{◌≡◌, ℕ, suc, ◌+◌, ◌-◌, ◌*◌, ◌%◌, ◌≤◌, Bool, true, false, cond, List, [], ◌∷◌, length, drop, eqb, leb, Option, Some, None, MatchOption}
use Rattle.std.proofs.Math.Path.{refl}
use Rattle.std.proofs.Common.{arith}
use Rattle.std.proofs.lemmas.Option.{none-some}
use Rattle.text.specs.Tests.{cases}
use Rattle.spans.specs.Sgr.{digit, parameters, allowed, Known, eight, meaning_after, orders_from, orders}
use Rattle.spans.specs.Sequence.{leading, parameter_byte}
use Rattle.spans.specs.declared.sgr.Color.TheVariants.{Palette}
use Rattle.spans.specs.declared.sgr.Sgr.{Sgr}
use Rattle.spans.specs.declared.sgr.Sgr.TheVariants.{Foreground, Background}
use Rattle.spans.specs.declared.sgr.Scan.{Scan}
use Rattle.spans.specs.declared.sgr.ColorState.{ColorState}
use Rattle.spans.specs.declared.sgr.ColorState.TheVariants.{Ready}
use Rattle.spans.specs.declared.sgr.Meaning.{Meaning}
use Rattle.spans.specs.declared.sgr.Meaning.TheVariants as meaning
use Rattle.spans.specs.declared.sgr.Parameters.{Parameters}
use Rattle.spans.specs.declared.sgr.Orders.{Orders}

-- ---- parameters

-- one digit more; a number that has passed 65,535 stays where it is
unfoldable pub more : ℕ → ℕ → ℕ
more v b = cond (leb v 65535) (v * 10 + b % 16) v

-- `parameters`, of numbers that stay where they have passed 65,535
unfoldable pub numbers : ℕ → List ℕ → List ℕ
unfolding more
numbers v [] = v ∷ []
numbers v (b ∷ s) =
    let same : List ℕ = numbers (more v b) s in
    let next : List ℕ = v ∷ numbers 0 s in
    cond (digit b) same (cond (eqb b 0x3B) next (v ∷ []))

-- the parameters that the bytes begin with
pub record Scanned (s : List ℕ) (r : Scan) : Type 0 where
  pub len : r.len ≡ leading parameter_byte s
  pub fine : r.fine ≡ allowed (parameters 0 s)
  pub low : r.len ≤ length s

-- ---- what the parameters say

-- the rows of eight colours each
unfoldable pub eights : List Known
eights = eight 30 (λ k. Foreground (Palette k)) ∷ eight 40 (λ k. Background (Palette k)) ∷ eight 90 (λ k. Foreground (Palette (8 + k))) ∷ eight 100 (λ k. Background (Palette (8 + k))) ∷ []

-- ---- parameters and orders one after the other

-- where a reading stands: the bytes from that place on, and whether a parameter begins there
pub record Stand : Type 0 where
  pub rest : List ℕ
  pub further : Bool

-- a parameter begins there
abbrev pub beginning : List ℕ → Stand
beginning s = record { rest = s; further = true }

-- the last parameter ends there
abbrev pub ending : List ℕ → Stand
ending s = record { rest = s; further = false }

abbrev pub stand_of : Parameters → Stand
stand_of p = record { rest = p.rest.now; further = p.further }

abbrev pub stand : Orders → Stand
stand o = stand_of o.parameters

-- the number of a parameter, of which v was read, and where the reading stands after it
unfoldable pub number_from : (v : ℕ) → List ℕ → ℕ × Stand
unfolding more
number_from v [] = (v, ending [])
number_from v (b ∷ s) =
    let same : ℕ × Stand = number_from (more v b) s in
    let next : ℕ × Stand = (v, beginning s) in
    cond (digit b) same (cond (eqb b 0x3B) next (v, ending (b ∷ s)))

unfoldable pub next_number : Stand → Option (ℕ × Stand)
unfolding number_from
next_number c = cond c.further (Some (number_from 0 c.rest)) None

-- the next number, and where the reading stands after it; or none, and it stands where it stood
abbrev pub GivesNumber : Parameters → Option ℕ → Parameters → Type 0
GivesNumber p r q = MatchOption r ((next_number (stand_of p) ≡ None) × (stand_of q ≡ stand_of p)) (λ n. next_number (stand_of p) ≡ Some (n, stand_of q))

-- the numbers that a reading of parameters has before it
abbrev pub numbers_at : Stand → List ℕ
numbers_at c = cond c.further (numbers 0 c.rest) []

abbrev pub numbers_left : Parameters → List ℕ
numbers_left p = numbers_at (stand_of p)

-- the orders that a reading of orders has before it
abbrev pub orders_left : Orders → List Sgr
orders_left o = orders_from Ready (numbers_left o.parameters)

-- the orders that the bytes from a place on give
abbrev pub orders_at : List ℕ → ℕ → List Sgr
orders_at s at = orders (parameters 0 (drop at s))

-- the orders that `next_order` gives: the first, and those that the reading after it has
abbrev pub orders_of : Option (Sgr × Orders) → List Sgr
orders_of None = []
orders_of (Some x) = x.0 ∷ orders_left x.1

-- what a parameter says: an order, after which the reading stands at c; a part of a group, and the reading goes on; or nothing known
unfoldable pub onward : Meaning → Stand → (ColorState → Option (Sgr × Stand)) → Option (Sgr × Stand)
onward (meaning.Order o) c go = Some (o, c)
onward (meaning.Group w) c go = go w
onward meaning.Unknown c go = None

-- the reading of the bytes, where w waits and v was read of a parameter
unfoldable pub next_from : ColorState → (v : ℕ) → List ℕ → Option (Sgr × Stand)
unfolding onward meaning_after more
next_from w v [] = onward (meaning_after w v) (ending []) (λ x. None)
next_from w v (b ∷ s) =
    let same : Option (Sgr × Stand) = next_from w (more v b) s in
    let next : Option (Sgr × Stand) = onward (meaning_after w v) (beginning s) (λ x. next_from x 0 s) in
    cond (digit b) same (cond (eqb b 0x3B) next (onward (meaning_after w v) (ending (b ∷ s)) (λ x. None)))

-- the next order, and where the reading stands after it
unfoldable pub next_order : Stand → Option (Sgr × Stand)
unfolding next_from
next_order c = cond c.further (next_from Ready 0 c.rest) None

-- an order, and where the reading after it stands
abbrev pub next_of : Option (Sgr × Orders) → Option (Sgr × Stand)
next_of None = None
next_of (Some x) = Some (x.0, stand x.1)

-- ---- the bytes left after an order are those of the bytes before it from a place on

-- t is what stands in s from a place on
pub record EndsWith (s t : List ℕ) : Type 0 where
  pub few : length t ≤ length s
  pub same : drop (length s - length t) s ≡ t

ends_all : (s : List ℕ) → EndsWith s s
ends_all s = let e : length s - length s ≡ 0 = omega arith in record { few = omega arith; same = rw e refl }

ends_more : (b : ℕ) (s t : List ℕ) → EndsWith s t → EndsWith (b ∷ s) t
ends_more b s t e = let i : suc (length s) - length t ≡ suc (length s - length t) = omega (arith, e.few) in record { few = omega (arith, e.few); same = rw i e.same }

abbrev Inside : List ℕ → Option (Sgr × Stand) → Type 0
Inside s r = MatchOption r (Unit {0}) (λ x. EndsWith s x.1.rest)

inside_more : (b : ℕ) (s : List ℕ) (r : Option (Sgr × Stand)) → Inside s r → Inside (b ∷ s) r
inside_more b s None e = tt
inside_more b s (Some x) e = ends_more b s x.1.rest e

inside_onward : (s : List ℕ) (t : Meaning) (c : Stand) (go : ColorState → Option (Sgr × Stand)) → EndsWith s c.rest → ((x : ColorState) → Inside s (go x)) → Inside s (onward t c go)
unfolding onward
inside_onward s (meaning.Order o) c go e h = e
inside_onward s (meaning.Group w) c go e h = h w
inside_onward s meaning.Unknown c go e h = tt

inside_from : (s : List ℕ) (w : ColorState) (v : ℕ) → Inside s (next_from w v s)
unfolding next_from
inside_from [] = λ w v. inside_onward [] (meaning_after w v) (ending []) (λ x. None) (ends_all []) (λ x. tt)
inside_from (b ∷ s) = λ w v.
    cases (digit b)
    (λ d. rw d (inside_more b s (next_from w (more v b) s) (inside_from s w (more v b))))
    (λ d. cases (eqb b 0x3B)
    (λ n. rw (d, n) (inside_onward (b ∷ s) (meaning_after w v) (beginning s) (λ x. next_from x 0 s) (ends_more b s s (ends_all s)) (λ x. inside_more b s (next_from x 0 s) (inside_from s x 0))))
    (λ n. rw (d, n) (inside_onward (b ∷ s) (meaning_after w v) (ending (b ∷ s)) (λ x. None) (ends_all (b ∷ s)) (λ x. tt))))

pub next_inside : (c : Stand) (o : Sgr) (d : Stand) → next_order c ≡ Some (o, d) → EndsWith c.rest d.rest
unfolding next_order
next_inside c o d e =
    cases c.further
    (λ f. found (next_from Ready 0 c.rest) (rw f at e) (inside_from c.rest Ready 0))
    (λ f. absurd (none-some (o, d) (rw f at e)))
  where
    found : (r : Option (Sgr × Stand)) → r ≡ Some (o, d) → Inside c.rest r → EndsWith c.rest d.rest
    found r h k = rw h at k
