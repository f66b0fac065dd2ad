-- A class's number, where the class is given by a chain of `cond` in the code's order.
use Prim.Native.Nat.{ℕ}
use mathlib.Core.Path.{◌≡◌}
use mathlib.Core.Bool.{Bool, true, false, cond}
use borrow.Author.Tests.{eq-eqb, le-leb, lt-leb, ne_eqb}
use Rattle.buffer.specs.Conditions.{met}
use Rattle.text.specs.Class.{Class, number}

pub number_on_true : (b : Bool) (x y : Class) (z : ℕ) → b ≡ true → z ≡ number x → z ≡ number (cond b x y)
number_on_true b x y z p q = rw p q

pub number_on_false : (b : Bool) (x y : Class) (z : ℕ) → b ≡ false → z ≡ number y → z ≡ number (cond b x y)
number_on_false b x y z p q = rw p q

pub ruleset numbered = (number_on_false, number_on_true, met, eq-eqb, ne_eqb, le-leb, lt-leb)
