-- UAX #29's rules by one number, the state.
use Rattle.std.specs.Prelude.{ℕ, ◌&&◌, cond, eqb}
use Rattle.text.specs.Cluster.{Context}
use Rattle.text.specs.Class.Code.{class_number}
use Rattle.text.specs.declared.rules.Before.{Before}
use Rattle.text.specs.declared.rules.Before.TheVariants.{Scalar, PictographZwj}

-- a state is the class of the scalar before, or a number that joins the same: that of other scalars after an even number of regional indicators, that
-- of Extended_Pictographic after one of these and any number of Extend, and 15 where ZWJ follows them
abbrev pub state_context : ℕ → Context
state_context p = record { odd = eqb p 10; emoji = eqb p 12; emoji_zwj = eqb p 15 }

abbrev pub state_after : ℕ → ℕ → ℕ
state_after p c = cond (eqb p 10 && eqb c 10) 11 (cond (eqb p 12 && eqb c 3) 12 (cond (eqb p 12 && eqb c 4) 15 c))

-- the state that the code holds
abbrev pub before_number : Before → ℕ
before_number (Scalar c) = class_number c
before_number PictographZwj = 15
