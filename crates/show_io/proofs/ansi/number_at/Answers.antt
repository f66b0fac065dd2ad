use native.Mathlib.Omega.{arith}
use Rattle.show_io.proofs.Bodies.{number_past, number_ready}
use Rattle.show_io.proofs.ansi.number_at.Goals as goal

pub read_length-requires : goal.read_length-requires
read_length-requires c = search number_ready

pub returns : goal.returns
returns c = record { value = search number_past; upper_bound = omega arith }
