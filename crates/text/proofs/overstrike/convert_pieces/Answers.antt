use Rattle.std.proofs.Common.{rules}
use native.Mathlib.Omega.{arith}
use Rattle.text.proofs.Converting.{pieces_begin, pieces_end, pieces_ready, pieces_turn}
use Rattle.text.proofs.overstrike.convert_pieces.Goals as goal

pub loop-done-init : goal.loop-done-init
loop-done-init c = (search pieces_begin, search rules)

pub convert_piece-done-requires : goal.convert_piece-done-requires
convert_piece-done-requires c = search pieces_ready

pub loop-done-smaller : goal.loop-done-smaller
loop-done-smaller c = omega (arith, c.before.before.convert_piece-done.ensures.further, c.before.before.convert_piece-done.ensures.within)

pub loop-done-preserved : goal.loop-done-preserved
loop-done-preserved c = (search pieces_turn, search rules)

pub returns : goal.returns
returns c = search pieces_end
