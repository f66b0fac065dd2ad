use Rattle.std.proofs.Common.{rules}
use Rattle.show_io.proofs.Pieces.{piece_ends, piece_goes_on}
use mathlib.Core.Path.{sym}
use lib.Seq.{length-take-le}
use Rattle.show_io.proofs.input.with_piece.Goals as goal

pub slice_bounds-push_line-end-then-is_end : goal.slice_bounds-push_line-end-then-is_end
slice_bounds-push_line-end-then-is_end c = sym (length-take-le _ _ (search rules))

pub returns-then-is_end : goal.returns-then-is_end
returns-then-is_end c = search piece_ends

pub returns : goal.returns
returns c = search piece_goes_on
