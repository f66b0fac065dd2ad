use native.Mathlib.Omega.{arith}
use mathlib.Core.List.{[]}
use Rattle.text.proofs.Converting.{piece_damaged, piece_end, piece_run}
use Rattle.text.proofs.overstrike.convert_piece.Goals as goal

pub returns-then-is_none : goal.returns-then-is_none
returns-then-is_none c = search piece_damaged

pub overflow_add-result-2 : goal.overflow_add-result-2
overflow_add-result-2 c = omega (arith, piece_end c.args.line.now c.args.out.now c.args.done c.requires _ c.convert_unicode_span-run.new.out [] c.convert_unicode_span-run.result c.convert_unicode_span-run.auto.out c.convert_unicode_span-run.ensures)

pub returns : goal.returns
returns c = search piece_run
