use Rattle.std.proofs.Common.{sym, length, length-take-le, refl}
use Rattle.spans.proofs.ReadCall.{convert_refuses, count_fits, line_small, read_done}
use Rattle.spans.proofs.try_read.Goals as goal

pub returns-in_err-len : goal.returns-in_err-len
returns-in_err-len c = convert_refuses c.args.line.now c.args.matches.now _ (length c.args.spans.now) _ _ c.try_convert.ensures c.try_convert.auto.conv _ c.in_err-len.was _ refl _ c.from_residual.ensures.1

pub slice_bounds-try_parse-end : goal.slice_bounds-try_parse-end
slice_bounds-try_parse-end c = count_fits c.args.line.now c.args.matches.now _ (length c.args.spans.now) _ _ c.try_convert.ensures c.try_convert.auto.conv _ c.in_ok-len.was

pub slice_bounds-try_parse-end-2 : goal.slice_bounds-try_parse-end-2
slice_bounds-try_parse-end-2 c = sym (length-take-le _ _ (count_fits c.args.line.now c.args.matches.now _ (length c.args.spans.now) _ _ c.try_convert.ensures c.try_convert.auto.conv _ c.in_ok-len.was))

pub try_parse-requires : goal.try_parse-requires
try_parse-requires c = line_small c.args.line.now c.args.matches.now _ (length c.args.spans.now) _ _ c.try_convert.ensures c.try_convert.auto.conv _ c.in_ok-len.was

pub returns : goal.returns
returns c = read_done c.args.line.now c.args.matches.now _ (length c.args.spans.now) _ _ c.try_convert.ensures c.try_convert.auto.conv _ c.in_ok-len.was _ c.try_parse.auto.spans _ c.try_parse.ensures
