use Rattle.std.proofs.Common.{refl, sym}
use Rattle.std.proofs.lemmas.Result.{err_from_is_err_and}
use Rattle.text.specs.Class.Profile01.{profile_is}
use lib.Seq.{length-take-le}
use Rattle.rows.proofs.RowsCall.{line_refused, spans_there, spans_room, five, six, accepted}
use Rattle.rows.proofs.try_answer_line.Goals as goal

pub returns-in_err-found : goal.returns-in_err-found
returns-in_err-found c =
    let p = err_from_is_err_and c.from_residual.result c.from_residual.ensures.1 in
    rw (p.1, p.2) (line_refused _ _ _ _ _ _ _ _ _ _ c.in_err-found.ensures c.read_line.auto.conv c.read_line.auto.spans _ refl)

pub returns-in_err-mode_and_width : goal.returns-in_err-mode_and_width
returns-in_err-mode_and_width c =
    let p = err_from_is_err_and c.from_residual-in_err-mode_and_width.result c.from_residual-in_err-mode_and_width.ensures.1 in
    rw (p.1, p.2, c.in_err-mode_and_width.ensures.0) (five _ _ _ _ _ _ c.in_ok-found.ensures c.read_line.auto.conv c.args.request _ c.in_err-mode_and_width.ensures.1 _ c.read_line.auto.spans refl)

pub slice_bounds-count_rows-end : goal.slice_bounds-count_rows-end
slice_bounds-count_rows-end c = spans_there _ _ _ _ _ _ c.in_ok-found.ensures

pub slice_bounds-count_rows-end-2 : goal.slice_bounds-count_rows-end-2
slice_bounds-count_rows-end-2 c = sym (length-take-le _ _ (spans_there _ _ _ _ _ _ c.in_ok-found.ensures))

pub count_rows-count-requires : goal.count_rows-count-requires
count_rows-count-requires c = rw c.line_in.ensures (spans_room _ _ _ _ _ _ c.in_ok-found.ensures)

pub returns-then-request-rows : goal.returns-then-request-rows
returns-then-request-rows c =
    let counted = rw (c.at.ensures, c.line_in.ensures, profile_is (record { version = 0 })) at c.count_rows-count.ensures in
    six _ _ _ _ _ _ c.in_ok-found.ensures c.read_line.auto.conv c.args.request _ c.in_ok-mode_and_width.ensures.1 _ _ refl c.count_rows-count.auto.rows _ counted c.if-request-rows.true c.read_line.auto.spans

pub returns : goal.returns
returns c =
    let counted = rw (c.at.ensures, c.line_in.ensures, profile_is (record { version = 0 })) at c.count_rows-count.ensures in
    rw (c.clear.ensures, c.numbers_kept.ensures)
    (accepted _ _ _ _ _ _ c.in_ok-found.ensures c.read_line.auto.conv c.args.request _ c.in_ok-mode_and_width.ensures.1 _ _ refl c.count_rows-count.auto.rows _ counted c.if-request-rows.false)
