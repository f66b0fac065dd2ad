use Rattle.std.proofs.Common.{sym}
use Rattle.std.proofs.lemmas.Result.{err_from_is_err_and}
use lib.Seq.{length-take-le}
use Rattle.rows.proofs.RowsCall.{spans_there, spans_room}
use Rattle.rows.proofs.NarrowestCall.{widths_refused, widths_five, widths_found}
use Rattle.rows.specs.Narrowest.Laws.{asked_ranges}
use Rattle.rows.proofs.narrow_line.Goals as goal

pub returns-in_err-found : goal.returns-in_err-found
returns-in_err-found c =
    let p = err_from_is_err_and c.from_residual.result c.from_residual.ensures.1 in
    rw (p.1, p.2) (widths_refused _ _ _ _ _ _ _ _ _ c.in_err-found.ensures)

pub returns-in_err-mode_rows_and_width : goal.returns-in_err-mode_rows_and_width
returns-in_err-mode_rows_and_width c =
    let p = err_from_is_err_and c.from_residual-in_err-mode_rows_and_width.result c.from_residual-in_err-mode_rows_and_width.ensures.1 in
    rw (p.1, p.2, c.in_err-mode_rows_and_width.ensures.0) (widths_five _ _ _ _ _ _ _ _ _ c.in_ok-found.ensures c.in_err-mode_rows_and_width.ensures.1)

pub slice_bounds-first_width-end : goal.slice_bounds-first_width-end
slice_bounds-first_width-end c = spans_there _ _ _ _ _ _ c.in_ok-found.ensures

pub slice_bounds-first_width-end-2 : goal.slice_bounds-first_width-end-2
slice_bounds-first_width-end-2 c = sym (length-take-le _ _ (spans_there _ _ _ _ _ _ c.in_ok-found.ensures))

pub first_width-requires-clause-room : goal.first_width-requires-clause-room
first_width-requires-clause-room c = rw c.line_in.ensures (spans_room _ _ _ _ _ _ c.in_ok-found.ensures)

pub first_width-requires-clause-few : goal.first_width-requires-clause-few
first_width-requires-clause-few c = (asked_ranges c.args.mode c.args.wanted c.args.greatest c.in_ok-mode_rows_and_width.ensures.1).2.1

pub returns : goal.returns
returns c =
    widths_found _ _ _ _ _ _ _ _ _ c.in_ok-found.ensures c.in_ok-mode_rows_and_width.ensures.1 c.read_line.auto.conv _ (rw c.line_in.ensures at c.first_width.ensures)
