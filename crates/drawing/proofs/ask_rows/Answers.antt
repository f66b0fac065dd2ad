use Rattle.std.proofs.lemmas.Result.{err_from_is_err_and}
use Rattle.drawing.proofs.DrawCalls.{rows_mode, rows_far, rows_fine}
use Rattle.drawing.proofs.ask_rows.Goals as goal

pub returns-in_err-mode : goal.returns-in_err-mode
returns-in_err-mode c =
    let p = err_from_is_err_and c.from_residual.result c.from_residual.ensures.1 in
    rw (p.1, p.2) (rows_mode _ _ _ _ _ c.in_err-mode.ensures.0 c.in_err-mode.ensures.1)

pub returns-then-first-count : goal.returns-then-first-count
returns-then-first-count c = rows_far _ _ _ _ c.in_ok-mode.ensures.1 c.if-first-count.true

pub returns : goal.returns
returns c = rows_fine _ _ _ _ _ c.in_ok-mode.ensures.0 c.in_ok-mode.ensures.1 c.if-first-count.false
