use Rattle.std.proofs.Common.{refl, sym}
use Rattle.std.proofs.lemmas.Result.{err_from_is_err_and}
use lib.Seq.{length-take-le}
use Rattle.drawing.proofs.DrawCalls.{reader_low, unknown, unread, spans_there, draw_room, not_asked, eight, nine, accepted}
use Rattle.drawing.proofs.try_draw.Goals as goal

pub returns-in_err-reader : goal.returns-in_err-reader
returns-in_err-reader c =
    let p = err_from_is_err_and c.from_residual.result c.from_residual.ensures.1 in
    rw (p.1, p.2, c.in_err-reader.ensures.0) (unknown _ _ _ _ _ _ _ _ _ _ _ refl refl refl c.in_err-reader.ensures.1)

pub returns-in_err-found : goal.returns-in_err-found
returns-in_err-found c =
    let p = err_from_is_err_and c.from_residual-in_err-found.result c.from_residual-in_err-found.ensures.1 in
    rw (p.1, p.2) (unread _ _ _ _ _ _ _ _ _ _ _ c.read_line.auto.conv c.read_line.auto.spans refl (reader_low _ _ c.in_ok-reader.ensures) _ _ _ c.in_err-found.ensures)

pub slice_bounds-draw-end : goal.slice_bounds-draw-end
slice_bounds-draw-end c = spans_there _ _ _ _ _ _ _ c.in_ok-found.ensures

pub slice_bounds-draw-end-2 : goal.slice_bounds-draw-end-2
slice_bounds-draw-end-2 c = sym (length-take-le _ _ (spans_there _ _ _ _ _ _ _ c.in_ok-found.ensures))

pub draw-requires : goal.draw-requires
draw-requires c = rw c.line_in.ensures (draw_room _ _ _ _ _ _ _ c.in_ok-found.ensures c.read_line.auto.conv)

pub returns-in_err-drawn : goal.returns-in_err-drawn
returns-in_err-drawn c =
    let p = err_from_is_err_and c.from_residual-in_err-drawn.result c.from_residual-in_err-drawn.ensures.1 in
    rw (p.1, p.2) (not_asked _ _ _ _ _ _ _ c.in_ok-found.ensures c.read_line.auto.conv _ _ _ _ (reader_low _ _ c.in_ok-reader.ensures) c.read_line.auto.spans _ c.in_err-drawn.ensures _ c.draw.auto.list)

pub returns-then-drawn : goal.returns-then-drawn
returns-then-drawn c =
    let drew = rw (c.in_ok-reader.ensures, c.line_in.ensures) at c.in_ok-drawn.ensures.1 in
    eight _ _ _ _ _ _ _ c.in_ok-found.ensures c.read_line.auto.conv _ _ _ _ (reader_low _ _ c.in_ok-reader.ensures) c.read_line.auto.spans c.in_ok-drawn.ensures.0 _ _ _ drew refl c.draw.auto.list c.if-drawn.true

pub returns-then-list-drawn : goal.returns-then-list-drawn
returns-then-list-drawn c =
    let drew = rw (c.in_ok-reader.ensures, c.line_in.ensures) at c.in_ok-drawn.ensures.1 in
    nine _ _ _ _ _ _ _ c.in_ok-found.ensures c.read_line.auto.conv _ _ _ _ (reader_low _ _ c.in_ok-reader.ensures) c.read_line.auto.spans c.in_ok-drawn.ensures.0 _ _ _ drew refl c.draw.auto.list c.if-drawn.false c.if-list-drawn.true

pub returns : goal.returns
returns c =
    let drew = rw (c.in_ok-reader.ensures, c.line_in.ensures) at c.in_ok-drawn.ensures.1 in
    accepted _ _ _ _ _ _ _ c.in_ok-found.ensures c.read_line.auto.conv _ _ _ _ (reader_low _ _ c.in_ok-reader.ensures) c.read_line.auto.spans c.in_ok-drawn.ensures.0 _ _ _ drew refl c.draw.auto.list c.if-drawn.false c.if-list-drawn.false _ c.clear.ensures
