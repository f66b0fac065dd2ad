use Rattle.rows.specs.Widths.{fits_at}
use Rattle.rows.proofs.TriedWidths.{Trying}
use Rattle.rows.proofs.widths.first_width.Given as goal

abbrev pub invariant-loop-width : goal.invariant-loop-width
invariant-loop-width l = Trying (fits_at l.mode l.wanted l.line l.spans) l.greatest l.width
