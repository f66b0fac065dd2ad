use Rattle.show_io.proofs.LineRows.{Rows}
use Rattle.show_io.proofs.lines.push_rows.Given as goal

abbrev pub invariant-loop-i : goal.invariant-loop-i
invariant-loop-i l = Rows l.name l.number l.view l.line l.initial.out l.at l.count l.out l.a l.i
