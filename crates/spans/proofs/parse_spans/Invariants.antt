use Rattle.std.proofs.Common.{◌≡◌, ◌++◌, ◌≤◌, length, take}
use Rattle.spans.specs.Segments.{IsReady, records_left}
use Rattle.spans.proofs.parse_spans.Given as goal

abbrev pub invariant-loop-span : goal.invariant-loop-span
invariant-loop-span l = record {
  ready : IsReady l.records;
  same : take l.count l.spans ++ records_left l.records ≡ records_left l.initial.records;
  fits : l.count ≤ length l.spans;
}

abbrev pub decreases-loop-span : goal.decreases-loop-span
decreases-loop-span l = length (records_left l.records)
