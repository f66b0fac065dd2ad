-- A line of n bytes has at most 2 n + 1 rows.
use Rattle.std.proofs.Common.{ap, arith}
use Rattle.std.specs.Prelude.{ℕ, ◌≤◌, List, length}
use Rattle.text.specs.Class.{Profile}
use Rattle.text.specs.Class.Ascii.{AsciiClasses}
use Rattle.text.specs.Overstrike.{convert}
use Rattle.text.specs.Overstrike.Orders.{convert_orders}
use Rattle.spans.specs.Spans.{spans}
use Rattle.rows.specs.Calls.{mode_of, Wrapped}
use Rattle.rows.specs.Calls.Laws.{rows_accepted}
use Rattle.columns.specs.Heights.{parts, RowsOfBytes, RowListSize}
use Rattle.columns.specs.Heights.Reading.{parts_few}
use Rattle.columns.specs.Heights.Wraps.{rows_of_parts}

module _ (P : Profile) (a : AsciiClasses P) where
  -- no more parts than bytes before conversion
  parts_of_bytes : (line : List ℕ) → parts (spans P (convert P line)) ≤ length line
  parts_of_bytes line = parts_few P a (convert_orders P line)

  pub rows_of_bytes : RowsOfBytes P
  rows_of_bytes width mode line = omega (arith, rows_of_parts P width mode (spans P (convert P line)), parts_of_bytes line)

  pub row_list_size : RowListSize P
  row_list_size conv places numbers width mode line fine known h =
      ap (λ (w : Wrapped). w.number) (rows_accepted P conv places line width mode numbers fine known (omega (arith, h, rows_of_bytes width (mode_of mode) line)))
