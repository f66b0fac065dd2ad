use Rattle.unicode_io.specs.Grammar.{entry}
use Rattle.unicode_io.specs.Reading.Laws.{entry_filled}
use Rattle.unicode_io.proofs.reading.fill_entry.Goals as goal

pub returns : goal.returns
returns c = entry_filled _ (entry _ _ _) _ _ _ _ _ _ c.property.ensures c.bit_of-bit.ensures c.value.ensures c.fill_range.ensures
