use Rattle.cache.proofs.Uses.{rows_unlisted, rows_fit, rows_listed}
use Rattle.cache.proofs.wraps.list_rows.Goals as goal

pub returns-then-not-list : goal.returns-then-not-list
returns-then-not-list c = search rows_unlisted

pub copy-requires : goal.copy-requires
copy-requires c = search rows_fit

pub returns : goal.returns
returns c = search rows_listed
