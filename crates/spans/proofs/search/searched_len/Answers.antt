use Rattle.spans.proofs.Searching.{searched_is}
use Rattle.spans.proofs.search.searched_len.Goals as goal

pub returns : goal.returns
returns c = searched_is _ _ _ c.without_newline-text.ensures c.escapes_len.ensures
