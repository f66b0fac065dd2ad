use Rattle.spans.proofs.Searching.{without_none, without_some}
use Rattle.spans.proofs.search.without_newline.Goals as goal

pub returns-in-Some : goal.returns-in-Some
returns-in-Some c = without_some _ _ c.strip_suffix.ensures.cases _ c.in-Some.is _ c.strip_suffix-in-Some.ensures.cases _ c.unwrap_or.ensures

pub returns-in-None : goal.returns-in-None
returns-in-None c = without_none _ _ c.strip_suffix.ensures.cases c.in-None.is
