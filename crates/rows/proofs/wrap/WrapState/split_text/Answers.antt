use Rattle.rows.proofs.WrappedTexts.{text_words, text_clusters}
use Rattle.rows.proofs.wrap.WrapState.split_text.Goals as goal

pub returns-then-breaks_words : goal.returns-then-breaks_words
returns-then-breaks_words c = search text_words

pub returns : goal.returns
returns c = search text_clusters
