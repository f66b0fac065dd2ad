use Rattle.rows.proofs.WrappedTexts.{word_begin, words_stop, words_turn, words_end}
use native.Mathlib.Omega.{arith}
use Rattle.rows.proofs.wrap.WrapState.by_words.Goals as goal

pub loop-p-init : goal.loop-p-init
loop-p-init c = search word_begin

pub returns-then-word-p : goal.returns-then-word-p
returns-then-word-p c = search words_stop

pub loop-p-smaller : goal.loop-p-smaller
loop-p-smaller c = omega arith

pub loop-p-preserved : goal.loop-p-preserved
loop-p-preserved c = search words_turn

pub returns : goal.returns
returns c = search words_end
