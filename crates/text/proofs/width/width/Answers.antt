use Rattle.text.specs.Class.Code.{profile_of}
use Rattle.text.specs.Width.{width01}
use Rattle.buffer.specs.Conditions.{branch}
use Rattle.text.specs.Tests.{in_range_law}
use Rattle.text.specs.Class.Document01.{indicator_width, letter_width, picture_width, printable_width, syllable_width, wide_width}
use Rattle.text.proofs.width.width.Goals as goal

pub returns-then-is_printable : goal.returns-then-is_printable
returns-then-is_printable c = search printable_width

pub returns-then-x : goal.returns-then-x
returns-then-x c = let w = in_range_law _ _ _ c.if-x.true in wide_width _ _ w.0 w.1

pub returns-then-x-2 : goal.returns-then-x-2
returns-then-x-2 c = letter_width _ _ c.if-x-2.true

pub returns-then-x-3 : goal.returns-then-x-3
returns-then-x-3 c = let w = in_range_law _ _ _ c.if-x-3.true in syllable_width _ _ w.0 w.1

pub returns-then-x-4 : goal.returns-then-x-4
returns-then-x-4 c = let w = in_range_law _ _ _ c.if-x-4.true in picture_width _ _ w.0 w.1

pub returns-then-x-5 : goal.returns-then-x-5
returns-then-x-5 c = let w = in_range_law _ _ _ c.if-x-5.true in indicator_width _ _ w.0 w.1

pub returns-then-has_no_width : goal.returns-then-has_no_width
unfolding profile_of width01
returns-then-has_no_width c = search branch depth 10 fits 20000

pub returns-then-in_wides : goal.returns-then-in_wides
unfolding profile_of width01
returns-then-in_wides c = search branch depth 10 fits 20000

pub returns : goal.returns
unfolding profile_of width01
returns c = search branch depth 10 fits 20000
