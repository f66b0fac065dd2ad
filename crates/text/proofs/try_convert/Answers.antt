use Rattle.text.specs.Class.Code.{profile_of}
use Rattle.text.proofs.ConvertCall.{accepted, refused_long, refused_small}
use Rattle.text.proofs.try_convert.Goals as goal

pub returns-then-line-gt-LINE_MAX : goal.returns-then-line-gt-LINE_MAX
returns-then-line-gt-LINE_MAX c = search refused_long

pub returns-then-conv-line : goal.returns-then-conv-line
returns-then-conv-line c = search refused_small

pub returns : goal.returns
unfolding profile_of
returns c = search accepted
