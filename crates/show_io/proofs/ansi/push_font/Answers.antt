use Rattle.show_io.proofs.Parameters.{font_pushed}
use Rattle.show_io.proofs.ansi.push_font.Goals as goal

pub returns : goal.returns
returns c = search font_pushed
