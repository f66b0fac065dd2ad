use Rattle.show_io.proofs.Parameters.{flag_off, flag_on}
use Rattle.show_io.proofs.ansi.push_flag.Goals as goal

pub returns-then-on : goal.returns-then-on
returns-then-on c = search flag_on

pub returns : goal.returns
returns c = search flag_off
