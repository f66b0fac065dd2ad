use Rattle.vectors.proofs.output.print_bytes.Goals as goal

pub loop-end-init : goal.loop-end-init
loop-end-init c = tt

pub loop-end-preserved : goal.loop-end-preserved
loop-end-preserved c = tt
