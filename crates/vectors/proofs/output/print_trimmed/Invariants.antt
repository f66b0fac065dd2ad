use Rattle.vectors.proofs.output.print_trimmed.Given as goal

abbrev pub invariant-loop-end : goal.invariant-loop-end
invariant-loop-end l = Unit {0}

abbrev pub decreases-loop-end : goal.decreases-loop-end
decreases-loop-end l = l.end
