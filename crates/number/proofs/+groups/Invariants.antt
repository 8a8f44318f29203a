use Rattle.number.proofs.+groups.Given as goal

abbrev pub decreases-groups : goal.decreases-groups
decreases-groups l = l.left
