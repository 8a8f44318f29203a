use Rattle.number.proofs.+write_groups.Given as goal

-- the number itself falls
abbrev pub decreases-write_groups : goal.decreases-write_groups
decreases-write_groups l = l.v
