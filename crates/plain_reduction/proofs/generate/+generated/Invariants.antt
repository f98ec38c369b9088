use Rattle.plain_reduction.proofs.generate.+generated.Given as goal

abbrev pub decreases-generated : goal.decreases-generated
decreases-generated l = l.formers
