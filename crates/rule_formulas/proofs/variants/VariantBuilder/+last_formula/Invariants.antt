use Rattle.rule_formulas.proofs.variants.VariantBuilder.+last_formula.Given as goal

abbrev pub decreases-last_formula : goal.decreases-last_formula
decreases-last_formula g l = l.times
