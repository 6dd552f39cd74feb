use Rattle.std.proofs.Common.{◌≡◌, ◌++◌, take}
use Rattle.std.specs.List.{flat_map}
use Rattle.spec_grammar.specs.declared.part.Part.{Part}
use Rattle.graph_formulas.specs.Words.{names_for}
use Rattle.valid_models.specs.Targets.{asked_names}
use Rattle.problem_formulas.proofs.targets.push_spec.Given as goal

abbrev pub invariant-loop-part : goal.invariant-loop-part
invariant-loop-part l = l.names.items ≡ l.initial.names.items
    ++ flat_map (λ (part : Part). asked_names l.world (names_for l.table) part.name) (take l.part-index l.spec.below)
