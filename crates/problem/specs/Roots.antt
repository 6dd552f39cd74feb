-- Which roots are refused.
use Rattle.std.specs.Prelude.{◌≡◌, List, [], ◌∷◌, Option, Some, None, option_map, if◌then◌else◌}
use Rattle.std.specs.Option.{option_or}
use Rattle.std.specs.Str.{bytes_eq}
use Rattle.condition_rules.specs.OfSpecGrammar.Part.{Part}
use Rattle.condition_rules.specs.OfSpecGrammar.Spec.{Spec}
use Rattle.condition_rules.specs.OfGraphCore.Graphs.{Text}
use Rattle.condition_rules.specs.OfVirtuals.Virtuals.{is_virtual}
use Rattle.problem.specs.Problems.{Problem}
use Rattle.problem.specs.Closure.{is_known}
use Rattle.problem.specs.declared.fault.ProblemFault.{ProblemFault}
use Rattle.problem.specs.declared.fault.ProblemFault.TheVariants.{UnknownRoot, VirtualRoot, WrongPlatform, OutOfMemory}

-- a platform that is written and is not this one
abbrev pub other_than : Text → Option Text → Option Text
other_than platform None = None
other_than platform (Some p) = if bytes_eq p platform then None else Some p

-- the first platform of these parts that is not this one
abbrev pub wrong_platform : Text → List Part → Option Text
wrong_platform platform [] = None
wrong_platform platform (part ∷ more) = option_or (other_than platform part.platform) (wrong_platform platform more)

-- what is wrong with a name as that of a root
abbrev pub name_fault : Problem → Option Text → Option ProblemFault
name_fault problem None = None
name_fault problem (Some name) =
    if is_virtual problem.recipes name then Some (VirtualRoot name)
    else if is_known problem name then None
    else Some (UnknownRoot name)

abbrev pub root_fault : Problem → Spec → Option ProblemFault
root_fault problem spec = option_or (name_fault problem spec.top.name)
    (option_map WrongPlatform (wrong_platform problem.settings.platform (spec.top ∷ spec.below)))

abbrev pub first_fault : Problem → List Spec → Option ProblemFault
first_fault problem [] = None
first_fault problem (spec ∷ more) = option_or (root_fault problem spec) (first_fault problem more)

-- the fault of the first root that has one
unfoldable pub roots_fault : Problem → Option ProblemFault
roots_fault problem = first_fault problem problem.roots

-- why roots are refused: what is wrong with the first that is
abbrev pub IsProblemFault : Problem → ProblemFault → Type 0
IsProblemFault problem (UnknownRoot name) = roots_fault problem ≡ Some (UnknownRoot name)
IsProblemFault problem (VirtualRoot name) = roots_fault problem ≡ Some (VirtualRoot name)
IsProblemFault problem (WrongPlatform platform) = roots_fault problem ≡ Some (WrongPlatform platform)
IsProblemFault problem OutOfMemory = Unit {0}
