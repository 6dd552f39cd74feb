-- What holds of what arguments say.
use Rattle.std.specs.Prelude.{◌≡◌, ◌&&◌, true, [], length, Option, IfSome, IsSome}
use Rattle.std.specs.List.{AllByRecursion}
use Rattle.spec_grammar.specs.Signs.{IsName}
use Rattle.spec_grammar.specs.declared.part.Part.{Part}
use Rattle.spec_grammar.specs.declared.part.Spec.{Spec}
use Rattle.recipe_data.specs.Right.{has_all, is_count_of}
use Rattle.directive_arguments.specs.declared.given.Given.{Given}
use Rattle.directive_arguments.specs.declared.given.Positional.{Positional}
use Rattle.directive_arguments.specs.declared.variant.VariantShape.{VariantShape}

-- ---- names

-- the part has a NAME
pub record IsNamed (p : Part) : Type 0 where
  pub some : IsSome p.name
  pub name : IfSome p.name IsName

-- a variant's name is one, and so are those of a dependency and of what is provided
pub record AreNamed (p : Positional) : Type 0 where
  pub name : IfSome p.name IsName
  pub part : IfSome p.part IsNamed
  pub parts : AllByRecursion IsNamed p.parts

abbrev pub GivesNamed : Given → Type 0
GivesNamed g = AreNamed g.positional

-- ---- `^`

-- it has no `^`
abbrev pub IsLocal : Spec → Type 0
IsLocal s = s.below ≡ []

abbrev pub IsLocalWhen : Option Spec → Type 0
IsLocalWhen o = IfSome o IsLocal

abbrev pub GivesLocal : Given → Type 0
GivesLocal g = IsLocalWhen g.options.when

-- ---- variants

-- the default is allowed, and as many values as the kind takes
abbrev pub IsShape : VariantShape → Type 0
IsShape shape = (has_all shape.values shape.default && is_count_of shape.kind (length shape.default)) ≡ true
