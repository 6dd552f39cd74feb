-- What each directive takes.
use Rattle.std.specs.Prelude.{ℕ, Bool, true, false, List, [], ◌∷◌, Option, Some, None, if◌then◌else◌, codes}
use Rattle.std.specs.List.{find, list_any}
use Rattle.std.specs.Str.{bytes_eq}
use Rattle.directive_arguments.specs.declared.directive.Directive.{Directive}
use Rattle.directive_arguments.specs.declared.directive.Directive.TheVariants.{Version, Variant, DependsOn, Provides, Conflicts, Requires}
use Rattle.directive_arguments.specs.declared.directive.Keyword.{Keyword}
use Rattle.directive_arguments.specs.declared.directive.Keyword.TheVariants.{Preferred, Deprecated, Default, Values, Multi, When, Kinds, Policy}
use Rattle.directive_arguments.specs.declared.directive.Role.{Role}
use Rattle.directive_arguments.specs.declared.directive.Role.TheVariants.{Reads, PassesOver, Refuses}
use Rattle.directive_arguments.specs.declared.directive.Count.{Count}
use Rattle.directive_arguments.specs.declared.directive.Count.TheVariants.{One, OneAndOthers, OneOrMore}

pub record DirectiveSignature : Type 0 where
  pub word : List ℕ
  pub positional : Count
  pub reads : List (List ℕ × Keyword)
  pub passes_over : List (List ℕ)
  pub passes_others : Bool

abbrev pub takes : Directive → DirectiveSignature
takes Version = record {
  word = codes "version";
  positional = OneAndOthers;
  reads = (codes "preferred", Preferred) ∷ (codes "deprecated", Deprecated) ∷ [];
  passes_over = [];
  passes_others = true;
}
takes Variant = record {
  word = codes "variant";
  positional = One;
  reads = (codes "default", Default) ∷ (codes "values", Values) ∷ (codes "multi", Multi) ∷ (codes "when", When) ∷ [];
  passes_over = codes "description" ∷ [];
  passes_others = false;
}
takes DependsOn = record {
  word = codes "depends_on";
  positional = One;
  reads = (codes "type", Kinds) ∷ (codes "when", When) ∷ [];
  passes_over = codes "patches" ∷ [];
  passes_others = false;
}
takes Provides = record {
  word = codes "provides";
  positional = OneOrMore;
  reads = (codes "when", When) ∷ [];
  passes_over = [];
  passes_others = false;
}
takes Conflicts = record {
  word = codes "conflicts";
  positional = One;
  reads = (codes "when", When) ∷ [];
  passes_over = codes "msg" ∷ [];
  passes_others = false;
}
takes Requires = record {
  word = codes "requires";
  positional = OneOrMore;
  reads = (codes "policy", Policy) ∷ (codes "when", When) ∷ [];
  passes_over = codes "msg" ∷ [];
  passes_others = false;
}

abbrev pub directives : List Directive
directives = Version ∷ Variant ∷ DependsOn ∷ Provides ∷ Conflicts ∷ Requires ∷ []

-- the directive that a word names
unfoldable pub directive_of : List ℕ → Option Directive
directive_of w = find (λ d. bytes_eq w (takes d).word) directives

abbrev pub role_by : Option (List ℕ × Keyword) → Bool → Role
role_by (Some entry) passes = Reads entry.1
role_by None true = PassesOver
role_by None false = Refuses

-- what a directive does with a keyword
unfoldable pub role : Directive → List ℕ → Role
role d w =
    role_by (find (λ entry. bytes_eq w entry.0) (takes d).reads)
    (if (takes d).passes_others then true else list_any (bytes_eq w) (takes d).passes_over)
