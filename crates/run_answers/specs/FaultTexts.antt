-- The texts of faults: the name and the fields in order, with one space between.
use Rattle.std.specs.Prelude.{ℕ, List, [], ◌∷◌, ◌++◌, codes, decimal}
use Rattle.spec_grammar.specs.declared.fault.Form.{Form}
use Rattle.spec_grammar.specs.declared.fault.Form.TheVariants.{Propagation, ConcreteAssign, AnyValue, Quoted, Flags, Reference, EdgeAttributes, Namespace, NestedDependency, ProvidesForm}
use Rattle.spec_grammar.specs.declared.fault.SpecFault.{SpecFault}
use Rattle.spec_grammar.specs.declared.fault.SpecFault.TheVariants as spec
use Rattle.target_table.specs.declared.fault.TargetFault.{TargetFault}
use Rattle.target_table.specs.declared.fault.TargetFault.TheVariants as target
use Rattle.settings_reader.specs.declared.fault.SettingsFault.{SettingsFault}
use Rattle.settings_reader.specs.declared.fault.SettingsFault.TheVariants as settings
use Rattle.recipe_lexer.specs.declared.token.LexFault.{LexFault}
use Rattle.recipe_lexer.specs.declared.token.LexFault.TheVariants as lex
use Rattle.recipe_reader.specs.declared.fault.RecipeFault.{RecipeFault}
use Rattle.recipe_reader.specs.declared.fault.RecipeFault.TheVariants as recipe
use Rattle.lockfile.specs.declared.fault.LockFault.{LockFault}
use Rattle.lockfile.specs.declared.fault.LockFault.TheVariants as lock
use Rattle.graph_rules.specs.declared.rule.Rule.{Rule}
use Rattle.graph_rules.specs.declared.rule.Rule.TheVariants as rules
use Rattle.record_reader.specs.FaultTexts.{name_and_text, two_texts}
use Rattle.run_answers.specs.Lines.{joined_texts}

-- ---- specs

abbrev pub form_name : Form → List ℕ
form_name Propagation = codes "Propagation"
form_name ConcreteAssign = codes "ConcreteAssign"
form_name AnyValue = codes "AnyValue"
form_name Quoted = codes "Quoted"
form_name Flags = codes "Flags"
form_name Reference = codes "Reference"
form_name EdgeAttributes = codes "EdgeAttributes"
form_name Namespace = codes "Namespace"
form_name NestedDependency = codes "NestedDependency"
form_name ProvidesForm = codes "ProvidesForm"

-- a name with a place
abbrev pub at_place : List ℕ → ℕ → List ℕ
at_place name place = joined_texts (name ∷ codes " " ∷ decimal place ∷ [])

unfoldable pub spec_fault_text : SpecFault → List ℕ
spec_fault_text (spec.Expected place) = at_place (codes "Expected") place
spec_fault_text (spec.Unsupported place form) = joined_texts (codes "Unsupported " ∷ decimal place ∷ codes " " ∷ form_name form ∷ [])
spec_fault_text (spec.BadVersion place) = at_place (codes "BadVersion") place
spec_fault_text (spec.TwiceSet place) = at_place (codes "TwiceSet") place
spec_fault_text spec.OutOfMemory = codes "OutOfMemory"

-- ---- settings

unfoldable pub target_fault_text : TargetFault → List ℕ
target_fault_text (target.TwiceNamed place) = at_place (codes "TwiceNamed") place
target_fault_text (target.UnknownParent place) = at_place (codes "UnknownParent") place
target_fault_text target.CyclicTargets = codes "CyclicTargets"
target_fault_text target.OutOfMemory = codes "OutOfMemory"

abbrev pub in_targets : TargetFault → List ℕ
in_targets fault = codes "Targets " ++ target_fault_text fault

-- the text at a pointer has the fault
abbrev pub in_spec : List ℕ → SpecFault → List ℕ
in_spec pointer fault = codes "Spec " ++ (pointer ++ (codes " " ++ spec_fault_text fault))

unfoldable pub settings_fault_text : SettingsFault → List ℕ
settings_fault_text settings.NotJson = codes "NotJson"
settings_fault_text (settings.UnknownKey at) = name_and_text (codes "UnknownKey") at
settings_fault_text (settings.WrongKind at) = name_and_text (codes "WrongKind") at
settings_fault_text (settings.Empty at) = name_and_text (codes "Empty") at
settings_fault_text (settings.TwiceNamed at) = name_and_text (codes "TwiceNamed") at
settings_fault_text (settings.Targets fault) = in_targets fault
settings_fault_text (settings.Spec at fault) = in_spec at fault
settings_fault_text (settings.BadExternal at) = name_and_text (codes "BadExternal") at
settings_fault_text settings.OutOfMemory = codes "OutOfMemory"

-- ---- recipes

unfoldable pub lex_fault_text : LexFault → List ℕ
lex_fault_text lex.NotUtf8 = codes "NotUtf8"
lex_fault_text (lex.OpenString place) = at_place (codes "OpenString") place
lex_fault_text (lex.OpenBracket place) = at_place (codes "OpenBracket") place
lex_fault_text (lex.BadIndent place) = at_place (codes "BadIndent") place
lex_fault_text lex.OutOfMemory = codes "OutOfMemory"

abbrev pub in_tokens : LexFault → List ℕ
in_tokens fault = codes "Lex " ++ lex_fault_text fault

-- the text whose first string is at a place has the fault
abbrev pub placed_fault_text : ℕ → SpecFault → List ℕ
placed_fault_text place fault = codes "Spec " ++ (decimal place ++ (codes " " ++ spec_fault_text fault))

unfoldable pub recipe_fault_text : RecipeFault → List ℕ
recipe_fault_text (recipe.Lex fault) = in_tokens fault
recipe_fault_text (recipe.Unsupported place) = at_place (codes "Unsupported") place
recipe_fault_text recipe.NoClass = codes "NoClass"
recipe_fault_text (recipe.TwoClasses place) = at_place (codes "TwoClasses") place
recipe_fault_text (recipe.TooDeep place) = at_place (codes "TooDeep") place
recipe_fault_text (recipe.Spec place fault) = placed_fault_text place fault
recipe_fault_text (recipe.BadArgument place) = at_place (codes "BadArgument") place
recipe_fault_text (recipe.BadDefault place) = at_place (codes "BadDefault") place
recipe_fault_text (recipe.TwiceVersion place) = at_place (codes "TwiceVersion") place
recipe_fault_text recipe.OutOfMemory = codes "OutOfMemory"

-- ---- lock files

unfoldable pub lock_fault_text : LockFault → List ℕ
lock_fault_text lock.NotJson = codes "NotJson"
lock_fault_text (lock.WrongKind at) = name_and_text (codes "WrongKind") at
lock_fault_text (lock.TwiceNamed name) = name_and_text (codes "TwiceNamed") name
lock_fault_text (lock.HashDiffers written computed) = two_texts (codes "HashDiffers") written computed
lock_fault_text (lock.Dangling parent child) = two_texts (codes "Dangling") parent child
lock_fault_text lock.OutOfMemory = codes "OutOfMemory"

-- ---- rules of valid graphs

abbrev pub rule_name : Rule → List ℕ
rule_name rules.Root = codes "Root"
rule_name rules.Buildable = codes "Buildable"
rule_name rules.Version = codes "Version"
rule_name rules.Variant = codes "Variant"
rule_name rules.Compiler = codes "Compiler"
rule_name rules.Machine = codes "Machine"
rule_name rules.Edge = codes "Edge"
rule_name rules.ExtraEdge = codes "ExtraEdge"
rule_name rules.Constraint = codes "Constraint"
rule_name rules.Conflict = codes "Conflict"
rule_name rules.Requirement = codes "Requirement"
rule_name rules.Required = codes "Required"
rule_name rules.Kept = codes "Kept"
rule_name rules.Provider = codes "Provider"
rule_name rules.UnusedProvider = codes "UnusedProvider"
rule_name rules.Together = codes "Together"
rule_name rules.Cycle = codes "Cycle"
rule_name rules.Unreachable = codes "Unreachable"
