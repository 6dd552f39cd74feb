-- The rules together: those of levels beside all others.
use Rattle.std.proofs.Common.{◌≡◌, refl, sym, ◌∙◌, true, ◌&&◌, [], ◌∷◌}
use Rattle.std.specs.List.{list_all}
use Rattle.std.proofs.lemmas.Bool.{and_parts, and_from}
use Rattle.std.proofs.lemmas.List.Folds.{list_all-append}
use Rattle.graph_core.specs.Graphs.{Content}
use Rattle.problem.specs.Problems.{Problem}
use Rattle.graph_rules.specs.Valid.{keeps, keeps_all, structure_rules}
use Rattle.graph_rules.specs.declared.rule.Rule.TheVariants as rules
use Rattle.graph_levels.specs.Levels.{KeepsLevelRules}
use Rattle.graph_encoding.specs.Formulas.{other_rules}

pub rules-join : (problem : Problem) (g : Content) → keeps_all other_rules problem g ≡ true → KeepsLevelRules problem (λ d. true) g
    → keeps_all structure_rules problem g ≡ true
rules-join problem g others kept =
    list_all-append (λ rule. keeps rule problem g) other_rules (rules.Cycle ∷ rules.Unreachable ∷ [])
    ∙ and_from (keeps_all other_rules problem g) _ others
    (and_from (keeps rules.Cycle problem g) _ kept.0 (and_from (keeps rules.Unreachable problem g) true kept.1 refl))

pub rules-part : (problem : Problem) (g : Content) → keeps_all structure_rules problem g ≡ true
    → (keeps_all other_rules problem g ≡ true) × KeepsLevelRules problem (λ d. true) g
rules-part problem g all =
    let p = and_parts (keeps_all other_rules problem g) (keeps rules.Cycle problem g && (keeps rules.Unreachable problem g && true))
    (sym (list_all-append (λ rule. keeps rule problem g) other_rules (rules.Cycle ∷ rules.Unreachable ∷ [])) ∙ all) in
    let q = and_parts (keeps rules.Cycle problem g) (keeps rules.Unreachable problem g && true) p.1 in
    (p.0, (q.0, (and_parts (keeps rules.Unreachable problem g) true q.1).0))
