use Rattle.std.proofs.Common.{◌≡◌, refl, sym, ap, ◌∙◌, Bool, true, filter}
use Rattle.std.specs.Str.{bytes_eq}
use Rattle.graph_core.specs.Graphs.{Text}
use Rattle.literal_table.specs.Tables.{Table}
use Rattle.problem.specs.Problems.{Problem, provides_at}
use Rattle.graph_formulas.specs.Lists.{each_keeps}
use Rattle.graph_formulas.specs.Together.{by_row_rule, together_rule}
use Rattle.graph_formulas.specs.Words.{names_for}
use Rattle.word_formulas.proofs.Steps.{ok-same}
use Rattle.rule_formulas.specs.Terms.{plain_term, no_conditions}
use Rattle.rule_formulas.proofs.together.ProviderBuilder.provider_together.Goals as goal

-- where the settings ask for it
asked : (table : Table) (problem : Problem) (p : Text × Text) → problem.settings.provided_together ≡ true
    → plain_term table no_conditions (each_keeps (by_row_rule problem (names_for table) p)
    (filter (λ row. bytes_eq row.name p.0) (provides_at problem p.1)))
    ≡ plain_term table no_conditions (together_rule problem (names_for table) p)
asked table problem p is = rw is refl

-- what is told of one is told of its equal
told : {S : Type 0} (a b : S) → a ≡ b → (test : S → Bool) → test a ≡ true → test b ≡ true
told a b same test h = ap test (sym same) ∙ h

pub returns-then-settings : goal.returns-then-settings
returns-then-settings c =
    let table = c.args.self.now.scribe.table.now in
    let problem = c.args.self.now.problem.now in
    let p : Text × Text = (c.args.virtual_name.now, c.args.provider.now) in
    ok-same c.rows_together.result
    (plain_term table no_conditions (each_keeps (by_row_rule problem (names_for table) p)
    (filter (λ row. bytes_eq row.name p.0) (provides_at problem p.1))))
    (plain_term table no_conditions (together_rule problem (names_for table) p))
    (asked table problem p (told c.settings.result.now problem.settings c.settings.ensures (λ s. s.provided_together) c.if-settings.true))
    c.rows_together.ensures
