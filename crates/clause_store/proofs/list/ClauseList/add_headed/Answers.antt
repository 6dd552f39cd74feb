use Rattle.std.proofs.Common.{◌≡◌, ◌∷◌, sym, subst, ◌∙◌}
use Rattle.std.specs.Prelude.{OnOk}
use Rattle.clause_store.specs.Clauses.{with_structure}
use Rattle.clause_store.proofs.Meaning.{AllBelow-clause_of}
use Rattle.clause_store.proofs.Headed.{clause_of-rises}
use Rattle.clause_store.proofs.list.ClauseList.add_headed.Goals as goal

pub returns-then-rises-clause-ok : goal.returns-then-rises-clause-ok
returns-then-rises-clause-ok c =
    subst (λ o. OnOk c.add_rising.result (c.add_rising.new.self ≡ with_structure c.args.self.now o))
    (sym (clause_of-rises c.args.head c.args.lits.now (c.rises.ensures c.if-rises.true))) c.add_rising.ensures.ok

pub add-requires : goal.add-requires
add-requires c = AllBelow-clause_of _ (c.args.head ∷ c.args.lits.now) _ c.requires (sym c.in_ok-clause.ensures ∙ c.in-Some.is)
