use Rattle.std.proofs.Common.{ap, ◌∙◌}
use Rattle.clause_store.specs.Kept.{lits_of_codes}
use Rattle.clause_formulas.specs.Gated.{gate_of}
use Rattle.clause_formulas.proofs.KeyLaws.{gate-found}
use Rattle.clause_formulas.proofs.gates.Gates.find.Goals as goal

pub returns : goal.returns
returns c =
    c.copied.ensures ∙ c.get.ensures.value ∙ gate-found c.self.inside.table.entries c.args.codes.now
    ∙ ap (λ gs. gate_of gs (lits_of_codes c.args.codes.now)) c.self.view_is
