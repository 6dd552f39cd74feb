use Rattle.std.proofs.Common.{◌++◌, [], ◌∷◌, ap, ◌∙◌}
use Rattle.indexmap.proofs.CallerLemmas.{insert_entry-new}
use Rattle.clause_store.specs.Kept.{lits_of_codes}
use Rattle.clause_formulas.specs.Gated.{gate_of}
use Rattle.clause_formulas.specs.Kept.{gates_of}
use Rattle.clause_formulas.proofs.KeyLaws.{gate-found, gates-last}
use Rattle.clause_formulas.proofs.gates.Gates.keep.Goals as goal

pub returns-clause-ok : goal.returns-clause-ok
returns-clause-ok c =
    ap gates_of (c.in_ok-insert.ensures.entries ∙ insert_entry-new _ c.self.inside.table c.args.codes c.args.lit
    (gate-found c.self.inside.table.entries c.args.codes.items ∙ ap (λ gs. gate_of gs (lits_of_codes c.args.codes.items)) c.self.view_is
    ∙ c.requires))
    ∙ gates-last c.self.inside.table.entries c.args.codes c.args.lit
    ∙ ap (λ gs. gs ++ (lits_of_codes c.args.codes.items, c.args.lit) ∷ []) c.self.view_is
