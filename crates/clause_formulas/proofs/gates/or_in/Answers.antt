use Rattle.std.proofs.Common.{[], ◌∷◌, ◌++◌, ap, sym, subst, ◌∙◌}
use Rattle.clause_store.specs.Kept.{lits_of_codes}
use Rattle.clause_formulas.specs.Gated.{gated, gate_of, Keeps}
use Rattle.clause_formulas.proofs.GateLaws.{Keeps-refl, Keeps-extends}
use Rattle.clause_formulas.proofs.ValueLaws.{or-found, or-new, or_in-keeps}
use Rattle.clause_formulas.proofs.gates.or_in.Goals as goal

pub returns-in_err-codes-clause-keeps : goal.returns-in_err-codes-clause-keeps
returns-in_err-codes-clause-keeps c = Keeps-refl _ c.requires.gates

pub returns-in-Some-clause-built : goal.returns-in-Some-clause-built
returns-in-Some-clause-built c = or-found (gated c.args.clauses.now c.args.gates.now) c.args.lits.now c.in-Some.lit
    (sym c.in-Some.is ∙ c.find.ensures ∙ ap (gate_of c.args.gates.now) (ap lits_of_codes c.as_slice.ensures.value ∙ c.in_ok-codes.ensures))

pub returns-in-Some-clause-keeps : goal.returns-in-Some-clause-keeps
returns-in-Some-clause-keeps c = Keeps-refl _ c.requires.gates

pub returns-in_err-lit-clause-keeps : goal.returns-in_err-lit-clause-keeps
returns-in_err-lit-clause-keeps c = Keeps-extends _ _ _ c.requires.gates c.or.ensures.extends

pub returns-in_err-keep-clause-keeps : goal.returns-in_err-keep-clause-keeps
returns-in_err-keep-clause-keeps c =
    subst (λ gs. Keeps (gated c.args.clauses.now c.args.gates.now) (gated c.or.new.clauses gs)) (sym c.in_err-keep.ensures.err)
    (Keeps-extends _ _ _ c.requires.gates c.or.ensures.extends)

pub returns-clause-built : goal.returns-clause-built
returns-clause-built c =
    let same = ap lits_of_codes c.as_slice.ensures.value ∙ c.in_ok-codes.ensures in
    or-new (gated c.args.clauses.now c.args.gates.now) c.or.new.clauses c.keep.new.self c.args.lits.now c.in_ok-lit.lit
    (sym c.in_default.is ∙ c.find.ensures ∙ ap (gate_of c.args.gates.now) same)
    c.in_ok-lit.ensures.built
    (c.in_ok-keep.ensures.ok ∙ ap (λ ls. c.args.gates.now ++ (ls, c.in_ok-lit.lit) ∷ []) c.in_ok-codes.ensures)

pub returns-clause-keeps : goal.returns-clause-keeps
returns-clause-keeps c = or_in-keeps (gated c.args.clauses.now c.args.gates.now) _ c.args.lits.now c.in_ok-lit.lit c.requires.lits
    c.requires.gates (returns-clause-built c)
