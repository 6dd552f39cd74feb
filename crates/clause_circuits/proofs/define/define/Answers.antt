use Rattle.std.proofs.Common.{subst, ap, ◌∙◌}
use Rattle.clause_circuits.specs.Gates.{Partly, gate_rules, lit_of, with_rules}
use Rattle.clause_circuits.proofs.Added.{gate-below, rules-defined, partly-defined}
use Rattle.clause_circuits.proofs.define.define.Goals as goal

pub add_rules-requires : goal.add_rules-requires
add_rules-requires c = gate-below c.args.clauses.now _ _ c.args.gate.now c.in_ok-new_var.ensures.ok c.next_lit-lit.ensures c.requires

pub returns-in_err-add_rules-clause-partial : goal.returns-in_err-add_rules-clause-partial
returns-in_err-add_rules-clause-partial c =
    partly-defined c.args.clauses.now _ _ _ c.in_ok-new_var.ensures.ok (rw c.next_lit-lit.ensures at c.add_rules.ensures.partial)

pub returns-clause-ok : goal.returns-clause-ok
returns-clause-ok c =
    rules-defined c.args.clauses.now c.new_var.new.self _ (gate_rules (lit_of c.args.clauses.now.vars) c.args.gate.now)
    c.in_ok-new_var.ensures.ok (c.in_ok-add_rules.ensures.ok
    ∙ ap (λ y. with_rules c.new_var.new.self (gate_rules y c.args.gate.now)) c.next_lit-lit.ensures)

pub returns-clause-partial : goal.returns-clause-partial
returns-clause-partial c =
    partly-defined c.args.clauses.now c.new_var.new.self _ (gate_rules (lit_of c.args.clauses.now.vars) c.args.gate.now)
    c.in_ok-new_var.ensures.ok (subst (λ y. Partly c.new_var.new.self c.add_rules.new.clauses (gate_rules y c.args.gate.now))
    c.next_lit-lit.ensures c.add_rules.ensures.partial)
