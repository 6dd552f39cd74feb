use Rattle.std.proofs.Common.{refl, inl}
use Rattle.clause_circuits.proofs.OneGate.{any-rules-below, any-stopped, any-built, any-gate}
use Rattle.clause_circuits.proofs.Added.{rules-defined, partly-defined}
use Rattle.clause_circuits.proofs.define.define_any.Goals as goal

pub add_any-requires : goal.add_any-requires
add_any-requires c = any-rules-below c.args.clauses.now c.args.lits.now c.requires _ _ refl c.next_lit-lit.ensures _ c.in_ok-new_var.ensures.ok

pub returns-in_err-add_any-clause-extends : goal.returns-in_err-add_any-clause-extends
returns-in_err-add_any-clause-extends c = any-stopped c.args.clauses.now c.args.lits.now c.requires _ _ refl c.next_lit-lit.ensures _
    (partly-defined c.args.clauses.now _ _ _ c.in_ok-new_var.ensures.ok c.add_any.ensures.partial)

pub returns : goal.returns
returns c =
    let made = rules-defined c.args.clauses.now _ _ _ c.in_ok-new_var.ensures.ok c.in_ok-add_any.ensures.ok in
    let g = any-gate c.args.clauses.now c.args.lits.now c.requires _ _ refl c.next_lit-lit.ensures _ made in record {
      lit = c.next_lit-lit.ensures;
      built = any-built c.args.clauses.now c.args.lits.now c.requires _ _ refl c.next_lit-lit.ensures _ made;
      gate = g;
      extends = g.defines.says;
    }

pub returns-in_err-new_var-clause-extends : goal.returns-in_err-new_var-clause-extends
returns-in_err-new_var-clause-extends c = any-stopped c.args.clauses.now c.args.lits.now c.requires _ _ refl c.next_lit-lit.ensures _
    (inl c.in_err-new_var.ensures.err)
