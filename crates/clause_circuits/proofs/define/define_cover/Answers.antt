use Rattle.std.proofs.Common.{refl, inl}
use Rattle.clause_circuits.proofs.Cover.{cover-rules-below, cover-stopped, cover-built, cover-gate}
use Rattle.clause_circuits.proofs.Added.{rules-defined, partly-defined}
use Rattle.clause_circuits.proofs.define.define_cover.Goals as goal

pub add_cover-requires : goal.add_cover-requires
add_cover-requires c = cover-rules-below c.args.clauses.now c.args.lits.now c.requires _ _ refl c.next_lit-lit.ensures _
    c.in_ok-new_var.ensures.ok

pub returns-in_err-add_cover-clause-extends : goal.returns-in_err-add_cover-clause-extends
returns-in_err-add_cover-clause-extends c = cover-stopped c.args.clauses.now c.args.lits.now c.requires _ _ refl c.next_lit-lit.ensures _
    (partly-defined c.args.clauses.now _ _ _ c.in_ok-new_var.ensures.ok c.add_cover.ensures.partial)

pub returns : goal.returns
returns c =
    let made = rules-defined c.args.clauses.now _ _ _ c.in_ok-new_var.ensures.ok c.in_ok-add_cover.ensures.ok in record {
      lit = c.next_lit-lit.ensures;
      built = cover-built c.args.clauses.now c.args.lits.now c.requires _ _ refl c.next_lit-lit.ensures _ made;
      gate = cover-gate c.args.clauses.now c.args.lits.now c.requires _ _ refl c.next_lit-lit.ensures _ made;
      extends = cover-stopped c.args.clauses.now c.args.lits.now c.requires _ _ refl c.next_lit-lit.ensures _
          (partly-defined c.args.clauses.now _ _ _ c.in_ok-new_var.ensures.ok c.add_cover.ensures.partial);
    }

pub returns-in_err-new_var-clause-extends : goal.returns-in_err-new_var-clause-extends
returns-in_err-new_var-clause-extends c = cover-stopped c.args.clauses.now c.args.lits.now c.requires _ _ refl c.next_lit-lit.ensures _
    (inl c.in_err-new_var.ensures.err)
