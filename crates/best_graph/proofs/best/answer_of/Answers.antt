use Rattle.std.proofs.Common.{sym, ap, subst, ◌∙◌}
use Rattle.optimum_search.specs.Finding.{IsFound}
use Rattle.optimum_search.specs.declared.found.Found.TheVariants.{Optimal, Refuted, Spent}
use Rattle.graph_decoding.specs.Decoding.{assignment_of, decode, IsStructured}
use Rattle.best_graph.proofs.Found.{best-answer, spent-answer, unrefuted}
use Rattle.best_graph.proofs.best.answer_of.Goals as goal

pub decode-requires : goal.decode-requires
decode-requires c =
    let e = c.args.encoded.now in
    let found : IsFound e.clauses e.bits.lits c.args._budget (Optimal c.in-Optimal.model c.in-Optimal.log) =
    subst (IsFound e.clauses e.bits.lits c.args._budget) c.in-Optimal.is c.requires.found in
    subst (λ values. IsStructured (assignment_of values) e.table) (sym c.as_slice.ensures)
    (c.requires.encoded.structured (assignment_of c.in-Optimal.model) found.1)

pub returns-in_ok-graph-in-Optimal : goal.returns-in_ok-graph-in-Optimal
returns-in_ok-graph-in-Optimal c =
    let e = c.args.encoded.now in
    let found : IsFound e.clauses e.bits.lits c.args._budget (Optimal c.in-Optimal.model c.in-Optimal.log) =
    subst (IsFound e.clauses e.bits.lits c.args._budget) c.in-Optimal.is c.requires.found in
    best-answer c.args._problem.now e c.requires.encoded c.requires.built c.args._budget c.in-Optimal.log
    c.is_of_lines.ensures (c.is_writable.ensures e.bits.lits found.2.sound found.3)
    c.in-Optimal.model c.in_ok-graph-in-Optimal.graph found
    (c.found_laws.ensures e.clauses e.bits.lits c.args._budget (Optimal c.in-Optimal.model c.in-Optimal.log) c.requires.in_order found)
    (c.in_ok-graph-in-Optimal.ensures ∙ ap (λ values. decode (assignment_of values) e.table) c.as_slice.ensures)

pub unreachable-requires : goal.unreachable-requires
unreachable-requires c =
    let e = c.args.encoded.now in
    let found : IsFound e.clauses e.bits.lits c.args._budget (Refuted c.in-Refuted.log) =
    subst (IsFound e.clauses e.bits.lits c.args._budget) c.in-Refuted.is c.requires.found in
    unrefuted c.args._problem.now e c.requires.encoded c.requires.built c.args._budget c.in-Refuted.log c.requires.decodes c.requires.model
    (c.found_laws.ensures e.clauses e.bits.lits c.args._budget (Refuted c.in-Refuted.log) c.requires.in_order found)

pub returns-in-Spent : goal.returns-in-Spent
returns-in-Spent c =
    let e = c.args.encoded.now in
    let found : IsFound e.clauses e.bits.lits c.args._budget (Spent c.in-Spent.log) =
    subst (IsFound e.clauses e.bits.lits c.args._budget) c.in-Spent.is c.requires.found in
    spent-answer c.args._problem.now e c.requires.encoded c.requires.built c.args._budget c.in-Spent.log
    c.is_of_lines-in-Spent.ensures (c.is_writable-in-Spent.ensures e.bits.lits found.sound found.in_range) (c.is_finite.ensures) found
    (c.found_laws.ensures e.clauses e.bits.lits c.args._budget (Spent c.in-Spent.log) c.requires.in_order found)
