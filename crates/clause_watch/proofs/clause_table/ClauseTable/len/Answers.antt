use Rattle.std.proofs.Common.{◌≡◌, length, ap, sym, ◌∙◌, arith}
use Rattle.std.specs.Prelude.{vec_len}
use Rattle.clause_watch.proofs.Parts.{length-parts}
use Rattle.clause_watch.proofs.clause_table.ClauseTable.len.Goals as goal

pub returns-clause-value : goal.returns-clause-value
returns-clause-value c =
    let ends = c.self.inside.ends in
    let n : vec_len ends ≡ length ends.items = omega (arith, ends.ok.0) in
    c.len.ensures ∙ n ∙ sym (length-parts _ 0 ends.items) ∙ ap length c.self.view_is
