use Rattle.std.proofs.Common.{◌≡◌, length, ap, sym, ◌∙◌, arith}
use Rattle.std.specs.Prelude.{vec_len}
use Rattle.clause_store.specs.Clauses.{Clauses}
use Rattle.clause_store.proofs.Kept.{length-entries}
use Rattle.clause_store.proofs.list.ClauseList.len.Goals as goal

pub returns : goal.returns
returns c =
    let ends = c.self.inside.ends in
    let n : vec_len ends ≡ length ends.items = omega (arith, ends.ok.0) in
    c.len.ensures ∙ n ∙ sym (length-entries _ _ 0 0 ends.items) ∙ ap (λ (s : Clauses). length s.entries) c.self.view_is
