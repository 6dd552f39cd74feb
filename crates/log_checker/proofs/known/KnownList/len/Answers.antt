use Rattle.std.proofs.Common.{◌≡◌, length, ap, sym, ◌∙◌, arith}
use Rattle.std.specs.Prelude.{vec_len}
use Rattle.log_checker.proofs.Flat.{known-length}
use Rattle.log_checker.proofs.known.KnownList.len.Goals as goal

pub returns-clause-value : goal.returns-clause-value
returns-clause-value c =
    let ends = c.self.inside.ends in
    let n : vec_len ends ≡ length ends.items = omega (arith, ends.ok.0) in
    c.len.ensures ∙ n ∙ sym (known-length c.self.inside.lits.items 0 ends.items) ∙ ap length c.self.view_is

pub returns-clause-small : goal.returns-clause-small
returns-clause-small c =
    let ends = c.self.inside.ends in
    let n : vec_len ends ≡ length ends.items = omega (arith, ends.ok.0) in
    omega (arith, n, known-length c.self.inside.lits.items 0 ends.items, ap length c.self.view_is)
