use Rattle.std.proofs.Common.{sym}
use Rattle.std.specs.Str.{bytes_eq}
use Rattle.problem.specs.Problems.{package_entry_of}
use Rattle.possible_closure.proofs.IndexLaws.{none_found, first_found}
use Rattle.possible_closure.proofs.indexed.IndexedProblem.entry_of.Goals as goal

pub returns-in-empty : goal.returns-in-empty
unfolding package_entry_of
returns-in-empty c = rw (← c.self.view_is)
    (sym (none_found (λ entry. bytes_eq entry.name c.args.name.now) c.self.inside.problem.now.settings.packages
    c.of.result.now (rw c.of.ensures (c.self.invariant.packages c.args.name.now)) c.in-empty.len_below))

pub returns-in-len1-up : goal.returns-in-len1-up
unfolding package_entry_of
returns-in-len1-up c = rw (← c.self.view_is)
    (sym (first_found (λ entry. bytes_eq entry.name c.args.name.now) c.self.inside.problem.now.settings.packages
    c.of.result.now c.first-item.result (rw c.of.ensures (c.self.invariant.packages c.args.name.now)) c.in-len1-up.len_at_least
    c.first-item.is))
