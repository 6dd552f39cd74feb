use Rattle.std.proofs.Common.{◌≡◌, ◌∙◌, slice_get, arith}
use Rattle.std.specs.Arc.{arc_value}
use Rattle.problem.specs.Demands.{demands}
use Rattle.problem.specs.Problems.{problem_of}
use Rattle.problem.proofs.DemandLaws.{lent_at, more_roots, of_later, of_root}
use Rattle.problem.proofs.problem.Problem.demand.Goals as goal

pub returns-then-id-roots : goal.returns-then-id-roots
returns-then-id-roots c =
    let s = arc_value c.self.inside.shared in
    let there : slice_get c.as_slice-list.result.now c.args.id ≡ slice_get (demands c.args.self.now) c.args.id =
    rw (← c.self.view_is, c.as_slice-list.ensures, c.deref.ensures)
    (of_root (problem_of s.recipes s.settings s.database c.self.inside.roots) s.most s.demands c.self.invariant.asked c.self.invariant.few
    c.args.id (omega (arith, c.len-roots.ensures))) in
    lent_at c.as_slice-list.result.now c.args.id c.get.result c.get.ensures.lookup ∙ there

pub split_at-requires : goal.split_at-requires
split_at-requires c =
    let s = arc_value c.self.inside.shared in
    rw (c.deref-2.ensures, c.len-roots.ensures, c.as_slice-list.ensures, c.deref.ensures)
    (more_roots (problem_of s.recipes s.settings s.database c.self.inside.roots) s.most s.demands c.self.invariant.asked
    c.self.invariant.few)

pub returns : goal.returns
returns c =
    let s = arc_value c.self.inside.shared in
    let there : slice_get c.split_at.result.1.now c.args.id ≡ slice_get (demands c.args.self.now) c.args.id =
    rw (← c.self.view_is, c.split_at.ensures.back, c.deref-2.ensures, c.len-roots.ensures, c.as_slice-list.ensures, c.deref.ensures)
    (of_later (problem_of s.recipes s.settings s.database c.self.inside.roots) s.most s.demands c.self.invariant.asked c.self.invariant.few
    c.args.id (omega (arith, c.len-roots.ensures))) in
    lent_at c.split_at.result.1.now c.args.id c.get-2.result c.get-2.ensures.lookup ∙ there
