use Rattle.std.specs.Arc.{arc_value}
use Rattle.problem.specs.Problems.{problem_of}
use Rattle.problem.proofs.DemandLaws.{how_many, more_roots}
use Rattle.problem.proofs.problem.Problem.demands.Goals as goal

pub overflow_sub-result : goal.overflow_sub-result
overflow_sub-result c =
    let s = arc_value c.self.inside.shared in
    rw (c.len-2.ensures, c.deref-2.ensures, c.deref.ensures, c.len.ensures)
    (more_roots (problem_of s.recipes s.settings s.database c.self.inside.roots) s.most s.demands c.self.invariant.asked
    c.self.invariant.few)

pub returns : goal.returns
returns c =
    let s = arc_value c.self.inside.shared in
    rw (← c.self.view_is, c.len-2.ensures, c.deref-2.ensures, c.deref.ensures, c.len.ensures)
    (how_many (problem_of s.recipes s.settings s.database c.self.inside.roots) s.most s.demands c.self.invariant.asked c.self.invariant.few)
