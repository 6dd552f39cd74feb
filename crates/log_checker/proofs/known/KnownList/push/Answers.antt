use Rattle.std.proofs.Common.{◌≡◌, ◌∙◌, length, arith}
use Rattle.log_checker.proofs.Flat.{pushed-cut, pushed, pushed-order}
use Rattle.log_checker.proofs.known.KnownList.push.Goals as goal

pub invariant_of-self-2 : goal.invariant_of-self-2
invariant_of-self-2 c =
    let lits = c.extend_from_slice.new.self in
    let n : c.len-place.result ≡ length lits.items = c.len-place.ensures ∙ omega (arith, lits.ok.0) in (
      pushed-cut _ _ _ c.self.invariant.0 _ _ _ c.args.by_bit c.in_ok-extend_from_slice.ensures.items n
          (cc (c.push_within.ensures, c.in_ok-reserve.ensures.items)),
      pushed-order _ _ _ c.self.invariant.0 _ _ _ c.args.by_bit c.in_ok-extend_from_slice.ensures.items n
          (cc (c.push_within.ensures, c.in_ok-reserve.ensures.items))
          c.self.invariant.1 c.requires,
    )

pub returns-clause-ok : goal.returns-clause-ok
returns-clause-ok c =
    let lits = c.extend_from_slice.new.self in
    let n : c.len-place.result ≡ length lits.items = c.len-place.ensures ∙ omega (arith, lits.ok.0) in
    rw (← c.self.view_is)
    (pushed _ _ _ c.self.invariant.0 _ _ _ c.args.by_bit c.in_ok-extend_from_slice.ensures.items n
    (cc (c.push_within.ensures, c.in_ok-reserve.ensures.items)))
