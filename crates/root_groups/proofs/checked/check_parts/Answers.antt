use Rattle.std.proofs.Common.{◌≡◌, ◌↔◌, ◌∙◌, None, All, length, arith}
use Rattle.std.proofs.lemmas.Result.{IfOk-at_ok}
use Rattle.root_groups.specs.Checked.{IsCertified, first_refused}
use Rattle.root_groups.proofs.Parts.{halves_exact, halves_first}
use Rattle.root_groups.proofs.checked.check_parts.Goals as goal

pub returns-clause-first : goal.returns-clause-first
returns-clause-first g c =
    c.either.ensures
    ∙ halves_first c.args.parts.now c.split_at.result.0.now c.split_at.result.1.now _ 0 (length c.split_at.result.0.now)
    c.in_ok-one.one c.in_ok-other.other c.split_at.ensures.front c.split_at.ensures.back (omega arith)
    (IfOk-at_ok (λ bad. bad ≡ first_refused 0 c.split_at.result.0.now) c.in_ok-one.was c.join-one.ensures.first.0)
    (IfOk-at_ok (λ bad. bad ≡ first_refused (length c.split_at.result.0.now) c.split_at.result.1.now) c.in_ok-other.was
    c.join-one.ensures.second.0)

pub returns-clause-exact : goal.returns-clause-exact
returns-clause-exact g c =
    rw c.either.ensures (halves_exact c.args.parts.now c.split_at.result.0.now c.split_at.result.1.now _ c.in_ok-one.one
    c.in_ok-other.other c.split_at.ensures.front c.split_at.ensures.back
    (IfOk-at_ok (λ bad. (bad ≡ None) ↔ All IsCertified c.split_at.result.0.now) c.in_ok-one.was c.join-one.ensures.first.1)
    (IfOk-at_ok (λ bad. (bad ≡ None) ↔ All IsCertified c.split_at.result.1.now) c.in_ok-other.was c.join-one.ensures.second.1))
