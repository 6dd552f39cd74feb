use Rattle.std.proofs.Common.{length, ap, sym, subst, ◌∙◌, arith}
use Rattle.proof_log.specs.Lines.{AllLines}
use Rattle.log_trim.specs.Marks.{HasRoom}
use Rattle.log_trim.proofs.Rooms.{have-room, staying-length}
use Rattle.log_trim.proofs.pass.shorter.Goals as goal

pub staying_of-requires : goal.staying_of-requires
staying_of-requires c =
    have-room c.in-Some.first.now c.in-Some.rest.now c.args.lines.now c.in_ok-size.size c.in-Some.ensures.cases.0 c.requires
    (omega (arith, c.in_ok-size.ensures.ok, c.inputs_of-inputs.ensures))

pub push_anew-requires-clause-rooms : goal.push_anew-requires-clause-rooms
push_anew-requires-clause-rooms c =
    subst (λ n. AllLines (HasRoom n) c.in-Some.rest.now) (sym c.in_ok-names.ensures.length)
    (have-room c.in-Some.first.now c.in-Some.rest.now c.args.lines.now c.in_ok-size.size c.in-Some.ensures.cases.0 c.requires
    (omega (arith, c.in_ok-size.ensures.ok, c.inputs_of-inputs.ensures)))

pub push_anew-requires-clause-marked : goal.push_anew-requires-clause-marked
push_anew-requires-clause-marked c =
    ap length (c.as_slice-in-Some.ensures.value ∙ c.in_ok-staying.ensures) ∙ staying-length c.in-Some.rest.now
