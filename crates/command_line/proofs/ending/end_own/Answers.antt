use Rattle.command_line.proofs.ending.end_own.Goals as goal

pub returns : goal.returns
returns g c = record { status = c.tell-status.result; ends = c.ended.ensures; tells = c.tell-status.ensures }
