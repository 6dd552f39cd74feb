use Rattle.std.proofs.Common.{◌∙◌, sym}
use Rattle.log_checker.specs.Signs.{sign_of}
use Rattle.log_checker.proofs.Parts.{pivot-same, resolved-part}
use Rattle.log_checker.proofs.chain.resolve.Goals as goal

pub returns-in_ok-put_all-in-Ok-clause-pivot : goal.returns-in_ok-put_all-in-Ok-clause-pivot
returns-in_ok-put_all-in-Ok-clause-pivot c = sym c.in-Ok.is ∙ c.find_pivot.ensures
    ∙ pivot-same (sign_of c.args.signs.now) c.args._lits.now c.args.parts.now c.requires.in_order c.requires.enough

pub returns-in_ok-put_all-in-Ok-clause-signs : goal.returns-in_ok-put_all-in-Ok-clause-signs
returns-in_ok-put_all-in-Ok-clause-signs c = resolved-part (sign_of c.args.signs.now) (sign_of c.put_all.new.signs)
    (sign_of c.remove.new.self) c.args._lits.now c.args.parts.now c.in-Ok.pivot c.requires.in_order c.requires.enough
    c.in_ok-put_all-in-Ok.ensures c.remove.ensures

pub returns-in-Err-clause-pivot : goal.returns-in-Err-clause-pivot
returns-in-Err-clause-pivot c = sym c.in-Err.is ∙ c.find_pivot.ensures
    ∙ pivot-same (sign_of c.args.signs.now) c.args._lits.now c.args.parts.now c.requires.in_order c.requires.enough
