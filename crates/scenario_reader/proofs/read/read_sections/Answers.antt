use Rattle.std.proofs.Common.{◌∙◌, ap, sym, Ok, arith, rules}
use Rattle.scenario_reader.specs.declared.draft.Draft.{Draft}
use Rattle.scenario_reader.proofs.Lines.{begins, ends}
use Rattle.scenario_reader.proofs.read.read_sections.Goals as goal

pub loop-rest-init : goal.loop-rest-init
loop-rest-init c = record { same = rw c.new-draft.ensures (begins c.args.text.now); count = omega arith }

pub returns : goal.returns
returns c = sym c.loop-rest.invariant.same ∙ ends c.loop-rest.number c.loop-rest.draft c.loop-rest.rest.now (search rules)
    ∙ ap (λ (d : Draft). Ok d.done) (sym c.in_ok-close.ensures)
