use Rattle.std.proofs.Common.{◌&&◌, sym, ap, ◌∙◌}
use Rattle.reachability.specs.Places.{leads}
use Rattle.level_encoding.specs.Input.{numbers, possible}
use Rattle.level_encoding.proofs.Reached.{table-joined}
use Rattle.level_encoding.proofs.widths.is_joined.Goals as goal

pub returns-then-leads : goal.returns-then-leads
returns-then-leads c =
    c.leads-then-leads.ensures
    ∙ sym (ap (λ b. b && leads c.args.reached.now c.args.q c.args.p) (sym c.leads.ensures ∙ c.if-leads.true))
    ∙ table-joined (possible c.args.input.now) (numbers c.args.input.now) c.args.reached.now c.requires.reached c.args.p c.args.q
    c.requires.first c.requires.second c.if-p-q.false

pub returns-else-leads : goal.returns-else-leads
returns-else-leads c =
    c.if-leads.false
    ∙ sym (ap (λ b. b && leads c.args.reached.now c.args.q c.args.p) (sym c.leads.ensures ∙ c.if-leads.false))
    ∙ table-joined (possible c.args.input.now) (numbers c.args.input.now) c.args.reached.now c.requires.reached c.args.p c.args.q
    c.requires.first c.requires.second c.if-p-q.false
