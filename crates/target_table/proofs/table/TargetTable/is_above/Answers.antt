use Rattle.std.proofs.Common.{sym, ◌∙◌}
use Rattle.reachability.proofs.TextPlaces.{lacks_text}
use Rattle.target_table.proofs.PlaceLaws.{told_false}
use Rattle.target_table.proofs.TableLaws.{from_name, to_name, place_below, told_ancestor}
use Rattle.target_table.proofs.table.TargetTable.is_above.Goals as goal

pub returns-in_default : goal.returns-in_default
returns-in_default c = rw (← c.self.view_is)
    (told_ancestor c.self.inside.entries c.args.target.now c.args.low.now _
    (told_false (λ path. lacks_text _ c.self.inside.places c.self.invariant.places _ (sym c.in_default.ensures)
    (from_name c.self.inside.entries _ _ path))))

pub returns-in_default-place_in : goal.returns-in_default-place_in
returns-in_default-place_in c = rw (← c.self.view_is)
    (told_ancestor c.self.inside.entries c.args.target.now c.args.low.now _
    (told_false (λ path. to_name c.self.inside.entries c.self.invariant.targets.known _ _ path
    (lacks_text _ c.self.inside.places c.self.invariant.places _ (sym c.in_default-place_in.ensures)))))

pub leads-requires-clause-from : goal.leads-requires-clause-from
leads-requires-clause-from c = place_below _ _ c.self.invariant.ancestors _ _ ((c.self.invariant.places _ _).0 (sym c.in-Some.ensures))

pub leads-requires-clause-to : goal.leads-requires-clause-to
leads-requires-clause-to c = place_below _ _ c.self.invariant.ancestors _ _
    ((c.self.invariant.places _ _).0 (sym c.in-Some-place_in.ensures))

pub returns : goal.returns
returns c =
    let tells = c.self.invariant.ancestors.marks _ _ _ _ ((c.self.invariant.places _ _).0 (sym c.in-Some.ensures))
    ((c.self.invariant.places _ _).0 (sym c.in-Some-place_in.ensures)) in
    rw (← c.self.view_is) (told_ancestor c.self.inside.entries c.args.target.now c.args.low.now _
    (λ t. tells.0 (sym c.leads.ensures ∙ t), λ path. c.leads.ensures ∙ tells.1 path))
