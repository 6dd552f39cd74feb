use Rattle.std.proofs.Common.{⊎_elim}
use Rattle.reachability.specs.Paths.{HasArc}
use Rattle.reachability.proofs.PathLaws.{one_arc, arc_before, two_paths, first_arc, last_arc, carried}
use Rattle.reachability.proofs.SpreadLaws.{reached_has, has_reached, reaches_decides}
use Rattle.reachability.proofs.theorems.path_laws.Goals as goal

pub returns : goal.returns
returns g c = record {
  decides = λ same exact. reaches_decides same exact;
  listed = λ same exact arcs p q. (reached_has same exact arcs p q, has_reached same exact arcs p q);
  through = λ arcs. two_paths (HasArc arcs);
  within = λ arcs more inside. carried (HasArc arcs) (HasArc more) (λ x. x) inside;
  first = λ arcs p q. (
    first_arc (HasArc arcs) p q,
    λ h. ⊎_elim (λ arc. one_arc (HasArc arcs) p q arc)
        (λ w. arc_before (HasArc arcs) p w.0 q w.1 w.2) h,
  );
  last = λ arcs p q. (
    last_arc (HasArc arcs) p q,
    λ h. ⊎_elim (λ arc. one_arc (HasArc arcs) p q arc)
        (λ w. two_paths (HasArc arcs) p w.0 q w.1 (one_arc (HasArc arcs) w.0 q w.2)) h,
  );
}
