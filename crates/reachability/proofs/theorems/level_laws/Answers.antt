use Rattle.std.proofs.Common.{inl, inr, ⊎_elim, IsTrue}
use Rattle.reachability.specs.Paths.{HasArc}
use Rattle.reachability.proofs.PathLaws.{along, last_arc, acyclic_from_numbers}
use Rattle.reachability.proofs.ReachLaws.{level_rises, level_below, a_first, begins_at_root, from_source, told_by_path}
use Rattle.reachability.proofs.theorems.level_laws.Goals as goal

pub returns : goal.returns
returns g c = record {
  rises = λ same exact arcs acyclic. level_rises same exact arcs acyclic;
  below = λ same exact arcs acyclic. level_below same exact arcs acyclic;
  acyclic = λ arcs. acyclic_from_numbers (HasArc arcs);
  first = λ same exact arcs acyclic. a_first same exact arcs acyclic;
  founded = λ same exact arcs acyclic inside root. begins_at_root same exact arcs acyclic (λ p. IsTrue (inside p)) (λ p. IsTrue (root p));
  arrives = λ arcs inside root founded p in_p. ⊎_elim
      (λ is. inl is)
      (λ w. inr (⊎_elim (λ arc. (w.0, arc)) (λ v. (v.0, v.2)) (last_arc (HasArc arcs) w.0 p w.3)))
      (founded p in_p);
  source = λ same exact arcs acyclic. from_source same exact arcs acyclic;
  told = λ same exact arcs acyclic told q says p. (
    told_by_path same exact arcs acyclic (λ x. IsTrue (told x)) q (λ x. (says x).0) p,
    along (HasArc arcs) (λ x. IsTrue (told x)) q (λ x arc. (says x).1 (inl arc)) (λ x y arc later. (says x).1 (inr (y, arc, later))) p,
  );
}
