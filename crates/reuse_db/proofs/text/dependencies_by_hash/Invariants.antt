use Rattle.std.proofs.Common.{◌≡◌, fold, drop}
use Rattle.serde_json.specs.Data.{put}
use Rattle.serde_json.specs.View.{members_view}
use Rattle.reuse_db.specs.Canonical.{dependency_data, dependency_members}
use Rattle.reuse_db.proofs.text.dependencies_by_hash.Given as goal

abbrev pub invariant-loop-dependency : goal.invariant-loop-dependency
invariant-loop-dependency l = fold (λ ms d. put d.hash (dependency_data d) ms) (members_view l.map.entries)
    (drop l.dependency-index l.dependencies) ≡ dependency_members l.dependencies
