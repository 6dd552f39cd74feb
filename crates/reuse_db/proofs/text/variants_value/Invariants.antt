use Rattle.std.proofs.Common.{◌≡◌, fold, drop}
use Rattle.serde_json.specs.Data.{put}
use Rattle.serde_json.specs.View.{members_view}
use Rattle.reuse_db.specs.Canonical.{texts_data, variant_members}
use Rattle.reuse_db.proofs.text.variants_value.Given as goal

abbrev pub invariant-loop-variant : goal.invariant-loop-variant
invariant-loop-variant l = fold (λ ms v. put v.0 (texts_data v.1) ms) (members_view l.map.entries) (drop l.variant-index l.variants)
    ≡ variant_members l.variants
