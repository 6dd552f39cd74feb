use Rattle.std.proofs.Common.{◌≡◌, fold, drop}
use Rattle.serde_json.specs.Data.{put, string}
use Rattle.serde_json.specs.View.{members_view}
use Rattle.lock_writer.specs.Texts.{provider_members}
use Rattle.lock_writer.proofs.lock.providers_value.Given as goal

abbrev pub invariant-loop-provider : goal.invariant-loop-provider
invariant-loop-provider l = fold (λ ms p. put p.0 (string p.1) ms) (members_view l.members.entries) (drop l.provider-index l.providers)
    ≡ provider_members l.providers
