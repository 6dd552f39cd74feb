use Rattle.std.proofs.Common.{◌≡◌, ◌++◌, drop}
use Rattle.graph_judge.proofs.names.copied_providers.Given as goal

abbrev pub invariant-loop-provider : goal.invariant-loop-provider
invariant-loop-provider l = l.copies.items ++ drop l.provider-index l.providers ≡ l.providers
