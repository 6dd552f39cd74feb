use Rattle.std.proofs.Common.{◌≡◌, ◌++◌, drop}
use Rattle.graph_judge.specs.Places.{provider_test, providers_places}
use Rattle.graph_judge.proofs.judging.Judge.add_providers.Given as goal

abbrev pub invariant-loop-provider : goal.invariant-loop-provider
invariant-loop-provider l = l.places.items ++ providers_places (provider_test l.rule l.self.problem l.self.graph) (drop l.provider-index l.providers)
    ≡ l.fn.places.items ++ providers_places (provider_test l.rule l.self.problem l.self.graph) l.providers
