use Rattle.std.proofs.Common.{◌≡◌, ◌++◌, take}
use Rattle.std.specs.List.{flat_map}
use Rattle.dimacs_text.specs.Choices.{provider_text}
use Rattle.dimacs_text.proofs.choices.write_providers.Given as goal

abbrev pub invariant-loop-provider : goal.invariant-loop-provider
invariant-loop-provider l = l.out.items ≡ l.fn.out.items ++ flat_map provider_text (take l.provider-index l.providers)
