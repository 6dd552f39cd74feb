use Rattle.std.proofs.Common.{◌≡◌, take}
use Rattle.settings_reader.specs.Lists.{compiler_pairs}
use Rattle.settings_reader.proofs.lists.pairs_of.Given as goal

abbrev pub invariant-loop-entry : goal.invariant-loop-entry
invariant-loop-entry l = l.pairs.items ≡ compiler_pairs (take l.entry-index l.entries)
