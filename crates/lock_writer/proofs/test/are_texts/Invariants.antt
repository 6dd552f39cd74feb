use Rattle.std.proofs.Common.{◌≡◌, drop}
use Rattle.std.specs.List.{list_all}
use Rattle.lock_writer.specs.Tests.{has_text}
use Rattle.lock_writer.proofs.test.are_texts.Given as goal

abbrev pub invariant-loop-root : goal.invariant-loop-root
invariant-loop-root l = list_all has_text (drop l.root-index l.roots) ≡ list_all has_text l.roots
