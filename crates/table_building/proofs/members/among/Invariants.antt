use Rattle.std.proofs.Common.{◌≡◌, take}
use Rattle.std.specs.List.{filter}
use Rattle.condition_rules.specs.Words.{is_one_text}
use Rattle.table_building.proofs.members.among.Given as goal

abbrev pub invariant-loop-text : goal.invariant-loop-text
invariant-loop-text l = l.list ≡ filter (is_one_text l.names) (take l.text-index l.texts)
