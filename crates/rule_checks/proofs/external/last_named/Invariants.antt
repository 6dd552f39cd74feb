use Rattle.std.proofs.Common.{◌≡◌, take}
use Rattle.std.specs.Option.{option_copied}
use Rattle.std.specs.Str.{bytes_eq}
use Rattle.condition_rules.specs.Words.{find_last}
use Rattle.rule_checks.proofs.external.last_named.Given as goal

abbrev pub invariant-loop-row : goal.invariant-loop-row
invariant-loop-row l = option_copied l.last ≡ find_last (λ row. bytes_eq row.name l.name) (take l.row-index l.rows)
