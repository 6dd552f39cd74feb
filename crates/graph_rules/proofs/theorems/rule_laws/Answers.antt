use Rattle.graph_rules.proofs.LeastLaws.{least-append}
use Rattle.graph_rules.proofs.VerdictLaws.{kept-nowhere, valid-verdict}
use Rattle.graph_rules.proofs.theorems.rule_laws.Goals as goal

pub returns : goal.returns
returns c = record { keeps = kept-nowhere; least = least-append; valid = valid-verdict }
