use Rattle.std.proofs.Common.{◌≡◌, List, []}
use Rattle.std.specs.List.{list_any}
use Rattle.std.specs.Ordering.{is_eq}
use Rattle.std.specs.BTreeSet.{contains}
use Rattle.variant_values.specs.Texts.{byte_cmp}
use Rattle.graph_core.specs.Graphs.{Text}
use Rattle.lockfile.specs.Faults.{named_after}
use Rattle.lockfile.proofs.checks.twice_in.Given as goal

abbrev pub invariant-loop-name : goal.invariant-loop-name
invariant-loop-name l = record {
  before : List Text;
  seen : (q : Text) → contains byte_cmp l.before q ≡ list_any (λ b. is_eq (byte_cmp b q)) before;
  left : named_after [] l.fn.names.items ≡ named_after before l.name-iterator.rest.items;
}
