use Rattle.headline_laws.proofs.Meant.{checked, concretized, explained, fresh, none, reduced, refused, refuted, satisfiable, settled, stale, undecided}
use Rattle.headline_laws.proofs.theorems.headline_laws.Goals as goal

pub returns : goal.returns
returns c = record {
  concretized = λ files words after out err command is work done. concretized files words command is after out err work done;
  none = λ files words after out err command is work done. none files words command is after out err work done;
  checked = λ files words command is work shown. checked files words command is work shown;
  fresh = λ files words command is work shown. fresh files words command is work shown;
  stale = λ files words command is work shown. stale files words command is work shown;
  refuted = λ files words command is work shown. refuted files words command is work shown;
  satisfiable = λ files words after out err command is work done. satisfiable files words command is after out err work done;
  explained = λ files words after out err command is work done. explained files words command is after out err work done;
  reasons = λ files words after out err command is work done. reduced files words command is after out err work done;
  undecided = λ files words after out err command is work done. undecided files words command is after out err work done;
  refused = refused;
  settled = settled;
}
