use Rattle.graph_encoding.specs.Encodings.{levels_made, edges_made}
use Rattle.graph_encoding.proofs.Joining.{in-range}
use Rattle.graph_encoding.proofs.Ranking.{structured}
use Rattle.graph_encoding.proofs.theorems.model_laws.Goals as goal

pub returns-clause-structured : goal.returns-clause-structured
returns-clause-structured c = λ problem t n f decode targets holds right says asked v m.
    structured problem t n f decode right targets holds says asked v m

pub returns-clause-range : goal.returns-clause-range
unfolding levels_made edges_made
returns-clause-range c = λ problem t n f decode targets holds right says. in-range problem t n f decode right targets holds says
