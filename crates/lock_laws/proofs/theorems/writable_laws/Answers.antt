use Rattle.lock_laws.proofs.Whole.{writable}
use Rattle.lock_laws.proofs.theorems.writable_laws.Goals as goal

pub returns : goal.returns
returns c = λ problem graph formed right valid apart. writable c.hash_laws.ensures.over problem graph formed right valid apart
