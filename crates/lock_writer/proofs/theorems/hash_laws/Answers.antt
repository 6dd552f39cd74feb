use Rattle.lock_writer.proofs.HashLaws.{hash_from_children}
use Rattle.lock_writer.proofs.theorems.hash_laws.Goals as goal

pub returns : goal.returns
returns c = record { over = λ g name node graph acyclic found. hash_from_children g graph acyclic name node found }
