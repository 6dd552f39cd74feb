use Rattle.cost_vector.proofs.sums.vector.Goals as goal

pub returns : goal.returns
returns c = rw c.in_ok-explored.ensures at c.numbers_of-numbers.ensures
