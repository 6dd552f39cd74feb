use Rattle.spec_hash.proofs.Letters.{letters_of_base32}
use Rattle.spec_hash.proofs.hash_text.Goals as goal

pub invariant_of-result : goal.invariant_of-result
invariant_of-result c = rw c.spell.ensures (letters_of_base32 _)
