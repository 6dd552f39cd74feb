-- Segments, part by part.
use Rattle.std.proofs.Common.{◌≡◌, ℕ, List, [], ◌∷◌, sym, subst}
use Rattle.std.specs.Prelude.{Ok, Err}
use Rattle.recipe_values.specs.declared.segment.Atom.{Atom}
use Rattle.recipe_values.specs.Reads.{Read, join, Gives}
use Rattle.recipe_values.specs.Values.{atom_text, texts}
use Rattle.recipe_values.proofs.Joins.{join_nil, more_read, not_read}

-- a string more behind the strings so far
pub texts_more : (old new : List ℕ) (bytes : List ℕ) (place : ℕ) (atoms more : List Atom) (a : Atom) → atoms ≡ a ∷ more
    → join (Ok old) (atom_text bytes place a) ≡ Ok new → join (Ok old) (texts bytes place atoms) ≡ join (Ok new) (texts bytes place more)
unfolding texts
texts_more old new bytes place atoms more a is e = rw is (more_read old new (atom_text bytes place a) (texts bytes place more) e)

-- a string that is no text is the fault of all
pub texts_fail : (old : List ℕ) (fault : ℕ) (bytes : List ℕ) (place : ℕ) (atoms more : List Atom) (a : Atom) → atoms ≡ a ∷ more
    → join (Ok old) (atom_text bytes place a) ≡ Err fault → join (Ok old) (texts bytes place atoms) ≡ Err fault
unfolding texts
texts_fail old fault bytes place atoms more a is e = rw is (not_read old fault (atom_text bytes place a) (texts bytes place more) e)

-- no strings more leave the text
pub texts_end : (text : List ℕ) (bytes : List ℕ) (place : ℕ) (atoms : List Atom) → atoms ≡ []
    → join (Ok text) (texts bytes place atoms) ≡ Ok text
unfolding texts
texts_end text bytes place atoms is = rw is (join_nil (Ok text))

-- two parts, one after the other
pub both : (read : Read (Unit {0})) (old mid new : List ℕ) (first second : Read (List ℕ)) → join (Ok old) first ≡ Ok mid
    → Gives read new (join (Ok mid) second) → Gives read new (join (Ok old) (join first second))
both read old mid new first second e gives = subst (λ (r : Read (List ℕ)). Gives read new r) (sym (more_read old mid first second e)) gives
