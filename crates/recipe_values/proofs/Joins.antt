-- One list behind another.
use Rattle.std.proofs.Common.{◌≡◌, ◌∙◌, ℕ, List, [], append-nil, append_assoc, refl, ap, sym, subst}
use Rattle.std.specs.Prelude.{Ok, Err}
use Rattle.recipe_values.specs.Reads.{Read, join, Gives}

-- nothing behind what is read leaves it
pub join_nil : {A : Type 0} (a : Read (List A)) → join a (Ok []) ≡ a
join_nil {A = A} (Ok a) = ap (λ (xs : List A). let r : Read (List A) = Ok xs in r) (append-nil a)
join_nil {A = A} (Err place) = refl

-- what is read joins in any grouping
pub join_assoc : {A : Type 0} (a b c : Read (List A)) → join (join a b) c ≡ join a (join b c)
join_assoc {A = A} (Ok a) (Ok b) (Ok c) = ap (λ (xs : List A). let r : Read (List A) = Ok xs in r) (append_assoc a b c)
join_assoc {A = A} (Ok a) (Ok b) (Err place) = refl
join_assoc {A = A} (Ok a) (Err place) c = refl
join_assoc {A = A} (Err place) b c = refl

-- a part was read, and more is to come
pub more_read : {A : Type 0} (old new : List A) (part rest : Read (List A)) → join (Ok old) part ≡ Ok new
    → join (Ok old) (join part rest) ≡ join (Ok new) rest
more_read {A = A} old new part rest e = sym (join_assoc (Ok old) part rest) ∙ ap (λ (r : Read (List A)). join r rest) e

-- a part was not read
pub not_read : {A : Type 0} (old : List A) (place : ℕ) (part rest : Read (List A)) → join (Ok old) part ≡ Err place
    → join (Ok old) (join part rest) ≡ Err place
not_read {A = A} old place part rest e = sym (join_assoc (Ok old) part rest) ∙ ap (λ (r : Read (List A)). join r rest) e

-- what a reader says, by what it answers
pub gives_ok : {A : Type 0} (read : Read (Unit {0})) (done : Unit {0}) (new : List A) (part : Read (List A)) → read ≡ Ok done
    → Gives read new part → part ≡ Ok new
gives_ok {A = A} read done new part e gives = subst (λ (r : Read (Unit {0})). Gives r new part) e gives

-- a part that gives a fault has it
pub gives_err : {A : Type 0} (read : Read (Unit {0})) (place : ℕ) (new : List A) (part : Read (List A)) → read ≡ Err place
    → Gives read new part → part ≡ Err place
gives_err {A = A} read place new part e gives = subst (λ (r : Read (Unit {0})). Gives r new part) e gives
