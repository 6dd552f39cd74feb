-- Writings one after the other, of which each takes a front of what is left.
use Rattle.std.proofs.Common.{◌≡◌, ℕ, ◌-◌, List, ◌++◌, Option, length, take, drop, sym, ap, ◌∙◌, subst, append_assoc, take-append-drop}
use Rattle.std.proofs.lemmas.List.{take_rest}
use Rattle.std.proofs.Math.Seq.{take-append_seam}
use Rattle.std.specs.Io.KnownBytes.{Appends, Keeps}
use Rattle.std.proofs.KnownBytes.{Appends-trans, Appends-kept}
use Rattle.outside_desk.specs.RealFiles.{AppendsPart}

-- what is gone from the bytes was appended
abbrev pub AppendsGone : Option (List ℕ) → Option (List ℕ) → List ℕ → List ℕ → Type 0
AppendsGone old new bytes rest = (done : List ℕ) × (bytes ≡ done ++ rest) × Appends old new done

moves_front : (bytes done rest : List ℕ) (n : ℕ) → bytes ≡ done ++ rest
    → bytes ≡ (done ++ take n rest) ++ take (length rest - n) (drop n rest)
moves_front bytes done rest n e =
    e ∙ ap (λ l. done ++ l) (sym (take-append-drop n rest)) ∙ sym (append_assoc done (take n rest) (drop n rest))
    ∙ ap (λ l. (done ++ take n rest) ++ l) (sym (take_rest rest n))

-- a writing took n bytes
pub gone_more : (old mid new : Option (List ℕ)) (bytes rest : List ℕ) (n : ℕ) → AppendsGone old mid bytes rest
    → Appends mid new (take n rest) → AppendsGone old new bytes (take (length rest - n) (drop n rest))
gone_more old mid new bytes rest n (done, split, appended) more =
    (done ++ take n rest, moves_front bytes done rest n split, Appends-trans old mid new done (take n rest) appended more)

-- a writing took nothing
pub gone_kept : (old mid new : Option (List ℕ)) (bytes rest : List ℕ) → AppendsGone old mid bytes rest → Keeps mid new
    → AppendsGone old new bytes rest
gone_kept old mid new bytes rest (done, split, appended) kept = (done, split, Appends-kept old mid new done appended kept)

-- where it breaks off, a front of the bytes was appended
pub gone_part : (old new : Option (List ℕ)) (bytes rest : List ℕ) → AppendsGone old new bytes rest → AppendsPart old new bytes
gone_part old new bytes rest (done, split, appended) =
    (length done, subst (Appends old new) (sym (ap (take (length done)) split ∙ take-append_seam done rest)) appended)
