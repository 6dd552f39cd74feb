-- What was read at a path, and what is read over it.
use Rattle.std.proofs.Common.{◌≡◌, subst, ℕ, List, Option, Some, None, Result, Ok}
use Rattle.std.specs.Prelude.{IfSome}
use Rattle.outside_desk.specs.Files.{Files, StillTells}
use Rattle.outside_desk.proofs.Tellings.{held_still}
use Rattle.run_answers.specs.declared.refusal.Refusal.{Refusal}
use Rattle.run_answers.specs.Stages.{Then}
use Rattle.run_answers.specs.Stops.{Gives}
use Rattle.run_answers.specs.declared.stop.ReadStop.{ReadStop}
use Rattle.run_answers.proofs.StageLaws.{then_gives}

both : (A B : Type 0) (first : List ℕ → Files → Result A Refusal → Type 0) (next : Files → A → Result B Refusal → Type 0)
    (after : Option Files) (path at : List ℕ) (x : A) (result : Result B ReadStop) → path ≡ at
    → IfSome after (λ files. Gives {T = A} (Ok x) (first path files)) → IfSome after (λ files. Gives result (next files x))
    → IfSome after (λ files. Gives result (Then (first at files) (next files)))
both A B first next None path at x result is read over = tt
both A B first next (Some files) path at x result is read over =
    then_gives (first at files) (next files) x result (subst (λ (p : List ℕ). first p files (Ok x)) is read) over

-- two stages over the files, which the desk tells still behind the second
pub staged : (A B : Type 0) (first : List ℕ → Files → Result A Refusal → Type 0) (next : Files → A → Result B Refusal → Type 0)
    (between after : Option Files) (path at : List ℕ) (x : A) (result : Result B ReadStop) → path ≡ at → StillTells between after
    → IfSome between (λ files. Gives {T = A} (Ok x) (first path files)) → IfSome after (λ files. Gives result (next files x))
    → IfSome after (λ files. Gives result (Then (first at files) (next files)))
staged A B first next between after path at x result is still read over =
    both A B first next after path at x result is
    (held_still (λ files. Gives {T = A} (Ok x) (first path files)) between after still read) over

-- the second needs no file, but a text
pub put_over : (A B : Type 0) (first : List ℕ → Files → Result A Refusal → Type 0) (next : List ℕ → A → Result B Refusal → Type 0)
    (before : Option Files) (path at text given : List ℕ) (x : A) (result : Result B ReadStop) → path ≡ at → text ≡ given
    → IfSome before (λ files. Gives {T = A} (Ok x) (first path files)) → Gives result (next text x)
    → IfSome before (λ files. Gives result (Then (first at files) (next given)))
put_over A B first next None path at text given x result is says read over = tt
put_over A B first next (Some files) path at text given x result is says read over =
    then_gives (first at files) (next given) x result (subst (λ (p : List ℕ). first p files (Ok x)) is read)
    (subst (λ (t : List ℕ). Gives result (next t x)) says over)
