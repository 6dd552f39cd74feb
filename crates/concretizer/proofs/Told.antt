-- A desk that may have ceased to tell its files: what holds of those that it told behind the
-- reading holds of those that it told at first, where it tells some at the end.
use Rattle.std.proofs.Common.{◌≡◌, refl, ap, subst, sym, ◌∙◌, ℕ, Bool, true, false, List, [], ◌∷◌, Option, Some, None, inl, inr}
use Rattle.std.specs.Prelude.{◌⊎◌, ◌+◌, IfSome}
use Rattle.outside_desk.specs.Files.{Files, MayHold, StillTells, told, with_file}
use Rattle.outside_desk.proofs.Tellings.{told_still}
use Rattle.run_output.specs.Answer.{Answer}
use Rattle.run_output.specs.Answer.TheVariants as answers
use Rattle.run_output.specs.Answers.{KeepsWhole}
use Rattle.run_output.specs.Each.{HoldsFrom}
use Rattle.run_output.specs.Evidence.{evidence}
use Rattle.run_output.specs.Line.{Line}
use Rattle.run_output.specs.Locks.{lock_of}
use Rattle.run_output.specs.Places.{cert_at, lock_at}
use Rattle.run_output.specs.Problems.{Problem}
use Rattle.run_output.specs.Put.{HoldsWhole, MayLock, files_with, with_cert, with_cert_by}
use Rattle.run_output.specs.Task.{Task}
use Rattle.run_output.specs.Task.TheVariants as tasks
use Rattle.run_output.specs.Words.{is_dash_path}

-- ---- a put does not begin to tell

held_none : (before after : Option Files) (path bytes : List ℕ) → before ≡ None → MayHold before after path bytes → after ≡ None
held_none before after path bytes none (inl same) = same ∙ none
held_none before after path bytes none (inr put) = put ∙ ap (λ (m : Option Files). with_file m path bytes) none

cert_by : (dash : Bool) (cert : List ℕ) (log : List Line) → with_cert_by dash cert log None ≡ None
cert_by true cert log = refl
cert_by false cert log = refl

cert_none : (cert : List ℕ) (log : List Line) (before : Option Files) → before ≡ None → with_cert cert log before ≡ None
cert_none cert log before none = ap (with_cert cert log) none ∙ cert_by (is_dash_path cert) cert log

files_none : (lock cert : List ℕ) (problem : Problem) (answer : Answer) (before : Option Files) → before ≡ None
    → files_with lock cert problem answer before ≡ None
files_none lock cert problem (answers.Best graph log) before none =
    ap (λ (m : Option Files). with_file m lock (lock_of problem graph)) (cert_none cert log before none)
files_none lock cert problem (answers.Nothing log) before none = cert_none cert log before none
files_none lock cert problem (answers.Undecided log) before none = cert_none cert log before none

lock_none : (lock : List ℕ) (problem : Problem) (answer : Answer) (before after : Option Files) → before ≡ None
    → MayLock lock problem answer before after → after ≡ None
lock_none lock problem (answers.Best graph log) before after none held = held_none before after lock (lock_of problem graph) none held
lock_none lock problem (answers.Nothing log) before after none held = absurd held
lock_none lock problem (answers.Undecided log) before after none held = absurd held

whole_none : (lock cert : List ℕ) (problem : Problem) (answer : Answer) (before after : Option Files) → before ≡ None
    → HoldsWhole lock cert problem answer before after → after ≡ None
whole_none lock cert problem answer before after none (inl held) = held_none before after cert _ none held.1
whole_none lock cert problem answer before after none (inr held) =
    lock_none lock problem answer _ after (cert_none cert _ before none) held

each_none : (dir : List ℕ) (root : ℕ) (problems : List Problem) (found : List Answer) (before after : Option Files) → before ≡ None
    → HoldsFrom dir root problems found before after → after ≡ None
each_none dir root [] found before after none held = absurd held
each_none dir root (problem ∷ more) [] before after none held = absurd held
each_none dir root (problem ∷ more) (answer ∷ others) before after none (inl held) =
    whole_none (lock_at dir root) (cert_at dir root) problem answer before after none held
each_none dir root (problem ∷ more) (answer ∷ others) before after none (inr held) =
    each_none dir (root + 1) more others (files_with (lock_at dir root) (cert_at dir root) problem answer before) after
    (files_none (lock_at dir root) (cert_at dir root) problem answer before none) held

-- the files of any end of a writing
pub none_put : (lock cert : List ℕ) (task : Task) (before after : Option Files)
    → (after ≡ before) ⊎ KeepsWhole evidence lock cert task before after → before ≡ None → after ≡ None
none_put lock cert task before after (inl same) none = same ∙ none
none_put lock cert (tasks.Solve input) before after (inr whole) none =
    whole_none lock cert input.problem whole.answer before after none whole.held
none_put dir cert (tasks.Each input) before after (inr whole) none =
    each_none dir 0 _ whole.found before after none whole.held
none_put lock cert other before after (inr never) none = absurd never

-- ---- where it tells some at the end

pub told_if : (P : Files → Type 0) (old between after : Option Files) → StillTells old between → (between ≡ None → after ≡ None)
    → IfSome between P → IfSome (told old after) P
told_if P old between None still none held = tt
told_if P old between (Some files) (inl gone) none held = absurd (let no : Some files ≡ None = none gone in cc)
told_if P old between (Some files) (inr same) none held = subst (λ (m : Option Files). IfSome m P) same held

-- where nothing was put
pub told_unput : (P : Option Files → Type 0) (old after : Option Files) → StillTells old after → P after → P (told old after)
told_unput P old after still held = subst P (sym (told_still old after still)) held
