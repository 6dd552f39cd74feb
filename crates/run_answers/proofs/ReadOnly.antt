-- Calls that only read, one behind the other.
use Rattle.std.proofs.Common.{◌≡◌, ◌∙◌, subst, ℕ, arith, Option, Ok}
use Rattle.std.specs.Prelude.{IsErrOf}
use Rattle.outside_desk.specs.Causes.{Counts}
use Rattle.outside_desk.specs.Files.{Files, StillTells}
use Rattle.outside_desk.specs.declared.fault.DeskFault.{DeskFault}
use Rattle.outside_desk.specs.declared.fault.DeskFault.TheVariants.{Failed}
use Rattle.outside_desk.proofs.Tellings.{both_still}
use Rattle.run_answers.specs.Reads.{Unchanged}

-- the first ended by what was read
pub only_more : {first fails ends : Type 0} {before between after : Option Files} {faults_before faults_between faults : ℕ}
    {puts_before puts_between puts : ℕ} → Unchanged before between faults_before faults_between puts_before puts_between first (Unit {0})
    → Unchanged between after faults_between faults puts_between puts fails ends
    → Unchanged before after faults_before faults puts_before puts fails ends
only_more {fails} {before} {between} {after} {faults} one two = record {
  same = both_still before between after one.same two.same;
  cause = subst (λ (n : ℕ). Counts n faults fails) (one.steady tt) two.cause;
  steady = λ ended. two.steady ended ∙ one.steady tt;
  put_faults = two.put_faults ∙ one.put_faults;
}

-- calls so far, of which no device made one fail
pub so_far : {before after : Option Files} {faults_before faults puts_before puts : ℕ} → StillTells before after → faults ≡ faults_before
    → puts ≡ puts_before → Unchanged before after faults_before faults puts_before puts ⊥ (Unit {0})
so_far {faults_before} {faults} same steady put_faults = record {
  same = same;
  cause = record { later = omega (arith, steady); cause = λ failed. absurd failed };
  steady = λ ended. steady;
  put_faults = put_faults;
}

-- a call of a desk that gave something
pub gave : {A : Type 0} {before after : Option Files} {faults_before faults puts_before puts : ℕ} (x : A) → StillTells before after
    → Counts faults_before faults (IsErrOf {E = DeskFault} (Ok x) Failed)
    → (¬ IsErrOf {E = DeskFault} (Ok x) Failed → faults ≡ faults_before) → puts ≡ puts_before
    → Unchanged before after faults_before faults puts_before puts ⊥ (Unit {0})
gave x same cause steady put_faults = record {
  same = same;
  cause = record { later = cause.later; cause = λ failed. absurd failed };
  steady = λ ended. steady (λ failed. absurd cc);
  put_faults = put_faults;
}
