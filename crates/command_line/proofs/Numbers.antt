-- An exit status names its answer.
use Rattle.std.specs.Prelude.{◌≡◌, ℕ, ◌==◌, Option, Some, None, if◌then◌else◌}
use Rattle.std.proofs.Common.{refl, sym, ap, ◌∙◌, arith}
use Rattle.run_output.specs.Exits.{number_of}
use Rattle.run_output.specs.Status.{Status}
use Rattle.run_output.specs.Status.TheVariants as statuses
use Rattle.command_line.specs.Ends.{IsToldApart}
use Rattle.command_line.proofs.Options.{same_inside}

-- the answer with a number
abbrev status_at : ℕ → Option Status
status_at number =
    if number == 0 then Some statuses.Done
    else if number == 1 then Some statuses.Unsatisfiable
    else if number == 2 then Some statuses.Usage
    else if number == 3 then Some statuses.Undecided
    else if number == 4 then Some statuses.BadInput
    else if number == 5 then Some statuses.ReadFault
    else if number == 6 then Some statuses.WriteFault
    else if number == 7 then Some statuses.TooLarge
    else if number == 8 then Some statuses.Refused
    else if number == 9 then Some statuses.NoMemory
    else if number == 11 then Some statuses.Stale
    else None

named : (status : Status) → status_at (number_of status) ≡ Some status
named statuses.Done = refl
named statuses.Unsatisfiable = refl
named statuses.Usage = refl
named statuses.Undecided = refl
named statuses.BadInput = refl
named statuses.ReadFault = refl
named statuses.WriteFault = refl
named statuses.TooLarge = refl
named statuses.Refused = refl
named statuses.NoMemory = refl
named statuses.Stale = refl

not_ten : (status : Status) → ¬ (number_of status ≡ 10)
not_ten statuses.Done e = absurd (omega (arith, e))
not_ten statuses.Unsatisfiable e = absurd (omega (arith, e))
not_ten statuses.Usage e = absurd (omega (arith, e))
not_ten statuses.Undecided e = absurd (omega (arith, e))
not_ten statuses.BadInput e = absurd (omega (arith, e))
not_ten statuses.ReadFault e = absurd (omega (arith, e))
not_ten statuses.WriteFault e = absurd (omega (arith, e))
not_ten statuses.TooLarge e = absurd (omega (arith, e))
not_ten statuses.Refused e = absurd (omega (arith, e))
not_ten statuses.NoMemory e = absurd (omega (arith, e))
not_ten statuses.Stale e = absurd (omega (arith, e))

-- no two answers have one number, and none has 10, which is the program's own
pub told_apart : IsToldApart
told_apart = (λ one other same. same_inside one other (sym (named one) ∙ (ap status_at same ∙ named other)), not_ten)
