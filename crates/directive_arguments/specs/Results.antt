-- Steps one after the other: the first fault counts.
use Rattle.std.specs.Prelude.{◌≡◌, ℕ, List, [], ◌∷◌, Result, Ok, Err}
use Rattle.spec_grammar.specs.declared.fault.SpecFault.{SpecFault}
use Rattle.spec_grammar.specs.declared.fault.SpecFault.TheVariants as spec
use Rattle.directive_arguments.specs.declared.fault.ArgumentFault.{ArgumentFault}
use Rattle.directive_arguments.specs.declared.fault.ArgumentFault.TheVariants as fault

abbrev pub then_do : {A B E : Type 0} → Result A E → (A → Result B E) → Result B E
then_do (Ok a) f = f a
then_do (Err e) f = Err e

-- a step for each of them in their order
abbrev pub steps : {X S E : Type 0} → (X → S → Result S E) → List X → S → Result S E
steps f [] s = Ok s
steps f (x ∷ more) s = then_do (f x s) (steps f more)

abbrev pub ArgumentStep : Type 0 → Type 0
ArgumentStep A = Result A ArgumentFault

-- the text whose first string is at `place` has the fault
abbrev pub text_fault : ℕ → SpecFault → ArgumentFault
text_fault place spec.OutOfMemory = fault.OutOfMemory
text_fault place e = fault.Spec place e

-- ---- what a call answers

-- the fault is that of the step, but for want of memory, which may come at any time
abbrev pub Fails : {A : Type 0} → ArgumentFault → ArgumentStep A → Type 0
Fails fault.OutOfMemory step = Unit {0}
Fails e step = step ≡ Err e

abbrev pub Is : {A : Type 0} → Result A ArgumentFault → ArgumentStep A → Type 0
Is (Ok a) step = step ≡ Ok a
Is (Err e) step = Fails e step

-- the call changed something to what the step gives
abbrev pub Gives : {X A : Type 0} → Result X ArgumentFault → A → ArgumentStep A → Type 0
Gives (Ok x) new step = step ≡ Ok new
Gives (Err e) new step = Fails e step
