-- A text of the right form with no empty range has no fault but the want of memory, and no text two others.
use Rattle.std.proofs.Common.{◌≡◌, ◌≢◌, ℕ, true, false, List, [], None, refl, sym, ap, ◌∙◌}
use Rattle.std.proofs.lemmas.Option.{same_Some, none-some}
use Rattle.version_order.specs.Items.{Reads, IsList, first_empty}
use Rattle.version_order.specs.Faults.{IsSetFault}
use Rattle.version_order.specs.declared.item.Item as item
use Rattle.version_order.specs.declared.scan.Place.TheVariants.{Item}
use Rattle.version_order.specs.declared.fault.VersionSetFault.{VersionSetFault}
use Rattle.version_order.specs.declared.fault.VersionSetFault.TheVariants.{Empty, BadByte, EmptyRange, OutOfMemory}
use Rattle.version_order.proofs.AcceptLaws.{list_accepted}
use Rattle.version_order.proofs.VersionLaws.{one_place}
use Rattle.version_order.proofs.SoFarLaws.{one_reading}

-- no LIST is empty
some_text : (items : List item.Item) → Reads [] items → ⊥
some_text items r =
    let a = list_accepted [] (items, r) in
    let is : Item ≡ a.0 = same_Some Item a.0 a.1 in
    let final : false ≡ true = rw (← is) at a.2 in
    cc

-- a right text has want of memory as its only fault
pub only_memory : (text : List ℕ) (items : List item.Item) (fault : VersionSetFault) → Reads text items → first_empty 0 items ≡ None
    → IsSetFault text fault → fault ≡ OutOfMemory
only_memory text items Empty r none fault = absurd (some_text items (rw fault at r))
only_memory text items (BadByte p) r none fault = absurd (fault.1.wrong (items, r))
only_memory text items (EmptyRange p) r none fault =
    absurd (none-some p (sym none ∙ ap (first_empty 0) (one_reading text items fault.0 r fault.1) ∙ fault.2))
only_memory text items OutOfMemory r none fault = refl

-- a text has one fault at most, besides
pub one_fault : (text : List ℕ) (a b : VersionSetFault) → IsSetFault text a → IsSetFault text b → a ≢ OutOfMemory → b ≢ OutOfMemory → a ≡ b
one_fault text Empty Empty f g m n = refl
one_fault text Empty (BadByte q) f g m n = absurd (g.0 f)
one_fault text Empty (EmptyRange q) f g m n = absurd (some_text g.0 (rw f at g.1))
one_fault text (BadByte p) Empty f g m n = absurd (f.0 g)
one_fault text (BadByte p) (BadByte q) f g m n = ap (λ k. BadByte k) (one_place IsList text p q f.1 g.1)
one_fault text (BadByte p) (EmptyRange q) f g m n = absurd (f.1.wrong (g.0, g.1))
one_fault text (EmptyRange p) Empty f g m n = absurd (some_text f.0 (rw g at f.1))
one_fault text (EmptyRange p) (BadByte q) f g m n = absurd (g.1.wrong (f.0, f.1))
one_fault text (EmptyRange p) (EmptyRange q) f g m n =
    ap (λ k. EmptyRange k) (same_Some p q (sym f.2 ∙ ap (first_empty 0) (one_reading text f.0 g.0 f.1 g.1) ∙ g.2))
one_fault text OutOfMemory b f g m n = absurd (m refl)
one_fault text Empty OutOfMemory f g m n = absurd (n refl)
one_fault text (BadByte p) OutOfMemory f g m n = absurd (n refl)
one_fault text (EmptyRange p) OutOfMemory f g m n = absurd (n refl)
