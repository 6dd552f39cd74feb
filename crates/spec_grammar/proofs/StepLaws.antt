-- Items that are taken one after another.
use Rattle.std.proofs.Common.{◌≡◌, List, [], ◌∷◌, ◌++◌, Option, Some, None, option_map, option_and_then, refl, sym, ap, subst, ◌∙◌, append_assoc, append-nil}
use Rattle.spec_grammar.proofs.Common.{AllByRecursion, same_Some, ItemStep, spell_step, spell_steps, before_item, before_of, last_of, IsRightStep, AreRight, add, nest, nest_in, begin_part, constrain, take_item, HasNoEmpty, take_steps}
use Rattle.spec_grammar.proofs.Common.{SpecItem, Name, Versions, Variant, Compiler, Key, Caret, Mode, Before, Part, Draft}

pub recursion_weaker : {X : Type 0} (P Q : X → Type 0) → ((x : X) → P x → Q x) → (xs : List X) → AllByRecursion P xs → AllByRecursion Q xs
recursion_weaker P Q f [] h = tt
recursion_weaker P Q f (x ∷ xs) h = (f x h.0, recursion_weaker P Q f xs h.1)

-- ---- one list of steps behind another

pub right_append : (mode : Mode) (last : Option SpecItem) (a b : List ItemStep) → AreRight mode last a → AreRight mode (last_of last a) b
    → AreRight mode last (a ++ b)
right_append mode last [] b h k = k
right_append mode last (s ∷ a) b h k = (h.0, right_append mode (Some s.item) a b h.1 k)

pub last_append : (last : Option SpecItem) (a b : List ItemStep) → last_of last (a ++ b) ≡ last_of (last_of last a) b
last_append last [] b = refl
last_append last (s ∷ a) b = last_append (Some s.item) a b

pub all_append : {X : Type 0} (P : X → Type 0) (a b : List X) → AllByRecursion P a → AllByRecursion P b → AllByRecursion P (a ++ b)
all_append P [] b h k = k
all_append P (x ∷ a) b h k = (h.0, all_append P a b h.1 k)

pub spell_append : (a b : List ItemStep) → spell_steps (a ++ b) ≡ spell_steps a ++ spell_steps b
spell_append [] b = refl
spell_append (s ∷ a) b = ap (λ l. spell_step s ++ l) (spell_append a b) ∙ sym (append_assoc (spell_step s) (spell_steps a) (spell_steps b))

pub spell_one : (a : List ItemStep) (s : ItemStep) → spell_steps (a ++ s ∷ []) ≡ spell_steps a ++ spell_step s
spell_one a s = spell_append a (s ∷ []) ∙ ap (λ l. spell_steps a ++ l) (append-nil (spell_step s))

pub take_append : (draft : Draft) (a b : List ItemStep)
    → take_steps draft (a ++ b) ≡ option_and_then (λ next. take_steps next b) (take_steps draft a)
unfolding take_steps
take_append draft [] b = refl
take_append draft (s ∷ a) b =
    elim (take_item s.item draft) as (λ o. option_and_then (λ next. take_steps next (a ++ b)) o
    ≡ option_and_then (λ next. take_steps next b) (option_and_then (λ next. take_steps next a) o)) [
      | None ↦ refl
      | Some next ↦
          take_append next a b
    ]

pub take_one : (draft : Draft) (s : ItemStep) → take_steps draft (s ∷ []) ≡ take_item s.item draft
unfolding take_steps
take_one draft s = elim (take_item s.item draft) as (λ o. option_and_then (λ next. Some next) o ≡ o) [ None ↦ refl | Some next ↦ refl ]

-- ---- what one item did

pub some_then : {A B : Type 0} (f : A → Option B) (o : Option A) (b : B) → option_and_then f o ≡ Some b → (a : A) × (o ≡ Some a)
    × (f a ≡ Some b)
some_then f None b e = absurd cc
some_then f (Some a) b e = (a, refl, e)

pub some_of : {A B : Type 0} (f : A → B) (o : Option A) (b : B) → option_map f o ≡ Some b → (a : A) × (o ≡ Some a) × (f a ≡ b)
some_of f None b e = absurd cc
some_of f (Some a) b e = (a, refl, same_Some (f a) b e)

abbrev pub TookOn : SpecItem → Draft → Draft → Type 0
TookOn item draft next = (p : Part) × (q : Part) × (draft.part ≡ Some p) × (add item p ≡ Some q) × (record draft { part = Some q } ≡ next)

-- the item leads from one draft to the next
abbrev pub Took : SpecItem → Draft → Draft → Type 0
Took (Name w) draft next = begin_part w draft draft.part ≡ next
Took Caret draft next = (p : Part) × (draft.part ≡ Some p) × (nest draft p ≡ next)
Took (Versions items) draft next = TookOn (Versions items) draft next
Took (Variant mark w) draft next = TookOn (Variant mark w) draft next
Took (Compiler w items) draft next = TookOn (Compiler w items) draft next
Took (Key w values) draft next = TookOn (Key w values) draft next

took_on : (item : SpecItem) (draft next : Draft) (part : Option Part) → draft.part ≡ part → constrain item draft part ≡ Some next
    → TookOn item draft next
took_on item draft next None same e = absurd cc
took_on item draft next (Some p) same e = let q = some_of (λ q. record draft { part = Some q }) (add item p) next e in
    (p, q.0, same, q.1, q.2)

took : (item : SpecItem) (draft next : Draft) → take_item item draft ≡ Some next → Took item draft next
took (Name w) draft next e = same_Some _ next e
took Caret draft next e = some_of (nest draft) draft.part next e
took item draft next e = took_on item draft next draft.part refl e

-- what each right item keeps is kept by right steps
pub steps_keep : (mode : Mode) (P : Before → Draft → Type 0)
    → ((last : Option SpecItem) (s : ItemStep) (draft next : Draft) → IsRightStep mode last s → HasNoEmpty s → P (before_of last) draft
    → Took s.item draft next → P (before_item s.item) next)
    → (last : Option SpecItem) (steps : List ItemStep) (draft end : Draft) → AreRight mode last steps → AllByRecursion HasNoEmpty steps
    → P (before_of last) draft → take_steps draft steps ≡ Some end → P (before_of (last_of last steps)) end
unfolding take_steps
steps_keep mode P keep last [] draft end are none h e = subst (P (before_of last)) (same_Some draft end e) h
steps_keep mode P keep last (s ∷ steps) draft end are none h e =
    let next = some_then (λ d. take_steps d steps) (take_item s.item draft) end e in
    steps_keep mode P keep (Some s.item) steps next.0 end are.1 none.1
    (keep last s draft next.0 are.0 none.0 h (took s.item draft next.0 next.1)) next.2

pub nested_part : (draft : Draft) (top : Option Part) (p : Part) → (nest_in draft top p).part ≡ None
nested_part draft None p = refl
nested_part draft (Some top) p = refl

pub nested_specs : (draft : Draft) (top : Option Part) (p : Part) → (nest_in draft top p).specs ≡ draft.specs
nested_specs draft None p = refl
nested_specs draft (Some top) p = refl
