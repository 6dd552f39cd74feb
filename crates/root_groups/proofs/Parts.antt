-- The first of some parts that is refused, and whether all are certified.
use Rattle.std.proofs.Common.{◌≡◌, ◌↔◌, ◌∙◌, refl, sym, ap, subst, ℕ, ◌+◌, ◌<◌, ◌≤◌, List, [], ◌∷◌, ◌++◌, length, take, drop, get_or, All, Option, Some, None, arith}
use Rattle.std.proofs.lemmas.List.{drop_more, take_all, take_more}
use Rattle.std.proofs.Math.ListN.{drop_of_length-le}
use Rattle.std.proofs.lemmas.List.Elements.{All-append, All-drop, All-get_or, All-push, All-take}
use Rattle.log_checker.specs.declared.step.Step.{Step}
use Rattle.log_checker.specs.declared.step.Step.TheVariants.{Accepted, Refused}
use Rattle.root_groups.specs.Checked.{Bad, IsCertified, either, first_refused, refused_at, step_of}
use Rattle.root_groups.specs.declared.checked.CheckedPart.{CheckedPart}
use Rattle.root_groups.proofs.Laws.{of_halves}

-- ---- the first refusal of parts behind each other

-- three in a row may be put together from either end
either_three : (a b c : Option Bad) → either (either a b) c ≡ either a (either b c)
either_three None b c = refl
either_three (Some x) b c = refl

-- of two lists: that of the front, or else that of the back, whose places begin behind the front's
refused_behind : (place : ℕ) (front back : List CheckedPart)
    → first_refused place (front ++ back) ≡ either (first_refused place front) (first_refused (place + length front) back)
refused_behind place [] back = let none : place + 0 ≡ place = omega arith in rw none refl
refused_behind place (part ∷ front) back =
    let there : place + length (part ∷ front) ≡ (place + 1) + length front = omega arith in
    rw (there, refused_behind (place + 1) front back)
    (sym (either_three (refused_at place (step_of part)) (first_refused (place + 1) front)
    (first_refused ((place + 1) + length front) back)))

-- ---- none is refused exactly where all are certified

-- what is not refused is accepted
pub accepted_at : (place : ℕ) (step : Step) → refused_at place step ≡ None → step ≡ Accepted
accepted_at place Accepted is = refl
accepted_at place (Refused line why) is = absurd cc

-- and what is accepted is not refused
passed_at : (place : ℕ) (step : Step) → step ≡ Accepted → refused_at place step ≡ None
passed_at place step is = ap (refused_at place) is

-- none of two is refused exactly where each is not
neither : (one other : Option Bad) → either one other ≡ None → (one ≡ None) × (other ≡ None)
neither None other is = (refl, is)
neither (Some x) other is = absurd cc

both_none : (one other : Option Bad) → one ≡ None → other ≡ None → either one other ≡ None
both_none None other first second = second
both_none (Some x) other first second = absurd cc

-- ---- what the check of both halves says of all

-- none is refused exactly where all are certified
pub halves_exact : (parts front back : List CheckedPart) (k : ℕ) (one other : Option Bad) → front ≡ take k parts → back ≡ drop k parts
    → (one ≡ None) ↔ All IsCertified front → (other ≡ None) ↔ All IsCertified back
    → (either one other ≡ None) ↔ All IsCertified parts
halves_exact parts front back k one other at_front at_back first second = (
  (λ none.
      let both = neither one other none in
      subst (All IsCertified) (sym (of_halves parts front back k at_front at_back))
      (All-append IsCertified front back (first.0 both.0) (second.0 both.1))),
  (λ all.
      both_none one other (first.1 (subst (All IsCertified) (sym at_front) (All-take IsCertified k parts all)))
      (second.1 (subst (All IsCertified) (sym at_back) (All-drop IsCertified k parts all)))),
)

-- the first refusal of both is that of all
pub halves_first : (parts front back : List CheckedPart) (k place behind : ℕ) (one other : Option Bad) → front ≡ take k parts
    → back ≡ drop k parts → place + length front ≡ behind → one ≡ first_refused place front → other ≡ first_refused behind back
    → either one other ≡ first_refused place parts
halves_first parts front back k place behind one other at_front at_back at first second =
    rw (of_halves parts front back k at_front at_back, first, second, ← at) (sym (refused_behind place front back))

-- ---- one part more (i of them are accepted)

-- a part that is accepted leaves the search for the first that is refused to those behind it
pub first_later : (place i : ℕ) (part : CheckedPart) (parts : List CheckedPart) (step : Step) → i < length parts
    → part ≡ get_or parts i part
    → step ≡ step_of part → refused_at (place + i) step ≡ None
    → first_refused (place + i) (drop i parts) ≡ first_refused place parts
    → first_refused (place + (i + 1)) (drop (i + 1) parts) ≡ first_refused place parts
first_later place i part parts step within is done passed so_far =
    let next : (place + i) + 1 ≡ place + (i + 1) = omega arith in
    let here : refused_at (place + i) (step_of part) ≡ None = ap (refused_at (place + i)) (sym done) ∙ passed in
    let split : drop i parts ≡ part ∷ drop (i + 1) parts =
    drop_more parts i part within ∙ ap (λ (p : CheckedPart). p ∷ drop (i + 1) parts) (sym is) in
    sym (ap (λ (ps : List CheckedPart). first_refused (place + i) ps) split
    ∙ ap (λ (o : Option Bad). either o (first_refused ((place + i) + 1) (drop (i + 1) parts))) here
    ∙ ap (λ (n : ℕ). first_refused n (drop (i + 1) parts)) next) ∙ so_far

-- one that is refused is the first
pub first_here : (place i : ℕ) (part : CheckedPart) (parts : List CheckedPart) (step : Step) (x : Bad) → i < length parts
    → part ≡ get_or parts i part → step ≡ step_of part → Some x ≡ refused_at (place + i) step
    → first_refused (place + i) (drop i parts) ≡ first_refused place parts → Some x ≡ first_refused place parts
first_here place i part parts step x within is done refused so_far =
    let here : refused_at (place + i) (step_of part) ≡ Some x = ap (refused_at (place + i)) (sym done) ∙ sym refused in
    let split : drop i parts ≡ part ∷ drop (i + 1) parts =
    drop_more parts i part within ∙ ap (λ (p : CheckedPart). p ∷ drop (i + 1) parts) (sym is) in
    sym (sym so_far ∙ ap (λ (ps : List CheckedPart). first_refused (place + i) ps) split
    ∙ ap (λ (o : Option Bad). either o (first_refused ((place + i) + 1) (drop (i + 1) parts))) here)

-- behind the last part there is none
pub first_none : (place i : ℕ) (parts : List CheckedPart) → length parts ≤ i
    → first_refused (place + i) (drop i parts) ≡ first_refused place parts → None ≡ first_refused place parts
first_none place i parts all so_far =
    sym (ap (λ (ps : List CheckedPart). first_refused (place + i) ps) (drop_of_length-le parts all)) ∙ so_far

-- so many that are accepted, and one more
pub certified_more : (i : ℕ) (part : CheckedPart) (parts : List CheckedPart) → i < length parts → part ≡ get_or parts i part
    → All IsCertified (take i parts) → IsCertified part → All IsCertified (take (i + 1) parts)
certified_more i part parts within is so_far here =
    rw (take_more parts i part within, ← is) (All-push IsCertified (take i parts) part so_far here)

-- so all are
pub all_certified : (i : ℕ) (parts : List CheckedPart) → length parts ≤ i → All IsCertified (take i parts)
    → (◌≡◌ {A = Option Bad} None None) ↔ All IsCertified parts
all_certified i parts all so_far =
    ((λ same. subst (λ (ps : List CheckedPart). All IsCertified ps) (take_all i parts all) so_far), (λ certified. refl))

-- where one is refused, not all are certified
pub not_all : (place i : ℕ) (part : CheckedPart) (parts : List CheckedPart) (step : Step) (x : Bad) → i < length parts
    → part ≡ get_or parts i part → (step ≡ Accepted) ↔ IsCertified part → Some x ≡ refused_at place step
    → (Some x ≡ None) ↔ All IsCertified parts
not_all place i part parts step x within is exact refused = (
  (λ none. absurd (cc)),
  (λ all.
      let no = refused ∙ passed_at place step (exact.1 (subst IsCertified (sym is) (All-get_or IsCertified parts i part within all))) in
      absurd (cc)),
)
