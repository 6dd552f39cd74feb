-- Formulas become terms that weigh the same.
use Rattle.std.proofs.Common.{◌≡◌, ℕ, ◌+◌, ◌*◌, ◌≤◌, Bool, true, false, List, [], ◌∷◌, ◌++◌, refl, ap, ◌∙◌, arith, sum_by, Option, Some}
use Rattle.std.specs.Option.{option_to_list}
use Rattle.std.proofs.lemmas.List.Sums.{sum_by-cons}
use Rattle.clause_store.specs.declared.Lit.{Lit}
use Rattle.clause_store.specs.Clauses.{Clauses}
use Rattle.clause_circuits.specs.Growth.{MeetsSince, Defines}
use Rattle.clause_circuits.proofs.Composed.{Defines-refl, Defines-trans, MeetsSince-parts}
use Rattle.clause_circuits.specs.Cells.{bit}
use Rattle.clause_circuits.specs.Trees.{total, weight, weight_of, TermsBelow}
use Rattle.clause_formulas.specs.declared.defined.Defined.{Defined}
use Rattle.clause_formulas.specs.declared.defined.Defined.TheVariants.{Known, By}
use Rattle.clause_formulas.specs.Statements.{SaidBelow}
use Rattle.clause_formulas.specs.Drafts.{defined_true, DefinedBelow}
use Rattle.clause_formulas.specs.Gated.{Gated, gated, bare, GatesBelow, Fits, Keeps}
use Rattle.clause_formulas.specs.Built.{define_in, literal_on}
use Rattle.clause_formulas.proofs.GateLaws.{Keeps-refl, Keeps-trans, Keeps-extends}
use Rattle.clause_formulas.proofs.Laws.{define_in_is, literal_is}
use Rattle.clause_formulas.proofs.DraftLaws.{SaidBelow-le}
use Rattle.cost_terms.specs.declared.weighted.Weighted.{Weighted}
use Rattle.cost_terms.specs.Weighed.{weight_said, WeighedBelow, AllWeighedBelow, term_on, one_in, terms_in, lists_in, lists_on, DefinesTerms, sums_said, tops_said}
use Rattle.criteria_totals.specs.Spellings.{AllSmall}
use Rattle.criteria_totals.specs.Totals.{AllTermsBelow, sums, tops}

-- a term that weighs so much where the value is true
record MakesTerm (old new : Clauses) (term : Option (ℕ × Lit)) (most : ℕ) (f : (ℕ → Bool) → ℕ) : Type 0 where
  defines : Defines old new
  below : TermsBelow new.vars (option_to_list term)
  small : total (option_to_list term) ≤ most
  weighs : (asked v : ℕ → Bool) → MeetsSince asked v old new → weight v (option_to_list term) ≡ f v

by-literal : (s : Clauses) (w : ℕ) (d : Defined) → DefinedBelow s.vars d
    → MakesTerm s (literal_on s d).list (Some (w, (literal_on s d).answer)) w (λ v. w * bit (defined_true v d))
by-literal s w d b =
    let x = literal_is s d b in record {
      defines = x.defines;
      below = (x.means.below, tt);
      small = omega arith;
      weighs = λ asked v m. sum_by-cons (weight_of v) (w, (literal_on s d).answer) [] ∙ rw (x.means.value asked v m) (omega arith);
    }

term_is : (s : Clauses) (w : ℕ) (d : Defined) → DefinedBelow s.vars d
    → MakesTerm s (term_on s w d).list (term_on s w d).answer w (λ v. w * bit (defined_true v d))
term_is s w (Known false) b = record { defines = Defines-refl s; below = tt; small = omega arith; weighs = λ asked v m. omega arith }
term_is s w (Known true) b = by-literal s w (Known true) b
term_is s w (By l) b = by-literal s w (By l) b

-- the term of a formula, where an assignment gives the old gates their values
record DefinesTerm (old new : Gated) (term : Option (ℕ × Lit)) (most : ℕ) (f : (ℕ → Bool) → ℕ) : Type 0 where
  defines : Defines old.list new.list
  keeps : Keeps old new
  below : TermsBelow new.list.vars (option_to_list term)
  small : total (option_to_list term) ≤ most
  weighs : (asked v : ℕ → Bool) → Fits v old.gates → MeetsSince asked v old.list new.list → weight v (option_to_list term) ≡ f v

one_is : (s : Gated) (t : Weighted) → GatesBelow s.list.vars s.gates → SaidBelow s.list.vars t.formula
    → DefinesTerm s (one_in s t).state (one_in s t).answer t.weight (λ v. weight_said v t)
unfolding one_in
one_is s t i b =
    let m = define_in s t.formula in
    let x = define_in_is s t.formula i b in
    let n = term_on m.state.list t.weight m.answer in
    let y = term_is m.state.list t.weight m.answer x.means.below in record {
      defines = Defines-trans s.list m.state.list n.list x.defines y.defines;
      keeps = Keeps-trans s m.state (gated n.list m.state.gates) x.keeps
          (Keeps-extends m.state.list n.list m.state.gates x.keeps.below y.defines.says);
      below = y.below;
      small = y.small;
      weighs = λ asked v f h.
          let p = MeetsSince-parts asked v s.list m.state.list n.list x.defines.says.grows y.defines.says.grows h in
          y.weighs asked v p.1 ∙ ap (λ b. t.weight * bit b) (x.means.value asked v f p.0);
    }

TermsBelow-le : (m n : ℕ) (ts : List (ℕ × Lit)) → m ≤ n → TermsBelow m ts → TermsBelow n ts
TermsBelow-le m n [] h b = tt
TermsBelow-le m n (t ∷ ts) h b = (omega arith, TermsBelow-le m n ts h b.1)

TermsBelow-append : (n : ℕ) (ts us : List (ℕ × Lit)) → TermsBelow n ts → TermsBelow n us → TermsBelow n (ts ++ us)
TermsBelow-append n [] us a b = b
TermsBelow-append n (t ∷ ts) us a b = (a.0, TermsBelow-append n ts us a.1 b)

sum-append : {A : Type 0} (f : A → ℕ) (xs ys : List A) → sum_by f (xs ++ ys) ≡ sum_by f xs + sum_by f ys
sum-append f [] ys = omega arith
sum-append f (x ∷ xs) ys = omega (arith, sum_by-cons f x (xs ++ ys), sum_by-cons f x xs, sum-append f xs ys)

pub WeighedBelow-le : (m n : ℕ) (ts : List Weighted) → m ≤ n → WeighedBelow m ts → WeighedBelow n ts
WeighedBelow-le m n [] h b = tt
WeighedBelow-le m n (t ∷ ts) h b = (SaidBelow-le m n t.formula h b.0, WeighedBelow-le m n ts h b.1)

pub terms_is : (s : Gated) (ts : List Weighted) → GatesBelow s.list.vars s.gates → WeighedBelow s.list.vars ts
    → DefinesTerms s (terms_in s ts).state (terms_in s ts).answer ts
terms_is s [] i b = record {
  defines = Defines-refl s.list;
  keeps = Keeps-refl s i;
  below = tt;
  small = omega arith;
  weighs = λ asked v f m. refl;
}
terms_is s (t ∷ ts) i b =
    let m = one_in s t in
    let x = one_is s t i b.0 in
    let n = terms_in m.state ts in
    let y = terms_is m.state ts x.keeps.below (WeighedBelow-le s.list.vars m.state.list.vars ts x.defines.says.grows.more b.1) in
    let head = option_to_list m.answer in record {
      defines = Defines-trans s.list m.state.list n.state.list x.defines y.defines;
      keeps = Keeps-trans s m.state n.state x.keeps y.keeps;
      below = TermsBelow-append n.state.list.vars head n.answer
          (TermsBelow-le m.state.list.vars n.state.list.vars head y.defines.says.grows.more x.below) y.below;
      small = omega (
        arith,
        x.small,
        y.small,
        sum-append (λ (t : ℕ × Lit). t.0) head n.answer,
        sum_by-cons
            (λ (t : Weighted). t.weight) t ts,
      );
      weighs = λ asked v f h.
          let p = MeetsSince-parts asked v s.list m.state.list n.state.list x.defines.says.grows y.defines.says.grows h in
          omega (
            arith,
            x.weighs asked v f p.0,
            y.weighs asked v (x.keeps.fits asked v f p.0) p.1,
            sum-append (weight_of v) head n.answer,
            sum_by-cons
                (weight_said v) t ts,
          );
    }

pub AllWeighedBelow-le : (m n : ℕ) (lists : List (List Weighted)) → m ≤ n → AllWeighedBelow m lists → AllWeighedBelow n lists
AllWeighedBelow-le m n [] h b = tt
AllWeighedBelow-le m n (ts ∷ lists) h b = (WeighedBelow-le m n ts h b.0, AllWeighedBelow-le m n lists h b.1)

AllTermsBelow-from : (m n : ℕ) (ts : List (ℕ × Lit)) (lists : List (List (ℕ × Lit))) → m ≤ n → TermsBelow m ts → AllTermsBelow n lists
    → AllTermsBelow n (ts ∷ lists)
AllTermsBelow-from m n ts lists h a b = (TermsBelow-le m n ts h a, b)

-- the longer list defines terms for some lists of formulas
pub record DefinesLists (old new : Clauses) (terms : List (List (ℕ × Lit))) (lists : List (List Weighted)) : Type 0 where
  pub defines : Defines old new
  pub below : AllTermsBelow new.vars terms
  pub small : AllSmall (tops_said lists) → AllSmall (tops terms)
  pub weigh : (asked v : ℕ → Bool) → MeetsSince asked v old new → sums v terms ≡ sums_said v lists

-- the same where an assignment gives the old gates their values
record DefinesListsIn (old new : Gated) (terms : List (List (ℕ × Lit))) (lists : List (List Weighted)) : Type 0 where
  defines : Defines old.list new.list
  keeps : Keeps old new
  below : AllTermsBelow new.list.vars terms
  small : AllSmall (tops_said lists) → AllSmall (tops terms)
  weigh : (asked v : ℕ → Bool) → Fits v old.gates → MeetsSince asked v old.list new.list → sums v terms ≡ sums_said v lists

lists_in_is : (s : Gated) (lists : List (List Weighted)) → GatesBelow s.list.vars s.gates → AllWeighedBelow s.list.vars lists
    → DefinesListsIn s (lists_in s lists).state (lists_in s lists).answer lists
lists_in_is s [] i b = record {
  defines = Defines-refl s.list;
  keeps = Keeps-refl s i;
  below = tt;
  small = λ h. h;
  weigh = λ asked v f m. refl;
}
lists_in_is s (ts ∷ lists) i b =
    let m = terms_in s ts in
    let x = terms_is s ts i b.0 in
    let n = lists_in m.state lists in
    let y = lists_in_is m.state lists x.keeps.below
    (AllWeighedBelow-le s.list.vars m.state.list.vars lists x.defines.says.grows.more b.1) in record {
      defines = Defines-trans s.list m.state.list n.state.list x.defines y.defines;
      keeps = Keeps-trans s m.state n.state x.keeps y.keeps;
      below = AllTermsBelow-from m.state.list.vars n.state.list.vars m.answer n.answer y.defines.says.grows.more x.below y.below;
      small = λ h. (let a = h.0 in omega (arith, a, x.small), y.small h.1);
      weigh = λ asked v f h.
          let p = MeetsSince-parts asked v s.list m.state.list n.state.list x.defines.says.grows y.defines.says.grows h in
          λ k. x.weighs asked v f p.0 k ∷ y.weigh asked v (x.keeps.fits asked v f p.0) p.1 k;
    }

pub lists_is : (s : Clauses) (lists : List (List Weighted)) → AllWeighedBelow s.vars lists
    → DefinesLists s (lists_on s lists).list (lists_on s lists).answer lists
lists_is s lists b = let x = lists_in_is (bare s) lists tt b in record {
  defines = x.defines;
  below = x.below;
  small = x.small;
  weigh = λ asked v h. x.weigh asked v tt h;
}
