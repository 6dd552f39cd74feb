-- The code of definitions and demands, step by step.
use Rattle.std.proofs.Common.{◌≡◌, ℕ, Bool, true, false, List, [], ◌∷◌, ◌++◌, map, Option, Some, None, sym, ap, subst, refl, ◌∙◌}
use Rattle.clause_formulas.specs.declared.defined.Defined.TheVariants.{Known, By}
use Rattle.std.proofs.lemmas.List.{append-nil}
use Rattle.clause_store.specs.declared.Lit.{Lit}
use Rattle.clause_store.specs.declared.Label.{Label}
use Rattle.clause_store.specs.declared.Label.TheVariants.{Demand}
use Rattle.clause_store.specs.Lits.{negation, clause_of}
use Rattle.clause_store.specs.Clauses.{Clauses}
use Rattle.clause_formulas.specs.declared.defined.Defined.{Defined}
use Rattle.clause_formulas.specs.Statements.{Statement, eval, never, or, any_statement, SaidBelow}
use Rattle.clause_formulas.specs.Drafts.{ClauseDraft, empty, draft_with, defined_true, DefinedBelow}
use Rattle.clause_circuits.specs.Growth.{Says, where_asked}
use Rattle.clause_formulas.specs.Gated.{Gate, Gated, gated, Fits, GatesBelow}
use Rattle.clause_formulas.specs.Values.{DefinesValue, DefinesIn, DefinesValues}
use Rattle.clause_formulas.specs.Allowed.{Allows, AllowsIn, SaysIn}
use Rattle.clause_circuits.specs.Gates.{labelled, option_list, kept_clauses}
use Rattle.clause_formulas.specs.Built.{Grown, Shared, or_on}
use Rattle.clause_formulas.specs.Built.{spread_in, ask_in, named_in, define_in, define_all_in, with_draft, drafted, assert_in, demand_in, demand_all_in, demands_true, define_on, literal_on, assert_on}
use Rattle.clause_formulas.proofs.Laws.{define_in_is, define_is, literal_is, define_all_is, assert_in_is, assert_is, demand_is, demand_all_is}

-- a draft's clause
pub with_draft-always : (s : Clauses) (label : Label) (d : ClauseDraft) → d.always ≡ true → s ≡ with_draft s label d
unfolding with_draft
with_draft-always s label d e = rw e refl

with_draft-clause : (s : Clauses) (label : Label) (d : ClauseDraft) (ls : List Lit) (o : Option (List Lit)) → d.always ≡ false → ls ≡ d.lits
    → o ≡ clause_of ls → record s { entries = s.entries ++ map (labelled label) (option_list o) } ≡ with_draft s label d
unfolding with_draft kept_clauses
with_draft-clause s label d ls o e f q = rw (e, q, f) refl

-- a draft that is a clause is added
pub with_draft-some : (s : Clauses) (label : Label) (d : ClauseDraft) (ls c : List Lit) → d.always ≡ false → ls ≡ d.lits
    → Some c ≡ clause_of ls
    → record s { entries = s.entries ++ labelled label c ∷ [] } ≡ with_draft s label d
with_draft-some s label d ls c e f q = with_draft-clause s label d ls (Some c) e f q

-- one that always holds adds nothing
pub with_draft-none : (s : Clauses) (label : Label) (d : ClauseDraft) (ls : List Lit) → d.always ≡ false → ls ≡ d.lits → None ≡ clause_of ls
    → s ≡ with_draft s label d
with_draft-none s label d ls e f q = ap (λ es. record s { entries = es }) (sym (append-nil s.entries))
    ∙ with_draft-clause s label d ls None e f q

-- a definition
pub define-step : (s t : Gated) (d e : ClauseDraft) (f : Statement) → d ≡ empty → spread_in s d f ≡ record { state = t; answer = e }
    → define_in s f ≡ named_in t e
unfolding define_in
define-step s t d e f q r = ap (λ (m : Shared ClauseDraft). named_in m.state m.answer) (ap (λ k. spread_in s k f) (sym q) ∙ r)

-- a value of the code means its formula
pub define_at : (s t : Gated) (f : Statement) (x : Defined) → GatesBelow s.list.vars s.gates → SaidBelow s.list.vars f
    → define_in s f ≡ record { state = t; answer = x } → DefinesIn s t x (λ v. eval v f)
define_at s t f x i b q = let P : Shared Defined → Type 0 = λ m. DefinesIn s m.state m.answer (λ v. eval v f) in
    subst P q (define_in_is s f i b)

-- over no gates
pub define-alone : (s t : Clauses) (gs hs : List Gate) (f : Statement) (x : Defined) → gs ≡ []
    → define_in (gated s gs) f ≡ record { state = gated t hs; answer = x } → define_on s f ≡ record { list = t; answer = x }
unfolding define_on
define-alone s t gs hs f x e q =
    ap (λ (m : Shared Defined). let made : Grown Defined = record { list = m.state.list; answer = m.answer } in made)
    (ap (λ ks. define_in (gated s ks) f) (sym e) ∙ q)

-- so does one over gates of its own
pub define_at-alone : (s t : Clauses) (f : Statement) (x : Defined) → SaidBelow s.vars f → define_on s f ≡ record { list = t; answer = x }
    → DefinesValue s t x (λ v. eval v f)
define_at-alone s t f x b q = let P : Grown Defined → Type 0 = λ m. DefinesValue s m.list m.answer (λ v. eval v f) in
    subst P q (define_is s f b)

-- the literal for what always holds
pub literal-true : (s t : Clauses) (x : Defined) (b : Bool) (l k : Lit) → x ≡ Known b → b ≡ true
    → or_on s [] ≡ record { list = t; answer = l } → k ≡ negation l → literal_on s x ≡ record { list = t; answer = k }
unfolding literal_on
literal-true s t x b l k h c e q = rw (h, c, e, q) refl

-- the literal for what never holds
pub literal-false : (s t : Clauses) (x : Defined) (b : Bool) (l : Lit) → x ≡ Known b → b ≡ false
    → or_on s [] ≡ record { list = t; answer = l } → literal_on s x ≡ record { list = t; answer = l }
unfolding literal_on
literal-false s t x b l h c e = rw (h, c, e) refl

-- a literal is its own
pub literal-by : (s : Clauses) (x : Defined) (l : Lit) → x ≡ By l → literal_on s x ≡ record { list = s; answer = l }
unfolding literal_on
literal-by s x l h = rw h refl

-- a literal of the code means its value
pub literal_at : (s t : Clauses) (x : Defined) (l : Lit) → DefinedBelow s.vars x → literal_on s x ≡ record { list = t; answer = l }
    → DefinesValue s t (By l) (λ v. defined_true v x)
literal_at s t x l b q = let P : Grown Lit → Type 0 = λ m. DefinesValue s m.list (By m.answer) (λ v. defined_true v x) in
    subst P q (literal_is s x b)

-- definitions in a row, after those that were made
abbrev pub after : List Defined → Shared (List Defined) → Shared (List Defined)
after ds m = record { state = m.state; answer = ds ++ m.answer }

-- values of the code mean their formulas
pub define_all_at : (s t : Gated) (fs : List Statement) (ds : List Defined) → GatesBelow s.list.vars s.gates
    → SaidBelow s.list.vars (any_statement fs) → define_all_in s fs ≡ record { state = t; answer = ds } → DefinesValues s t ds fs
define_all_at s t fs ds i b q = let P : Shared (List Defined) → Type 0 = λ m. DefinesValues s m.state m.answer fs in
    subst P q (define_all_is s fs i b)

-- clauses that make a formula true
pub assert-any : (s t : Gated) (u : Clauses) (label : Label) (d e : ClauseDraft) (fs : List Statement) → d ≡ empty
    → ask_in s d (any_statement fs) ≡ record { state = t; answer = e } → u ≡ with_draft t.list label e
    → assert_in label s true (any_statement fs) ≡ gated u t.gates
assert-any s t u label d e [] q r p =
    ap (λ (m : Shared ClauseDraft). drafted m.state label m.answer) (ap (λ k. ask_in s k never) (sym q) ∙ r)
    ∙ ap (λ l. gated l t.gates) (sym p)
assert-any s t u label d e (f ∷ fs) q r p =
    ap (λ (m : Shared ClauseDraft). drafted m.state label m.answer) (ap (λ k. ask_in s k (or f (any_statement fs))) (sym q) ∙ r)
    ∙ ap (λ l. gated l t.gates) (sym p)

-- what the code asserted asks for the formula, and for nothing else
pub assert_at : (s t : Gated) (label : Label) (f : Statement) → GatesBelow s.list.vars s.gates → SaidBelow s.list.vars f
    → assert_in label s true f ≡ t → SaysIn s t (where_asked label (λ v. eval v f))
assert_at s t label f i b q = subst (λ u. SaysIn s u (where_asked label (λ v. eval v f))) q (assert_in_is label f true s i b)

-- over no gates
pub assert-alone : (s t : Clauses) (gs hs : List Gate) (label : Label) (f : Statement) → gs ≡ []
    → assert_in label (gated s gs) true f ≡ gated t hs → assert_on label s true f ≡ t
assert-alone s t gs hs label f e q = ap (λ (m : Gated). m.list) (ap (λ ks. assert_in label (gated s ks) true f) (sym e) ∙ q)

-- so does what it asserted over gates of its own
pub assert_at-alone : (s t : Clauses) (label : Label) (f : Statement) → SaidBelow s.vars f → assert_on label s true f ≡ t
    → Says s t (where_asked label (λ v. eval v f))
assert_at-alone s t label f b q = subst (λ u. Says s u (where_asked label (λ v. eval v f))) q (assert_is label f true s b)

-- over no gates the plain law
pub allows-alone : (s t : Clauses) (gs hs : List Gate) (p : (ℕ → Bool) → (ℕ → Bool) → Type 0) → gs ≡ []
    → AllowsIn (gated s gs) (gated t hs) p → Allows s t p
allows-alone s t gs hs p e d = record { grows = d.grows; each = λ asked v h. d.each asked v (subst (Fits v) (sym e) tt) h }

-- one more demand of the code
pub demand-step : (s t : Gated) (u : Clauses) (f : Statement) (id : ℕ) (x : Defined) (d e : ClauseDraft)
    → define_in s f ≡ record { state = t; answer = x } → d ≡ empty → e ≡ draft_with d x → u ≡ with_draft t.list (Demand id) e
    → demand_in s f id ≡ gated u t.gates
unfolding demand_in
demand-step s t u f id x d e q r p o =
    ap (λ (m : Shared Defined). drafted m.state (Demand id) (draft_with empty m.answer)) q
    ∙ ap (λ k. drafted t (Demand id) (draft_with k x)) (sym r) ∙ ap (drafted t (Demand id)) (sym p) ∙ ap (λ l. gated l t.gates) (sym o)

-- a demand of the code asks for its formula, and for nothing else
pub demand_at : (s t : Gated) (f : Statement) (id : ℕ) → GatesBelow s.list.vars s.gates → SaidBelow s.list.vars f → demand_in s f id ≡ t
    → SaysIn s t (where_asked (Demand id) (λ v. eval v f))
demand_at s t f id i b q = subst (λ u. SaysIn s u (where_asked (Demand id) (λ v. eval v f))) q (demand_is s f id i b)

-- so do many
pub demand_all_at : (s t : Gated) (fs : List Statement) → GatesBelow s.list.vars s.gates → SaidBelow s.list.vars (any_statement fs)
    → demand_all_in s 0 fs ≡ t → SaysIn s t (λ asked v. demands_true asked v 0 fs)
demand_all_at s t fs i b q = subst (λ u. SaysIn s u (λ asked v. demands_true asked v 0 fs)) q (demand_all_is s 0 fs i b)
