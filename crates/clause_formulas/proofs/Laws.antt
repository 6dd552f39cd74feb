-- What the clauses of a formula say.
use Rattle.std.proofs.Common.{◌≡◌, ℕ, ◌+◌, Bool, true, false, not, ◌&&◌, ◌||◌, List, [], ◌∷◌, refl, sym, ap, ◌∙◌}
use Rattle.clause_store.specs.declared.Label.{Label}
use Rattle.clause_store.specs.declared.Label.TheVariants.{Demand}
use Rattle.clause_store.specs.Lits.{negation, lit_true, AllBelow}
use Rattle.clause_store.specs.Clauses.{Clauses, counts}
use Rattle.clause_formulas.specs.declared.defined.Defined.{Defined}
use Rattle.clause_formulas.specs.declared.defined.Defined.TheVariants.{Known, By}
use Rattle.clause_formulas.specs.Statements.{Statement, atom, never, or, no, eval, any_statement, SaidBelow}
use Rattle.clause_formulas.specs.Drafts.{ClauseDraft, empty, draft_true, draft_with, defined_true, DefinedBelow}
use Rattle.clause_circuits.specs.Growth.{Agree, MeetsSince, Grows, Says, where_asked}
use Rattle.clause_formulas.specs.Gated.{Gated, bare, Fits, GatesBelow, Keeps}
use Rattle.clause_formulas.specs.Values.{DefinesValue, DefinesIn, MeanEach, DefinesValues}
use Rattle.clause_formulas.specs.Allowed.{SaysIn}
use Rattle.clause_formulas.specs.Built.{or_on}
use Rattle.clause_formulas.specs.Built.{spread_in, define_in, define_all_in, assert_in, demand_in, demand_all_in, define_on, literal_on, assert_on, demands_true, claimed, drafted, with_draft}
use Rattle.clause_store.proofs.Meaning.{lit_true-negation}
use Rattle.clause_circuits.proofs.Composed.{Defines-refl, Defines-trans, MeetsSince-parts}
use Rattle.clause_formulas.proofs.GateLaws.{Keeps-refl, Keeps-trans}
use Rattle.clause_formulas.proofs.ValueLaws.{or_is, MeansIn-later, MeansIn-earlier}
use Rattle.clause_formulas.proofs.DraftLaws.{eval-agree, SaidBelow-le, or-false, with_defined-true, with_defined-below}
use Rattle.clause_formulas.proofs.SpreadLaws.{Spreads, spread_is, named_is, draft_says, or-true}
use Rattle.clause_formulas.proofs.AskLaws.{asked_says}
use Rattle.clause_formulas.proofs.SaysLaws.{SaysIn-from, SaysIn-refl, SaysIn-alone, SaysIn-as, SaysIn-then, SaysIn-keeps}

-- definitions one after the other
MeanEach-earlier : (a b c : Gated) (ds : List Defined) (fs : List Statement) → Keeps a b → Grows b.list c.list → MeanEach b c ds fs
    → MeanEach a c ds fs
MeanEach-earlier a b c [] [] g h m = tt
MeanEach-earlier a b c [] (f ∷ fs) g h m = elim m [ ]
MeanEach-earlier a b c (d ∷ ds) [] g h m = elim m [ ]
MeanEach-earlier a b c (d ∷ ds) (f ∷ fs) g h m = (
  MeansIn-earlier a b c d (λ v. eval v f) g h m.0,
  MeanEach-earlier a b c ds fs g h m.1,
)

gate-join : (s t u : Gated) (e : ClauseDraft) (x : Defined) (f : Statement) → Spreads s empty t e f → DefinesIn t u x (λ v. draft_true v e)
    → DefinesIn s u x (λ v. eval v f)
gate-join s t u e x f a b = record {
  defines = Defines-trans s.list t.list u.list a.defines b.defines;
  keeps = Keeps-trans s t u a.keeps b.keeps;
  means = record {
    below = b.means.below;
    value = λ asked v k m.
        let p = MeetsSince-parts asked v s.list t.list u.list a.defines.says.grows b.defines.says.grows m in
        b.means.value asked v (a.keeps.fits asked v k p.0) p.1 ∙ a.says asked v k p.0;
  };
}

-- the value of a formula is defined, and true exactly where the formula is
pub define_in_is : (s : Gated) (f : Statement) → GatesBelow s.list.vars s.gates → SaidBelow s.list.vars f
    → DefinesIn s (define_in s f).state (define_in s f).answer (λ v. eval v f)
unfolding define_in
define_in_is s f i b =
    let m = spread_in s empty f in
    let x = spread_is f s empty tt i b in
    gate-join s m.state _ m.answer _ f x (named_is m.state m.answer x.below x.keeps.below)

-- over no gates
pub define_is : (s : Clauses) (f : Statement) → SaidBelow s.vars f
    → DefinesValue s (define_on s f).list (define_on s f).answer (λ v. eval v f)
unfolding define_on
define_is s f b =
    let d = define_in_is (bare s) f tt b in
    record { defines = d.defines; means = record { below = d.means.below; value = λ asked v m. d.means.value asked v tt m } }

-- a rule over what a definition made
Says-defined : (s t u : Gated) (label : Label) (p : (ℕ → Bool) → Bool) (f : Statement) → GatesBelow s.list.vars s.gates
    → SaidBelow s.list.vars f → Keeps s t → ((asked v : ℕ → Bool) → Fits v s.gates → MeetsSince asked v s.list t.list → p v ≡ eval v f)
    → SaysIn t u (where_asked label p) → SaysIn s u (where_asked label (λ v. eval v f))
Says-defined s t u label p f i b d link e =
    SaysIn-then s t u (λ asked v. true) (where_asked label p) (where_asked label (λ v. eval v f)) i (SaysIn-keeps s t d) e
    (λ asked v k m. ap (λ x. not (counts asked label) || x) (link asked v k m))
    (λ asked v w g. ap (λ x. not (counts asked label) || x) (eval-agree s.list.vars v w g f b))

-- a literal means its value
pub literal_is : (s : Clauses) (x : Defined) → DefinedBelow s.vars x
    → DefinesValue s (literal_on s x).list (By (literal_on s x).answer) (λ v. defined_true v x)
unfolding literal_on
literal_is s (By l) b = record { defines = Defines-refl s; means = record { below = b; value = λ asked v m. refl } }
literal_is s (Known false) b = or_is s [] tt
literal_is s (Known true) b =
    let m = or_on s [] in
    let g = or_is s [] tt in
    record {
      defines = g.defines;
      means = record {
        below = g.means.below;
        value = λ asked v h. lit_true-negation v m.answer
            ∙ ap not (g.means.value asked v h);
      };
    }

-- values mean their formulas
pub define_all_is : (s : Gated) (fs : List Statement) → GatesBelow s.list.vars s.gates → SaidBelow s.list.vars (any_statement fs)
    → DefinesValues s (define_all_in s fs).state (define_all_in s fs).answer fs
define_all_is s [] i b = record { defines = Defines-refl s.list; keeps = Keeps-refl s i; means = tt }
define_all_is s (f ∷ fs) i b =
    let m = define_in s f in
    let t = m.state in
    let x = define_in_is s f i b.0 in
    let n = define_all_in t fs in
    let u = n.state in
    let y = define_all_is t fs x.keeps.below (SaidBelow-le s.list.vars t.list.vars (any_statement fs) x.defines.says.grows.more b.1) in
    record {
      defines = Defines-trans s.list t.list u.list x.defines y.defines;
      keeps = Keeps-trans s t u x.keeps y.keeps;
      means = (
        MeansIn-later s t u m.answer (λ v. eval v f) x.defines.says.grows y.defines.says.grows x.means,
        MeanEach-earlier s t u n.answer fs x.keeps y.defines.says.grows y.means,
      );
    }

abbrev pub asserts : Label → Bool → Statement → (ℕ → Bool) → (ℕ → Bool) → Bool
asserts label sign f = where_asked label (λ v. claimed sign (eval v f))

both-fail : (c a b : Bool) → ((c || not a) && (c || not b)) ≡ (c || not (a || b))
both-fail true a b = refl
both-fail false true b = refl
both-fail false false b = refl

-- the clause of a draft
drafted_says : (s : Gated) (label : Label) (d : ClauseDraft) → GatesBelow s.list.vars s.gates → AllBelow s.list.vars d.lits
    → SaysIn s (drafted s label d) (where_asked label (λ v. draft_true v d))
drafted_says s label d i b = SaysIn-from s (with_draft s.list label d) _ i (draft_says s.list label d b)

-- an assertion asks for its formula, and for nothing else
pub assert_in_is : (label : Label) (f : Statement) (sign : Bool) (s : Gated) → GatesBelow s.list.vars s.gates → SaidBelow s.list.vars f
    → SaysIn s (assert_in label s sign f) (asserts label sign f)
assert_in_is label (atom l) true s i b = SaysIn-as s _ _ _ (drafted_says s label (draft_with empty (By l)) i (b, tt))
    (λ asked v. ap (λ x. not (counts asked label) || x) (or-false (lit_true v l)))
assert_in_is label (atom l) false s i b = SaysIn-as s _ _ _ (drafted_says s label (draft_with empty (By (negation l))) i (b, tt))
    (λ asked v. ap (λ x. not (counts asked label) || x) (or-false _ ∙ lit_true-negation v l))
assert_in_is label never true s i b = drafted_says s label empty i tt
assert_in_is label never false s i b = SaysIn-as s s (λ asked v. true) _ (SaysIn-refl s i)
    (λ asked v. sym (or-true (not (counts asked label))))
assert_in_is label (or f g) true s i b =
    asked_says s label (or f g) i b
assert_in_is label (or f g) false s i b =
    let t = assert_in label s false f in
    let x = assert_in_is label f false s i b.0 in
    SaysIn-as s _ _ _ (SaysIn-then s t _ (asserts label false f) (asserts label false g) (asserts label false g) i x
    (assert_in_is label g false t x.allows.below (SaidBelow-le s.list.vars t.list.vars g x.allows.grows.more b.1)) (λ asked v k m. refl)
    (λ asked v w h. ap (λ x. not (counts asked label) || not x) (eval-agree s.list.vars v w h g b.1)))
    (λ asked v. both-fail (not (counts asked label)) (eval v f) (eval v g))
assert_in_is label (no f) true s i b = assert_in_is label f false s i b
assert_in_is label (no f) false s i b = SaysIn-as s _ _ _ (assert_in_is label f true s i b)
    (λ asked v. ap (λ x. not (counts asked label) || x) (twice (eval v f)))
  where
    twice : (a : Bool) → a ≡ not (not a)
    twice true = refl
    twice false = refl

-- over no gates
pub assert_is : (label : Label) (f : Statement) (sign : Bool) (s : Clauses) → SaidBelow s.vars f
    → Says s (assert_on label s sign f) (asserts label sign f)
assert_is label f sign s b = SaysIn-alone s (assert_in label (bare s) sign f) _ (assert_in_is label f sign (bare s) tt b)

-- a demand asks for its formula, and for nothing else
pub demand_is : (s : Gated) (f : Statement) (id : ℕ) → GatesBelow s.list.vars s.gates → SaidBelow s.list.vars f
    → SaysIn s (demand_in s f id) (where_asked (Demand id) (λ v. eval v f))
unfolding demand_in
demand_is s f id i b =
    let m = define_in s f in
    let x = define_in_is s f i b in
    Says-defined s m.state _ (Demand id) (λ v. draft_true v (draft_with empty m.answer)) f i b x.keeps
    (λ asked v k h. with_defined-true v empty m.answer ∙ x.means.value asked v k h)
    (drafted_says m.state (Demand id) (draft_with empty m.answer) x.keeps.below
    (with_defined-below m.state.list.vars empty m.answer tt x.means.below))

-- demands rest on the values of their variables alone
pub demands-agree : (n : ℕ) (asked v w : ℕ → Bool) (id : ℕ) (fs : List Statement) → Agree n v w → SaidBelow n (any_statement fs)
    → demands_true asked v id fs ≡ demands_true asked w id fs
demands-agree n asked v w id [] a b = refl
demands-agree n asked v w id (f ∷ fs) a b = rw (eval-agree n v w a f b.0, demands-agree n asked v w (id + 1) fs a b.1) refl

-- many demands do
pub demand_all_is : (s : Gated) (id : ℕ) (fs : List Statement) → GatesBelow s.list.vars s.gates → SaidBelow s.list.vars (any_statement fs)
    → SaysIn s (demand_all_in s id fs) (λ asked v. demands_true asked v id fs)
demand_all_is s id [] i b = SaysIn-refl s i
demand_all_is s id (f ∷ fs) i b =
    let t = demand_in s f id in
    let x = demand_is s f id i b.0 in
    let p : (ℕ → Bool) → (ℕ → Bool) → Bool = λ asked v. demands_true asked v (id + 1) fs in
    SaysIn-then s t _ (where_asked (Demand id) (λ v. eval v f)) p p i x
    (demand_all_is t (id + 1) fs x.allows.below (SaidBelow-le s.list.vars t.list.vars (any_statement fs) x.allows.grows.more b.1))
    (λ asked v k m. refl) (λ asked v w g. demands-agree s.list.vars asked v w (id + 1) fs g b.1)
