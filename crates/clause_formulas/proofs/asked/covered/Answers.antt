use Rattle.std.proofs.Common.{◌≡◌, true, false, List, Option, Some, None, IfOk, sym, ap, subst, refl, ◌∙◌}
use Rattle.clause_store.specs.declared.Lit.{Lit}
use Rattle.clause_store.specs.Lits.{clause_of, AllBelow}
use Rattle.clause_store.specs.Clauses.{Clauses}
use Rattle.clause_formulas.specs.declared.defined.Defined.TheVariants.{Known}
use Rattle.clause_formulas.specs.Drafts.{ClauseDraft}
use Rattle.clause_formulas.specs.Built.{covered_on, by_cover}
use Rattle.clause_store.proofs.Meaning.{AllBelow-clause_of}
use Rattle.clause_circuits.proofs.Composed.{Extends-refl}
use Rattle.clause_formulas.proofs.asked.covered.Goals as goal

covered-always : (s : Clauses) (d : ClauseDraft) → d.always ≡ true → covered_on s d ≡ record { list = s; answer = Known true }
unfolding covered_on
covered-always s d e = rw e refl

covered-clause : (s : Clauses) (d : ClauseDraft) (ls : List Lit) (o : Option (List Lit)) → d.always ≡ false → ls ≡ d.lits → o ≡ clause_of ls
    → covered_on s d ≡ by_cover s o
unfolding covered_on
covered-clause s d ls o e f q = rw (e, q, f) refl

pub returns-then-always-clause-built : goal.returns-then-always-clause-built
returns-then-always-clause-built c = covered-always c.args.clauses.now c.args.draft.now (sym c.always.ensures ∙ c.if-always.true)

pub returns-in-None-clause-built : goal.returns-in-None-clause-built
returns-in-None-clause-built c = covered-clause c.args.clauses.now c.args.draft.now _ None (sym c.always.ensures ∙ c.if-always.false)
    c.lits.ensures
    (sym c.in-None.is ∙ c.in_ok-new.ensures)

pub by_cover-requires : goal.by_cover-requires
by_cover-requires c =
    subst (AllBelow c.args.clauses.now.vars) (sym c.lits-in-Some.ensures.value)
    (AllBelow-clause_of c.args.clauses.now.vars c.lits.result.now _
    (subst (AllBelow c.args.clauses.now.vars) (sym c.lits.ensures) c.requires) (sym c.in_ok-new.ensures ∙ c.in-Some.is))

pub returns-in-Some-clause-built : goal.returns-in-Some-clause-built
returns-in-Some-clause-built c =
    let e = covered-clause c.args.clauses.now c.args.draft.now _ (Some c.lits-in-Some.result.now) (sym c.always.ensures ∙ c.if-always.false)
    c.lits.ensures (ap Some c.lits-in-Some.ensures.value ∙ sym c.in-Some.is ∙ c.in_ok-new.ensures) in
    subst (λ m. IfOk c.by_cover.result (λ value. m ≡ record { list = c.by_cover.new.clauses; answer = value })) (sym e)
    c.by_cover.ensures.built

pub returns-then-always-clause-extends : goal.returns-then-always-clause-extends
returns-then-always-clause-extends c = Extends-refl c.args.clauses.now

pub returns-in_err-new-clause-extends : goal.returns-in_err-new-clause-extends
returns-in_err-new-clause-extends c = Extends-refl c.args.clauses.now

pub returns-in-None-clause-extends : goal.returns-in-None-clause-extends
returns-in-None-clause-extends c = Extends-refl c.args.clauses.now
