use Rattle.std.proofs.Common.{◌≡◌, true, false, List, Option, Some, None, IfOk, sym, ap, subst, refl, ◌∙◌}
use Rattle.clause_store.specs.declared.Lit.{Lit}
use Rattle.clause_store.specs.Lits.{clause_of, AllBelow}
use Rattle.clause_formulas.specs.declared.defined.Defined.TheVariants.{Known}
use Rattle.clause_formulas.specs.Drafts.{ClauseDraft}
use Rattle.clause_formulas.specs.Gated.{Gated, gated}
use Rattle.clause_formulas.specs.Built.{named_in, by_clause}
use Rattle.clause_store.proofs.Meaning.{AllBelow-clause_of}
use Rattle.clause_formulas.proofs.GateLaws.{Keeps-refl}
use Rattle.clause_formulas.proofs.spread.named.Goals as goal

named-always : (s : Gated) (d : ClauseDraft) → d.always ≡ true → named_in s d ≡ record { state = s; answer = Known true }
unfolding named_in
named-always s d e = rw e refl

named-clause : (s : Gated) (d : ClauseDraft) (ls : List Lit) (o : Option (List Lit)) → d.always ≡ false → ls ≡ d.lits → o ≡ clause_of ls
    → named_in s d ≡ by_clause s o
unfolding named_in
named-clause s d ls o e f q = rw (e, q, f) refl

pub returns-then-always-clause-built : goal.returns-then-always-clause-built
returns-then-always-clause-built c = named-always (gated c.args.clauses.now c.args.gates.now) c.args.draft.now (sym c.always.ensures
    ∙ c.if-always.true)

pub returns-then-always-clause-keeps : goal.returns-then-always-clause-keeps
returns-then-always-clause-keeps c = Keeps-refl _ c.requires.gates_below

pub returns-in_err-new-clause-keeps : goal.returns-in_err-new-clause-keeps
returns-in_err-new-clause-keeps c = Keeps-refl _ c.requires.gates_below

pub returns-in-None-clause-built : goal.returns-in-None-clause-built
returns-in-None-clause-built c = named-clause (gated c.args.clauses.now c.args.gates.now) c.args.draft.now _ None (sym c.always.ensures
    ∙ c.if-always.false)
    c.lits.ensures (sym c.in-None.is ∙ c.in_ok-new.ensures)

pub returns-in-None-clause-keeps : goal.returns-in-None-clause-keeps
returns-in-None-clause-keeps c = Keeps-refl _ c.requires.gates_below

pub by_clause-requires : goal.by_clause-requires
by_clause-requires c = record {
  lits_below = subst (AllBelow c.args.clauses.now.vars) (sym c.lits-in-Some.ensures.value)
      (AllBelow-clause_of c.args.clauses.now.vars c.lits.result.now _
      (subst (AllBelow c.args.clauses.now.vars) (sym c.lits.ensures) c.requires.draft_below) (sym c.in_ok-new.ensures ∙ c.in-Some.is));
  gates_below = c.requires.gates_below;
}

pub returns-in-Some-clause-built : goal.returns-in-Some-clause-built
returns-in-Some-clause-built c =
    let e = named-clause (gated c.args.clauses.now c.args.gates.now) c.args.draft.now _ (Some c.lits-in-Some.result.now)
    (sym c.always.ensures ∙ c.if-always.false)
    c.lits.ensures (ap Some c.lits-in-Some.ensures.value ∙ sym c.in-Some.is ∙ c.in_ok-new.ensures) in
    subst (λ m. IfOk c.by_clause.result (λ value. m ≡ record {
      state = gated c.by_clause.new.clauses c.by_clause.new.gates;
      answer =
          value;
    })) (sym e)
    c.by_clause.ensures.built
