use Rattle.std.proofs.Common.{◌∙◌, List, Bool, Some, Bor, sym, ap}
use Rattle.std.specs.Option.{option_map}
use Rattle.clause_store.specs.Clauses.{clauses_of}
use Rattle.log_checker.proofs.Copies.{made}
use Rattle.log_checker.proofs.position.Position.new.Goals as goal
use Rattle.log_checker.proofs.position.Position.new.Goals.{in-Some+in_ok-from_slice-in-Some, in-None}

pub returns-clause-start : goal.returns-clause-start
returns-clause-start c =
    made c.args.clauses.now.vars (clauses_of c.args.clauses.now.entries) c.args.bits.now
    (option_map (λ (v : Bor (List Bool)). v.now) c.args.values) c.vars.result c.len-inputs.result c.in_ok-bits.bits.items
    (option_map (λ v. v.items) c.match-values.values) c.in_ok-store.store
    c.vars.ensures.value c.len-inputs.ensures.value c.in_ok-bits.ensures.items
    (elim c.match-values.branch [
      | in-Some+in_ok-from_slice-in-Some w ↦ ap (option_map (λ v. v.items)) w.values-is ∙ ap Some w.in_ok-from_slice-in-Some.ensures.items
          ∙ sym (ap (option_map (λ (v : Bor (List Bool)). v.now)) w.in-Some.is)
      | in-None w ↦ ap (option_map (λ v. v.items)) w.values-is ∙ sym (ap (option_map (λ (v : Bor (List Bool)). v.now)) w.in-None.is)
    ])
    c.in_ok-store.ensures.copied
