use Rattle.std.proofs.Common.{◌≡◌, List, [], ◌∷◌, ◌++◌, sym, subst, arith}
use Rattle.reachability.specs.Paths.{IsAcyclic, JoinsEach}
use Rattle.graph_core.specs.Graphs.{Text, Content, no_content}
use Rattle.graph_core.specs.Paths.{JoinedIn}
use Rattle.reuse_db.specs.declared.record.Record.{Record}
use Rattle.lock_writer.specs.Texts.{CanBeWritten}
use Rattle.lockfile.specs.Writable.{IsWritable}
use Rattle.json_rows.proofs.nothing.nothing_answer.Goals as goal

no-path : (p q : Text) (over : List Text) → JoinsEach (JoinedIn no_content) p (over ++ q ∷ []) → ⊥
no-path p q [] h = let l = h.0.1 in absurd (omega (arith, l))
no-path p q (x ∷ over) h = let l = h.0.1 in absurd (omega (arith, l))

no-cycle : IsAcyclic (JoinedIn no_content)
no-cycle p path = no-path p p path.0 path.1

nothing-written : (g : Content) (records : List Record) → g ≡ no_content → CanBeWritten g records []
nothing-written g records e = subst (λ it. CanBeWritten it records []) (sym e) (record {
  acyclic = no-cycle;
  named = λ k d h. absurd (omega (arith, h));
  texts = λ k d h. absurd (omega (arith, h));
  installed = λ k d h. absurd (omega (arith, h));
})

nothing-writable : (g : Content) (records : List Record) → g ≡ no_content → IsWritable g records
nothing-writable g records e = subst (λ it. IsWritable it records) (sym e) (record {
  acyclic = no-cycle;
  apart = λ a b h k same. let l = h.1 in absurd (omega (arith, l));
  forms = λ k d h. absurd (omega (arith, h));
  virtuals = λ k d h. absurd (omega (arith, h));
  kinds = λ k d h. absurd (omega (arith, h));
  named = λ k d h. absurd (omega (arith, h));
  installed = λ k d h. absurd (omega (arith, h));
})

pub write_and_read-requires-clause-written : goal.write_and_read-requires-clause-written
write_and_read-requires-clause-written c = nothing-written _ _ c.new-graph.ensures

pub write_and_read-requires-clause-writable : goal.write_and_read-requires-clause-writable
write_and_read-requires-clause-writable c = nothing-writable _ _ c.new-graph.ensures
