-- What is said of a lock file that is read as a valid graph.
use Rattle.std.proofs.Common.{◌≡◌, refl, sym, ap, ◌∙◌, ℕ, Bool, true, List, [], ◌∷◌, Option, Some, Ok}
use Rattle.std.specs.Prelude.{◌≤◌, nat_le, length, option_map, option_and_then}
use Rattle.std.specs.FinMap.{get}
use Rattle.std.specs.Str.{bytes_eq}
use Rattle.std.proofs.lemmas.Bool.{and_from, le-leb}
use Rattle.std.proofs.lemmas.Slice.Eq.{bytes_eq-Decides}
use Rattle.outside_desk.specs.Files.{Files}
use Rattle.condition_rules.specs.Words.{is_some_and}
use Rattle.graph_core.specs.Graphs.{Text, Content}
use Rattle.spec_grammar.specs.declared.part.Spec.{Spec}
use Rattle.lockfile.specs.Locks.{IsLock}
use Rattle.lockfile.specs.Writable.{lock_of}
use Rattle.graph_rules.specs.Costs.{vector}
use Rattle.graph_rules.specs.Verdict.{verdict}
use Rattle.graph_rules.specs.declared.rule.Verdict.{Verdict}
use Rattle.graph_rules.specs.declared.rule.Verdict.TheVariants as verdicts
use Rattle.run_input.specs.Bytes.{bytes_at, limit_of, too_large}
use Rattle.run_input.specs.Refusal.TheVariants as refusals
use Rattle.run_input.specs.Stages.{◌>>=◌, check, or_refuse}
use Rattle.run_input.specs.declared.file.WholeFile.TheVariants as kinds
use Rattle.run_task.specs.LockRoots.{are_roots_of, hash_of_node, is_root_of}
use Rattle.run_task.specs.Locks.{lock_bytes, named_lock}
use Rattle.run_task.specs.Problems.{Problem}
use Rattle.run_task.specs.Verdicts.{Judges, judged, unless_broken, weighed}
use Rattle.written_again.specs.Again.{AreAsked, AreAskedRoots, IsAskedRoot}

-- ---- roots

is_root : (hashes : List (Text × Text)) (spec : Spec) (root : Text × Text) → IsAskedRoot hashes spec root
    → is_root_of hashes spec root ≡ true
is_root hashes spec root asked =
    and_from _ _ ((bytes_eq-Decides root.0 _).1 asked.text)
    (ap (λ (word : Option Text). is_some_and (option_and_then (hash_of_node hashes) word) (bytes_eq root.1)) asked.named
    ∙ ap (λ (h : Option (Text × Text)). is_some_and (option_map (λ (h : Text × Text). h.1) h) (bytes_eq root.1)) asked.hashed
    ∙ (bytes_eq-Decides root.1 root.1).1 refl)

are_roots : (hashes : List (Text × Text)) (specs : List Spec) (roots : List (Text × Text)) → AreAskedRoots hashes specs roots
    → are_roots_of hashes specs roots ≡ true
are_roots hashes [] [] asked = refl
are_roots hashes [] (root ∷ roots) asked = absurd asked
are_roots hashes (spec ∷ specs) [] asked = absurd asked
are_roots hashes (spec ∷ specs) (root ∷ roots) asked =
    and_from _ _ (is_root hashes spec root asked.0) (are_roots hashes specs roots asked.1)

-- ---- the file

short_bytes : (files : Files) (path text : List ℕ) → get files path ≡ Some text → length text ≤ limit_of kinds.Lock
    → lock_bytes files path ≡ Ok text
unfolding bytes_at
short_bytes files path text there short =
    ap (λ (o : Option (List ℕ)). or_refuse (refusals.MissingInput path) o >>= λ bytes.
    check (too_large kinds.Lock) (nat_le (length bytes) (limit_of kinds.Lock)) >>= λ done. Ok bytes) there
    ∙ ap (λ (b : Bool). check (too_large kinds.Lock) b >>= λ done. Ok text) (le-leb (length text) (limit_of kinds.Lock) short)

module _ (problem : Problem) (graph : Content) (asked : AreAsked (lock_of graph problem.roots) problem.roots)
    (unbroken : verdict problem graph ≡ verdicts.Valid) where
  weighed_so : weighed problem graph ≡ Ok (vector problem graph)
  unfolding weighed
  weighed_so = ap (λ (v : Verdict). unless_broken v >>= λ done. Ok (vector problem graph)) unbroken

  judged_so : judged problem (lock_of graph problem.roots) ≡ Ok (vector problem graph)
  unfolding judged
  judged_so =
      ap (λ (b : Bool). check refusals.OtherRoots b >>= λ done. weighed problem graph) (are_roots _ problem.roots _ asked) ∙ weighed_so

  -- its graph's costs are said
  pub judges : (files : Files) (path text : List ℕ) → get files path ≡ Some text → length text ≤ limit_of kinds.Lock
      → IsLock text (lock_of graph problem.roots) → Judges files path problem (Ok (vector problem graph))
  unfolding named_lock
  judges files path text there short is = (
    lock_of graph problem.roots,
    (lock_of graph problem.roots, (text, sym (short_bytes files path text there short), is), refl),
    sym judged_so,
  )
