-- The test for what can be written tells it.
use Rattle.std.proofs.Common.{◌≡◌, refl, sym, subst, ◌∙◌, ℕ, Bool, true, false, not, Option, Some, None, Result, Ok, Err, MatchResult, IfOk, List, All, ◌↔◌, IsTrue, Decides}
use Rattle.std.specs.List.{list_all}
use Rattle.std.specs.Option.{is_some}
use Rattle.std.specs.Result.{is_ok}
use Rattle.std.specs.Str.{IsUtf8, is_utf8}
use Rattle.std.specs.Cmp.Lexicographic.{bytes_decides}
use Rattle.std.specs.Str.{bytes_eq}
use Rattle.std.proofs.lemmas.Bool.{and_parts, and_from, false_from_ne_true, false≢true}
use Rattle.std.proofs.lemmas.Option.{none-some}
use Rattle.std.proofs.lemmas.Str.{IsUtf8-from_is_utf8, is_utf8-from_IsUtf8}
use Rattle.std.proofs.lemmas.List.Elements.{All-weaker, All-contains}
use Rattle.std.proofs.lemmas.List.Sums.{AllPass-from_list_all, list_all-from_AllPass}
use Rattle.reachability.specs.Paths.{IsAcyclic, Path}
use Rattle.reachability.proofs.CountLaws.{image_of}
use Rattle.reachability.proofs.SpreadLaws.{reaches_decides}
use Rattle.keyed_lists.proofs.RiseLaws.{all_from}
use Rattle.spec_grammar.specs.Canonical.{spec_text, word_text}
use Rattle.spec_grammar.specs.declared.part.Spec.{Spec}
use Rattle.graph_core.specs.Graphs.{Text, Content, IsGraph, name_of}
use Rattle.graph_core.specs.Paths.{JoinedIn, arcs_of, reaches_in}
use Rattle.graph_core.specs.declared.node.Node.{Node}
use Rattle.graph_core.specs.declared.node.Origin.{Origin}
use Rattle.graph_core.specs.declared.node.Origin.TheVariants.{Built, External, Installed}
use Rattle.graph_core.proofs.GraphLaws.{has_decides}
use Rattle.graph_core.proofs.PathLaws.{begins_at_node}
use Rattle.reuse_db.specs.Databases.{record_of}
use Rattle.reuse_db.specs.declared.record.Record.{Record}
use Rattle.lock_writer.specs.Tests.{can_be_written, has_text, is_of_node, is_off_cycles, is_recorded}
use Rattle.lock_writer.specs.Texts.{CanBeWritten, IsOfNode, IsRecorded}

-- a test of all elements tells what each tells
all_decide : {X : Type 0} (p : X → Bool) (P : X → Type 0) → ((x : X) → Decides (p x) (P x)) → (xs : List X)
    → Decides (list_all p xs) (All P xs)
all_decide p P told xs = (
  λ e. All-weaker (λ x. p x ≡ true) P (λ x. (told x).0) xs (AllPass-from_list_all p xs e),
  λ all. list_all-from_AllPass p xs (All-weaker P (λ x. p x ≡ true) (λ x. (told x).1) xs all),
)

some_decides : {X : Type 0} (r : Option X) → Decides (is_some r) ((x : X) × (r ≡ Some x))
some_decides None = (λ e. absurd (false≢true e), λ there. absurd (none-some there.0 there.1))
some_decides (Some x) = (λ e. (x, refl), λ there. refl)

recorded_decides : (records : List Record) (origin : Origin) → Decides (is_recorded records origin) (IsRecorded records origin)
recorded_decides records Built = (λ e. tt, λ yes. refl)
recorded_decides records (External entry) = (λ e. tt, λ yes. refl)
recorded_decides records (Installed hash) = some_decides (record_of records hash)

text_decides : (root : Spec) → Decides (has_text root) (IsUtf8 (spec_text root))
text_decides root = (IsUtf8-from_is_utf8 (spec_text root), is_utf8-from_IsUtf8 (spec_text root))

not_true : (b : Bool) → not b ≡ true → b ≡ true → ⊥
not_true true e is = absurd (false≢true e)
not_true false e is = false≢true is

not_false : (b : Bool) → (b ≡ true → ⊥) → not b ≡ true
not_false true wrong = absurd (wrong refl)
not_false false wrong = refl

module _ (g : Content) (graph : IsGraph g) where
  reach : (p q : Text) → Decides (reaches_in g p q) (Path (JoinedIn g) p q)
  reach p q = reaches_decides bytes_eq bytes_decides (arcs_of g) p q

  off_decides : Decides (list_all (is_off_cycles g) g.nodes) (IsAcyclic (JoinedIn g))
  off_decides = (
    λ e p path.
        let node = image_of name_of g.nodes p (begins_at_node g graph p p path) in
        let all = AllPass-from_list_all (is_off_cycles g) g.nodes e in
        let off = All-contains (λ (n : Node). is_off_cycles g n ≡ true) g.nodes node.0 all node.1 in
        not_true (reaches_in g node.0.name node.0.name) off (subst (λ n. reaches_in g n n ≡ true) (sym node.2) ((reach p p).1 path)),
    λ acyclic. list_all-from_AllPass (is_off_cycles g) g.nodes (all_from (λ (n : Node). is_off_cycles g n ≡ true) g.nodes (λ node has.
        not_false (reaches_in g node.name node.name) (λ e. acyclic node.name ((reach node.name node.name).0 e)))),
  )

  -- the test says exactly whether a lock file can be written
  pub told : (records : List Record) (roots : List Spec) → Decides (can_be_written g records roots) (CanBeWritten g records roots)
  told records roots =
      let recorded = all_decide (λ (node : Node). is_recorded records node.origin) (λ (node : Node). IsRecorded records node.origin)
      (λ node. recorded_decides records node.origin) g.nodes in
      let named = all_decide (is_of_node g) (IsOfNode g) (λ root. has_decides g (word_text root.top.name)) roots in
      let texts = all_decide has_text (λ (root : Spec). IsUtf8 (spec_text root)) text_decides roots in (
        λ e.
            let p3 = and_parts _ _ e in let p2 = and_parts _ _ p3.0 in let p1 = and_parts _ _ p2.0 in
            record { acyclic = off_decides.0 p3.1; named = named.0 p1.1; texts = texts.0 p2.1; installed = recorded.0 p1.0 },
        λ can. and_from _ _ (and_from _ _ (and_from _ _ (recorded.1 can.installed) (named.1 can.named)) (texts.1 can.texts))
            (off_decides.1 can.acyclic),
      )

-- ---- what a call answered

-- so does its answer, if it gave one
pub told_ok : {E : Type 0} (g : Content) (records : List Record) (roots : List Spec) (r : Result Bool E) → IsGraph g
    → IfOk r (λ is. is ≡ can_be_written g records roots) → IfOk r (λ is. IsTrue is ↔ CanBeWritten g records roots)
told_ok g records roots (Ok is) graph same =
    let decides = told g graph records roots in
    (λ e. decides.0 (sym same ∙ e), λ can. same ∙ decides.1 can)
told_ok g records roots (Err e) graph same = tt

-- the test of a text says whether it is UTF-8
pub text_told : {A E : Type 0} (r : Result A E) (bytes : List ℕ) (P : A → Type 0) (Q : E → Type 0) (is : Bool)
    → MatchResult r (λ s. P s × IsUtf8 bytes) (λ e. (IsUtf8 bytes → ⊥) × Q e) → is ≡ is_ok r → is ≡ is_utf8 bytes
text_told (Ok s) bytes P Q is told same = same ∙ sym (is_utf8-from_IsUtf8 bytes told.1)
text_told (Err e) bytes P Q is told same =
    same ∙ sym (false_from_ne_true (is_utf8 bytes) (λ right. told.0 (IsUtf8-from_is_utf8 bytes right)))
