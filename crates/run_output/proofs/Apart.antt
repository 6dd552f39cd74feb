-- The problem of each root by itself, and its answer.
use Rattle.std.proofs.Common.{◌≡◌, refl, sym, ap, ◌∙◌, subst, ℕ, ◌+◌, ◌≤◌, arith, true, List, [], ◌∷◌, ◌++◌, length, get_or, take, map, All, Some}
use Rattle.std.specs.Prelude.{slice_get}
use Rattle.std.specs.List.{AllZip}
use Rattle.std.specs.Str.{IsUtf8}
use Rattle.std.proofs.lemmas.List.{take_more}
use Rattle.std.proofs.lemmas.List.Elements.{All-map, All-cons, All-nil, All-push}
use Rattle.std.proofs.lemmas.Option.{get_or_from_slice_get, slice_get_within}
use Rattle.spec_grammar.specs.Canonical.{spec_text}
use Rattle.spec_grammar.specs.declared.part.Spec.{Spec}
use Rattle.root_graphs.specs.Each.{AreAnswers, IsSolvable}
use Rattle.run_task.specs.Answer.{Answer}
use Rattle.run_task.specs.Input.{Input}
use Rattle.run_task.specs.Problems.{Problem, alone, each_alone}
use Rattle.run_task.specs.Tasks.{IsReadyInput}
use Rattle.run_task.proofs.OneRoot.{FewerNames, not_too_many, same_limits, same_values}
use Rattle.run_output.specs.Evidence.{evidence}

-- each can be solved where that of all roots can
pub solvable : FewerNames → (whole : Input) (place : ℕ) (one : Problem) → IsReadyInput whole
    → slice_get (each_alone whole.problem) place ≡ Some one
    → IsSolvable one
solvable fewer whole place one ready is = record {
  few = not_too_many fewer whole.problem one place ready.1.1 is;
  values = same_values whole.problem place one is ready.1.2;
  limits = same_limits whole.problem place one is ready.1.3;
}

-- so many of them, and one more
pub apart_more : (problems items more : List Problem) (place : ℕ) (one : Problem) → more ≡ items ++ one ∷ [] → items ≡ take place problems
    → slice_get problems place ≡ Some one → more ≡ take (place + 1) problems
apart_more problems items more place one pushed so_far is =
    pushed ∙ ap (λ (ps : List Problem). ps ++ one ∷ []) so_far
    ∙ sym (take_more problems place one (slice_get_within problems place one is)
    ∙ ap (λ (p : Problem). take place problems ++ p ∷ []) (get_or_from_slice_get problems place one one is))

-- one more problem that may be solved
pub solvable_more : (items more : List Problem) (one : Problem) → more ≡ items ++ one ∷ [] → All IsSolvable items → IsSolvable one
    → All IsSolvable more
solvable_more items more one pushed so_far here =
    subst (λ (ps : List Problem). All IsSolvable ps) (sym pushed) (All-push IsSolvable items one so_far here)

-- an answer within the budget of all is one within the root's own
for_each : (whole : Problem) (budget : ℕ) (roots : List Spec) (found : List Answer) → budget ≡ whole.settings.conflict_budget
    → AreAnswers budget (map (alone whole) roots) found → AllZip evidence.answers (map (alone whole) roots) found
for_each whole budget [] [] is all = tt
for_each whole budget [] (a ∷ found) is all = absurd all
for_each whole budget (r ∷ roots) [] is all = absurd all
for_each whole budget (r ∷ roots) (a ∷ found) is all = (rw is at all.0, for_each whole budget roots found is all.1)

-- the answers that were found are those of each root by itself
pub answers_of_all : (whole : Problem) (budget : ℕ) (problems : List Problem) (found : List Answer)
    → budget ≡ whole.settings.conflict_budget
    → problems ≡ each_alone whole → AreAnswers budget problems found → AllZip evidence.answers (each_alone whole) found
answers_of_all whole budget problems found is same all = for_each whole budget whole.roots found is (rw same at all)

-- the canonical texts of each root's problem are UTF-8
abbrev HasText : Spec → Type 0
HasText spec = IsUtf8 (spec_text spec)

-- so are those of each root by itself
pub texts_of_all : (whole : Problem) (problems : List Problem) → problems ≡ each_alone whole → All HasText whole.roots
    → All (λ (problem : Problem). All HasText problem.roots) problems
texts_of_all whole problems same all =
    subst (λ (ps : List Problem). All (λ (problem : Problem). All HasText problem.roots) ps) (sym same)
    (All-map (λ (problem : Problem). All HasText problem.roots) (alone whole) whole.roots
    (λ k d within. All-cons HasText (get_or whole.roots k d) [] (all k d within) (All-nil HasText)))
