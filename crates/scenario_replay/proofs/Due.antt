-- What is due of a file, and of all files.
use Rattle.std.proofs.Common.{◌≡◌, refl, sym, ap, ◌∙◌, ℕ, ◌+◌, ◌≤◌, List, [], ◌∷◌, ◌++◌, Option, Some, None, IfSome, All, Ok}
use Rattle.std.proofs.Common.{append_assoc, append-nil, arith}
use Rattle.std.specs.FinMap.{get}
use Rattle.std.proofs.lemmas.List.Elements.{All-cons, All-nil}
use Rattle.outside_desk.specs.Files.{Files, StillTells, and_said}
use Rattle.outside_desk.proofs.Tellings.{held_still}
use Rattle.scenario_reader.specs.Scenarios.{meaning_of}
use Rattle.scenario_reader.specs.declared.scenario.Scenario.{Scenario}
use Rattle.scenario_replay.specs.Told.{IsDue, IsWrong, SaysOne, ReplaysAll, Replays}
use Rattle.scenario_replay.specs.Told.{counted, none_yet, last_line, answer_of, all_lines, lines_of}
use Rattle.scenario_replay.specs.declared.comparison.Counts.{Counts}
use Rattle.scenario_replay.specs.declared.comparison.Replayed.{Replayed}
use Rattle.scenario_replay.specs.declared.comparison.Comparison.{Comparison}
use Rattle.scenario_replay.specs.declared.comparison.Comparison.TheVariants as comparisons

-- a file that is a scenario
pub of_scenario : (bytes : List ℕ) (scenario : Scenario) (comparison : Comparison)
    → meaning_of bytes ≡ Ok scenario → IsDue (Some bytes) comparison
of_scenario bytes scenario comparisons.Same is = (scenario, is)
of_scenario bytes scenario (comparisons.Differs what) is = (scenario, is)
of_scenario bytes scenario (comparisons.Wrong why) is = tt

-- one that is none
pub of_wrong : (file : Option (List ℕ)) (comparison : Comparison) → IsWrong comparison → IsDue file comparison
of_wrong file comparisons.Same is = elim is [ ]
of_wrong file (comparisons.Differs what) is = elim is [ ]
of_wrong file (comparisons.Wrong why) is = tt

said_nothing : (said : Option (List ℕ)) → said ≡ and_said said []
said_nothing (Some bytes) = ap Some (sym (append-nil bytes))
said_nothing None = refl

said_more : (said : Option (List ℕ)) (first second : List ℕ)
    → and_said (and_said said first) second ≡ and_said said (first ++ second)
said_more (Some bytes) first second = ap Some (append_assoc bytes first second)
said_more None first second = refl

each_more : (files : Option Files) (path : List ℕ) (comparison : Comparison) (told : List (List ℕ × Comparison))
    → IfSome files (λ m. All {X = List ℕ × Comparison} (λ item. IsDue (get m item.0) item.1) told)
    → IfSome files (λ m. IsDue (get m path) comparison)
    → IfSome files (λ m. All {X = List ℕ × Comparison} (λ item. IsDue (get m item.0) item.1) ((path, comparison) ∷ told))
each_more (Some m) path comparison told each due =
    All-cons (λ (item : List ℕ × Comparison). IsDue (get m item.0) item.1) (path, comparison) told due each
each_more None path comparison told each due = tt

each_none : (files : Option Files) → IfSome files (λ m. All {X = List ℕ × Comparison} (λ item. IsDue (get m item.0) item.1) [])
each_none (Some m) = All-nil (λ (item : List ℕ × Comparison). IsDue (get m item.0) item.1)
each_none None = tt

-- no file
pub none : (files : Option Files) (said : Option (List ℕ)) → ReplaysAll 0 files said said none_yet
none files said = record { told = []; each = each_none files; said = said_nothing said; tallied = refl; enough = omega arith }

-- one file more, where the desk tells its files still
pub one_more_said : (n : ℕ) (so_far files : Option Files) (path : List ℕ) (before mid after : Option (List ℕ))
    (counts new_counts : Counts) → StillTells so_far files
    → ReplaysAll n so_far before mid counts → SaysOne files path counts new_counts mid after
    → ReplaysAll (n + 1) files before after new_counts
one_more_said n so_far files path before mid after counts new_counts still all one = record {
  told = (path, one.comparison) ∷ all.told;
  each = each_more files path one.comparison all.told
      (held_still (λ m. All {X = List ℕ × Comparison} (λ item. IsDue (get m item.0) item.1) all.told) so_far files still all.each) one.due;
  said = one.said ∙ ap (λ said. and_said said (lines_of path one.comparison)) all.said
      ∙ said_more before (all_lines all.told) (lines_of path one.comparison);
  tallied = one.count ∙ ap (counted one.comparison) all.tallied;
  enough = omega (arith, all.enough);
}

-- behind the last file
pub ended : (n : ℕ) (files : Option Files) (before mid after : Option (List ℕ)) (counts : Counts)
    → ReplaysAll n files before mid counts → after ≡ and_said mid (last_line counts)
    → Replays n files before after (answer_of counts)
ended n files before mid after counts all said = record {
  told = all.told;
  each = all.each;
  said = said ∙ ap (λ s. and_said s (last_line counts)) all.said ∙ said_more before (all_lines all.told) (last_line counts)
      ∙ ap (λ c. and_said before (all_lines all.told ++ last_line c)) all.tallied;
  answered = ap answer_of all.tallied;
  enough = all.enough;
}

-- fewer files are told than there are
pub fewer : (m n : ℕ) (files : Option Files) (before after : Option (List ℕ)) (answer : Replayed)
    → m ≤ n → Replays n files before after answer → Replays m files before after answer
fewer m n files before after answer le replays = record {
  told = replays.told;
  each = replays.each;
  said = replays.said;
  answered = replays.answered;
  enough = omega (arith, le, replays.enough);
}
