-- What is looked for: a stock without roots, and a condition.
use Rattle.std.proofs.Common.{◌≡◌, refl, sym, ap, subst, ◌∙◌, List, [], Result, Ok, Err}
use Rattle.recipe_data.specs.declared.recipe.Recipe.{Recipe}
use Rattle.site_settings.specs.declared.settings.Settings.{Settings}
use Rattle.reuse_db.specs.declared.record.Record.{Record}
use Rattle.spec_grammar.specs.declared.part.Spec.{Spec}
use Rattle.problem.specs.Problems.{Problem, problem_of}
use Rattle.problem.specs.Roots.{roots_fault}
use Rattle.run_answers.specs.Stages.{Is}
use Rattle.run_answers.specs.Stops.{Gives}
use Rattle.run_answers.specs.declared.refusal.Refusal.{Refusal}
use Rattle.run_answers.specs.declared.stop.ReadStop.{ReadStop}
use Rattle.run_answers.specs.declared.stop.ReadStop.TheVariants.{Refused, Fault, NoMemory}
use Rattle.run_answers.proofs.StageLaws.{ok_same, ok_not_err}
use Rattle.run_input.specs.Inputs.{posed_by, query_of}
use Rattle.run_input.specs.declared.query.Query.{Query}
use Rattle.run_input.specs.declared.stock.Stock.{Stock}

-- of no roots none is refused
none_refused : (recipes : List Recipe) (settings : Settings) (records : List Record)
    → posed_by recipes settings records [] ≡ Ok (problem_of recipes settings records [])
unfolding posed_by roots_fault
none_refused recipes settings records = refl

-- the problem without roots
pub posed_without : (recipes given_recipes : List Recipe) (settings given_settings : Settings) (records given_records : List Record)
    (roots : List Spec) (result : Result Problem ReadStop) → given_recipes ≡ recipes → given_settings ≡ settings → given_records ≡ records
    → roots ≡ [] → Gives result (Is (posed_by given_recipes given_settings given_records roots))
    → Gives result (Is (Ok (problem_of recipes settings records [])))
posed_without recipes given_recipes settings given_settings records given_records roots result same_recipes same_settings
    same_records none read =
    let is : posed_by given_recipes given_settings given_records roots ≡ Ok (problem_of recipes settings records []) =
    ap (λ (r : List Recipe). posed_by r given_settings given_records roots) same_recipes
    ∙ ap (λ (s : Settings). posed_by recipes s given_records roots) same_settings
    ∙ ap (λ (d : List Record). posed_by recipes settings d roots) same_records
    ∙ ap (λ (specs : List Spec). posed_by recipes settings records specs) none
    ∙ none_refused recipes settings records in
    subst (λ (given : Result Problem Refusal). Gives result (Is given)) is read

-- with a condition
pub query_read : (stock : Stock) (spec : Spec) (problem : Problem)
    → Gives {T = Problem} (Ok problem) (Is (Ok (problem_of stock.recipes stock.settings stock.records [])))
    → (let query : Query = record { problem = problem; spec = spec } in Gives {T = Query} (Ok query) (Is (Ok (query_of stock spec))))
query_read stock spec problem read =
    let same = ok_same problem (problem_of stock.recipes stock.settings stock.records []) read in
    ap (λ (p : Problem). let query : Query = record { problem = p; spec = spec } in let given : Result Query Refusal =
    Ok query in given) same

-- memory ran out
pub query_stop : (stock : Stock) (spec : Spec) (stop : ReadStop)
    → Gives {T = Problem} (Err stop) (Is (Ok (problem_of stock.recipes stock.settings stock.records [])))
    → Gives {T = Query} (Err stop) (Is (Ok (query_of stock spec)))
query_stop stock spec (Refused refusal) read =
    ok_not_err (problem_of stock.recipes stock.settings stock.records []) refusal (sym read)
query_stop stock spec (Fault path) read = tt
query_stop stock spec NoMemory read = tt
