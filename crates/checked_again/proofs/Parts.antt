-- What an input that was read is made of.
use Rattle.std.proofs.Common.{◌≡◌, refl, sym, ap, subst, ◌∙◌, arith, ℕ, Bool, true, false, List, [], Option, Some, None, Result, Ok}
use Rattle.std.specs.Prelude.{nat_le, length}
use Rattle.outside_desk.specs.Files.{Files}
use Rattle.problem.specs.Limits.{most_names}
use Rattle.problem.specs.Problems.{Problem, problem_of}
use Rattle.problem.specs.Roots.{roots_fault}
use Rattle.problem.specs.declared.fault.ProblemFault.{ProblemFault}
use Rattle.problem.specs.declared.fault.ProblemFault.TheVariants as faults
use Rattle.recipe_data.specs.declared.recipe.Recipe.{Recipe}
use Rattle.reuse_db.specs.Databases.{AreRecords}
use Rattle.reuse_db.specs.declared.record.Record.{Record}
use Rattle.site_settings.specs.declared.settings.Settings.{Settings}
use Rattle.spec_grammar.specs.declared.part.Spec.{Spec}
use Rattle.run_input.specs.Closures.{closure_of}
use Rattle.run_input.specs.Inputs.{ReadsInput, closed_of, input_of, posed_by, stock_of, unless_refused}
use Rattle.run_input.specs.Installed.{DatabaseBy}
use Rattle.run_input.specs.Refusal.{Refusal}
use Rattle.run_input.specs.Refusal.TheVariants as refusals
use Rattle.run_input.specs.Roots.{RootsOf}
use Rattle.run_input.specs.Stages.{◌>>=◌, check}
use Rattle.run_input.specs.Words.{Command, is_dash_path}
use Rattle.run_input.specs.declared.input.Input.{Input}
use Rattle.run_input.specs.declared.stock.Stock.{Stock}

ok_problem : (x y : Problem) → (let T : Type 0 = Result Problem Refusal in let a : T = Ok x in let b : T = Ok y in a ≡ b) → x ≡ y
ok_problem x y e = cc

ok_input : (x y : Input) → (let T : Type 0 = Result Input Refusal in let a : T = Ok x in let b : T = Ok y in a ≡ b) → x ≡ y
ok_input x y e = cc

unrefused : (made problem : Problem) (fault : Option ProblemFault) → Ok problem ≡ unless_refused made fault → problem ≡ made
unrefused made problem None e = ok_problem problem made e
unrefused made problem (Some (faults.UnknownRoot name)) e = absurd cc
unrefused made problem (Some (faults.VirtualRoot name)) e = absurd cc
unrefused made problem (Some (faults.WrongPlatform platform)) e = absurd cc
unrefused made problem (Some faults.OutOfMemory) e = ok_problem problem made e

posed : (recipes : List Recipe) (settings : Settings) (records : List Record) (roots : List Spec) (problem : Problem)
    → Ok problem ≡ posed_by recipes settings records roots → problem ≡ problem_of recipes settings records roots
unfolding posed_by
posed recipes settings records roots problem e =
    let made = problem_of recipes settings records roots in unrefused made problem (roots_fault made) e

few_names : (few : Bool) (problem : Problem) (input : Input)
    → Ok input ≡ (check refusals.TooManyPackages few >>= λ done. Ok (input_of problem)) → input ≡ input_of problem
few_names true problem input e = ok_input input (input_of problem) e
few_names false problem input e = absurd cc

closed : (problem : Problem) (input : Input) → Ok input ≡ closed_of problem → input.problem ≡ problem
unfolding closed_of
closed problem input e =
    ap (λ (i : Input). i.problem) (few_names (nat_le (length (closure_of problem)) most_names) problem input e)

ok_records : (x y : List Record) → (let T : Type 0 = Result (List Record) Refusal in let a : T = Ok x in let b : T = Ok y in a ≡ b) → x ≡ y
ok_records x y e = cc

ok_stock : (x y : Stock) → (let T : Type 0 = Result Stock Refusal in let a : T = Ok x in let b : T = Ok y in a ≡ b) → x ≡ y
ok_stock x y e = cc

none_right : AreRecords []
none_right = record { same = refl; once = λ place twice. absurd (omega (arith, twice.0)); known = refl }

right_records : (dash : Bool) (files : Files) (path : List ℕ) (records : List Record) → DatabaseBy dash files path (Ok records)
    → AreRecords records
right_records true files path records is = subst AreRecords (sym (ok_records records [] is)) none_right
right_records false files path records (bytes, at, (d, json, is)) = is.1

-- the records have no fault
pub records_right : (files : Files) (c : Command) (input : Input) → ReadsInput files c (Ok input) → AreRecords input.problem.database
records_right files c input (stock, (s, is_site, (rows, repo, (records, base, made))), (roots, spelled, (problem, is, close))) =
    subst AreRecords
    (sym (ap (λ (p : Problem). p.database) (closed problem input close ∙ posed stock.recipes stock.settings stock.records roots problem is)
    ∙ ap (λ (t : Stock). t.records) (ok_stock stock (stock_of s rows records) made)))
    (right_records (is_dash_path c.database) files c.database records base)

-- the roots are those that the text of the specs asks for
pub roots_read : (files : Files) (c : Command) (input : Input) → ReadsInput files c (Ok input) → RootsOf c.spec (Ok input.problem.roots)
roots_read files c input (stock, stocked, (roots, spelled, (problem, is, close))) =
    subst (λ (r : List Spec). RootsOf c.spec (Ok r))
    (sym (ap (λ (p : Problem). p.roots) (closed problem input close ∙ posed stock.recipes stock.settings stock.records roots problem is)))
    spelled
