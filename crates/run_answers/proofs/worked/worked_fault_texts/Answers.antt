use Rattle.std.proofs.Common.{refl}
use Rattle.std.specs.Fmt.{digits}
use Rattle.run_answers.specs.FaultTexts.{spec_fault_text, target_fault_text, settings_fault_text, lex_fault_text, recipe_fault_text, lock_fault_text}
use Rattle.run_answers.proofs.worked.worked_fault_texts.Goals as goal

pub returns-clause-expected : goal.returns-clause-expected
unfolding digits spec_fault_text lex_fault_text recipe_fault_text
returns-clause-expected c = refl

pub returns-clause-form : goal.returns-clause-form
unfolding digits spec_fault_text lex_fault_text recipe_fault_text
returns-clause-form c = refl

pub returns-clause-string : goal.returns-clause-string
unfolding digits spec_fault_text lex_fault_text recipe_fault_text
returns-clause-string c = refl

pub returns-clause-file : goal.returns-clause-file
unfolding digits spec_fault_text lex_fault_text recipe_fault_text
returns-clause-file c = refl

pub returns-clause-inner : goal.returns-clause-inner
unfolding digits spec_fault_text lex_fault_text recipe_fault_text
returns-clause-inner c = refl

pub returns-clause-class : goal.returns-clause-class
unfolding digits spec_fault_text lex_fault_text recipe_fault_text
returns-clause-class c = refl

pub returns-clause-key : goal.returns-clause-key
unfolding settings_fault_text
returns-clause-key c = refl

pub returns-clause-targets : goal.returns-clause-targets
unfolding digits settings_fault_text target_fault_text
returns-clause-targets c = refl

pub returns-clause-text : goal.returns-clause-text
unfolding digits settings_fault_text spec_fault_text
returns-clause-text c = refl

pub returns-clause-names : goal.returns-clause-names
unfolding lock_fault_text
returns-clause-names c = refl
