-- What an accepted certificate shows of a problem's graphs.
use Rattle.std.proofs.Common.{◌≡◌, refl, sym, ap, subst, ◌∙◌, ℕ, Bool, true, false, List, [], cond, Option, Some, None, Result, Ok, Err}
use Rattle.std.specs.Prelude.{nat_le, length, take, ◌||◌, ◌↔◌, IfSome, OnOk}
use Rattle.std.specs.Option.{option_map}
use Rattle.std.specs.FinMap.{get}
use Rattle.clause_store.specs.declared.Lit.{Lit}
use Rattle.clause_store.specs.Clauses.{Clauses, clauses_of}
use Rattle.proof_log.specs.declared.line.Line.{Line}
use Rattle.proof_log.specs.Known.{AllClauses}
use Rattle.proof_log.specs.Readings.{reading, AtLineStart}
use Rattle.log_checker.specs.Steps.{CheckerState, begun}
use Rattle.log_checker.specs.Kinds.{IsLogOf}
use Rattle.log_checker.specs.declared.step.Step.TheVariants as steps
use Rattle.log_checker.specs.declared.step.Step.TheVariants.{Accepted}
use Rattle.certified.specs.declared.text.TextAnswer.{TextAnswer}
use Rattle.certified.specs.declared.text.TextAnswer.TheVariants.{Checked, BadLine}
use Rattle.certified.specs.Texts.{answer_of, is_settled_by}
use Rattle.outside_desk.specs.Files.{Files}
use Rattle.run_answers.specs.Stages.{Is, ◌>>=◌, or_refuse}
use Rattle.run_answers.specs.Stops.{Gives}
use Rattle.run_answers.specs.declared.stop.ReadStop.{ReadStop}
use Rattle.run_answers.specs.declared.stop.ReadStop.TheVariants.{Refused}
use Rattle.run_answers.specs.declared.line_fault.LineFault.TheVariants as faults
use Rattle.run_answers.specs.declared.refusal.Refusal.{Refusal}
use Rattle.run_answers.specs.declared.refusal.Refusal.TheVariants as refusals
use Rattle.criteria_totals.specs.Spellings.{bits_for}
use Rattle.problem.specs.Problems.{Problem}
use Rattle.best_graph.specs.OfProblemEncoding.Built.{encoding_of, rule_clauses}
use Rattle.best_graph.specs.OfProblemEncoding.Encodings.{IsEncoded, RulesDecode}
use Rattle.best_graph.specs.OfProblemEncoding.Encoded.{Encoded}
use Rattle.best_graph.specs.Verdicts.{CertifiedIsOptimal, RefutedHasNoGraph}
use Rattle.run_task.specs.Certificates.{said_of_text, said_at, certified_at, begun_for, verdict_on_text, most, ShowsOf}

-- what an accepted text says
abbrev pub TellsLog : Type 0
TellsLog = (s : Clauses) (bits : List Lit) (values : Option (List Bool)) (text : List ℕ) → AllClauses (clauses_of s.entries)
    → (answer_of (begun s bits values) text ≡ Checked Accepted)
    ↔ ((reading text).failed ≡ false × AtLineStart text × IsLogOf s.vars (clauses_of s.entries) bits values (reading text).lines)

accepted : (answer : TextAnswer) → verdict_on_text answer ≡ Ok tt → answer ≡ Checked Accepted
accepted (Checked Accepted) e = refl
accepted (Checked (steps.Refused line why)) e = absurd (cc)
accepted (BadLine line) e = absurd (cc)

accepted_by : (b : Bool) (answer : TextAnswer) → cond b (verdict_on_text answer) (Err refusals.CertificateTooLarge) ≡ Ok tt
    → answer ≡ Checked Accepted
accepted_by true answer e = accepted answer e
accepted_by false answer e = absurd (cc)

said_accepted : (s : CheckerState) (text : List ℕ) → said_of_text s text ≡ Ok tt → answer_of s (take most text) ≡ Checked Accepted
unfolding said_of_text
said_accepted s text e = accepted_by (nat_le (length text) most || is_settled_by s (take most text)) (answer_of s (take most text)) e

found_accepted : (s : CheckerState) (missing : Refusal) (file : Option (List ℕ))
    → (or_refuse missing file >>= λ text. said_of_text s text) ≡ Ok tt
    → (text : List ℕ) × (answer_of s text ≡ Checked Accepted)
found_accepted s missing None e = absurd (cc)
found_accepted s missing (Some text) e = (take most text, said_accepted s text e)

-- the file that is right holds a log
pub logged_at : TellsLog → (files : Files) (path : List ℕ) (s : Clauses) (bits : List Lit) (values : Option (List Bool))
    → AllClauses (clauses_of s.entries) → said_at files path (begun s bits values) ≡ Ok tt
    → (lines : List Line) × IsLogOf s.vars (clauses_of s.entries) bits values lines
unfolding said_at
logged_at tells files path s bits values ordered e =
    let t = found_accepted (begun s bits values) (refusals.MissingInput path) (get files path) e in
    ((reading t.0).lines, ((tells s bits values t.0 ordered).0 t.1).2)

-- ---- what a log shows

-- of a refutation of the rules
pub shown_none : (problem : Problem) → RefutedHasNoGraph → RulesDecode problem → AllClauses (clauses_of (rule_clauses problem).entries)
    → (lines : List Line) × IsLogOf (rule_clauses problem).vars (clauses_of (rule_clauses problem).entries) [] None lines
    → ShowsOf problem None
shown_none problem law decodes ordered (lines, log) = law problem lines decodes ordered log

-- of a certificate of costs
pub shown_some : (problem : Problem) (e : Encoded) (numbers : List ℕ) (values : List Bool) → CertifiedIsOptimal → IsEncoded problem e
    → bits_for e.bits.tops numbers ≡ Some values → AllClauses (clauses_of e.clauses.entries)
    → (lines : List Line) × IsLogOf e.clauses.vars (clauses_of e.clauses.entries) e.bits.lits (Some values) lines
    → ShowsOf problem (Some numbers)
shown_some problem e numbers values law encoded spelled ordered (lines, log) = λ graph formed ok same.
    law problem e graph values lines encoded ordered formed ok (ap (bits_for e.bits.tops) same ∙ spelled) log

-- ---- the answer of a check, by what it began with

module _ (path : List ℕ) (problem : Problem) (numbers : Option (List ℕ)) (before : Option Files) where
  begun_as : (files : Files) (o : Option CheckerState) → begun_for problem numbers ≡ o
      → (or_refuse (refusals.BadCertificate 1 faults.WrongBit) o >>= λ s. said_at files path s) ≡ certified_at files path problem numbers
  unfolding certified_at
  begun_as files o is =
      ap (λ (o : Option CheckerState). or_refuse (refusals.BadCertificate 1 faults.WrongBit) o >>= λ s. said_at files path s) (sym is)

  -- what is said of the log is what is said of the certificate
  pub certificate_read : (s : CheckerState) (result : Result (Unit {0}) ReadStop) → begun_for problem numbers ≡ Some s
      → IfSome before (λ files. Gives result (Is (said_at files path s)))
      → IfSome before (λ files. Gives result (Is (certified_at files path problem numbers)))
  certificate_read s result is read = read_over before read
    where
      read_over : (o : Option Files) → IfSome o (λ files. Gives result (Is (said_at files path s)))
          → IfSome o (λ files. Gives result (Is (certified_at files path problem numbers)))
      read_over None read = tt
      read_over (Some files) read = subst (λ (r : Result (Unit {0}) Refusal). Gives result (Is r)) (begun_as files (Some s) is) read

  -- costs that no bits spell
  pub certificate_unspelled : begun_for problem numbers ≡ None → IfSome before (λ files. Gives {T = Unit {0}}
      (Err (Refused (refusals.BadCertificate 1 faults.WrongBit))) (Is (certified_at files path problem numbers)))
  certificate_unspelled is = refused_over before
    where
      refused_over : (o : Option Files) → IfSome o
          (λ files. Gives {T = Unit {0}} (Err (Refused (refusals.BadCertificate 1 faults.WrongBit)))
          (Is (certified_at files path problem numbers)))
      refused_over None = tt
      refused_over (Some files) = begun_as files None is

-- what is accepted is shown
pub yes : TellsLog → (path : List ℕ) (s : Clauses) (bits : List Lit) (values : Option (List Bool)) (P : Type 0)
    → (AllClauses (clauses_of s.entries) → (lines : List Line) × IsLogOf s.vars (clauses_of s.entries) bits values lines → P)
    → (before : Option Files) (result : Result (Unit {0}) ReadStop) → OnOk result (AllClauses (clauses_of s.entries))
    → IfSome before (λ files. Gives result (Is (said_at files path (begun s bits values))))
    → OnOk result (IfSome before (λ files. P))
yes tells path s bits values P shows None (Ok done) ordered read = tt
yes tells path s bits values P shows (Some files) (Ok done) ordered read =
    shows ordered (logged_at tells files path s bits values ordered (sym read))
yes tells path s bits values P shows before (Err stop) ordered read = tt

-- a checker of costs that bits spell
pub begun_some : (problem : Problem) (e : Encoded) → e ≡ encoding_of problem → (numbers : List ℕ) (values : List Bool)
    → bits_for e.bits.tops numbers ≡ Some values → begun_for problem (Some numbers) ≡ Some (begun e.clauses e.bits.lits (Some values))
begun_some problem e built numbers values is =
    ap (λ (x : Encoded). option_map (λ (vs : List Bool). begun x.clauses x.bits.lits (Some vs)) (bits_for x.bits.tops numbers)) (sym built)
    ∙ ap (option_map (λ (vs : List Bool). begun e.clauses e.bits.lits (Some vs))) is

-- there is none of costs that no bits spell
pub begun_not : (problem : Problem) (e : Encoded) → e ≡ encoding_of problem → (numbers : List ℕ) → bits_for e.bits.tops numbers ≡ None
    → begun_for problem (Some numbers) ≡ None
begun_not problem e built numbers is =
    ap (λ (x : Encoded). option_map (λ (vs : List Bool). begun x.clauses x.bits.lits (Some vs)) (bits_for x.bits.tops numbers)) (sym built)
    ∙ ap (option_map (λ (vs : List Bool). begun e.clauses e.bits.lits (Some vs))) is

-- ---- by the arguments of the call

module _ (path : List ℕ) (problem : Problem) (before : Option Files) (result : Result (Unit {0}) ReadStop) where
  -- what is said of a log
  abbrev Said : Clauses → List Lit → Option (List Bool) → Type 0
  Said s bits values = IfSome before (λ files. Gives result (Is (said_at files path (begun s bits values))))

  module _ (s : Clauses) (rules : s ≡ rule_clauses problem) (read : Said s [] None) where
    over_rules : Said (rule_clauses problem) [] None
    over_rules = subst (λ (t : Clauses). Said t [] None) rules read

    -- what is said, without costs
    pub none_read : IfSome before (λ files. Gives result (Is (certified_at files path problem None)))
    none_read = certificate_read path problem None before (begun (rule_clauses problem) [] None) result refl over_rules

    -- what that shows
    pub none_shown : TellsLog → RefutedHasNoGraph → RulesDecode problem → OnOk result (AllClauses (clauses_of s.entries))
        → OnOk result (IfSome before (λ files. ShowsOf problem None))
    none_shown tells law decodes ordered =
        yes tells path (rule_clauses problem) [] None (ShowsOf problem None) (shown_none problem law decodes) before result
        (subst (λ (t : Clauses). OnOk result (AllClauses (clauses_of t.entries))) rules ordered) over_rules

  module _ (e : Encoded) (built : e ≡ encoding_of problem) (numbers : List ℕ) (values slice : List Bool) (bits : List Lit)
      (is_bits : bits ≡ e.bits.lits) (spelled : bits_for e.bits.tops numbers ≡ Some values) (same : slice ≡ values)
      (read : Said e.clauses bits (Some slice)) where
    over_encoding : Said e.clauses e.bits.lits (Some values)
    over_encoding = subst (λ vs. Said e.clauses e.bits.lits (Some vs)) same (subst (λ l. Said e.clauses l (Some slice)) is_bits read)

    -- what is said, with costs
    pub some_read : IfSome before (λ files. Gives result (Is (certified_at files path problem (Some numbers))))
    some_read = certificate_read path problem (Some numbers) before (begun e.clauses e.bits.lits (Some values)) result
        (begun_some problem e built numbers values spelled) over_encoding

    -- what that shows
    pub some_shown : TellsLog → CertifiedIsOptimal → IsEncoded problem e → OnOk result (AllClauses (clauses_of e.clauses.entries))
        → OnOk result (IfSome before (λ files. ShowsOf problem (Some numbers)))
    some_shown tells law encoded ordered =
        yes tells path e.clauses e.bits.lits (Some values) (ShowsOf problem (Some numbers))
        (shown_some problem e numbers values law encoded spelled) before result ordered over_encoding
