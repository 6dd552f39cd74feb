-- What a checker of logs knows, which rule a line breaks first, and what a line changes.
use Rattle.std.specs.Prelude.{ℕ, ◌+◌, Bool, true, false, not, ◌&&◌, ◌||◌, ◌==◌, nat_lt, nat_le, List, [], ◌∷◌, Option, Some, None, is_some, length, slice_get, if◌then◌else◌}
use Rattle.std.specs.Bool.{beq}
use Rattle.std.specs.Option.{option_map}
use Rattle.clause_store.specs.declared.Lit.{Lit}
use Rattle.clause_store.specs.Lits.{lit_eq, negation}
use Rattle.clause_store.specs.Clauses.{Clauses, clauses_of}
use Rattle.proof_log.specs.declared.line.Line.{Line}
use Rattle.proof_log.specs.declared.line.Line.TheVariants.{Header, Learnt, Zero, One, Unsat, Spent, End}
use Rattle.proof_log.specs.Resolution.{ChainFault, chain_fault}
use Rattle.proof_log.specs.Resolution as chain
use Rattle.proof_log.specs.Lines.{with_added, settles, ends}
use Rattle.log_checker.specs.declared.known.Known.{Known}
use Rattle.log_checker.specs.declared.step.Why.{Why}
use Rattle.log_checker.specs.declared.step.Why.TheVariants.{WrongCounts, OutOfOrder, UnknownId, NoPivot, TwoPivots, NotContained, WrongBit, NotNew, Unfinished}
use Rattle.log_checker.specs.declared.step.Step.{Step}
use Rattle.log_checker.specs.declared.step.Step.TheVariants.{Accepted, Refused}
use Rattle.log_checker.specs.Known.{rival, of_bit, clauses_in, rivals_in, as_known}

-- where a checker stands after lines that it accepted
pub record CheckerState : Type 0 where
  pub vars : ℕ
  pub inputs : ℕ
  pub bits : List Lit
  -- the bits of the graph, where a certificate is checked; none where a refutation is
  pub values : Option (List Bool)
  pub known : List Known
  -- how many lines there were, and how many bits they settled
  pub lines : ℕ
  pub settled : ℕ
  pub ended : Bool

-- a checker goes on, or stays with the first line that it refused
pub data Progress : Type 0 where
  Going : CheckerState → Progress
  Stopped : ℕ → Why → Progress

abbrev pub starting_state : ℕ → List (List Lit) → List Lit → Option (List Bool) → CheckerState
starting_state vars input bits values =
    record {
      vars = vars;
      inputs = length input;
      bits = bits;
      values = values;
      known = as_known input;
      lines = 0;
      settled = 0;
      ended = false;
    }

-- the same over the clauses of a list, whatever their labels
abbrev pub begun : Clauses → List Lit → Option (List Bool) → CheckerState
begun s bits values = starting_state s.vars (clauses_of s.entries) bits values

-- the first of two faults
abbrev pub or_else : Option Why → Option Why → Option Why
or_else (Some w) o = Some w
or_else None o = o

abbrev pub unless : Bool → Why → Option Why
unless true w = None
unless false w = Some w

-- two lists of literals are equal; a list stands among others
abbrev pub same_lits : List Lit → List Lit → Bool
same_lits [] [] = true
same_lits [] (m ∷ d) = false
same_lits (l ∷ c) [] = false
same_lits (l ∷ c) (m ∷ d) = lit_eq l m && same_lits c d

abbrev pub is_among : List (List Lit) → List Lit → Bool
is_among [] c = false
is_among (d ∷ ds) c = same_lits d c || is_among ds c

-- the first line has the numbers of the input
abbrev pub is_first_line : CheckerState → Line → Bool
is_first_line s (Header vars clauses bits) = (vars == s.vars) && ((clauses == s.inputs) && (bits == length s.bits))
is_first_line s _ = false

-- a line's id and bit are the next ones
abbrev pub next_id : CheckerState → ℕ → Bool
next_id s id = id == length s.known + 1

abbrev pub next_bit : CheckerState → ℕ → Bool
next_bit s b = (b == s.settled) && nat_lt b (length s.bits)

-- a later line may stand here
abbrev pub may_stand_later : CheckerState → Line → Bool
may_stand_later s (Header vars clauses bits) = false
may_stand_later s (Learnt id c chain) = next_id s id
may_stand_later s (Zero id b) = is_some s.values && (next_id s id && next_bit s b)
may_stand_later s (One id b chain) = is_some s.values && (next_id s id && next_bit s b)
may_stand_later s (Unsat chain) = not (is_some s.values)
may_stand_later s Spent = false
may_stand_later s End = is_some s.values && (s.settled == length s.bits)

-- each id of a chain is a known clause's
abbrev pub ids_known : ℕ → List ℕ → Bool
ids_known n [] = true
ids_known n (id ∷ ids) = nat_lt 0 id && (nat_le id n && ids_known n ids)

abbrev pub why_of : ChainFault → Why
why_of chain.NoPivot = NoPivot
why_of chain.TwoPivots = TwoPivots
why_of chain.NotContained = NotContained

-- the ids of a chain are known, and it derives a clause
abbrev pub unknown_id : ℕ → List ℕ → Option Why
unknown_id n ids = unless (ids_known n ids) UnknownId

abbrev pub chain_why : List Known → List ℕ → List Lit → Option Why
chain_why known ids stated = option_map why_of (chain_fault (clauses_in known) ids stated)

-- the clause of a bit's literal
abbrev pub bit_clause : Option Lit → List Lit
bit_clause None = []
bit_clause (Some l) = l ∷ []

-- the graph's bit has this value
abbrev pub bit_value_at : Option (List Bool) → ℕ → Option Bool
bit_value_at None b = None
bit_value_at (Some values) b = slice_get values b

abbrev pub is_bit_value : Option Bool → Bool → Bool
is_bit_value None v = false
is_bit_value (Some w) v = beq w v

abbrev pub has_value : CheckerState → ℕ → Bool → Bool
has_value s b v = is_bit_value (bit_value_at s.values b) v

-- where so many clauses are known, an id of a line's chain is none of theirs
abbrev pub ids_fault : ℕ → Line → Option Why
ids_fault n (Learnt id c chain) = unknown_id n chain
ids_fault n (One id b chain) = unknown_id n chain
ids_fault n (Unsat chain) = unknown_id n chain
ids_fault n _ = None

-- what is wrong with a line's chain, over these bits and known clauses
abbrev pub derivation_fault : List Lit → List Known → Line → Option Why
derivation_fault bits known (Learnt id c chain) = chain_why known chain c
derivation_fault bits known (One id b chain) = chain_why known chain (bit_clause (slice_get bits b))
derivation_fault bits known (Unsat chain) = chain_why known chain []
derivation_fault bits known _ = None

-- a bit has the wrong value, or a learnt clause is not new
abbrev pub own_line_fault : CheckerState → Line → Option Why
own_line_fault s (Learnt id c chain) = unless (not (is_among (rivals_in s.known) c)) NotNew
own_line_fault s (Zero id b) = unless (has_value s b false) WrongBit
own_line_fault s (One id b chain) = unless (has_value s b true) WrongBit
own_line_fault s _ = None

-- a line may not stand here, or its chain has an unknown id
abbrev pub place_fault : CheckerState → Line → Option Why
place_fault s l =
    if s.lines == 0 then unless (is_first_line s l) WrongCounts
    else or_else (unless (not s.ended && may_stand_later s l) OutOfOrder) (ids_fault (length s.known) l)

-- which rule a line breaks first
abbrev pub fault : CheckerState → Line → Option Why
fault s l = or_else (place_fault s l) (or_else (derivation_fault s.bits s.known l) (own_line_fault s l))

-- the same without the check of the chain
abbrev pub plain_fault : CheckerState → Line → Option Why
plain_fault s l = or_else (place_fault s l) (own_line_fault s l)

-- the known clause that a line makes
abbrev pub noted : List Lit → Line → Option Known
noted bits (Learnt id c chain) = Some (rival c)
noted bits (Zero id b) = option_map (λ l. of_bit (negation l ∷ [])) (slice_get bits b)
noted bits (One id b chain) = option_map (λ l. of_bit (l ∷ [])) (slice_get bits b)
noted bits _ = None

abbrev pub accept : CheckerState → Line → CheckerState
accept s l = record s { known = with_added s.known (noted s.bits l); lines = s.lines + 1; settled = s.settled + settles l; ended = ends l }

-- what a line makes of a checker, and what it then answers
abbrev pub after_fault : CheckerState → Line → Option Why → Progress
after_fault s l None = Going (accept s l)
after_fault s l (Some w) = Stopped (s.lines + 1) w

abbrev pub next_progress : Progress → Line → Progress
next_progress (Going s) l = after_fault s l (fault s l)
next_progress (Stopped n w) l = Stopped n w

abbrev pub told : Progress → Step
told (Going s) = Accepted
told (Stopped n w) = Refused n w

-- what lines make of a checker, one after the other
abbrev pub run_lines : Progress → List Line → Progress
run_lines p [] = p
run_lines p (l ∷ ls) = run_lines (next_progress p l) ls

-- the number of the next line, or of the one that was refused
abbrev pub line_of : Progress → ℕ
line_of (Going s) = s.lines + 1
line_of (Stopped n w) = n

-- the answer at the end
abbrev pub finish_on : Progress → Step
finish_on (Going s) = if s.ended then Accepted else Refused (s.lines + 1) Unfinished
finish_on (Stopped n w) = Refused n w
