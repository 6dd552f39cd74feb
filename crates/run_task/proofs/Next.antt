-- What one piece more leaves, of a desk that may tell its files.
use Rattle.std.proofs.Common.{◌≡◌, refl, sym, ap, subst, ◌∙◌, ℕ, ◌+◌, ◌-◌, ◌<◌, ◌≤◌, ◌⊎◌, inl, inr, min, Bool, true, false, List, [], take, length, Option, Some, None, Result, Ok, Err, arith}
use Rattle.std.specs.Prelude.{IfSome, IsSomeAnd, not}
use Rattle.std.proofs.lemmas.Bool.{cases_lt}
use Rattle.std.specs.FinMap.{get}
use Rattle.log_checker.specs.Steps.{CheckerState}
use Rattle.certified.specs.Texts.{Stage, IsAfter, IsFed, is_settled, answer_at}
use Rattle.outside_desk.specs.Files.{Files, IsPiece}
use Rattle.run_answers.specs.declared.stop.ReadStop.{ReadStop}
use Rattle.run_answers.specs.declared.stop.ReadStop.TheVariants.{Refused, Fault, NoMemory}
use Rattle.run_answers.specs.Stages.{Is, ◌>>=◌, or_refuse}
use Rattle.run_answers.specs.Stops.{Gives}
use Rattle.run_answers.specs.declared.refusal.Refusal.{Refusal}
use Rattle.run_answers.specs.declared.refusal.Refusal.TheVariants.{MissingInput, CertificateTooLarge}
use Rattle.run_task.specs.Certificates.{most, said_of_text, said_at, verdict_on_text}
use Rattle.run_task.specs.Pieces.{GivesPiece, IsReady, TakesNext, TakesAll, end_of}
use Rattle.run_task.specs.declared.pieces.Next.{Next}
use Rattle.run_task.specs.declared.pieces.Next.TheVariants.{More, End, Long}
use Rattle.run_task.proofs.Reading.{at_end, piece_settled, piece_open, piece_long}

-- a piece without bytes lies behind the file's end
behind : (file : List ℕ) (from : ℕ) (out : List ℕ) (count : ℕ) → IsPiece file from out count → count ≡ 0 → 0 < length out
    → length file ≤ from
behind file from out count piece none room = not_before (cases_lt from (length file))
  where
    not_before : (from < length file) ⊎ (length file ≤ from) → length file ≤ from
    not_before (inl h) = absurd (let more = piece.more room h in omega (arith, more, none))
    not_before (inr h) = h

module _ (path out : List ℕ) (from count : ℕ) (old : Stage) where
  end_here : (file : Option (List ℕ)) → count ≡ 0 → 0 < length out → IsSomeAnd file (λ bytes. IsPiece bytes from out count)
      → (s : CheckerState)
      → TakesNext s file from path old old (Ok End)
  end_here None none room piece s = absurd piece
  end_here (Some file) none room piece s = λ ready. at_end s file from old ready (behind file from out count piece none room)

  -- no byte was read: what was taken before decides
  pub next_end : (before : Option Files) → count ≡ 0 → 0 < length out
      → IfSome before (λ files. GivesPiece (get files path) from out path (Ok count))
      → IfSome before (λ files. (s : CheckerState) → TakesNext s (get files path) from path old old (Ok End))
  next_end None none room read = tt
  next_end (Some files) none room read = λ s. end_here (get files path) none room read s

  module _ (new : Stage) (text : List ℕ) (taken : ℕ) (is_taken : taken ≡ min count (most - from)) (is_text : text ≡ take taken out)
      (fed : IsFed old new text) where
    fed_piece : IsFed old new (take taken out)
    fed_piece = subst (IsFed old new) is_text fed

    settled_here : is_settled new ≡ true → (file : Option (List ℕ)) → IsSomeAnd file (λ bytes. IsPiece bytes from out count)
        → (s : CheckerState)
        → TakesNext s file from path old new (Ok End)
    settled_here settled None piece s = absurd piece
    settled_here settled (Some file) piece s =
        λ ready. piece_settled s file out from count taken old new ready piece is_taken fed_piece settled

    -- what was taken decides
    pub next_settled : (before : Option Files) → is_settled new ≡ true
        → IfSome before (λ files. GivesPiece (get files path) from out path (Ok count))
        → IfSome before (λ files. (s : CheckerState) → TakesNext s (get files path) from path old new (Ok End))
    next_settled None settled read = tt
    next_settled (Some files) settled read = λ s. settled_here settled (get files path) read s

    long_here : is_settled new ≡ false → taken < count → (file : Option (List ℕ)) → IsSomeAnd file (λ bytes. IsPiece bytes from out count)
        → (s : CheckerState) → TakesNext s file from path old new (Ok Long)
    long_here open_yet less None piece s = absurd piece
    long_here open_yet less (Some file) piece s = λ ready.
        piece_long s file out from count taken old new ready piece is_taken fed_piece open_yet less

    -- what was taken decides nothing, and more was read than may count
    pub next_long : (before : Option Files) → is_settled new ≡ false → taken < count
        → IfSome before (λ files. GivesPiece (get files path) from out path (Ok count))
        → IfSome before (λ files. (s : CheckerState) → TakesNext s (get files path) from path old new (Ok Long))
    next_long None open_yet less read = tt
    next_long (Some files) open_yet less read = λ s. long_here open_yet less (get files path) read s

    more_here : is_settled new ≡ false → (file : Option (List ℕ)) → IsSomeAnd file (λ bytes. IsPiece bytes from out count)
        → (s : CheckerState) → TakesNext s file from path old new (Ok (More (from + taken)))
    more_here open_yet None piece s = absurd piece
    more_here open_yet (Some file) piece s = λ ready.
        piece_open s file out from count taken old new ready piece is_taken fed_piece open_yet

    -- what was taken decides nothing yet
    pub next_more : (before : Option Files) → is_settled new ≡ false
        → IfSome before (λ files. GivesPiece (get files path) from out path (Ok count))
        → IfSome before (λ files. (s : CheckerState) → TakesNext s (get files path) from path old new (Ok (More (from + taken))))
    next_more None open_yet read = tt
    next_more (Some files) open_yet read = λ s. more_here open_yet (get files path) read s

-- the negation that is false is of true
pub not_true : (b : Bool) (r : Bool) → r ≡ not b → r ≡ false → b ≡ true
not_true true r is e = refl
not_true false r is e = absurd (let no : true ≡ false = sym is ∙ e in cc)

-- the negation that is true is of false
pub not_false : (b : Bool) (r : Bool) → r ≡ not b → r ≡ true → b ≡ false
not_false true r is e = absurd (let no : false ≡ true = sym is ∙ e in cc)
not_false false r is e = refl

-- ---- all pieces

-- readiness carried from the file's begin
abbrev pub Carries : CheckerState → List ℕ → ℕ → Stage → Stage → Type 0
Carries s file from old new = IsReady s file 0 old → IsReady s file from new

-- so far, of a desk that may tell its files
abbrev pub CarriesAt : Option Files → List ℕ → ℕ → Stage → Stage → Type 0
CarriesAt before path from old new =
    IfSome before (λ files. (s : CheckerState) (file : List ℕ) → get files path ≡ Some file → Carries s file from old new)

module _ (path : List ℕ) (from : ℕ) (old between new : Stage) where
  -- one piece more
  pub carries_more : (before : Option Files) (place : ℕ) → CarriesAt before path from old between
      → IfSome before (λ files. (s : CheckerState) → TakesNext s (get files path) from path between new (Ok (More place)))
      → CarriesAt before path place old new
  carries_more None place carried next = tt
  carries_more (Some files) place carried next = λ s file is ready. (rw is at (next s)) (carried s file is ready)

  all_here : (file : Option (List ℕ)) (s : CheckerState) (next : Next)
      → ((bytes : List ℕ) → file ≡ Some bytes → Carries s bytes from old between)
      → TakesNext s file from path between new (Ok next) → TakesNext s file 0 path old new (Ok next)
  all_here None s next carried takes = absurd takes
  all_here (Some bytes) s next carried takes = λ ready. takes (carried bytes refl ready)

  -- the last piece
  pub all_taken : (before : Option Files) (next : Next) → CarriesAt before path from old between
      → IfSome before (λ files. (s : CheckerState) → TakesNext s (get files path) from path between new (Ok next))
      → IfSome before (λ files. (s : CheckerState) → TakesNext s (get files path) 0 path old new (Ok next))
  all_taken None next carried takes = tt
  all_taken (Some files) next carried takes = λ s. all_here (get files path) s next (carried s) (takes s)

  stopped_here : (file : Option (List ℕ)) (s : CheckerState) (stop : ReadStop) → TakesNext s file from path between new (Err stop)
      → TakesNext s file 0 path old new (Err stop)
  stopped_here file s (Refused refusal) takes = takes
  stopped_here file s (Fault at) takes = takes
  stopped_here file s NoMemory takes = takes

  -- a reading that stopped
  pub all_stopped : (before : Option Files) (stop : ReadStop)
      → IfSome before (λ files. (s : CheckerState) → TakesNext s (get files path) from path between new (Err stop))
      → IfSome before (λ files. (s : CheckerState) → TakesNext s (get files path) 0 path old new (Err stop))
  all_stopped None stop takes = tt
  all_stopped (Some files) stop takes = λ s. stopped_here (get files path) s stop (takes s)

-- what was taken, by what it is
pub at_next : (told : Option Files) (path : List ℕ) (from : ℕ) (old new : Stage) (given next : Next) → given ≡ next
    → IfSome told (λ files. (s : CheckerState) → TakesNext s (get files path) from path old new (Ok given))
    → IfSome told (λ files. (s : CheckerState) → TakesNext s (get files path) from path old new (Ok next))
at_next told path from old new given next is taken =
    subst (λ (n : Next). IfSome told (λ files. (s : CheckerState) → TakesNext s (get files path) from path old new (Ok n))) is taken

-- and of a stop
pub at_stop : (told : Option Files) (path : List ℕ) (from : ℕ) (old new : Stage) (given stop : ReadStop) → given ≡ stop
    → IfSome told (λ files. (s : CheckerState) → TakesNext s (get files path) from path old new (Err given))
    → IfSome told (λ files. (s : CheckerState) → TakesNext s (get files path) from path old new (Err stop))
at_stop told path from old new given stop is taken =
    subst (λ (n : ReadStop). IfSome told (λ files. (s : CheckerState) → TakesNext s (get files path) from path old new (Err n))) is taken

-- ---- what all pieces say of the file

ready_at_begin : (s : CheckerState) (file : List ℕ) (c : Stage) → IsAfter s [] c → IsReady s file 0 c
ready_at_begin s file c after = record { within = omega arith; after = after; unsettled = refl }

said_by : (file : Option (List ℕ)) (s : CheckerState) (path : List ℕ) (old new : Stage) → IsAfter s [] old
    → TakesNext s file 0 path old new (Ok End)
    → (or_refuse (MissingInput path) file >>= λ text. said_of_text s text)
    ≡ verdict_on_text (answer_at new.progress new.failed new.place.rest)
said_by None s path old new after takes = absurd takes
said_by (Some file) s path old new after takes = takes (ready_at_begin s file old after)

long_by : (file : Option (List ℕ)) (s : CheckerState) (path : List ℕ) (old new : Stage) → IsAfter s [] old
    → TakesNext s file 0 path old new (Ok Long)
    → (or_refuse (MissingInput path) file >>= λ text. said_of_text s text) ≡ Err CertificateTooLarge
long_by None s path old new after takes = absurd takes
long_by (Some file) s path old new after takes = takes (ready_at_begin s file old after)

stop_by : (file : Option (List ℕ)) (s : CheckerState) (path : List ℕ) (old new : Stage) (stop : ReadStop)
    → TakesNext s file 0 path old new (Err stop)
    → Gives {T = Unit {0}} (Err stop) (Is (or_refuse (MissingInput path) file >>= λ text. said_of_text s text))
stop_by file s path old new (Refused refusal) (none, is) = rw none (ap Err is)
stop_by file s path old new (Fault at) takes = tt
stop_by file s path old new NoMemory takes = tt

module _ (path : List ℕ) (s : CheckerState) (old new : Stage) (after : IsAfter s [] old) where
  said_here : (files : Files) (result : Result (Unit {0}) ReadStop)
      → TakesNext s (get files path) 0 path old new (Ok End)
      → Gives result (Is (verdict_on_text (answer_at new.progress new.failed new.place.rest))) → Gives result (Is (said_at files path s))
  unfolding said_at
  said_here files result takes read =
      subst (λ (r : Result (Unit {0}) Refusal). Gives result (Is r)) (sym (said_by (get files path) s path old new after takes)) read

  long_here-2 : (files : Files) → TakesNext s (get files path) 0 path old new (Ok Long)
      → Gives {T = Unit {0}} (Err (Refused CertificateTooLarge)) (Is (said_at files path s))
  unfolding said_at
  long_here-2 files takes = sym (long_by (get files path) s path old new after takes)

  stop_here : (files : Files) (stop : ReadStop) → TakesNext s (get files path) 0 path old new (Err stop)
      → Gives {T = Unit {0}} (Err stop) (Is (said_at files path s))
  unfolding said_at
  stop_here files stop takes = stop_by (get files path) s path old new stop takes

  -- what was read decides
  pub text_said : (before : Option Files) (result : Result (Unit {0}) ReadStop)
      → IfSome before (λ files. (s : CheckerState) → TakesNext s (get files path) 0 path old new (Ok End))
      → Gives result (Is (verdict_on_text (answer_at new.progress new.failed new.place.rest)))
      → IfSome before (λ files. Gives result (Is (said_at files path s)))
  text_said None result takes read = tt
  text_said (Some files) result takes read = said_here files result (takes s) read

  -- there is too much
  pub text_long : (before : Option Files) → IfSome before (λ files. (s : CheckerState)
      → TakesNext s (get files path) 0 path old new (Ok Long))
      → IfSome before (λ files. Gives {T = Unit {0}} (Err (Refused CertificateTooLarge)) (Is (said_at files path s)))
  text_long None takes = tt
  text_long (Some files) takes = long_here-2 files (takes s)

  -- the reading stopped
  pub text_stop : (before : Option Files) (stop : ReadStop)
      → IfSome before (λ files. (s : CheckerState) → TakesNext s (get files path) 0 path old new (Err stop))
      → IfSome before (λ files. Gives {T = Unit {0}} (Err stop) (Is (said_at files path s)))
  text_stop None stop takes = tt
  text_stop (Some files) stop takes = stop_here files stop (takes s)

-- ---- by the answer of all pieces

-- what was decided is what was given
pub all_by : (before : Option Files) (path : List ℕ) (old new : Stage) (given decided : Bool) → given ≡ decided
    → IfSome before (λ files. (s : CheckerState) → TakesAll s (get files path) path old new (Ok given))
    → IfSome before (λ files. (s : CheckerState) → TakesNext s (get files path) 0 path old new (Ok (end_of decided)))
all_by before path old new given decided is taken =
    subst (λ (b : Bool). IfSome before (λ files. (s : CheckerState) → TakesNext s (get files path) 0 path old new (Ok (end_of b)))) is taken

-- by the stop
pub all_but : (before : Option Files) (path : List ℕ) (old new : Stage) (given stop : ReadStop) → given ≡ stop
    → IfSome before (λ files. (s : CheckerState) → TakesAll s (get files path) path old new (Err given))
    → IfSome before (λ files. (s : CheckerState) → TakesNext s (get files path) 0 path old new (Err stop))
all_but before path old new given stop is taken =
    subst (λ (b : ReadStop). IfSome before (λ files. (s : CheckerState) → TakesNext s (get files path) 0 path old new (Err b))) is taken
