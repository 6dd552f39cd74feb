-- Certificates of values and refutations, by what each line keeps.
use Rattle.std.proofs.Common.{◌≡◌, ◌↔◌, ℕ, Bool, true, false, List, [], ◌∷◌, Option, Some, None, refl, sym, ◌∙◌, subst, ap, arith}
use Rattle.std.proofs.lemmas.Option.{none-some}
use Rattle.std.proofs.lemmas.Bool.{false≢true}
use Rattle.clause_store.specs.declared.Lit.{Lit}
use Rattle.proof_log.specs.declared.line.Line.{Line}
use Rattle.proof_log.specs.declared.line.Line.TheVariants.{Header, Learnt, Zero, One, Unsat, Spent, End}
use Rattle.proof_log.specs.Known.{AllClauses}
use Rattle.proof_log.specs.Lines.{ends, AllLines, LastIs, EndsLast, SettlesNone}
use Rattle.proof_log.specs.Logs.{IsSound}
use Rattle.proof_log.specs.Certificates.{HasValue, IsUnsat}
use Rattle.log_checker.specs.declared.step.Step.TheVariants.{Accepted}
use Rattle.log_checker.specs.Steps.{Going, starting_state, run_lines, told, finish_on}
use Rattle.log_checker.specs.Kinds.{IsLogOf, Suits, AllSuit, IsSoFar}
use Rattle.log_checker.proofs.Accepted.{AllTyped, HasEnd, goes_on, accepted-so_far, ended-is, finish-is, told-is}

-- the lines of a certificate
suits-valued : (vs : List Bool) (ls : List Line) → AllSuit (Some vs) ls → AllLines (HasValue vs) ls
suits-valued vs [] a = tt
suits-valued vs (Zero id b ∷ ls) a = (a.0, suits-valued vs ls a.1)
suits-valued vs (One id b chain ∷ ls) a = (a.0, suits-valued vs ls a.1)
suits-valued vs (Header v c b ∷ ls) a = (tt, suits-valued vs ls a.1)
suits-valued vs (Learnt id c chain ∷ ls) a = (tt, suits-valued vs ls a.1)
suits-valued vs (Unsat chain ∷ ls) a = (tt, suits-valued vs ls a.1)
suits-valued vs (Spent ∷ ls) a = (tt, suits-valued vs ls a.1)
suits-valued vs (End ∷ ls) a = (tt, suits-valued vs ls a.1)

end-suits : (vs : List Bool) (l : Line) → Suits (Some vs) l → ends l ≡ true → l ≡ End
end-suits vs (Header v c b) a e = absurd (false≢true e)
end-suits vs (Learnt id c chain) a e = absurd (false≢true e)
end-suits vs (Zero id b) a e = absurd (false≢true e)
end-suits vs (One id b chain) a e = absurd (false≢true e)
end-suits vs (Unsat chain) a e = absurd (none-some vs (sym a))
end-suits vs Spent a e = absurd a
end-suits vs End a e = refl

unsat-suits : (l : Line) → Suits None l → ends l ≡ true → IsUnsat l
unsat-suits (Header v c b) a e = absurd (false≢true e)
unsat-suits (Learnt id c chain) a e = absurd (false≢true e)
unsat-suits (Zero id b) a e = absurd (false≢true e)
unsat-suits (One id b chain) a e = absurd (false≢true e)
unsat-suits (Unsat chain) a e = (chain, refl)
unsat-suits Spent a e = absurd a
unsat-suits End a e = absurd (none-some a.0 a.1)

suits-none : (ls : List Line) → AllSuit None ls → AllLines SettlesNone ls
suits-none [] a = tt
suits-none (Zero id b ∷ ls) a = absurd (none-some false a.0)
suits-none (One id b chain ∷ ls) a = absurd (none-some true a.0)
suits-none (Header v c b ∷ ls) a = (refl, suits-none ls a.1)
suits-none (Learnt id c chain ∷ ls) a = (refl, suits-none ls a.1)
suits-none (Unsat chain ∷ ls) a = (refl, suits-none ls a.1)
suits-none (Spent ∷ ls) a = (refl, suits-none ls a.1)
suits-none (End ∷ ls) a = (refl, suits-none ls a.1)

-- the last line is the one that ends
last-suits : (values : Option (List Bool)) (P : Line → Type 0) → ((l : Line) → Suits values l → ends l ≡ true → P l) → (ls : List Line)
    → AllSuit values ls → EndsLast ls → HasEnd ls → LastIs P ls
last-suits values P f [] a e h = absurd h
last-suits values P f (l ∷ []) a e h = by (ends l) refl
  where
    by : (b : Bool) → ends l ≡ b → P l
    by true q = f l a.0 q
    by false q = absurd (h q)
last-suits values P f (l ∷ k ∷ ls) a e h = by (ends l) refl (λ g. last-suits values P f (k ∷ ls) a.1 e.1 g)
  where
    empty : k ∷ ls ≡ [] → ⊥
    empty q = cc

    by : (b : Bool) → ends l ≡ b → (HasEnd (k ∷ ls) → LastIs P (k ∷ ls)) → LastIs P (k ∷ ls)
    by true q ih = absurd (empty (e.0 q))
    by false q ih = ih (h q)

last-ends : (P : Line → Type 0) → ((l : Line) → P l → ends l ≡ true) → (ls : List Line) → LastIs P ls → HasEnd ls
last-ends P f [] h = absurd h
last-ends P f (l ∷ []) h = λ q. absurd (false≢true (sym q ∙ f l h))
last-ends P f (l ∷ k ∷ ls) h = λ q. last-ends P f (k ∷ ls) h

-- a line that is not the last does not end the log
abbrev OfLine : (Line → Type 0) → (Line → Type 0) → Option (List Bool) → Type 0
OfLine P Q values = ((l : Line) → P l → Suits values l) × ((l : Line) → Q l → ends l ≡ false → Suits values l)

all-suit : (values : Option (List Bool)) (P Q : Line → Type 0) → OfLine P Q values → (ls : List Line) → EndsLast ls → LastIs P ls
    → AllLines Q ls → AllSuit values ls
all-suit values P Q f [] e h a = tt
all-suit values P Q f (l ∷ []) e h a = (f.0 l h, tt)
all-suit values P Q f (l ∷ k ∷ ls) e h a = (by (ends l) refl, all-suit values P Q f (k ∷ ls) e.1 h a.1)
  where
    empty : k ∷ ls ≡ [] → ⊥
    empty q = cc

    by : (b : Bool) → ends l ≡ b → Suits values l
    by true q = absurd (empty (e.0 q))
    by false q = f.1 l a.0 q

valued-suits : (vs : List Bool) (l : Line) → HasValue vs l → ends l ≡ false → Suits (Some vs) l
valued-suits vs (Header v c b) h e = tt
valued-suits vs (Learnt id c chain) h e = tt
valued-suits vs (Zero id b) h e = h
valued-suits vs (One id b chain) h e = h
valued-suits vs (Unsat chain) h e = absurd (false≢true (sym e))
valued-suits vs Spent h e = absurd (false≢true (sym e))
valued-suits vs End h e = absurd (false≢true (sym e))

none-suits : (l : Line) → SettlesNone l → ends l ≡ false → Suits None l
none-suits (Header v c b) h e = tt
none-suits (Learnt id c chain) h e = tt
none-suits (Zero id b) h e = absurd (omega (arith, h))
none-suits (One id b chain) h e = absurd (omega (arith, h))
none-suits (Unsat chain) h e = refl
none-suits Spent h e = absurd (false≢true (sym e))
none-suits End h e = absurd (false≢true (sym e))

is-end : (vs : List Bool) (l : Line) → l ≡ End → Suits (Some vs) l
is-end vs l e = subst (Suits (Some vs)) (sym e) (vs, refl)

is-unsat : (l : Line) → IsUnsat l → Suits None l
is-unsat l e = subst (Suits None) (sym e.1) refl

end-ends : (l : Line) → l ≡ End → ends l ≡ true
end-ends l e = ap ends e

unsat-ends : (l : Line) → IsUnsat l → ends l ≡ true
unsat-ends l e = ap ends e.1

-- a log begins with a line that does not end it
begin-last : (vars : ℕ) (input : List (List Lit)) (bits : List Lit) (ls : List Line) → IsSound vars input bits ls → EndsLast ls
begin-last vars input bits [] s = absurd s
begin-last vars input bits (l ∷ ls) s = ((λ e. absurd (false≢true (sym (ap ends s.0) ∙ e))), s.2)

so_far-log : (vars : ℕ) (input : List (List Lit)) (bits : List Lit) (values : Option (List Bool)) (ls : List Line)
    → IsSoFar vars input bits values ls → HasEnd ls → IsLogOf vars input bits values ls
so_far-log vars input bits values [] s h = absurd h
so_far-log vars input bits (Some vs) (l ∷ ls) s h = record {
  sound = s.0;
  distinct = s.1;
  valued = suits-valued vs (l ∷ ls) s.2;
  last = last-suits (Some vs) (λ l. l ≡ End) (end-suits vs) (l ∷ ls) s.2 (begin-last vars input bits (l ∷ ls) s.0) h;
}
so_far-log vars input bits None (l ∷ ls) s h = record {
  sound = s.0;
  distinct = s.1;
  no_bit = suits-none (l ∷ ls) s.2;
  last = last-suits None IsUnsat unsat-suits (l ∷ ls) s.2 (begin-last vars input bits (l ∷ ls) s.0) h;
}

log-so_far : (vars : ℕ) (input : List (List Lit)) (bits : List Lit) (values : Option (List Bool)) (ls : List Line)
    → IsLogOf vars input bits values ls → IsSoFar vars input bits values ls × HasEnd ls
log-so_far vars input bits (Some vs) [] h = (tt, last-ends (λ l. l ≡ End) end-ends [] h.last)
log-so_far vars input bits (Some vs) (l ∷ ls) h = (
  (
    h.sound,
    h.distinct,
    all-suit (Some vs) (λ l. l ≡ End) (HasValue vs) (is-end vs, valued-suits vs) (l ∷ ls)
        (begin-last vars input bits (l ∷ ls) h.sound) h.last h.valued,
  ),
  last-ends (λ l. l ≡ End) end-ends (l ∷ ls) h.last,
)
log-so_far vars input bits None [] h = (tt, last-ends IsUnsat unsat-ends [] h.last)
log-so_far vars input bits None (l ∷ ls) h = (
  (
    h.sound,
    h.distinct,
    all-suit None IsUnsat SettlesNone (is-unsat, none-suits) (l ∷ ls)
        (begin-last vars input bits (l ∷ ls) h.sound) h.last h.no_bit,
  ),
  last-ends IsUnsat unsat-ends (l ∷ ls) h.last,
)

pub so_far-is : (vars : ℕ) (input : List (List Lit)) (bits : List Lit) (values : Option (List Bool)) (ls : List Line) → AllClauses input
    → AllTyped ls
    → (told (run_lines (Going (starting_state vars input bits values)) ls) ≡ Accepted) ↔ IsSoFar vars input bits values ls
so_far-is vars input bits values ls a t =
    let p = run_lines (Going (starting_state vars input bits values)) ls in
    let h = accepted-so_far vars input bits values ls a t in
    ((λ e. h.0 ((told-is p).0 e)), (λ s. (told-is p).1 (h.1 s)))

pub accepted-is : (vars : ℕ) (input : List (List Lit)) (bits : List Lit) (values : Option (List Bool)) (ls : List Line) → AllClauses input
    → AllTyped ls
    → (finish_on (run_lines (Going (starting_state vars input bits values)) ls) ≡ Accepted) ↔ IsLogOf vars input bits values ls
accepted-is vars input bits values ls a t = (to, from)
  where
    h : (goes_on (run_lines (Going (starting_state vars input bits values)) ls) ≡ true) ↔ IsSoFar vars input bits values ls
    h = accepted-so_far vars input bits values ls a t

    to : finish_on (run_lines (Going (starting_state vars input bits values)) ls) ≡ Accepted → IsLogOf vars input bits values ls
    to e =
        let p = (finish-is (run_lines (Going (starting_state vars input bits values)) ls)).0 e in
        so_far-log vars input bits values ls (h.0 p.0) ((ended-is (starting_state vars input bits values) ls p.0 refl).0 p.1)

    from : IsLogOf vars input bits values ls → finish_on (run_lines (Going (starting_state vars input bits values)) ls) ≡ Accepted
    from g =
        let p = log-so_far vars input bits values ls g in
        let f = h.1 p.0 in
        (finish-is (run_lines (Going (starting_state vars input bits values)) ls)).1
        (f, (ended-is (starting_state vars input bits values) ls f refl).1 p.1)
