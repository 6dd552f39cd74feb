-- A shorter log is of the same kind.
use Rattle.std.proofs.Common.{◌≡◌, ℕ, ◌+◌, ◌≤◌, Bool, true, false, List, [], ◌∷◌, ◌++◌, Option, Some, None, length, refl, sym, ◌∙◌, subst, ap, arith}
use Rattle.std.specs.Prelude.{if◌then◌else◌}
use Rattle.std.proofs.lemmas.Bool.{or_left, or_right}
use Rattle.clause_store.specs.declared.Lit.{Lit}
use Rattle.clause_store.specs.Lits.{SameLits, AllBelow}
use Rattle.proof_log.specs.declared.line.Line.{Line}
use Rattle.proof_log.specs.declared.line.Line.TheVariants.{Header, Learnt, Zero, One, Unsat, Spent, End}
use Rattle.proof_log.specs.Usefulness.{IsNew}
use Rattle.proof_log.specs.Lines.{with_added, learnt, learnt_count, learnt_in, settles, ends, AllLines, LastIs, OfLearnt, EndsLast, SettlesNone}
use Rattle.proof_log.specs.Logs.{IsSound, IsDistinct, AreDistinct}
use Rattle.proof_log.specs.Certificates.{HasValue, IsUnsat, AreOver, IsCertificate, IsRefutation}
use Rattle.log_trim.specs.Trimmed.{stays, used_by, staying, id_of, renamed, with_name, next_id, anew, own_name, inputs_of, shorter, is_spent, has_spent, trimmed}
use Rattle.log_trim.proofs.Trimming.{holds}

ends-renamed : (names : ℕ → ℕ) (id : ℕ) (l : Line) → ends (renamed names id l) ≡ ends l
ends-renamed names id (Header vars clauses bits) = refl
ends-renamed names id (Learnt k c chain) = refl
ends-renamed names id (Zero k b) = refl
ends-renamed names id (One k b chain) = refl
ends-renamed names id (Unsat chain) = refl
ends-renamed names id Spent = refl
ends-renamed names id End = refl

learnt-renamed : (names : ℕ → ℕ) (id : ℕ) (l : Line) → learnt (renamed names id l) ≡ learnt l
learnt-renamed names id (Header vars clauses bits) = refl
learnt-renamed names id (Learnt k c chain) = refl
learnt-renamed names id (Zero k b) = refl
learnt-renamed names id (One k b chain) = refl
learnt-renamed names id (Unsat chain) = refl
learnt-renamed names id Spent = refl
learnt-renamed names id End = refl

settles-renamed : (names : ℕ → ℕ) (id : ℕ) (l : Line) → settles (renamed names id l) ≡ settles l
settles-renamed names id (Header vars clauses bits) = refl
settles-renamed names id (Learnt k c chain) = refl
settles-renamed names id (Zero k b) = refl
settles-renamed names id (One k b chain) = refl
settles-renamed names id (Unsat chain) = refl
settles-renamed names id Spent = refl
settles-renamed names id End = refl

value-renamed : (values : List Bool) (names : ℕ → ℕ) (id : ℕ) (l : Line) → HasValue values l → HasValue values (renamed names id l)
value-renamed values names id (Header vars clauses bits) h = tt
value-renamed values names id (Learnt k c chain) h = tt
value-renamed values names id (Zero k b) h = h
value-renamed values names id (One k b chain) h = h
value-renamed values names id (Unsat chain) h = tt
value-renamed values names id Spent h = tt
value-renamed values names id End h = tt

-- only the last line ends the log
ends-anew : (names : ℕ → ℕ) (n : ℕ) (ls : List Line) (bs : List Bool) → EndsLast ls → EndsLast (anew names n ls bs)
ends-anew names n [] bs h = tt
ends-anew names n (l ∷ ls) [] h = tt
ends-anew names n (l ∷ ls) (true ∷ bs) h = (
  λ q. ap (λ ks. anew (with_name names (id_of l) (n + 1)) (next_id (id_of l) n) ks bs) (h.0 (sym (ends-renamed names (n + 1) l) ∙ q)),
  ends-anew (with_name names (id_of l) (n + 1)) (next_id (id_of l) n) ls bs h.1,
)
ends-anew names n (l ∷ ls) (false ∷ bs) h = ends-anew names n ls bs h.1

-- a fact that new names do not change
all-anew : (P : Line → Type 0) → ((f : ℕ → ℕ) (id : ℕ) (l : Line) → P l → P (renamed f id l)) → (names : ℕ → ℕ) (n : ℕ) (ls : List Line)
    (bs : List Bool) → AllLines P ls → AllLines P (anew names n ls bs)
all-anew P keep names n [] bs a = tt
all-anew P keep names n (l ∷ ls) [] a = tt
all-anew P keep names n (l ∷ ls) (true ∷ bs) a =
    (keep names (n + 1) l a.0, all-anew P keep (with_name names (id_of l) (n + 1)) (next_id (id_of l) n) ls bs a.1)
all-anew P keep names n (l ∷ ls) (false ∷ bs) a = all-anew P keep names n ls bs a.1

last-cons : (P : Line → Type 0) (l : Line) (ls : List Line) → LastIs P ls → LastIs P (l ∷ ls)
last-cons P l [] h = absurd h
last-cons P l (k ∷ ls) h = h

-- the last line stays
last-anew : (P : Line → Type 0) → ((f : ℕ → ℕ) (id : ℕ) (l : Line) → P l → P (renamed f id l))
    → ((used : ℕ → Bool) (l : Line) → P l → stays used l ≡ true) → (names : ℕ → ℕ) (n : ℕ) (ls : List Line) → LastIs P ls
    → LastIs P (anew names n ls (staying ls))
last-anew P keep stay names n [] h = absurd h
last-anew P keep stay names n (l ∷ []) h =
    subst (λ b. LastIs P (anew names n (l ∷ []) (b ∷ []))) (sym (stay (used_by []) l h)) (keep names (n + 1) l h)
last-anew P keep stay names n (l ∷ k ∷ ls) h =
    by (stays (used_by (k ∷ ls)) l) (last-anew P keep stay (with_name names (id_of l) (n + 1)) (next_id (id_of l) n) (k ∷ ls) h)
    (last-anew P keep stay names n (k ∷ ls) h)
  where
    by : (b : Bool) → LastIs P (anew (with_name names (id_of l) (n + 1)) (next_id (id_of l) n) (k ∷ ls) (staying (k ∷ ls)))
        → LastIs P (anew names n (k ∷ ls) (staying (k ∷ ls))) → LastIs P (anew names n (l ∷ k ∷ ls) (b ∷ staying (k ∷ ls)))
    by true one other = last-cons P (renamed names (n + 1) l)
        (anew (with_name names (id_of l) (n + 1)) (next_id (id_of l) n) (k ∷ ls) (staying (k ∷ ls))) one
    by false one other = other

-- fewer rivals
new-parts : (xs : List (List Lit)) (c d : List Lit) → IsNew (xs ++ c ∷ []) d → IsNew xs d × (SameLits c d → ⊥)
new-parts [] c d h = (tt, h.0)
new-parts (x ∷ xs) c d h = let r = new-parts xs c d h.1 in ((h.0, r.0), r.1)

new-more : (xs : List (List Lit)) (c d : List Lit) → IsNew xs d → (SameLits c d → ⊥) → IsNew (xs ++ c ∷ []) d
new-more [] c d h s = (s, tt)
new-more (x ∷ xs) c d h s = (h.0, new-more xs c d h.1 s)

abbrev pub Fewer : List (List Lit) → List (List Lit) → Type 0
Fewer few rivals = (d : List Lit) → IsNew rivals d → IsNew few d

fewer-both : (few rivals : List (List Lit)) (o : Option (List Lit)) → Fewer few rivals → Fewer (with_added few o) (with_added rivals o)
fewer-both few rivals None f d h = f d h
fewer-both few rivals (Some c) f d h = let r = new-parts rivals c d h in new-more few c d (f d r.0) r.1

fewer-one : (few rivals : List (List Lit)) (o : Option (List Lit)) → Fewer few rivals → Fewer few (with_added rivals o)
fewer-one few rivals None f d h = f d h
fewer-one few rivals (Some c) f d h = f d (new-parts rivals c d h).0

fewer-new : (few rivals : List (List Lit)) (o : Option (List Lit)) → Fewer few rivals → IsDistinct rivals o → IsDistinct few o
fewer-new few rivals None f h = tt
fewer-new few rivals (Some c) f h = f c h

-- learnt clauses stay distinct
distinct-anew : (few rivals : List (List Lit)) (names : ℕ → ℕ) (n : ℕ) (ls : List Line) (bs : List Bool) → Fewer few rivals
    → AreDistinct rivals ls → AreDistinct few (anew names n ls bs)
distinct-anew few rivals names n [] bs f a = tt
distinct-anew few rivals names n (l ∷ ls) [] f a = tt
distinct-anew few rivals names n (l ∷ ls) (true ∷ bs) f a =
    subst (λ o. IsDistinct few o × AreDistinct (with_added few o)
    (anew (with_name names (id_of l) (n + 1)) (next_id (id_of l) n) ls bs)) (sym (learnt-renamed names (n + 1) l)) (
      fewer-new few rivals (learnt l) f a.0,
      distinct-anew (with_added few (learnt l)) (with_added rivals (learnt l)) (with_name names (id_of l) (n + 1))
          (next_id (id_of l) n) ls bs (fewer-both few rivals (learnt l) f) a.1,
    )
distinct-anew few rivals names n (l ∷ ls) (false ∷ bs) f a =
    distinct-anew few (with_added rivals (learnt l)) names n ls bs (fewer-one few rivals (learnt l) f) a.1

-- the log behind its first line
module _ (vars : ℕ) (input : List (List Lit)) (bits : List Lit) where
  abbrev head : Line
  head = Header vars (length input) (length bits)

  sound-shorter : (ls : List Line) → IsSound vars input bits (head ∷ ls) → IsSound vars input bits (shorter (head ∷ ls))
  sound-shorter ls s = (
    refl,
    holds bits ls input input own_name (length input) 0 s.1 (λ x c u e. e) refl,
    ends-anew own_name (length input) ls (staying ls) s.2,
  )

  distinct-shorter : (ls : List Line) → AreDistinct input (head ∷ ls) → AreDistinct input (shorter (head ∷ ls))
  distinct-shorter ls a = (tt, distinct-anew input input own_name (length input) ls (staying ls) (λ d h. h) a.1)

  all-shorter : (P : Line → Type 0) → ((f : ℕ → ℕ) (id : ℕ) (l : Line) → P l → P (renamed f id l)) → (ls : List Line)
      → AllLines P (head ∷ ls) → AllLines P (shorter (head ∷ ls))
  all-shorter P keep ls a = (a.0, all-anew P keep own_name (length input) ls (staying ls) a.1)

  last-shorter : (P : Line → Type 0) → ((f : ℕ → ℕ) (id : ℕ) (l : Line) → P l → P (renamed f id l))
      → ((used : ℕ → Bool) (l : Line) → P l → stays used l ≡ true) → (ls : List Line) → LastIs P (head ∷ ls)
      → LastIs P (shorter (head ∷ ls))
  last-shorter P keep stay [] h = h
  last-shorter P keep stay (l ∷ ls) h = last-cons P head (anew own_name (length input) (l ∷ ls) (staying (l ∷ ls)))
      (last-anew P keep stay own_name (length input) (l ∷ ls) h)

  end-renamed : (f : ℕ → ℕ) (id : ℕ) (l : Line) → l ≡ End → renamed f id l ≡ End
  end-renamed f id l e = ap (renamed f id) e

  end-stays : (used : ℕ → Bool) (l : Line) → l ≡ End → stays used l ≡ true
  end-stays used l e = ap (stays used) e

  unsat-renamed : (f : ℕ → ℕ) (id : ℕ) (l : Line) → IsUnsat l → IsUnsat (renamed f id l)
  unsat-renamed f id l u = (_, ap (renamed f id) u.1)

  unsat-stays : (used : ℕ → Bool) (l : Line) → IsUnsat l → stays used l ≡ true
  unsat-stays used l u = ap (stays used) u.1

  none-renamed : (f : ℕ → ℕ) (id : ℕ) (l : Line) → SettlesNone l → SettlesNone (renamed f id l)
  none-renamed f id l s = settles-renamed f id l ∙ s

  certificate-head : (values : List Bool) (ls : List Line) → IsCertificate vars input bits values (head ∷ ls)
      → IsCertificate vars input bits values (shorter (head ∷ ls))
  certificate-head values ls c = record {
    sound = sound-shorter ls c.sound;
    distinct = distinct-shorter ls c.distinct;
    valued = all-shorter (HasValue values) (value-renamed values) ls c.valued;
    last = last-shorter (λ l. l ≡ End) end-renamed end-stays ls c.last;
  }

  refutation-head : (ls : List Line) → IsRefutation vars input bits (head ∷ ls) → IsRefutation vars input bits (shorter (head ∷ ls))
  refutation-head ls c = record {
    sound = sound-shorter ls c.sound;
    distinct = distinct-shorter ls c.distinct;
    no_bit = all-shorter SettlesNone none-renamed ls c.no_bit;
    last = last-shorter IsUnsat unsat-renamed unsat-stays ls c.last;
  }

  certificate-shorter : (values : List Bool) (lines : List Line) → IsCertificate vars input bits values lines
      → IsCertificate vars input bits values (shorter lines)
  certificate-shorter values [] c = absurd c.sound
  certificate-shorter values (l ∷ ls) c =
      subst (λ k. IsCertificate vars input bits values (k ∷ ls) → IsCertificate vars input bits values (shorter (k ∷ ls)))
      (sym c.sound.0) (certificate-head values ls) c

  refutation-shorter : (lines : List Line) → IsRefutation vars input bits lines → IsRefutation vars input bits (shorter lines)
  refutation-shorter [] c = absurd c.sound
  refutation-shorter (l ∷ ls) c =
      subst (λ k. IsRefutation vars input bits (k ∷ ls) → IsRefutation vars input bits (shorter (k ∷ ls))) (sym c.sound.0)
      (refutation-head ls) c

  pub certificate-trimmed : (values : List Bool) (lines : List Line) → IsCertificate vars input bits values lines
      → IsCertificate vars input bits values (trimmed lines)
  certificate-trimmed values lines c = by (has_spent lines)
    where
      by : (b : Bool) → IsCertificate vars input bits values (if b then lines else shorter lines)
      by true = c
      by false = certificate-shorter values lines c

  pub refutation-trimmed : (lines : List Line) → IsRefutation vars input bits lines → IsRefutation vars input bits (trimmed lines)
  refutation-trimmed lines c = by (has_spent lines)
    where
      by : (b : Bool) → IsRefutation vars input bits (if b then lines else shorter lines)
      by true = c
      by false = refutation-shorter lines c

spent-last : (ls : List Line) → LastIs (λ l. l ≡ Spent) ls → has_spent ls ≡ true
spent-last [] h = absurd h
spent-last (l ∷ []) h = or_left (is_spent l) false (ap is_spent h)
spent-last (l ∷ k ∷ ls) h = or_right (is_spent l) (has_spent (k ∷ ls)) (spent-last (k ∷ ls) h)

pub spent-trimmed : (ls : List Line) → LastIs (λ l. l ≡ Spent) ls → trimmed ls ≡ ls
spent-trimmed ls h = ap (λ b. if b then ls else shorter ls) (spent-last ls h)

length-anew : (names : ℕ → ℕ) (n : ℕ) (ls : List Line) (bs : List Bool) → length (anew names n ls bs) ≤ length ls
length-anew names n [] bs = omega arith
length-anew names n (l ∷ ls) [] = omega arith
length-anew names n (l ∷ ls) (true ∷ bs) =
    let h = length-anew (with_name names (id_of l) (n + 1)) (next_id (id_of l) n) ls bs in omega (arith, h)
length-anew names n (l ∷ ls) (false ∷ bs) = let h = length-anew names n ls bs in omega (arith, h)

pub length-trimmed : (ls : List Line) → length (trimmed ls) ≤ length ls
length-trimmed ls = by (has_spent ls) ls
  where
    short : (ks : List Line) → length (shorter ks) ≤ length ks
    short [] = omega arith
    short (l ∷ ks) = let h = length-anew own_name (inputs_of l) ks (staying ks) in omega (arith, h)

    by : (b : Bool) (ks : List Line) → length (if b then ks else shorter ks) ≤ length ks
    by true ks = omega arith
    by false ks = short ks

-- what is learnt stays over its variables, and is no more
over-renamed : (vars : ℕ) (names : ℕ → ℕ) (id : ℕ) (l : Line) → OfLearnt (AllBelow vars) l → OfLearnt (AllBelow vars) (renamed names id l)
over-renamed vars names id (Header a b d) h = tt
over-renamed vars names id (Learnt k c chain) h = h
over-renamed vars names id (Zero k b) h = tt
over-renamed vars names id (One k b chain) h = tt
over-renamed vars names id (Unsat chain) h = tt
over-renamed vars names id Spent h = tt
over-renamed vars names id End h = tt

pub over-trimmed : (vars : ℕ) (lines : List Line) → AreOver vars lines → AreOver vars (trimmed lines)
over-trimmed vars lines a = by (has_spent lines) lines a
  where
    short : (ks : List Line) → AreOver vars ks → AreOver vars (shorter ks)
    short [] a = tt
    short (l ∷ ks) a = (a.0, all-anew (OfLearnt (AllBelow vars)) (over-renamed vars) own_name (inputs_of l) ks (staying ks) a.1)

    by : (b : Bool) (ks : List Line) → AreOver vars ks → AreOver vars (if b then ks else shorter ks)
    by true ks a = a
    by false ks a = short ks a

count-renamed : (names : ℕ → ℕ) (id : ℕ) (l : Line) → learnt_count (renamed names id l) ≡ learnt_count l
count-renamed names id (Header a b d) = refl
count-renamed names id (Learnt k c chain) = refl
count-renamed names id (Zero k b) = refl
count-renamed names id (One k b chain) = refl
count-renamed names id (Unsat chain) = refl
count-renamed names id Spent = refl
count-renamed names id End = refl

learnt-anew : (names : ℕ → ℕ) (n : ℕ) (ls : List Line) (bs : List Bool) → learnt_in (anew names n ls bs) ≤ learnt_in ls
learnt-anew names n [] bs = omega arith
learnt-anew names n (l ∷ ls) [] = omega arith
learnt-anew names n (l ∷ ls) (true ∷ bs) =
    let h = learnt-anew (with_name names (id_of l) (n + 1)) (next_id (id_of l) n) ls bs in omega (arith, h, count-renamed names (n + 1) l)
learnt-anew names n (l ∷ ls) (false ∷ bs) = let h = learnt-anew names n ls bs in omega (arith, h)

pub learnt-trimmed : (lines : List Line) → learnt_in (trimmed lines) ≤ learnt_in lines
learnt-trimmed lines = by (has_spent lines) lines
  where
    short : (ks : List Line) → learnt_in (shorter ks) ≤ learnt_in ks
    short [] = omega arith
    short (l ∷ ks) = let h = learnt-anew own_name (inputs_of l) ks (staying ks) in omega (arith, h)

    by : (b : Bool) (ks : List Line) → learnt_in (if b then ks else shorter ks) ≤ learnt_in ks
    by true ks = omega arith
    by false ks = short ks
