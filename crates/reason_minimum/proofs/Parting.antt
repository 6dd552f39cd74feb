-- What the clauses of some demands mean.
use Prim.Native.Nat.{zero, suc}
use Rattle.std.proofs.Common.{◌≡◌, ◌↔◌, ℕ, ◌+◌, ◌<◌, ◌≤◌, Bool, true, false, ◌||◌, List, [], ◌∷◌, ◌++◌, take, drop, length, Option, Some, None, refl, sym, ◌∙◌, subst, ap, arith, cond, eqb}
use Rattle.std.specs.Prelude.{not}
use Rattle.std.specs.List.{filter}
use Rattle.std.specs.Option.{option_map}
use Rattle.std.proofs.lemmas.Bool.{false≢true, eq-eqb, or_left, or_right}
use Rattle.std.proofs.lemmas.List.{take_all}
use Rattle.std.proofs.lemmas.List.Elements.{filter-append}
use Rattle.std.proofs.lemmas.Option.{same_Some, none-some}
use Rattle.clause_store.specs.Lits.{clause_true, AllBelow}
use Rattle.clause_store.specs.declared.Label.{Label}
use Rattle.clause_store.specs.declared.Label.TheVariants.{Structure, Demand}
use Rattle.clause_store.specs.declared.list.Entry.{Entry}
use Rattle.clause_store.specs.Clauses.{Clauses, Meets, AllInRange, counts, entry_met, at_id}
use Rattle.optimum_search.specs.Finding.{MeetsAll}
use Rattle.explain_failure.specs.Uses.{stands}
use Rattle.explain_failure.specs.Rising.{with_number}
use Rattle.explain_failure.specs.Marks.{demand_at}
use Rattle.explain_failure.proofs.Numbers.{stands-with}
use Rattle.reason_minimum.specs.Parts.{is_for, clauses_for, is_label, labels, AreAll}

-- an entry is met where less is asked for
entry-less : (x y t : Bool) → (x ≡ true → y ≡ true) → (not y || t) ≡ true → (not x || t) ≡ true
entry-less false y t f h = refl
entry-less true true t f h = h
entry-less true false t f h = absurd (false≢true (f refl))

counts-less : (a b : ℕ → Bool) → ((d : ℕ) → b d ≡ true → a d ≡ true) → (l : Label) → counts b l ≡ true → counts a l ≡ true
counts-less a b k Structure h = refl
counts-less a b k (Demand d) h = k d h

-- where less is asked for, an assignment still meets it
pub Meets-less : (a b v : ℕ → Bool) (es : List Entry) → ((d : ℕ) → b d ≡ true → a d ≡ true) → Meets a v es → Meets b v es
Meets-less a b v [] k m = tt
Meets-less a b v (e ∷ es) k m = (
  entry-less (counts b e.label) (counts a e.label) (clause_true v e.clause) (counts-less a b k e.label) m.0,
  Meets-less a b v es k m.1,
)

-- from what a part of the clauses asks for to what all of them do
pub Meets-up : (asked b c v : ℕ → Bool) (es : List Entry) → ((d : ℕ) → c d ≡ true → asked d ≡ true)
    → ((d : ℕ) → c d ≡ true → b d ≡ true) → Meets b v (filter (is_for asked) es) → Meets c v es
Meets-up asked b c v [] k f m = tt
Meets-up asked b c v (e ∷ es) k f m = by-bool (counts asked e.label) refl (Meets-up asked b c v es k f) m
  where
    by-bool : (w : Bool) → counts asked e.label ≡ w → (Meets b v (filter (is_for asked) es) → Meets c v es)
        → Meets b v (cond w (e ∷ filter (is_for asked) es) (filter (is_for asked) es)) → Meets c v (e ∷ es)
    by-bool true q ih m =
        (entry-less (counts c e.label) (counts b e.label) (clause_true v e.clause) (counts-less b c f e.label) m.0, ih m.1)
    by-bool false q ih m =
        (entry-less (counts c e.label) false (clause_true v e.clause) (λ h. sym q ∙ counts-less asked c k e.label h) refl, ih m)

counts-both : (asked b c : ℕ → Bool) → ((d : ℕ) → asked d ≡ true → b d ≡ true → c d ≡ true) → (l : Label) → counts asked l ≡ true
    → counts b l ≡ true → counts c l ≡ true
counts-both asked b c k Structure h g = refl
counts-both asked b c k (Demand d) h g = k d h g

-- and back
pub Meets-down : (asked b c v : ℕ → Bool) (es : List Entry) → ((d : ℕ) → asked d ≡ true → b d ≡ true → c d ≡ true) → Meets c v es
    → Meets b v (filter (is_for asked) es)
Meets-down asked b c v [] k m = tt
Meets-down asked b c v (e ∷ es) k m = by-bool (counts asked e.label) refl (Meets-down asked b c v es k m.1)
  where
    by-bool : (w : Bool) → counts asked e.label ≡ w → Meets b v (filter (is_for asked) es)
        → Meets b v (cond w (e ∷ filter (is_for asked) es) (filter (is_for asked) es))
    by-bool true q ih =
        (entry-less (counts b e.label) (counts c e.label) (clause_true v e.clause) (counts-both asked b c k e.label q) m.0, ih)
    by-bool false q ih = ih

-- an assignment meets the clauses of some demands exactly where it meets what these ask for
pub Meets-part : (s : Clauses) (ds : List ℕ) (v : ℕ → Bool) → MeetsAll v (clauses_for ds s) ↔ Meets (stands ds) v s.entries
Meets-part s ds v = (
  Meets-up (stands ds) (λ d. true) (stands ds) v s.entries (λ d h. h) (λ d h. refl),
  Meets-down (stands ds) (λ d. true) (stands ds) v s.entries (λ d h g. h),
)

-- the clauses of all demands are all clauses
filter-all : (ds : List ℕ) (es : List Entry) → ((d : ℕ) → labels es d ≡ true → stands ds d ≡ true) → filter (is_for (stands ds)) es ≡ es
filter-all ds [] k = refl
filter-all ds (e ∷ es) k = ap (λ b. cond b (e ∷ filter (is_for (stands ds)) es) (filter (is_for (stands ds)) es)) (by-label e.label refl)
    ∙ ap (λ ys. e ∷ ys) (filter-all ds es (λ d h. k d (or_right (is_label e.label d) (labels es d) h)))
  where
    by-label : (l : Label) → e.label ≡ l → counts (stands ds) l ≡ true
    by-label Structure q = refl
    by-label (Demand d) q = k d (or_left (is_label e.label d) (labels es d) (ap (λ l. is_label l d) q ∙ eq-eqb d d refl))

pub part-all : (s : Clauses) (ds : List ℕ) → AreAll s ds → clauses_for ds s ≡ s
part-all s ds a = ap (λ es. record s { entries = es }) (filter-all ds s.entries (λ d h. a d ∙ h))

-- one more clause
pub entry-there : (es : List Entry) (i : ℕ) → i < length es → (e : Entry) × (at_id es (i + 1) ≡ Some e)
    × (take (i + 1) es ≡ take i es ++ e ∷ []) × (drop i es ≡ e ∷ drop (i + 1) es)
entry-there es i h = let n : i + 1 ≡ suc i = omega arith in
    subst (λ k. (e : Entry) × (at_id es k ≡ Some e) × (take k es ≡ take i es ++ e ∷ []) × (drop i es ≡ e ∷ drop k es)) (sym n)
    (along es i h)
  where
    along : (es : List Entry) (i : ℕ) → i < length es → (e : Entry) × (at_id es (suc i) ≡ Some e)
        × (take (suc i) es ≡ take i es ++ e ∷ []) × (drop i es ≡ e ∷ drop (suc i) es)
    along [] i h = absurd (omega (arith, h))
    along (e ∷ es) zero h = (e, refl, refl, refl)
    along (e ∷ es) (suc i) h = let r = along es i (omega (arith, h)) in (r.0, r.1, ap (λ ys. e ∷ ys) r.2, r.3)

pub part-more : (ds : List ℕ) (s part new : Clauses) (i : ℕ) → i < length s.entries
    → part ≡ record { entries = filter (is_for (stands ds)) (take i s.entries); vars = s.vars }
    → ((e : Entry) → at_id s.entries (i + 1) ≡ Some e
    → new ≡ record part { entries = part.entries ++ filter (is_for (stands ds)) (e ∷ []) })
    → new ≡ record { entries = filter (is_for (stands ds)) (take (i + 1) s.entries); vars = s.vars }
part-more ds s part new i h p k =
    let r = entry-there s.entries i h in
    let test = is_for (stands ds) in
    k r.0 r.1 ∙ ap (λ (t : Clauses). record t { entries = t.entries ++ filter test (r.0 ∷ []) }) p
    ∙ ap (λ es. record s { entries = es }) (sym (filter-append test (take i s.entries) (r.0 ∷ [])) ∙ ap (filter test) (sym r.2))

-- the demands of so many first clauses
labels-append : (es fs : List Entry) (d : ℕ) → labels (es ++ fs) d ≡ (labels es d || labels fs d)
labels-append [] fs d = refl
labels-append (e ∷ es) fs d = ap (λ b. is_label e.label d || b) (labels-append es fs d)
    ∙ sym (or-assoc (is_label e.label d) (labels es d) (labels fs d))
  where
    or-assoc : (a b c : Bool) → ((a || b) || c) ≡ (a || (b || c))
    or-assoc true b c = refl
    or-assoc false b c = refl

or-false : (b : Bool) → (b || false) ≡ b
or-false true = refl
or-false false = refl

or-swap : (a b : Bool) → (a || b) ≡ (b || a)
or-swap true true = refl
or-swap true false = refl
or-swap false true = refl
or-swap false false = refl

-- the demand of a label
label-some : (l : Label) (b d : ℕ) → demand_at (Some l) ≡ Some b → is_label l d ≡ eqb b d
label-some Structure b d e = absurd (none-some b e)
label-some (Demand k) b d e = ap (λ x. eqb x d) (same_Some k b e)

label-none : (l : Label) (d : ℕ) → demand_at (Some l) ≡ None → is_label l d ≡ false
label-none Structure d e = refl
label-none (Demand k) d e = absurd (cc)

-- that of the clause with an id
demand-there : (es : List Entry) (id : ℕ) (e : Entry) (o : Option ℕ) → at_id es id ≡ Some e
    → o ≡ demand_at (option_map (λ (x : Entry). x.label) (at_id es id)) → demand_at (Some e.label) ≡ o
demand-there es id e o g q = ap (λ x. demand_at (option_map (λ (y : Entry). y.label) x)) (sym g) ∙ sym q

labels-more : (es : List Entry) (i : ℕ) (e : Entry) (d : ℕ) → take (i + 1) es ≡ take i es ++ e ∷ []
    → labels (take (i + 1) es) d ≡ (is_label e.label d || labels (take i es) d)
labels-more es i e d q = ap (λ fs. labels fs d) q ∙ labels-append (take i es) (e ∷ []) d
    ∙ ap (λ b. labels (take i es) d || b) (or-false (is_label e.label d)) ∙ or-swap (labels (take i es) d) (is_label e.label d)

-- one more demand
pub all-put : (es : List Entry) (i : ℕ) (ds new : List ℕ) (b : ℕ) → i < length es
    → Some b ≡ demand_at (option_map (λ (x : Entry). x.label) (at_id es (i + 1))) → new ≡ with_number ds b
    → ((d : ℕ) → stands ds d ≡ labels (take i es) d) → (d : ℕ) → stands new d ≡ labels (take (i + 1) es) d
all-put es i ds new b h o q a d =
    let r = entry-there es i h in
    ap (λ xs. stands xs d) q ∙ stands-with ds b d ∙ ap (λ x. eqb b d || x) (a d)
    ∙ ap (λ k. k || labels (take i es) d) (sym (label-some r.0.label b d (demand-there es (i + 1) r.0 (Some b) r.1 o)))
    ∙ sym (labels-more es i r.0 d r.2)

pub all-pass : (es : List Entry) (i : ℕ) (ds : List ℕ) → i < length es
    → None ≡ demand_at (option_map (λ (x : Entry). x.label) (at_id es (i + 1)))
    → ((d : ℕ) → stands ds d ≡ labels (take i es) d) → (d : ℕ) → stands ds d ≡ labels (take (i + 1) es) d
all-pass es i ds h o a d =
    let r = entry-there es i h in
    a d ∙ ap (λ k. k || labels (take i es) d) (sym (label-none r.0.label d (demand-there es (i + 1) r.0 None r.1 o)))
    ∙ sym (labels-more es i r.0 d r.2)

-- a clause of the list is over its variables
pub entry-below : (n : ℕ) (es : List Entry) (id : ℕ) (e : Entry) → at_id es id ≡ Some e → AllInRange n es → AllBelow n e.clause
entry-below n es zero e g a = absurd (none-some e g)
entry-below n [] (suc k) e g a = absurd (none-some e g)
entry-below n (f ∷ es) (suc zero) e g a = subst (λ (x : Entry). AllBelow n x.clause) (same_Some f e g) a.0
entry-below n (f ∷ es) (suc (suc k)) e g a = entry-below n es (suc k) e g a.1

-- all clauses were looked at
pub part-end : (ds : List ℕ) (s part : Clauses) (i : ℕ) → length s.entries ≤ i
    → part ≡ record { entries = filter (is_for (stands ds)) (take i s.entries); vars = s.vars } → part ≡ clauses_for ds s
part-end ds s part i h p =
    p ∙ ap (λ es. record s { entries = filter (is_for (stands ds)) es }) (take_all i s.entries h)

-- a clause is met where it is not asked for, or is true
pub entry-out : (asked v : ℕ → Bool) (e : Entry) → counts asked e.label ≡ false → entry_met asked v e ≡ true
entry-out asked v e q = ap (λ b. not b || clause_true v e.clause) q

pub entry-in : (asked v : ℕ → Bool) (e : Entry) → clause_true v e.clause ≡ true → entry_met asked v e ≡ true
entry-in asked v e q = or_right (not (counts asked e.label)) (clause_true v e.clause) q
