-- The machine tells the values that a key takes.
use Rattle.std.proofs.Common.{◌≡◌, ℕ, true, false, List, [], ◌∷◌, ◌++◌, Some, None, option_and_then, append-nil, refl, sym, ap, subst, ◌∙◌, arith, Bool}
use Rattle.std.proofs.lemmas.List.Folds.{list_all-append}
use Rattle.spec_grammar.specs.declared.key.KeyKind.TheVariants as key
use Rattle.spec_grammar.proofs.Common.{AllByRecursion, list_all, and_parts, same_Some, none-some, run, is_value_byte, IsValue, is_other, is_piece, IsTarget, Takes, spell_values, AreValues, start_run, after, is_whole, KeyKind, Run, One, Many, Target, First}
use Rattle.spec_grammar.proofs.RestLaws.{Rest, RestAfter, prepend, behead, whole_rest, rest_whole, value_same, piece_same, is_piece_byte}

-- ---- the machine and what may stand

back : (s t : Run) (text : List ℕ) → run after s text ≡ Some t → is_whole t ≡ true → Rest s text
back s t [] e whole = subst (λ u. Rest u []) (sym (same_Some s t e)) (whole_rest t whole)
back s t (b ∷ text) e whole =
    prepend s b text (elim (after s b) as (λ o. option_and_then (λ u. run after u text) o ≡ Some t → RestAfter o text) [
      | None ↦
          λ no. absurd (none-some t no)
      | Some u ↦ λ more. back u t text more whole
    ] e)

-- the machine goes over these values, and they may end there
abbrev pub Accepts : Run → List ℕ → Type 0
Accepts start text = (s : Run) × (run after start text ≡ Some s) × (is_whole s ≡ true)

forth : (s : Run) (text : List ℕ) → Rest s text → Accepts s text
forth s [] r = (s, refl, rest_whole s r)
forth s (b ∷ text) r =
    elim (after s b) as (λ o. RestAfter o text → (t : Run) × (option_and_then (λ u. run after u text) o ≡ Some t) × (is_whole t ≡ true))
    [ None ↦ λ no. absurd no | Some u ↦ λ more. forth u text more ] (behead s b text r)

-- ---- what is accepted are values

-- the text is values that the key takes
abbrev pub IsTakenText : KeyKind → List ℕ → Type 0
IsTakenText k text = (values : List (List ℕ)) × AreValues values × Takes k values × (text ≡ spell_values values)

pub piece_bytes : (p : ℕ → Bool) (w : List ℕ) → ((b : ℕ) → is_piece_byte b ≡ true → p b ≡ true) → is_piece w ≡ true → list_all p w ≡ true
piece_bytes p [] f h = refl
piece_bytes p (b ∷ []) f h = rw (f b (and_parts (is_piece_byte b) true h).0) refl
piece_bytes p (b ∷ c ∷ w) f h =
    let q = and_parts (is_piece_byte b) (list_all is_piece_byte (c ∷ w)) h in
    rw (f b q.0, piece_bytes p (c ∷ w) f q.1) refl

pub value_byte : (b : ℕ) → is_piece_byte b ≡ true → is_value_byte b ≡ true
value_byte b h = (and_parts (is_value_byte b) (is_other b) h).0

piece_values : (w : List ℕ) → is_piece w ≡ true → list_all is_value_byte w ≡ true
piece_values w h = piece_bytes is_value_byte w value_byte h

arch_value : (p o t : List ℕ) → is_piece p ≡ true → is_piece o ≡ true → is_piece t ≡ true → IsValue (p ++ 45 ∷ (o ++ 45 ∷ t))
arch_value [] o t h i j = absurd cc
arch_value (b ∷ p) o t h i j =
    rw (
      list_all-append is_value_byte (b ∷ p) (45 ∷ (o ++ 45 ∷ t)),
      list_all-append is_value_byte o (45 ∷ t),
      piece_values (b ∷ p) h,
      piece_values o i,
      piece_values t j,
    ) refl

targets_parts : (values : List (List ℕ)) → AllByRecursion (λ v. IsValue v × IsTarget v) values → AllByRecursion IsValue values
    × AllByRecursion IsTarget values
targets_parts [] h = (tt, tt)
targets_parts (v ∷ values) h = let more = targets_parts values h.1 in ((h.0.0, more.0), (h.0.1, more.1))

parts_targets : (values : List (List ℕ)) → AllByRecursion IsValue values → AllByRecursion IsTarget values
    → AllByRecursion (λ v. IsValue v × IsTarget v) values
parts_targets [] h k = tt
parts_targets (v ∷ values) h k = ((h.0, k.0), parts_targets values h.1 k.1)

one_value : (k : KeyKind) (text : List ℕ) → Takes k (text ∷ []) → IsValue text → IsTakenText k text
one_value k text takes h = (text ∷ [], (h, tt), takes, sym (append-nil text))

rest_values : (k : KeyKind) (start : Run) (text : List ℕ) → start_run k ≡ Some start → Rest start text → IsTakenText k text
rest_values key.Platform start text e r = one_value key.Platform text tt
    (rw (← value_same text) (subst (λ u. Rest u text) (sym (same_Some (One false) start e)) r))
rest_values key.Os start text e r = one_value key.Os text tt
    (rw (← value_same text) (subst (λ u. Rest u text) (sym (same_Some (One false) start e)) r))
rest_values key.Arch start text e r =
    let (p, more, isp, (o, t, iso, (ist, count), second), first) = subst (λ u. Rest u text) (sym (same_Some (First false) start e)) r in
    let a : is_piece p ≡ true = rw (← piece_same p) isp in
    let b : is_piece o ≡ true = rw (← piece_same o) iso in
    let c : is_piece t ≡ true = rw (← piece_same t) ist in
    let same : text ≡ p ++ 45 ∷ (o ++ 45 ∷ t) = first ∙ ap (λ l. p ++ 45 ∷ l) second in
    one_value key.Arch text (tt, ((p, o, t, a, b, c, omega (arith, count), same), tt)) (subst IsValue (sym same) (arch_value p o t a b c))
rest_values key.Target start text e r =
    let (v, values, f, are, same) = subst (λ u. Rest u text) (sym (same_Some (Target false false) start e)) r in
    let others = targets_parts values are in
    (v ∷ values, (rw (← value_same v) f.0, others.0), (omega (arith, f.1), others.1), same)
rest_values key.Flags start text e r = absurd cc
rest_values key.Variant start text e r =
    let (v, values, f, are, same) = subst (λ u. Rest u text) (sym (same_Some (Many false) start e)) r in
    (v ∷ values, (rw (← value_same v) f, are), tt, same)

pub values_end : (k : KeyKind) (start : Run) (text : List ℕ) (s : Run) → start_run k ≡ Some start → run after start text ≡ Some s
    → is_whole s ≡ true → IsTakenText k text
values_end k start text s e here whole = rest_values k start text e (back start s text here whole)

-- ---- values are accepted

values_rest : (k : KeyKind) (values : List (List ℕ)) → AreValues values → Takes k values → (start : Run) × (start_run k ≡ Some start)
    × Rest start (spell_values values)
values_rest k [] h takes = absurd h
values_rest key.Platform (v ∷ []) h takes = (One false, refl, rw (append-nil v, value_same v) h.0)
values_rest key.Os (v ∷ []) h takes = (One false, refl, rw (append-nil v, value_same v) h.0)
values_rest key.Arch (v ∷ []) h takes =
    let (p, o, t, isp, iso, ist, target, e) = takes.1.0 in (
      First false,
      refl,
      (
        p,
        o ++ 45 ∷ t,
        rw (piece_same p) isp,
        (o, t, rw (piece_same o) iso, (rw (piece_same t) ist, omega (arith, target)), refl),
        append-nil v ∙ e,
      ),
    )
values_rest key.Target (v ∷ values) h takes =
    (Target false false, refl, (v, values, (rw (value_same v) h.0, omega (arith, takes.0)), parts_targets values h.1 takes.1, refl))
values_rest key.Flags (v ∷ values) h takes = absurd takes
values_rest key.Variant (v ∷ values) h takes = (Many false, refl, (v, values, rw (value_same v) h.0, h.1, refl))
values_rest key.Platform (v ∷ u ∷ values) h takes = absurd takes
values_rest key.Os (v ∷ u ∷ values) h takes = absurd takes
values_rest key.Arch (v ∷ u ∷ values) h takes = absurd takes.0

pub accepts : (k : KeyKind) (values : List (List ℕ)) → AreValues values → Takes k values → (start : Run) × (start_run k ≡ Some start)
    × Accepts start (spell_values values)
accepts k values h takes = let r = values_rest k values h takes in (r.0, r.1, forth r.0 (spell_values values) r.2)

pub values_run : (k : KeyKind) (start : Run) (values : List (List ℕ)) → start_run k ≡ Some start → AreValues values → Takes k values
    → Accepts start (spell_values values)
values_run k start values e h takes =
    let a = accepts k values h takes in
    subst (λ u. Accepts u (spell_values values)) (same_Some a.0 start (sym a.1 ∙ e)) a.2
