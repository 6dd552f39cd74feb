-- One item stands at the front of a text: a run is always the longest one.
use Rattle.std.proofs.Common.{◌≡◌, ℕ, true, false, List, [], ◌∷◌, ◌++◌, Option, Some, None, refl, sym, ap, subst, ◌∙◌, inl, inr, append_assoc, ◌⊎◌}
use Rattle.version_order.proofs.SoFarLaws.{one_reading}
use Rattle.spec_grammar.proofs.Common.{AllByRecursion, list_all, and_parts, Reads, IsList, spelling, is_name_byte, is_value_byte, IsValue, spell_item, spell_more_values, spell_values, spell_list, AreListed, AreValues, IsOver, is_run_byte, kind_of, IsFirst, goes_on, append_cancel_left, same_Some}
use Rattle.spec_grammar.proofs.Common.{VersionItem, SpecItem, Name, Versions, Variant, Compiler, Key, Caret}
use Rattle.spec_grammar.proofs.RunLaws.{Stop, stop_cons, run_cut, two_cons, cons_none, value_run}
use Rattle.spec_grammar.proofs.CutLaws.{more_stop}
use Rattle.spec_grammar.proofs.KindLaws.{first_kind, over_name, over_variant}
use Rattle.spec_grammar.proofs.ListLaws.{IsListOver, at_versions}
use Rattle.spec_grammar.proofs.NameLaws.{name_cut, at_name, at_variant}
use Rattle.spec_grammar.proofs.KeyLaws.{at_key, over_run}
use Rattle.spec_grammar.proofs.CompilerLaws.{at_compiler, at_caret, over_compiler}

-- which of two fronts of one list goes on further
abbrev Longer : List ℕ → List ℕ → List ℕ → Type 0
Longer a rest other = (b : ℕ) × (k : List ℕ) × (more : List ℕ) × (other ≡ a ++ b ∷ k) × (rest ≡ b ∷ more)

longer_cons : (x y : ℕ) (a rest c : List ℕ) → x ≡ y → Longer a rest c → Longer (x ∷ a) rest (y ∷ c)
longer_cons x y a rest c e (b, k, more, f, g) = (b, k, more, cc, g)

compare_fronts : (a rest c behind : List ℕ) → a ++ rest ≡ c ++ behind → (a ≡ c) ⊎ (Longer a rest c ⊎ Longer c behind a)
compare_fronts [] rest [] behind e = inl refl
compare_fronts [] rest (y ∷ c) behind e = inr (inl (y, c, c ++ behind, refl, e))
compare_fronts (x ∷ a) rest [] behind e = inr (inr (x, a, a ++ rest, refl, sym e))
compare_fronts (x ∷ a) rest (y ∷ c) behind e =
    let t = two_cons x y (a ++ rest) (c ++ behind) e in
    elim (compare_fronts a rest c behind t.1) [
      | inl same ↦ inl cc
      | inr (inl l) ↦ inr (inl (longer_cons x y a rest c t.0 l))
      | inr (inr l) ↦ inr (inr (longer_cons y x c behind a (sym t.0) l))
    ]

not_longer : (a c : List VersionItem) (rest : List ℕ) → AreListed c → IsListOver a rest → Longer (spelling a) rest (spelling c) → ⊥
not_longer a c rest are over (b, k, more, f, g) = over b more g (k, subst IsList (f ∙ sym (append_assoc (spelling a) (b ∷ []) k)) (c, are))

same_list : (a c : List VersionItem) → AreListed a → AreListed c → spelling a ≡ spelling c → a ≡ c
same_list a c p q e = one_reading (spelling a) a c p (subst (λ (l : List ℕ). Reads l c) (sym e) q)

one_list : (a c : List VersionItem) (rest behind : List ℕ) → AreListed a → AreListed c → IsListOver a rest → IsListOver c behind
    → spelling a ++ rest ≡ spelling c ++ behind → a ≡ c
one_list a c rest behind p q over_a over_c e =
    elim (compare_fronts (spelling a) rest (spelling c) behind e) [
      | inl same ↦ same_list a c p q same
      | inr (inl l) ↦ absurd (not_longer a c rest q over_a l)
      | inr (inr l) ↦ absurd (not_longer c a behind p over_c l)
    ]

-- ---- values

run_of : (b : ℕ) → is_value_byte b ≡ true → is_run_byte b ≡ true
run_of b h = rw h refl

runs_append : (a b : List ℕ) → list_all is_value_byte a ≡ true → list_all is_run_byte b ≡ true → list_all is_run_byte (a ++ b) ≡ true
runs_append [] b h k = k
runs_append (c ∷ a) b h k =
    let p = and_parts (is_value_byte c) (list_all is_value_byte a) h in
    let one = run_of c p.0 in
    rw (one, runs_append a b p.1 k) refl

more_runs : (values : List (List ℕ)) → AllByRecursion IsValue values → list_all is_run_byte (spell_more_values values) ≡ true
more_runs [] h = refl
more_runs (v ∷ values) h = runs_append v (spell_more_values values) (value_run v h.0) (more_runs values h.1)

values_runs : (values : List (List ℕ)) → AreValues values → list_all is_run_byte (spell_values values) ≡ true
values_runs [] h = refl
values_runs (v ∷ values) h = runs_append v (spell_more_values values) (value_run v h.0) (more_runs values h.1)

run_over : (rest : List ℕ) → goes_on rest ≡ false → Stop is_run_byte rest
run_over rest h b more e = rw e at h

same_more : (a c : List (List ℕ)) → AllByRecursion IsValue a → AllByRecursion IsValue c → spell_more_values a ≡ spell_more_values c → a ≡ c
same_more [] [] p q e = refl
same_more [] (v ∷ c) p q e = cons_none 44 (v ++ spell_more_values c) (sym e)
same_more (v ∷ a) [] p q e = cons_none 44 (v ++ spell_more_values a) e
same_more (v ∷ a) (u ∷ c) p q e =
    let cut = run_cut is_value_byte v u (spell_more_values a) (spell_more_values c) (value_run v p.0) (value_run u q.0)
    (more_stop a) (more_stop c)
    (two_cons _ _ _ _ e).1 in
    let first : v ≡ u = cut.0 in
    let others : a ≡ c = same_more a c p.1 q.1 cut.1 in
    cc

same_values : (a c : List (List ℕ)) → AreValues a → AreValues c → spell_values a ≡ spell_values c → a ≡ c
same_values [] c p q e = absurd p
same_values (v ∷ a) [] p q e = absurd q
same_values (v ∷ a) (u ∷ c) p q e = same_more (v ∷ a) (u ∷ c) p q (ap (λ (l : List ℕ). 44 ∷ l) e)

-- ---- one item

compiler_stop : (w : List ℕ) (items : Option (List VersionItem)) (rest : List ℕ) → IsOver (Compiler w items) rest
    → Stop is_name_byte (spell_list items ++ rest)
compiler_stop w None rest over = over_compiler w rest over
compiler_stop w (Some items) rest over = stop_cons is_name_byte 64 (spelling items ++ rest) refl

compilers : (w : List ℕ) (a c : Option (List VersionItem)) (rest behind : List ℕ) → spell_list a ++ rest ≡ spell_list c ++ behind
    → (text other : List ℕ) → IsFirst text (Compiler w a) rest → IsFirst other (Compiler w c) behind → a ≡ c
compilers w None None rest behind e text other f g = refl
compilers w None (Some c) rest behind e text other f g = absurd (f.over 64 (spelling c ++ behind) e refl)
compilers w (Some a) None rest behind e text other f g = absurd (g.over 64 (spelling a ++ rest) (sym e) refl)
compilers w (Some a) (Some c) rest behind e text other f g =
    ap (λ (l : List VersionItem). Some l) (one_list a c rest behind f.form.0.1 g.form.0.1 f.over g.over (two_cons _ _ _ _ e).1)

one_item : (text : List ℕ) (i j : SpecItem) (rest behind : List ℕ) → kind_of i ≡ kind_of j → IsFirst text i rest
    → IsFirst text j behind → i ≡ j
one_item text (Name w) j rest behind k f g =
    let a = at_name text j behind k g in
    let c = name_cut text w rest f.cut f.form.0 (over_name w rest f.over) in
    let d = name_cut text a.w behind a.cut a.is (over_name a.w behind a.over) in
    ap (λ (v : List ℕ). Name v) (sym c.0 ∙ d.0) ∙ sym a.same
one_item text (Versions items) j rest behind k f g =
    let a = at_versions (spelling items ++ rest) j behind (subst (λ (l : List ℕ). IsFirst l j behind) f.cut g) in
    ap (λ (l : List VersionItem). Versions l) (one_list items a.items rest behind f.form.0 a.are f.over a.over a.cut) ∙ sym a.same
one_item text (Variant mark w) j rest behind k f g =
    let a = at_variant mark (w ++ rest) j behind k (subst (λ (l : List ℕ). IsFirst l j behind) f.cut g) in
    let c = name_cut (w ++ rest) w rest refl f.form.0 (over_variant mark w rest f.over) in
    let d = name_cut (w ++ rest) a.w behind a.cut a.is a.stop in
    ap (λ (v : List ℕ). Variant mark v) (sym c.0 ∙ d.0) ∙ sym a.same
one_item text (Compiler w items) j rest behind k f g =
    let t : List ℕ = (w ++ spell_list items) ++ rest in
    let first = subst (λ (l : List ℕ). IsFirst l (Compiler w items) rest) f.cut f in
    let second = subst (λ (l : List ℕ). IsFirst l j behind) f.cut g in
    let b = at_compiler t (Compiler w items) rest first in
    let a = at_compiler t j behind second in
    let stop = compiler_stop w items rest f.over in
    let c = name_cut t w (spell_list items ++ rest) (append_assoc w (spell_list items) rest) f.form.0.0 stop in
    let d = name_cut t a.w (spell_list a.items ++ behind) a.cut a.is a.stop in
    let names : w ≡ a.w = sym c.0 ∙ d.0 in
    let lists = compilers w items a.items rest behind (sym c.1 ∙ d.1) text (37 ∷ t) f
    (subst (λ (i : SpecItem). IsFirst (37 ∷ t) i behind) (a.same ∙ ap (λ (v : List ℕ). Compiler v a.items) (sym names)) second) in
    ap (λ (v : List ℕ). Compiler v items) names ∙ ap (λ l. Compiler a.w l) lists ∙ sym a.same
one_item text (Key w values) j rest behind k f g =
    let c = name_cut text w (61 ∷ (spell_values values ++ rest)) (f.cut ∙ append_assoc w (61 ∷ spell_values values) rest) f.form.0.0
    (stop_cons is_name_byte 61 (spell_values values ++ rest) refl) in
    let a = at_key text (spell_values values ++ rest) j behind k c.1 g in
    let cut = run_cut is_run_byte (spell_values values) (spell_values a.values) rest behind (values_runs values f.form.0.1)
    (values_runs a.values a.are) (run_over rest (over_run w values rest f.over))
    (run_over behind (over_run a.w a.values behind a.over)) a.behind in
    ap (λ (v : List ℕ). Key v values) (sym c.0 ∙ a.name)
    ∙ ap (λ (l : List (List ℕ)). Key a.w l) (same_values values a.values f.form.0.1 a.are cut.0) ∙ sym a.same
one_item text Caret j rest behind k f g =
    let a = at_caret rest j behind (subst (λ (l : List ℕ). IsFirst l j behind) f.cut g) in
    sym a.same

pub one_first : (text : List ℕ) (i j : SpecItem) (rest behind : List ℕ) → IsFirst text i rest → IsFirst text j behind → (i ≡ j)
    × (rest ≡ behind)
one_first text i j rest behind f g =
    let same = one_item text i j rest behind (same_Some _ _ (sym (first_kind text i rest f) ∙ first_kind text j behind g)) f g in
    (same, append_cancel_left (spell_item j) rest behind (ap (λ (x : SpecItem). spell_item x ++ rest) (sym same) ∙ sym f.cut ∙ g.cut))
