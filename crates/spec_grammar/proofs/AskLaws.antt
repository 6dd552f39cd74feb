-- Constraints that a part has, as the items that ask for them.
use Rattle.std.proofs.Common.{◌≡◌, ℕ, Bool, true, List, [], ◌∷◌, ◌++◌, map, Option, Some, None, append-nil, refl, sym, ap, subst, ◌∙◌, inl, inr, ◌&&◌, is_some, option_map, if◌then◌else◌, codes, bytes_eq}
use Rattle.spec_grammar.specs.declared.key.KeyKind.TheVariants as key
use Rattle.spec_grammar.specs.declared.mode.Before.TheVariants as before
use Rattle.spec_grammar.proofs.Common.{AllByRecursion, cases_Bool, and_parts, bytes_eq-Decides, IsName, IsValue, key_of, IsTarget, spell_item, spell_more_values, spell_values, spell_list, IsSpecItem, kind_of, mark_byte, before_item, may_constrain, may_have_all, may_stand, is_apart, add, set_key, set_variant, take_item, mark_value, target_of, values_text, one_text, variant_text, target_text, more_targets, targets_items, empty_place}
use Rattle.spec_grammar.proofs.Common.{VersionItem, KeyKind, Mark, Plus, Tilde, Minus, SpecItem, Name, Versions, Variant, Compiler, Key, Caret, Mode, Before, Part, TargetItem, Draft}
use Rattle.spec_grammar.proofs.WordLaws.{IsWord, AreKept, kept_values, kept_same, IsTargetKept}

-- a constraint other than `@`
abbrev pub IsBehind : SpecItem → Type 0
IsBehind (Name w) = ⊥
IsBehind (Versions items) = ⊥
IsBehind Caret = ⊥
IsBehind item = Unit {0}

-- an item of this text that does this to a part
pub record Asks (mode : Mode) (text : List ℕ) (does : Part → Option Part) : Type 0 where
  pub item : SpecItem
  pub behind : IsBehind item
  pub may : may_have_all mode ≡ true
  pub form : IsSpecItem item
  pub ranges : empty_place item ≡ None
  pub spelled : spell_item item ≡ text
  pub adds : (part : Part) → add item part ≡ does part

apart : (place : Before) → is_apart place true ≡ true
apart before.Start = refl
apart before.Caret = refl
apart before.Inside = refl

-- it may stand behind white space wherever `@` may
pub stands_behind : (mode : Mode) (place : Before) (item : SpecItem) → IsBehind item → may_have_all mode ≡ true
    → may_constrain mode place ≡ true → may_stand mode place true (kind_of item) ≡ true
stands_behind mode place (Variant Plus w) h all may = rw (may, all) refl
stands_behind mode place (Variant Tilde w) h all may = rw (may, all) refl
stands_behind mode place (Variant Minus w) h all may = rw (may, all) (apart place)
stands_behind mode place (Compiler w items) h all may = rw (may, all) refl
stands_behind mode place (Key w values) h all may = rw (may, all) (apart place)
stands_behind mode place item h all may = absurd h

-- and so such a text may have it
pub may_behind : (mode : Mode) (place : Before) (gap : Bool) (item : SpecItem) → IsBehind item
    → may_stand mode place gap (kind_of item) ≡ true
    → may_have_all mode ≡ true
may_behind mode place gap (Variant Plus w) h may = (and_parts (may_constrain mode place) (may_have_all mode) may).1
may_behind mode place gap (Variant Tilde w) h may = (and_parts (may_constrain mode place) (may_have_all mode) may).1
may_behind mode place gap (Variant Minus w) h may =
    (and_parts (may_constrain mode place) (may_have_all mode)
    (and_parts (may_constrain mode place && may_have_all mode) (is_apart place gap) may).0).1
may_behind mode place gap (Compiler w items) h may = (and_parts (may_constrain mode place) (may_have_all mode) may).1
may_behind mode place gap (Key w values) h may =
    (and_parts (may_constrain mode place) (may_have_all mode)
    (and_parts (may_constrain mode place && may_have_all mode) (is_apart place gap) may).0).1
may_behind mode place gap item h may = absurd h

pub behind_inside : (item : SpecItem) → IsBehind item → before_item item ≡ before.Inside
behind_inside Caret h = absurd h
behind_inside item h = refl

pub behind_takes : (item : SpecItem) (draft : Draft) (part : Part) → IsBehind item
    → take_item item (record draft { part = Some part }) ≡ option_map (λ next. record draft { part = Some next }) (add item part)
behind_takes (Name w) draft part h = absurd h
behind_takes Caret draft part h = absurd h
behind_takes item draft part h = refl

-- ---- what is set

abbrev pub compiler_is : (List ℕ × Option (List VersionItem)) → Part → Option Part
compiler_is c part = if is_some part.compiler then None else Some (record part { compiler = Some c })

abbrev pub platform_is : List ℕ → Part → Option Part
platform_is w part = if is_some part.platform then None else Some (record part { platform = Some w })

abbrev pub os_is : List ℕ → Part → Option Part
os_is w part = if is_some part.os then None else Some (record part { os = Some w })

abbrev pub targets_are : List TargetItem → Part → Option Part
targets_are l part = if is_some part.targets then None else Some (record part { targets = Some l })

-- `NAME=` with a value or more
key_asks : (mode : Mode) (w : List ℕ) (values : List (List ℕ)) (text : List ℕ) (does : Part → Option Part) → may_have_all mode ≡ true
    → IsSpecItem (Key w values) → w ++ 61 ∷ spell_values values ≡ text → ((part : Part) → add (Key w values) part ≡ does part)
    → Asks mode text does
key_asks mode w values text does may form spelled adds =
    record { item = Key w values; behind = tt; may = may; form = form; ranges = refl; spelled = spelled; adds = adds }

pub compiler_asks : (mode : Mode) (w : List ℕ) (items : Option (List VersionItem)) → may_have_all mode ≡ true
    → IsSpecItem (Compiler w items)
    → empty_place (Compiler w items) ≡ None → Asks mode (37 ∷ (w ++ spell_list items)) (compiler_is (w, items))
compiler_asks mode w items may form ranges =
    record { item = Compiler w items; behind = tt; may = may; form = form; ranges = ranges; spelled = refl; adds = λ part. refl }

pub platform_asks : (mode : Mode) (w : List ℕ) → may_have_all mode ≡ true → IsWord w → Asks mode (codes "platform=" ++ w) (platform_is w)
unfolding key_of
platform_asks mode w may word = key_asks mode (codes "platform") (w ∷ []) _ (platform_is w) may ((refl, (word.0, tt)), tt)
    (ap (λ l. codes "platform=" ++ l) (append-nil w)) (λ part. rw word.1 refl)

pub os_asks : (mode : Mode) (w : List ℕ) → may_have_all mode ≡ true → IsWord w → Asks mode (codes "os=" ++ w) (os_is w)
unfolding key_of
os_asks mode w may word = key_asks mode (codes "os") (w ∷ []) _ (os_is w) may ((refl, (word.0, tt)), tt)
    (ap (λ l. codes "os=" ++ l) (append-nil w)) (λ part. rw word.1 refl)

-- ---- targets

more_spelled : (targets : List TargetItem) → spell_more_values (map target_text targets) ≡ more_targets targets
more_spelled [] = refl
more_spelled (t ∷ targets) = ap (λ l. 44 ∷ (target_text t ++ l)) (more_spelled targets)

targets_spelled : (targets : List TargetItem) → spell_values (map target_text targets) ≡ targets_items targets
targets_spelled [] = refl
targets_spelled (t ∷ targets) = ap (λ l. target_text t ++ l) (more_spelled targets)

targets_values : (targets : List TargetItem) → AllByRecursion IsTargetKept targets → AllByRecursion IsValue (map target_text targets)
    × AllByRecursion IsTarget (map target_text targets)
targets_values [] h = (tt, tt)
targets_values (t ∷ targets) h = let more = targets_values targets h.1 in ((h.0.value, more.0), (h.0.target, more.1))

targets_same : (targets : List TargetItem) → AllByRecursion IsTargetKept targets → map target_of (map target_text targets) ≡ targets
targets_same [] h = refl
targets_same (t ∷ targets) h = let first = h.0.same in let others = targets_same targets h.1 in cc

pub targets_asks : (mode : Mode) (t : TargetItem) (targets : List TargetItem) → may_have_all mode ≡ true
    → AllByRecursion IsTargetKept (t ∷ targets) → Asks mode (codes "target=" ++ targets_items (t ∷ targets)) (targets_are (t ∷ targets))
unfolding key_of
targets_asks mode t targets may h =
    let are = targets_values (t ∷ targets) h in
    key_asks mode (codes "target") (map target_text (t ∷ targets)) _ (targets_are (t ∷ targets)) may ((refl, are.0), are.1)
    (ap (λ l. codes "target=" ++ l) (targets_spelled (t ∷ targets)))
    (λ part. ap (λ l. targets_are l part) (targets_same (t ∷ targets) h))

-- ---- variants

mark_asks : (mode : Mode) (mark : Mark) (w text : List ℕ) → may_have_all mode ≡ true → IsName w → mark_byte mark ∷ w ≡ text
    → Asks mode text (set_variant w (mark_value mark ∷ []))
mark_asks mode mark w text may is spelled =
    record { item = Variant mark w; behind = tt; may = may; form = (is, tt); ranges = refl; spelled = spelled; adds = λ part. refl }

pub variant_asks : (mode : Mode) (mark : Mark) (w : List ℕ) → may_have_all mode ≡ true → IsName w
    → Asks mode (variant_text w (mark_value mark ∷ [])) (set_variant w (mark_value mark ∷ []))
variant_asks mode Plus w may is = mark_asks mode Plus w _ may is refl
variant_asks mode Tilde w may is = mark_asks mode Tilde w _ may is refl
variant_asks mode Minus w may is = mark_asks mode Tilde w _ may is refl

values_asks : (mode : Mode) (w : List ℕ) (values : List (List ℕ)) → may_have_all mode ≡ true → IsName w → key_of w ≡ key.Variant
    → AreKept values → Asks mode (values_text w values) (set_variant w values)
values_asks mode w values may is k kept =
    key_asks mode w values _ (set_variant w values) may ((is, kept_values values kept), rw k tt) refl
    (λ part. ap (λ (n : KeyKind). set_key n w values part) k ∙ ap (λ l. set_variant w l part) (kept_same values kept))

one_asks : (mode : Mode) (w v : List ℕ) → may_have_all mode ≡ true → IsName w → key_of w ≡ key.Variant → AreKept (v ∷ [])
    → Asks mode (one_text w v) (set_variant w (v ∷ []))
one_asks mode w v may is k kept = elim (cases_Bool (bytes_eq v (codes "true"))) [
  | inl plus ↦ subst (λ u. Asks mode (one_text w u) (set_variant w (u ∷ []))) (sym ((bytes_eq-Decides v (codes "true")).0 plus))
      (variant_asks mode Plus w may is)
  | inr other ↦ elim (cases_Bool (bytes_eq v (codes "false"))) [
    | inl tilde ↦ subst (λ u. Asks mode (one_text w u) (set_variant w (u ∷ []))) (sym ((bytes_eq-Decides v (codes "false")).0 tilde))
        (variant_asks mode Tilde w may is)
    | inr neither ↦ rw (other, neither) (values_asks mode w (v ∷ []) may is k kept)
  ]
]

pub setting_asks : (mode : Mode) (w : List ℕ) (values : List (List ℕ)) → may_have_all mode ≡ true → IsName w → key_of w ≡ key.Variant
    → AreKept values → Asks mode (variant_text w values) (set_variant w values)
setting_asks mode w [] may is k kept = values_asks mode w [] may is k kept
setting_asks mode w (v ∷ []) may is k kept = one_asks mode w v may is k kept
setting_asks mode w (v ∷ u ∷ values) may is k kept = values_asks mode w (v ∷ u ∷ values) may is k kept
