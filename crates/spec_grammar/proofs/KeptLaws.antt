-- What is read of a part can be written again.
use Rattle.std.proofs.Common.{◌≡◌, ℕ, ◌<◌, Bool, true, false, List, [], ◌∷◌, ◌++◌, length, arith, map, Option, Some, None, refl, sym, subst, ◌∙◌, IfSome, option_and_then, if◌then◌else◌, codes}
use Rattle.std.specs.List.Sorted.{IsStrictlySortedBy}
use Rattle.variant_values.proofs.Texts.{with_text_in_order}
use Rattle.spec_grammar.specs.declared.key.KeyKind.TheVariants as key
use Rattle.spec_grammar.proofs.Common.{AllByRecursion, before_first, after_first, IsInByteOrder, first_empty, IsName, key_of, Takes, IsTarget, spell_list, AreListed, AreValues, IsSpecItem, may_have_all, add, empty_part, set_key, set_variant, set_platform, set_os, set_targets, set_arch, has_variant, with_variant, put_all, mark_value, truth, target_of, is_dash, variant_names, variant_text, targets_items, empty_place}
use Rattle.spec_grammar.proofs.Common.{VersionItem, KeyKind, SpecItem, Name, Versions, Variant, Compiler, Key, Caret, Mode, Part}
use Rattle.spec_grammar.proofs.StepLaws.{some_then}
use Rattle.spec_grammar.proofs.OrderLaws.{all_set, names_set}
use Rattle.spec_grammar.proofs.WordLaws.{word_of, values_kept, targets_kept, arch_parts}
use Rattle.spec_grammar.proofs.AskLaws.{IsBehind, Asks, compiler_is, platform_is, os_is, targets_are, compiler_asks, platform_asks, os_asks, targets_asks, variant_asks, setting_asks}

-- each constraint of a part is what some item asks for
pub record IsKept (mode : Mode) (p : Part) : Type 0 where
  pub name : IfSome p.name IsName
  pub versions : IfSome p.versions (λ l. AreListed l × (first_empty 1 l ≡ None))
  pub variants : AllByRecursion (λ v. Asks mode (variant_text v.0 v.1) (set_variant v.0 v.1)) p.variants
  pub ordered : IsInByteOrder (variant_names p.variants)
  pub valued : AllByRecursion (λ v. 0 < length v.1) p.variants
  pub compiler : IfSome p.compiler (λ c. Asks mode (37 ∷ (c.0 ++ spell_list c.1)) (compiler_is c))
  pub platform : IfSome p.platform (λ w. Asks mode (codes "platform=" ++ w) (platform_is w))
  pub os : IfSome p.os (λ w. Asks mode (codes "os=" ++ w) (os_is w))
  pub targets : IfSome p.targets (λ l. Asks mode (codes "target=" ++ targets_items l) (targets_are l))

pub kept_empty : (mode : Mode) (name : Option (List ℕ)) → IfSome name IsName → IsKept mode (empty_part name)
unfolding IsStrictlySortedBy
kept_empty mode name is = record {
  name = is;
  versions = tt;
  variants = tt;
  ordered = tt;
  valued = tt;
  compiler = tt;
  platform = tt;
  os =
      tt;
  targets = tt;
}

pub kept_name : (mode : Mode) (p : Part) (w : List ℕ) → IsName w → IsKept mode p → IsKept mode (record p { name = Some w })
kept_name mode p w is h = record {
  name = is;
  versions = h.versions;
  variants = h.variants;
  ordered = h.ordered;
  valued = h.valued;
  compiler =
      h.compiler;
  platform = h.platform;
  os = h.os;
  targets = h.targets;
}

-- the same part with a constraint more
abbrev pub IsMore : Mode → Part → Part → Type 0
IsMore mode p q = IsKept mode q × (q.name ≡ p.name)

unless : {A : Type 0} (b : Bool) (x next : A) → (if b then None else Some x) ≡ Some next → (b ≡ false) × (x ≡ next)
unless true x next e = absurd cc
unless false x next e = (refl, cc)

more : (mode : Mode) (p : Part) (b : Bool) (x next : Part) → (if b then None else Some x) ≡ Some next → IsMore mode p x → IsMore mode p next
more mode p b x next e h = subst (IsMore mode p) (unless b x next e).1 h

kept_versions : (mode : Mode) (p next : Part) (l : List VersionItem) → IsKept mode p → AreListed l → first_empty 1 l ≡ None
    → add (Versions l) p ≡ Some next → IsMore mode p next
kept_versions mode p next l h are none e =
    more mode p _ _ next e (
      record {
        name = h.name;
        versions = (are, none);
        variants = h.variants;
        ordered = h.ordered;
        valued = h.valued;
        compiler =
            h.compiler;
        platform = h.platform;
        os = h.os;
        targets = h.targets;
      },
      refl,
    )

kept_compiler : (mode : Mode) (p next : Part) (c : List ℕ × Option (List VersionItem)) → IsKept mode p
    → Asks mode (37 ∷ (c.0 ++ spell_list c.1)) (compiler_is c) → compiler_is c p ≡ Some next → IsMore mode p next
kept_compiler mode p next c h asks e =
    more mode p _ _ next e (
      record {
        name = h.name;
        versions = h.versions;
        variants = h.variants;
        ordered = h.ordered;
        valued = h.valued;
        compiler =
            asks;
        platform = h.platform;
        os = h.os;
        targets = h.targets;
      },
      refl,
    )

kept_platform : (mode : Mode) (p next : Part) (w : List ℕ) → IsKept mode p → Asks mode (codes "platform=" ++ w) (platform_is w)
    → platform_is w p ≡ Some next → IsMore mode p next
kept_platform mode p next w h asks e =
    more mode p _ _ next e (
      record {
        name = h.name;
        versions = h.versions;
        variants = h.variants;
        ordered = h.ordered;
        valued = h.valued;
        compiler =
            h.compiler;
        platform = asks;
        os = h.os;
        targets = h.targets;
      },
      refl,
    )

kept_os : (mode : Mode) (p next : Part) (w : List ℕ) → IsKept mode p → Asks mode (codes "os=" ++ w) (os_is w) → os_is w p ≡ Some next
    → IsMore mode p next
kept_os mode p next w h asks e =
    more mode p _ _ next e (
      record {
        name = h.name;
        versions = h.versions;
        variants = h.variants;
        ordered = h.ordered;
        valued = h.valued;
        compiler =
            h.compiler;
        platform = h.platform;
        os = asks;
        targets = h.targets;
      },
      refl,
    )

kept_targets : (mode : Mode) (p next : Part) (values : List (List ℕ)) → IsKept mode p → may_have_all mode ≡ true → AreValues values
    → AllByRecursion IsTarget values → set_targets values p ≡ Some next → IsMore mode p next
kept_targets mode p next [] h may are targets e = absurd are
kept_targets mode p next (v ∷ values) h may are targets e =
    let kept = targets_kept (v ∷ values) are targets in
    more mode p _ _ next e (
      record {
        name = h.name;
        versions = h.versions;
        variants = h.variants;
        ordered = h.ordered;
        valued = h.valued;
        compiler = h.compiler;
        platform =
            h.platform;
        os = h.os;
        targets = targets_asks mode (target_of v) (map target_of values) may kept;
      },
      refl,
    )

kept_variant : (mode : Mode) (p next : Part) (w : List ℕ) (values : List (List ℕ)) → IsKept mode p
    → Asks mode (variant_text w values) (set_variant w values) → 0 < length values → set_variant w values p ≡ Some next → IsMore mode p next
kept_variant mode p next w values h asks some e =
    let new = unless (has_variant w p.variants) (record p { variants = with_variant (w, values) p.variants }) next e in
    subst (IsMore mode p) new.1 (
      record {
        name = h.name;
        versions = h.versions;
        variants = all_set _ (w, values) p.variants h.variants asks;
        ordered = subst IsInByteOrder (sym (names_set (w, values) p.variants new.0))
            (with_text_in_order (variant_names p.variants) w h.ordered);
        valued = all_set _ (w, values) p.variants h.valued some;
        compiler = h.compiler;
        platform = h.platform;
        os = h.os;
        targets = h.targets;
      },
      refl,
    )

kept_arch : (mode : Mode) (p next : Part) (value : List ℕ) → IsKept mode p → may_have_all mode ≡ true → Takes key.Arch (value ∷ [])
    → set_arch value p ≡ Some next → IsMore mode p next
kept_arch mode p next value h may takes e =
    let parts = arch_parts value takes.1.0 in
    let rest : List ℕ = after_first is_dash value in
    let platform : List ℕ = truth (before_first is_dash value) in
    let os : List ℕ = truth (before_first is_dash rest) in
    let first = some_then (λ a. option_and_then (λ b. set_targets (after_first is_dash rest ∷ []) b) (set_os (before_first is_dash rest) a))
    (set_platform (before_first is_dash value) p) next e in
    let second = some_then (λ b. set_targets (after_first is_dash rest ∷ []) b) (set_os (before_first is_dash rest) first.0) next first.2 in
    let one = kept_platform mode p first.0 platform h
    (platform_asks mode platform may (word_of (before_first is_dash value) parts.platform)) first.1 in
    let two = kept_os mode first.0 second.0 os one.0 (os_asks mode os may (word_of (before_first is_dash rest) parts.os)) second.1 in
    let three = kept_targets mode second.0 next (after_first is_dash rest ∷ []) two.0 may (parts.target, tt) (parts.one, tt) second.2 in
    (three.0, three.1 ∙ two.1 ∙ one.1)

kept_key : (mode : Mode) (p next : Part) (k : KeyKind) (w : List ℕ) (values : List (List ℕ)) → key_of w ≡ k → IsKept mode p
    → may_have_all mode ≡ true → IsName w → AreValues values → Takes k values → set_key k w values p ≡ Some next → IsMore mode p next
kept_key mode p next k w [] is h may name are takes e = absurd are
kept_key mode p next key.Platform w (v ∷ values) is h may name are takes e =
    kept_platform mode p next (truth v) h (platform_asks mode (truth v) may (word_of v are.0)) e
kept_key mode p next key.Os w (v ∷ values) is h may name are takes e =
    kept_os mode p next (truth v) h (os_asks mode (truth v) may (word_of v are.0)) e
kept_key mode p next key.Arch w (v ∷ []) is h may name are takes e = kept_arch mode p next v h may takes e
kept_key mode p next key.Arch w (v ∷ u ∷ values) is h may name are takes e = absurd takes.0
kept_key mode p next key.Target w (v ∷ values) is h may name are takes e = kept_targets mode p next (v ∷ values) h may are takes e
kept_key mode p next key.Flags w (v ∷ values) is h may name are takes e = absurd takes
kept_key mode p next key.Variant w (v ∷ values) is h may name are takes e =
    kept_variant mode p next w (put_all [] (v ∷ values)) h
    (setting_asks mode w (put_all [] (v ∷ values)) may name is (values_kept (v ∷ values) are)) (values_kept (v ∷ values) are).some e

-- an item that was read keeps it so
pub kept_add : (mode : Mode) (p next : Part) (item : SpecItem) → IsKept mode p → (IsBehind item → may_have_all mode ≡ true)
    → IsSpecItem item
    → empty_place item ≡ None → add item p ≡ Some next → IsMore mode p next
kept_add mode p next (Name w) h may form none e = absurd cc
kept_add mode p next (Versions items) h may form none e = kept_versions mode p next items h form.0 none e
kept_add mode p next (Variant mark w) h may form none e =
    kept_variant mode p next w (mark_value mark ∷ []) h (variant_asks mode mark w (may tt) form.0) (omega arith) e
kept_add mode p next (Compiler w items) h may form none e =
    kept_compiler mode p next (w, items) h (compiler_asks mode w items (may tt) form none) e
kept_add mode p next (Key w values) h may form none e = kept_key mode p next (key_of w) w values refl h (may tt) form.0.0 form.0.1 form.1 e
kept_add mode p next Caret h may form none e = absurd cc
