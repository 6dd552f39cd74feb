-- The canonical text of a part, piece by piece.
use Rattle.std.proofs.Common.{◌≡◌, ℕ, true, false, List, [], ◌∷◌, ◌++◌, Option, Some, None, refl, sym, ap, subst, ◌∙◌, append_assoc, IfSome, ◌||◌, option_map, option_and_then, codes, append-nil}
use Rattle.spec_grammar.proofs.Common.{AllByRecursion, map-append, IsInByteOrder, spelling, first_empty, IsName, is_name_byte, spell_item, spell_list, AreListed, IsOver, is_name_end, ItemStep, spell_step, spell_steps, before_of, before_item, last_of, IsOverLast, IsRightStep, AreRight, needs_name, may_name, may_constrain, PartVariants, empty_part, set_variant, begin_part, take_item, word_text, key_text, variant_text, variants_text, part_compiler_text, targets_text, targets_items, variant_names, part_text, HasNoEmpty, take_steps}
use Rattle.spec_grammar.proofs.Common.{VersionItem, SpecItem, Name, Versions, Mode, Part, Draft}
use Rattle.spec_grammar.proofs.RunLaws.{two_cons, true_false}
use Rattle.spec_grammar.proofs.WhiteLaws.{white_goes}
use Rattle.spec_grammar.proofs.OrderLaws.{before_above, not_there, set_last}
use Rattle.spec_grammar.proofs.StepLaws.{right_append, last_append, all_append, spell_append, take_append}
use Rattle.spec_grammar.proofs.AskLaws.{Asks, stands_behind, behind_inside, behind_takes, compiler_is, platform_is, os_is, targets_are}
use Rattle.spec_grammar.proofs.KeptLaws.{IsKept}

-- behind this item, steps of this text lead from one draft to the other, and constraints may follow
pub record Leads (mode : Mode) (last : Option SpecItem) (text : List ℕ) (from to : Draft) : Type 0 where
  pub steps : List ItemStep
  pub right : AreRight mode last steps
  pub ranges : AllByRecursion HasNoEmpty steps
  pub spelled : spell_steps steps ≡ text
  pub value : take_steps from steps ≡ Some to
  pub ready : may_constrain mode (before_of (last_of last steps)) ≡ true

pub leads_then : (mode : Mode) (last : Option SpecItem) (t u : List ℕ) (d e f : Draft) → (a : Leads mode last t d e)
    → Leads mode (last_of last a.steps) u e f → Leads mode last (t ++ u) d f
leads_then mode last t u d e f a b = record {
  steps = a.steps ++ b.steps;
  right = right_append mode last a.steps b.steps a.right b.right;
  ranges = all_append HasNoEmpty a.steps b.steps a.ranges b.ranges;
  spelled = spell_append a.steps b.steps ∙ ap (λ l. l ++ spell_steps b.steps) a.spelled ∙ ap (λ l. t ++ l) b.spelled;
  value = take_append d a.steps b.steps ∙ ap (option_and_then (λ next. take_steps next b.steps)) a.value ∙ b.value;
  ready = rw (last_append last a.steps b.steps) b.ready;
}

-- nothing
pub leads_none : (mode : Mode) (last : Option SpecItem) (d : Draft) → may_constrain mode (before_of last) ≡ true → Leads mode last [] d d
unfolding take_steps
leads_none mode last d ready = record { steps = []; right = tt; ranges = tt; spelled = refl; value = refl; ready = ready }

-- an item more in front
pub leads_cons : (mode : Mode) (last : Option SpecItem) (s : ItemStep) (text : List ℕ) (d e f : Draft) → IsRightStep mode last s
    → HasNoEmpty s
    → take_item s.item d ≡ Some e → Leads mode (Some s.item) text e f → Leads mode last (spell_step s ++ text) d f
unfolding take_steps
leads_cons mode last s text d e f right none value l = record {
  steps = s ∷ l.steps;
  right = (right, l.right);
  ranges = (none, l.ranges);
  spelled = ap (λ k. spell_step s ++ k) l.spelled;
  value = rw value l.value;
  ready = l.ready;
}

-- one item
leads_one : (mode : Mode) (last : Option SpecItem) (s : ItemStep) (d e : Draft) → IsRightStep mode last s → HasNoEmpty s
    → take_item s.item d ≡ Some e → may_constrain mode (before_item s.item) ≡ true → Leads mode last (spell_step s) d e
leads_one mode last s d e right none value ready =
    subst (λ l. Leads mode last l d e) (append-nil (spell_step s))
    (leads_cons mode last s [] d e e right none value (leads_none mode (Some s.item) e ready))

pub over_space : (last : Option SpecItem) (text : List ℕ) → IsOverLast last (32 ∷ text)
over_space None text = tt
over_space (Some item) text = λ b more e on. white_goes item b (rw (sym (two_cons 32 b text more e).0) refl) on

-- ---- constraints, wherever they may stand

abbrev pub at : Draft → Part → Draft
at draft part = record draft { part = Some part }

abbrev pub Piece : Mode → List ℕ → Part → Part → Type 0
Piece mode text p q = (last : Option SpecItem) (draft : Draft) → may_constrain mode (before_of last) ≡ true
    → Leads mode last text (at draft p) (at draft q)

pub piece_then : (mode : Mode) (t u : List ℕ) (p q r : Part) → Piece mode t p q → Piece mode u q r → Piece mode (t ++ u) p r
piece_then mode t u p q r a b last draft ready =
    let first = a last draft ready in
    leads_then mode last t u (at draft p) (at draft q) (at draft r) first (b (last_of last first.steps) draft first.ready)

piece_none : (mode : Mode) (p : Part) → Piece mode [] p p
piece_none mode p last draft ready = leads_none mode last (at draft p) ready

-- one constraint, behind a space
piece_one : (mode : Mode) (text : List ℕ) (does : Part → Option Part) (p q : Part) → Asks mode text does → does p ≡ Some q
    → Piece mode (32 ∷ text) p q
piece_one mode text does p q asks e last draft ready =
    let s : ItemStep = record { gap = 32 ∷ []; item = asks.item } in
    let right : IsRightStep mode last s = record {
      white = refl;
      form = asks.form;
      stands =
          stands_behind mode (before_of last) asks.item asks.behind asks.may ready;
      over = over_space last (spell_item asks.item);
    } in
    let value : take_item asks.item (at draft p) ≡ Some (at draft q) = behind_takes asks.item draft p asks.behind
    ∙ ap (option_map (λ next. record draft { part = Some next })) (asks.adds p ∙ e) in
    subst (λ l. Leads mode last (32 ∷ l) (at draft p) (at draft q)) asks.spelled
    (leads_one mode last s (at draft p) (at draft q) right asks.ranges value (rw (behind_inside asks.item asks.behind) refl))

-- what a part may have once, behind a space
once_piece : {A : Type 0} (mode : Mode) (p : Part) (all : Option A → List ℕ) (text : A → List ℕ) (does : A → Part → Option Part)
    (with : Option A → Part) (o : Option A) → all None ≡ [] → ((a : A) → all (Some a) ≡ 32 ∷ text a)
    → with None ≡ p → ((a : A) → does a p ≡ Some (with (Some a))) → IfSome o (λ a. Asks mode (text a) (does a))
    → Piece mode (all o) p (with o)
once_piece mode p all text does with None nothing spelled none sets asks = rw (nothing, none) (piece_none mode p)
once_piece mode p all text does with (Some a) nothing spelled none sets asks =
    rw (spelled a) (piece_one mode (text a) (does a) p (with (Some a)) asks (sets a))

-- the variants behind those of a part, in byte order
variants_piece : (mode : Mode) (p : Part) (front variants : PartVariants)
    → AllByRecursion (λ v. Asks mode (variant_text v.0 v.1) (set_variant v.0 v.1)) variants
    → IsInByteOrder (variant_names (front ++ variants))
    → Piece mode (variants_text variants) (record p { variants = front }) (record p { variants = front ++ variants })
variants_piece mode p front [] asks ordered =
    subst (λ l. Piece mode [] (record p { variants = front }) (record p { variants = l })) (sym (append-nil front)) (piece_none mode _)
variants_piece mode p front (v ∷ variants) asks ordered =
    let above = before_above (variant_names front) v.0 (variant_names variants)
    (subst IsInByteOrder (map-append (λ (u : List ℕ × List (List ℕ)). u.0) front (v ∷ variants)) ordered) in
    let joined : (front ++ v ∷ []) ++ variants ≡ front ++ v ∷ variants = append_assoc front (v ∷ []) variants in
    let first = piece_one mode (variant_text v.0 v.1) (set_variant v.0 v.1) (record p { variants = front })
    (record p { variants = front ++ v ∷ [] }) asks.0 (rw (not_there v.0 front above, set_last v front above) refl) in
    let others = variants_piece mode p (front ++ v ∷ []) variants asks.1
    (subst (λ l. IsInByteOrder (variant_names l)) (sym joined) ordered) in
    subst (λ l. Piece mode (variants_text (v ∷ variants)) (record p { variants = front }) (record p { variants = l })) joined
    (piece_then mode (32 ∷ variant_text v.0 v.1) (variants_text variants) _ _ _ first others)

-- the constraints of a part but for its versions
abbrev constraints : Part → List ℕ
constraints p =
    variants_text p.variants ++ (part_compiler_text p.compiler
    ++ (key_text (codes " platform=") p.platform ++ (key_text (codes " os=") p.os ++ targets_text p.targets)))

constraints_piece : (mode : Mode) (p : Part) → IsKept mode p
    → Piece mode (constraints p) (record (empty_part p.name) { versions = p.versions }) p
constraints_piece mode p h =
    let a : Part = record (empty_part p.name) { versions = p.versions } in
    let b : Part = record a { variants = p.variants } in
    let c : Part = record b { compiler = p.compiler } in
    let d : Part = record c { platform = p.platform } in
    let e : Part = record d { os = p.os } in
    let first = variants_piece mode a [] p.variants h.variants h.ordered in
    let second = once_piece mode b part_compiler_text (λ v. 37 ∷ (v.0 ++ spell_list v.1)) compiler_is
    (λ o. record b { compiler = o }) p.compiler
    refl (λ v. refl) refl (λ v. refl) h.compiler in
    let third = once_piece mode c (key_text (codes " platform=")) (λ v. codes "platform=" ++ v) platform_is (λ o. record c { platform = o })
    p.platform refl (λ v. refl) refl (λ v. refl) h.platform in
    let fourth = once_piece mode d (key_text (codes " os=")) (λ v. codes "os=" ++ v) os_is (λ o. record d { os = o }) p.os refl (λ v. refl)
    refl (λ v. refl) h.os in
    let fifth = once_piece mode e targets_text (λ v. codes "target=" ++ targets_items v) targets_are (λ o. record e { targets = o })
    p.targets refl (λ v. refl) refl (λ v. refl) h.targets in
    piece_then mode _ _ a b p first (piece_then mode _ _ b c p second
    (piece_then mode _ _ c d p third (piece_then mode _ _ d e p fourth fifth)))

-- ---- a part

-- a part of this name may begin here
pub record MayBegin (mode : Mode) (last : Option SpecItem) (draft : Draft) (name : Option (List ℕ)) : Type 0 where
  pub stands : may_name mode (before_of last) false ≡ true
  pub over : (w : List ℕ) → IsName w → IsOverLast last w
  pub begins : (w : List ℕ) → begin_part w draft draft.part ≡ at draft (empty_part (Some w))
  pub nameless : name ≡ None → (draft ≡ at draft (empty_part None)) × (last ≡ None) × (needs_name mode ≡ false)

versions_lead : (mode : Mode) (last : Option SpecItem) (draft : Draft) (name : Option (List ℕ)) (versions : Option (List VersionItem))
    → ((text : List ℕ) → IsOverLast last (64 ∷ text)) → may_constrain mode (before_of last) ≡ true
    → IfSome versions (λ l. AreListed l × (first_empty 1 l ≡ None))
    → Leads mode last (spell_list versions) (at draft (empty_part name)) (at draft (record (empty_part name) { versions = versions }))
versions_lead mode last draft name None over ready is = leads_none mode last (at draft (empty_part name)) ready
versions_lead mode last draft name (Some l) over ready is =
    leads_one mode last (record { gap = []; item = Versions l }) _ _
    (record { white = refl; form = (is.0, tt); stands = ready; over = over (spelling l) }) is.1 refl refl

name_over : (w text : List ℕ) → IsOver (Name w) (64 ∷ text)
name_over w text b more e on = true_false (is_name_byte b || is_name_end b) on (rw (sym (two_cons 64 b text more e).0) refl)

front_leads : (mode : Mode) (last : Option SpecItem) (draft : Draft) (name : Option (List ℕ)) (versions : Option (List VersionItem))
    → MayBegin mode last draft name → IfSome name IsName → IfSome versions (λ l. AreListed l × (first_empty 1 l ≡ None))
    → Leads mode last (word_text name ++ spell_list versions) draft (at draft (record (empty_part name) { versions = versions }))
front_leads mode last draft None versions may is listed =
    let (same, first, needs) = may.nameless refl in
    let over : (text : List ℕ) → IsOverLast last (64 ∷ text) = λ text. subst (λ o. IsOverLast o (64 ∷ text)) (sym first) tt in
    let ready : may_constrain mode (before_of last) ≡ true = rw (first, needs) refl in
    subst (λ d. Leads mode last (spell_list versions) d (at draft (record (empty_part None) { versions = versions }))) (sym same)
    (versions_lead mode last draft None versions over ready listed)
front_leads mode last draft (Some w) versions may is listed =
    let right : IsRightStep mode last (record { gap = []; item = Name w }) =
    record { white = refl; form = (is, tt); stands = may.stands; over = may.over w is } in
    let next : take_item (Name w) draft ≡ Some (at draft (empty_part (Some w))) = ap (λ d. Some d) (may.begins w) in
    leads_cons mode last (record { gap = []; item = Name w }) (spell_list versions) draft _ _ right refl next
    (versions_lead mode (Some (Name w)) draft (Some w) versions (name_over w) refl listed)

pub part_leads : (mode : Mode) (last : Option SpecItem) (draft : Draft) (p : Part) → MayBegin mode last draft p.name → IsKept mode p
    → Leads mode last (part_text p) draft (at draft p)
unfolding part_text
part_leads mode last draft p may h =
    let first = front_leads mode last draft p.name p.versions may h.name h.versions in
    let others = constraints_piece mode p h (last_of last first.steps) draft first.ready in
    subst (λ l. Leads mode last l draft (at draft p)) (append_assoc (word_text p.name) (spell_list p.versions) (constraints p))
    (leads_then mode last _ (constraints p) draft _ (at draft p) first others)
