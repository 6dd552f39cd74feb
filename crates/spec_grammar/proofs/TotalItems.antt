-- Each text begins with an item, or has a fault there that is not want of memory.
use Rattle.std.proofs.Common.{◌≡◌, ◌≢◌, ℕ, suc, ◌<◌, ◌+◌, Bool, List, [], ◌∷◌, ◌++◌, ◌⊎◌, take, drop, Option, Some, None, refl, sym, ap, subst, ◌∙◌, arith, inl, inr, take-append-drop}
use Rattle.version_order.specs.Scan.{step, is_final, Stops as ListStops}
use Rattle.version_order.specs.declared.scan.Place.TheVariants.{Item as FirstItem}
use Rattle.version_order.proofs.RestLaws.{list_from_end}
use Rattle.version_order.proofs.ListLaws.{stops_longest, stops_whole}
use Rattle.spec_grammar.specs.declared.item.Kind.TheVariants as kind
use Rattle.spec_grammar.specs.declared.fault.SpecFault.TheVariants as fault
use Rattle.spec_grammar.proofs.Common.{cases_Bool, cases_lt, first_empty, name_length, mark_byte, key_of, kind_at, starts_with_byte, may_stand, may_name, start_run, after, is_whole, Stops, goes_on, form_at, IsListAt, IsListFault, IsCutOff, IsItemFault, AreValuesAt, IsValuesFault, IsAllowedItem, IsItemFaultHere, IsFaultHere, refused_place, moved}
use Rattle.spec_grammar.proofs.Common.{VersionItem, SpecItem, Name, Versions, Variant, Compiler, Key, Caret, Kind, Mark, KeyKind, Run, Mode, Before, SpecFault}
use Rattle.spec_grammar.proofs.RunLaws.{true_false}
use Rattle.spec_grammar.proofs.ListLaws.{versions_read, versions_moved}
use Rattle.spec_grammar.proofs.NameLaws.{variant_read, variant_stuck, name_read, name_stuck, starts_is}
use Rattle.spec_grammar.proofs.CompilerLaws.{compiler_stuck, compiler_alone, compiler_read, compiler_moved, caret_read, caret_stuck}
use Rattle.spec_grammar.proofs.KeyLaws.{key_behind, key_read, key_moved, flags_stuck}
use Rattle.spec_grammar.proofs.StopLaws.{stuck_whole, stuck_over}
use Rattle.spec_grammar.proofs.ValueLaws.{values_end}
use Rattle.spec_grammar.proofs.ItemLaws.{sign_cut, none_stuck, refused_stuck, taken, refused}

-- a fault that is not want of memory
abbrev pub Faulty : (SpecFault → Type 0) → Type 0
Faulty P = (e : SpecFault) × P e × (e ≢ fault.OutOfMemory)

-- want of memory has no place to be moved
pub moved_known : (by : ℕ) (e : SpecFault) → e ≢ fault.OutOfMemory → moved by e ≢ fault.OutOfMemory
moved_known by fault.OutOfMemory known same = known refl
moved_known by e known same = cc

-- which of its two cases a value is
pub some_or_none : {A : Type 0} (o : Option A) → (o ≡ None) ⊎ ((a : A) × (o ≡ Some a))
some_or_none None = inl refl
some_or_none (Some a) = inr (a, refl)

-- each machine stops somewhere
stop_of : {S : Type 0} (step : S → ℕ → Option S) (s : S) (text : List ℕ) → (t : S) × (n : ℕ) × Stops step s text t n
stop_of step s [] = (s, 0, record { within = omega arith; reached = refl; stuck = λ lt. absurd (omega arith) })
stop_of step s (b ∷ text) = elim (some_or_none (step s b)) [
  | inl none ↦ (s, 0, record { within = omega arith; reached = refl; stuck = λ lt. none })
  | inr (u, some) ↦
      let (t, n, stops) = stop_of step u text in
      (t, suc n, record { within = omega (arith, stops.within); reached = rw some stops.reached; stuck = λ lt. stops.stuck (omega arith) })
]

-- ---- lists and values

list_total : (text : List ℕ) → ((items : List VersionItem) × (n : ℕ) × IsListAt text items n × (first_empty 0 items ≡ None))
    ⊎ Faulty (IsListFault text)
list_total text =
    let (place, n, s) = stop_of step FirstItem text in
    let stops : ListStops text place n = record { within = s.within; reached = s.reached; stuck = s.stuck } in
    let front = stops_longest text place n stops in
    elim (cases_Bool (is_final place)) [
      | inl final ↦
          let (items, reads) = list_from_end (take n text) place s.reached final in
          let at : IsListAt text items n = record { reads = reads; longest = front } in
          elim (some_or_none (first_empty 0 items)) [
            | inl none ↦ inl (items, n, at, none)
            | inr (q, some) ↦ inr (fault.BadVersion q, (items, n, at, some), λ same. cc)
          ]
      | inr open_ ↦ inr (fault.Expected n, (front, λ is. true_false (is_final place) (stops_whole text place n stops is) open_), λ same. cc)
    ]

values_total : (k : KeyKind) (start : Run) (text : List ℕ) → start_run k ≡ Some start
    → ((values : List (List ℕ)) × (n : ℕ) × AreValuesAt k text values n) ⊎ Faulty (IsValuesFault k text)
values_total k start text e =
    let (v, n, stops) = stop_of after start text in
    elim (cases_Bool (is_whole v)) [
      | inr open_ ↦ inr (fault.Expected n, stuck_whole k start v text n e stops open_, λ same. cc)
      | inl whole ↦ elim (cases_Bool (goes_on (drop n text))) [
        | inl on ↦ inr (fault.Expected n, stuck_over k start v text n e stops on, λ same. cc)
        | inr over ↦
            let (values, are, takes, spelled) = values_end k start (take n text) v e stops.reached whole in
            let cut = sym (take-append-drop n text) ∙ ap (λ (l : List ℕ). l ++ drop n text) spelled in
            inl (values, n, record { within = stops.within; first = record { cut = cut; are = are; takes = takes; over = over } })
      ]
    ]

-- ---- the item of each kind

-- an item is cut off at the front, or has a fault
abbrev IsCutOrFaulty : List ℕ → Type 0
IsCutOrFaulty text = ((item : SpecItem) × (n : ℕ) × IsCutOff text item n) ⊎ Faulty (IsItemFault text)

versions_total : (text : List ℕ) → IsCutOrFaulty (64 ∷ text)
versions_total text = elim (list_total text) [
  | inl (items, n, at, none) ↦ inl (Versions items, 1 + n, versions_read text items n at none)
  | inr (e, h, known) ↦ inr (moved 1 e, versions_moved text e h, moved_known 1 e known)
]

variant_total : (mark : Mark) (text : List ℕ) → IsCutOrFaulty (mark_byte mark ∷ text)
variant_total mark text =
    let n : ℕ = name_length text in
    elim (cases_lt 0 n) [
      | inl some ↦ inl (Variant mark (take n text), 1 + n, variant_read mark text n refl some)
      | inr none ↦ inr (fault.Expected 1, variant_stuck mark text (omega arith), λ same. cc)
    ]

compiler_list_total : (text list : List ℕ) (n : ℕ) → n ≡ name_length text → 0 < n → drop n text ≡ 64 ∷ list → IsCutOrFaulty (37 ∷ text)
compiler_list_total text list n is some behind = elim (list_total list) [
  | inl (items, m, at, none) ↦
      inl (Compiler (take n text) (Some items), 2 + n + m, compiler_read text n m items list is some behind at none)
  | inr (e, h, known) ↦ inr (moved (2 + n) e, compiler_moved text n list e is some behind h, moved_known (2 + n) e known)
]

compiler_total : (text : List ℕ) → IsCutOrFaulty (37 ∷ text)
compiler_total text =
    let n : ℕ = name_length text in
    elim (cases_lt 0 n) [
      | inr none ↦ inr (fault.Expected 1, compiler_stuck text (omega arith), λ same. cc)
      | inl some ↦ elim (cases_Bool (starts_with_byte 64 (drop n text))) [
        | inl behind ↦ compiler_list_total text (drop 1 (drop n text)) n refl some (starts_is 64 (drop n text) behind)
        | inr alone ↦ inl (Compiler (take n text) None, 1 + n, compiler_alone text n refl some alone)
      ]
    ]

name_total : (text : List ℕ) → kind_at text ≡ Some kind.Name → IsCutOrFaulty text
name_total text here =
    let n : ℕ = name_length text in
    elim (cases_Bool (starts_with_byte 58 (drop n text))) [
      | inl colon ↦ inr (fault.Expected n, name_stuck text n 58 refl here refl refl refl colon, λ same. cc)
      | inr no_colon ↦ elim (cases_Bool (starts_with_byte 46 (drop n text))) [
        | inl point ↦ inr (fault.Expected n, name_stuck text n 46 refl here refl refl refl point, λ same. cc)
        | inr no_point ↦ inl (Name (take n text), n, name_read text n refl here no_colon no_point)
      ]
    ]

key_total : (text : List ℕ) → kind_at text ≡ Some kind.Key → IsCutOrFaulty text
key_total text here =
    let n : ℕ = name_length text in
    let list : List ℕ = drop 1 (drop n text) in
    let behind = key_behind text n refl here in
    elim (some_or_none (start_run (key_of (take n text)))) [
      | inl none ↦ inr (fault.Expected n, flags_stuck text n refl here none, λ same. cc)
      | inr (start, some) ↦ elim (values_total (key_of (take n text)) start list some) [
        | inl (values, m, at) ↦ inl (Key (take n text) values, n + 1 + m, key_read text n m list values refl behind.0 behind.1 at)
        | inr (e, h, known) ↦ inr (moved (n + 1) e, key_moved text n list e refl here behind.1 h, moved_known (n + 1) e known)
      ]
    ]

caret_total : (text : List ℕ) → IsCutOrFaulty (94 ∷ text)
caret_total text = elim (cases_Bool (starts_with_byte 91 text)) [
  | inl bracket ↦ inr (fault.Expected 1, caret_stuck text bracket, λ same. cc)
  | inr other ↦ inl (Caret, 1, caret_read text other)
]

item_total : (k : Kind) (text : List ℕ) → kind_at text ≡ Some k → IsCutOrFaulty text
item_total kind.Name text here = name_total text here
item_total kind.Versions text here = subst IsCutOrFaulty (sym (sign_cut text kind.Versions 64 (λ first rest says. says) here))
    (versions_total (drop 1 text))
item_total (kind.Variant mark) text here =
    subst IsCutOrFaulty (sym (sign_cut text (kind.Variant mark) (mark_byte mark) (λ first rest says. says) here))
    (variant_total mark (drop 1 text))
item_total kind.Compiler text here = subst IsCutOrFaulty (sym (sign_cut text kind.Compiler 37 (λ first rest says. says) here))
    (compiler_total (drop 1 text))
item_total kind.Key text here = key_total text here
item_total kind.Caret text here = subst IsCutOrFaulty (sym (sign_cut text kind.Caret 94 (λ first rest says. says) here))
    (caret_total (drop 1 text))

-- ---- the item at a place

allowed_total : (mode : Mode) (place : Before) (gap : Bool) (text : List ℕ)
    → ((item : SpecItem) × (n : ℕ) × IsAllowedItem mode place gap text item n) ⊎ Faulty (IsItemFaultHere mode place gap text)
allowed_total mode place gap text = elim (some_or_none (kind_at text)) [
  | inl none ↦ inr (fault.Expected 0, none_stuck mode place gap text none, λ same. cc)
  | inr (k, here) ↦ elim (cases_Bool (may_stand mode place gap k)) [
    | inr not_there ↦
        inr (
          fault.Expected (refused_place mode place gap k (name_length text)),
          refused_stuck mode place gap k text here
              not_there,
          λ same. cc,
        )
    | inl may ↦ elim (item_total k text here) [
      | inl (item, n, cut) ↦ inl (item, n, taken mode place gap k text item n here may cut)
      | inr (e, h, known) ↦ inr (e, refused mode place gap k text e here may h, known)
    ]
  ]
]

with_form : (mode : Mode) (place : Before) (gap : Bool) (text : List ℕ) (e : SpecFault) → form_at mode (may_name mode place gap) text ≡ None
    → IsItemFaultHere mode place gap text e → IsFaultHere mode place gap text e
with_form mode place gap text (fault.Expected q) none h = (none, h)
with_form mode place gap text (fault.BadVersion q) none h = (none, h)
with_form mode place gap text fault.OutOfMemory none h = tt
with_form mode place gap text e none h = absurd h

-- the item that is read and may stand here, or a fault
pub next_total : (mode : Mode) (place : Before) (gap : Bool) (text : List ℕ)
    → ((item : SpecItem) × (n : ℕ) × IsAllowedItem mode place gap text item n × (form_at mode (may_name mode place gap) text ≡ None))
    ⊎ Faulty (IsFaultHere mode place gap text)
next_total mode place gap text = elim (some_or_none (form_at mode (may_name mode place gap) text)) [
  | inr (form, is) ↦ inr (fault.Unsupported 0 form, (refl, is), λ same. cc)
  | inl none ↦ elim (allowed_total mode place gap text) [
    | inl (item, n, allowed) ↦ inl (item, n, allowed, none)
    | inr (e, h, known) ↦ inr (e, with_form mode place gap text e none h, known)
  ]
]
