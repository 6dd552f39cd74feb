-- Where the machine of values stops, the values end.
use Rattle.std.proofs.Common.{◌≡◌, ℕ, ◌<◌, ◌≤◌, ◌+◌, true, false, List, [], ◌∷◌, ◌++◌, length, take, drop, get_or, Option, Some, None, refl, sym, ap, subst, ◌∙◌, arith, inl, inr, ◌==◌, take-append-drop, take-take, length-take, take_at, drop_at, length-append}
use Rattle.version_order.proofs.MachineLaws.{run-append}
use Rattle.std.proofs.Math.Seq.{get_or-append_seam}
use Rattle.spec_grammar.proofs.Common.{cases_order, cases_lt, nat_tests, take-append-le, get_or_append_left, drop_more, get_or-take, run, is_value_byte, spell_values, is_run_byte, start_run, after, is_whole, Stops, goes_on, AreFirst, AreValuesAt, AreStuck, Varies, varied, same_Some, none-some}
use Rattle.spec_grammar.proofs.Common.{KeyKind, Run, One, Many, Target, First, Second, Third}
use Rattle.spec_grammar.proofs.RunLaws.{true_false}
use Rattle.spec_grammar.proofs.CutLaws.{IsSoFarAll}
use Rattle.spec_grammar.proofs.VaryLaws.{varied_end, varied_front, varied_get, varied_length}
use Rattle.spec_grammar.proofs.ValueLaws.{values_end, values_run, IsTakenText}

no_byte : (b : ℕ) → is_run_byte b ≡ false → (is_value_byte b ≡ false) × ((b == 44) ≡ false) × ((b == 58) ≡ false) × ((b == 45) ≡ false)
no_byte b h = (grind (arith, nat_tests), grind (arith, nat_tests), grind (arith, nat_tests), grind (arith, nat_tests))

-- no values go on with another byte
after_stop : (s : Run) (b : ℕ) → is_run_byte b ≡ false → after s b ≡ None
after_stop (One some) b h = let n = no_byte b h in rw n.0 refl
after_stop (Many some) b h = let n = no_byte b h in rw (n.0, n.1) refl
after_stop (Target some colon) b h = let n = no_byte b h in rw (n.0, n.2, n.1) refl
after_stop (First some) b h = let n = no_byte b h in rw (n.0, n.3) refl
after_stop (Second some) b h = let n = no_byte b h in rw (n.0, n.3) refl
after_stop (Third some colon) b h = let n = no_byte b h in rw (n.0, n.3, n.2) refl

-- a machine that is stuck within a text does not go over it
pub stuck_within : {S : Type 0} (step : S → ℕ → Option S) (start s t : S) (l : List ℕ) (n : ℕ) → n < length l
    → run step start (take n l) ≡ Some s → step s (get_or l n 0) ≡ None → run step start l ≡ Some t → ⊥
stuck_within step start s t l n lt here stuck there =
    let cut : l ≡ take n l ++ get_or l n 0 ∷ drop (n + 1) l = sym (take-append-drop n l)
    ∙ ap (λ (k : List ℕ). take n l ++ k) (drop_more l n 0 lt) in
    let none : run step start (take n l ++ get_or l n 0 ∷ drop (n + 1) l) ≡ None =
    rw (run-append step start (take n l) (get_or l n 0 ∷ drop (n + 1) l), here, stuck) refl in
    absurd (none-some t (sym none ∙ ap (run step start) (sym cut) ∙ there))

not_further : (start s v : Run) (l rest : List ℕ) (n : ℕ) → length l < n → n ≤ length (l ++ rest) → run after start l ≡ Some s
    → goes_on rest ≡ false → run after start (take n (l ++ rest)) ≡ Some v → ⊥
not_further start s v l [] n gt le here over there = absurd (omega (arith, length-append l []))
not_further start s v l (b ∷ rest) n gt le here over there =
    let t : List ℕ = take n (l ++ b ∷ rest) in
    let at : get_or (l ++ b ∷ rest) (length l) 0 ≡ b = get_or-append_seam l b rest 0 in
    let front : take (length l) t ≡ l = take-take (length l) n (l ++ b ∷ rest) (omega arith) ∙ take_at l (b ∷ rest) (length l) refl in
    let same : get_or t (length l) 0 ≡ b = get_or-take n (l ++ b ∷ rest) (length l) 0 (omega arith) ∙ at in
    let long : length l < length t = omega (arith, length-take n (l ++ b ∷ rest)) in
    stuck_within after start s v t (length l) long (rw front here) (rw same (after_stop s b over)) there

-- the machine stops where the values end, and they may end there
pub values_stop : (k : KeyKind) (start v : Run) (text : List ℕ) (n : ℕ) (values : List (List ℕ)) (rest : List ℕ) → start_run k ≡ Some start
    → Stops after start text v n → AreFirst k text values rest
    → (n ≡ length (spell_values values)) × (is_whole v ≡ true)
values_stop k start v text n values rest e stops first =
    let l : List ℕ = spell_values values in
    let a = values_run k start values e first.are first.takes in
    let reached : run after start (take n (l ++ rest)) ≡ Some v = rw (← first.cut) stops.reached in
    elim (cases_order n (length l)) [
      | inl same ↦
          let here : run after start l ≡ Some v = rw (take_at l rest n (sym same)) at reached in
          (same, ap is_whole (same_Some v a.0 (sym here ∙ a.1)) ∙ a.2)
      | inr (inl lt) ↦
          let here : run after start (take n l) ≡ Some v = rw (take-append-le n l rest (omega arith)) at reached in
          let stuck : after v (get_or (l ++ rest) n 0) ≡ None =
          rw (← first.cut) (stops.stuck (omega (arith, ap length first.cut, length-append l rest))) in
          absurd (stuck_within after start v a.0 l n lt here (rw (get_or_append_left l rest 0 n lt) at stuck) a.1)
      | inr (inr gt) ↦
          absurd (not_further start a.0 v l rest n gt (omega (arith, stops.within, ap length first.cut)) a.1 first.over reached)
    ]

pub not_whole : (k : KeyKind) (start v : Run) (text : List ℕ) (n : ℕ) → start_run k ≡ Some start → Stops after start text v n
    → is_whole v ≡ false → (values : List (List ℕ)) (rest : List ℕ) → AreFirst k text values rest → ⊥
not_whole k start v text n e stops open_ values rest first =
    true_false (is_whole v) (values_stop k start v text n values rest e stops first).1 open_

pub not_over : (k : KeyKind) (start v : Run) (text : List ℕ) (n : ℕ) → start_run k ≡ Some start → Stops after start text v n
    → goes_on (drop n text) ≡ true → (values : List (List ℕ)) (rest : List ℕ) → AreFirst k text values rest → ⊥
not_over k start v text n e stops on values rest first =
    let here = values_stop k start v text n values rest e stops first in
    let behind : drop n text ≡ rest = ap (drop n) first.cut ∙ drop_at (spell_values values) rest n (sym here.0) in
    true_false (goes_on rest) (rw behind at on) first.over

found_by : (k : KeyKind) (text : List ℕ) (n : ℕ) (cut : List (List ℕ)) → n ≤ length text → goes_on (drop n text) ≡ false
    → IsSoFarAll (take n text) cut → IsTakenText k (take n text) → AreValuesAt k text cut n
found_by k text n cut within over all ([], are, takes, e) = absurd are
found_by k text n cut within over all (v ∷ values, are, takes, e) =
    let same : cut ≡ v ∷ values = all v values are e in
    rw same (record {
      within = within;
      first =
          record { cut = sym (take-append-drop n text) ∙ ap (λ (l : List ℕ). l ++ drop n text) e; are = are; takes = takes; over = over };
    })

pub values_found : (k : KeyKind) (start v : Run) (text : List ℕ) (n : ℕ) (cut : List (List ℕ)) → start_run k ≡ Some start
    → Stops after start text v n → is_whole v ≡ true → goes_on (drop n text) ≡ false → IsSoFarAll (take n text) cut
    → AreValuesAt k text cut n
values_found k start v text n cut e stops whole over all =
    found_by k text n cut stops.within over all (values_end k start (take n text) v e stops.reached whole)

-- ---- how far values go

varied_stops : (start v : Run) (text : List ℕ) (n : ℕ) (more : List ℕ) → Stops after start text v n → Varies text n more
    → Stops after start (varied text n more) v n
varied_stops start v text n more stops varies = elim (cases_lt n (length text)) [
  | inr le ↦ subst (λ (l : List ℕ). Stops after start l v n) (sym (varied_end text n more varies le)) stops
  | inl lt ↦ record {
    within = varied_length text n more stops.within;
    reached = ap (run after start) (varied_front text n more stops.within) ∙ stops.reached;
    stuck = λ less. ap (after v) (varied_get text n more lt) ∙ stops.stuck lt;
  }
]

-- some bytes more make the values whole
completes : (s : Run) → (rest : List ℕ) × (t : Run) × (run after s rest ≡ Some t) × (is_whole t ≡ true)
completes (One some) = (97 ∷ [], One true, refl, refl)
completes (Many some) = (97 ∷ [], Many true, refl, refl)
completes (Target some colon) = (97 ∷ [], Target true colon, refl, refl)
completes (First true) = (45 ∷ 97 ∷ 45 ∷ 97 ∷ [], Third true false, refl, refl)
completes (First false) = (97 ∷ 45 ∷ 97 ∷ 45 ∷ 97 ∷ [], Third true false, refl, refl)
completes (Second true) = (45 ∷ 97 ∷ [], Third true false, refl, refl)
completes (Second false) = (97 ∷ 45 ∷ 97 ∷ [], Third true false, refl, refl)
completes (Third some colon) = (97 ∷ [], Third true colon, refl, refl)

stuck_by : (k : KeyKind) (start v : Run) (text : List ℕ) (n : ℕ) → start_run k ≡ Some start → Stops after start text v n
    → ((more : List ℕ) → Varies text n more → (values : List (List ℕ)) (rest : List ℕ) → AreFirst k (varied text n more) values rest → ⊥)
    → AreStuck k text n
stuck_by k start v text n e stops none =
    let c = completes v in
    let goes : run after start (take n text ++ c.0) ≡ Some c.1 = rw (run-append after start (take n text) c.0, stops.reached) c.2 in
    let is = values_end k start (take n text ++ c.0) c.1 e goes c.3 in
    record { within = stops.within; none = none; tail = c.0; values = is.0; are = is.1; takes = is.2; cut = is.3 }

pub stuck_whole : (k : KeyKind) (start v : Run) (text : List ℕ) (n : ℕ) → start_run k ≡ Some start → Stops after start text v n
    → is_whole v ≡ false → AreStuck k text n
stuck_whole k start v text n e stops open_ =
    stuck_by k start v text n e stops (λ more varies. not_whole k start v (varied text n more) n e
    (varied_stops start v text n more stops varies) open_)

same_on : (a c : List ℕ) (b : ℕ) (r s : List ℕ) → a ≡ b ∷ r → c ≡ b ∷ s → goes_on a ≡ true → goes_on c ≡ true
same_on a c b r s e f on = rw f (rw e at on)

on_varied : (text : List ℕ) (n : ℕ) (more : List ℕ) → Varies text n more → goes_on (drop n text) ≡ true
    → goes_on (drop n (varied text n more)) ≡ true
on_varied text n more varies on = elim (cases_lt n (length text)) [
  | inr le ↦ subst (λ (l : List ℕ). goes_on (drop n l) ≡ true) (sym (varied_end text n more varies le)) on
  | inl lt ↦ same_on (drop n text) (drop n (varied text n more)) (get_or text n 0) (drop (n + 1) text) (drop (n + 1) (varied text n more))
      (drop_more text n 0 lt)
      (drop_more (varied text n more) n 0 (omega (arith, length-append (take (n + 1) text) more, length-take (n + 1) text))
      ∙ ap (λ (b : ℕ). b ∷ drop (n + 1) (varied text n more)) (varied_get text n more lt)) on
]

pub stuck_over : (k : KeyKind) (start v : Run) (text : List ℕ) (n : ℕ) → start_run k ≡ Some start → Stops after start text v n
    → goes_on (drop n text) ≡ true → AreStuck k text n
stuck_over k start v text n e stops on = stuck_by k start v text n e stops
    (λ more varies. not_over k start v (varied text n more) n e (varied_stops start v text n more stops varies)
    (on_varied text n more varies on))
