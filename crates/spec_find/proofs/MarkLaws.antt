-- Marks of records: one place more leads to all starts of a search.
use Rattle.std.proofs.Common.{◌≡◌, refl, sym, ap, subst, ◌∙◌, ℕ, ◌+◌, ◌<◌, Bool, false, List, [], ◌∷◌, ◌++◌, length, get_or, replicate, All, Contains, Some, None, Result, Ok, Err, IfOk, IsTrue, ◌⊎◌, inl, inr, ⊎_elim, arith}
use Rattle.std.specs.List.{slice_get}
use Rattle.std.proofs.lemmas.Bool.{cases_lt, false≢true}
use Rattle.std.proofs.lemmas.List.{get_or_append_left, get_or_past, get_or_push, length_push}
use Rattle.std.proofs.lemmas.List.Elements.{All-contains, All-get_or, All-push, All-weaker, Contains-append_left, Contains-append_right, Contains-append_cases}
use Rattle.reachability.specs.Paths.{Path}
use Rattle.reachability.specs.Places.{LeadsTo, AreWithin, IsMarked, MarksReached}
use Rattle.reachability.proofs.PathLaws.{one_arc, arc_before, along, first_arc, carried}
use Rattle.reachability.proofs.SearchLaws.{no_marks}
use Rattle.keyed_lists.proofs.RiseLaws.{all_from}
use Rattle.graph_core.specs.Graphs.{Text}
use Rattle.reuse_db.specs.declared.record.Record.{Record}
use Rattle.condition_rules.specs.OfSpecGrammar.Part.{Part}
use Rattle.condition_rules.specs.Worlds.{World}
use Rattle.condition_rules.specs.Holds.{suits}
use Rattle.spec_find.specs.Found.{IsMetBelow}
use Rattle.reuse_db.specs.Installed.{installed_node}
use Rattle.spec_find.specs.Marks.{AreParents, SuitsAt, AreStarts, AreAbove, AreMarks}
use Rattle.spec_find.proofs.OrderLaws.{got_lt, got_is, got_from, hash_there}

-- what two clauses on what was made tell
pub ok_both : {T E : Type 0} (P Q R : T → Type 0) → ((x : T) → P x → Q x → R x) → (r : Result T E) → IfOk r P → IfOk r Q → IfOk r R
ok_both P Q R both (Ok x) p q = both x p q
ok_both P Q R both (Err e) p q = tt

-- ---- one place more

module _ (parents : List (List ℕ)) (starts : List ℕ) (within : AreWithin parents) (low : All (λ s. s < length parents) starts) where
  abbrev longer : List (List ℕ)
  longer = parents ++ starts ∷ []

  -- all arcs lead to places
  pub longer_within : AreWithin longer
  longer_within = All-push (All (λ q. q < length longer)) parents starts
      (All-weaker (All (λ q. q < length parents)) (All (λ q. q < length longer)) more parents within) (more starts low)
    where
      more : (places : List ℕ) → All (λ q. q < length parents) places → All (λ q. q < length (parents ++ starts ∷ [])) places
      more = All-weaker (λ q. q < length parents) (λ q. q < length (parents ++ starts ∷ []))
          (λ q lt. omega (arith, lt, length_push parents starts))

  old_arc : (p q : ℕ) → p < length parents → LeadsTo longer p q → LeadsTo parents p q
  old_arc p q lt arc = subst (λ l. Contains l q) (get_or_append_left parents (starts ∷ []) [] p lt) arc

  new_arc : (p q : ℕ) → LeadsTo parents p q → LeadsTo longer p q
  new_arc p q arc = ⊎_elim
      (λ lt. subst (λ l. Contains l q) (sym (get_or_append_left parents (starts ∷ []) [] p lt)) arc)
      (λ past. absurd (omega (arith, (subst (λ l. Contains l q) (get_or_past parents p [] past) arc).1)))
      (cases_lt p (length parents))

  arc_within : (p q : ℕ) → p < length parents → LeadsTo parents p q → q < length parents
  arc_within p q lt arc = All-contains (λ x. x < length parents) (get_or parents p []) q
      (All-get_or (All (λ x. x < length parents)) parents p [] lt within) arc

  -- a path from an old place is an old one
  old_path : (p q : ℕ) → p < length parents → Path (LeadsTo longer) p q → Path (LeadsTo parents) p q
  old_path p q lt path = along (LeadsTo longer) (λ x. x < length parents → Path (LeadsTo parents) x q) q
      (λ x arc below. one_arc (LeadsTo parents) x q (old_arc x q below arc))
      (λ x y arc rest below.
      let old = old_arc x y below arc in
      arc_before (LeadsTo parents) x y q old (rest (arc_within x y below old))) p path lt

  start_arc : (q : ℕ) → LeadsTo longer (length parents) q → Contains starts q
  start_arc q arc = subst (λ l. Contains l q) (get_or_push parents starts [] (length parents) refl) arc

  arc_start : (q : ℕ) → Contains starts q → LeadsTo longer (length parents) q
  arc_start q has = subst (λ l. Contains l q) (sym (get_or_push parents starts [] (length parents) refl)) has

  -- a search from the place more marks the starts and what they lead to
  pub marked_above : (marks : List Bool) → MarksReached longer (length parents) marks → AreAbove parents starts marks
  marked_above marks told = record {
    exact = λ q lt. (
      λ marked. ⊎_elim
          (λ arc. (q, start_arc q arc, inl refl))
          (λ w.
          let has = start_arc w.0 w.1 in
          (w.0, has, inr (old_path w.0 q (All-contains (λ s. s < length parents) starts w.0 low has) w.2)))
          (first_arc (LeadsTo longer) (length parents) q ((told.reached q).0 marked)),
      λ w. (told.reached q).1 (⊎_elim
          (λ same. one_arc (LeadsTo longer) (length parents) q (subst (LeadsTo longer (length parents)) same (arc_start w.0 w.1)))
          (λ path. arc_before (LeadsTo longer) (length parents) w.0 q (arc_start w.0 w.1)
          (carried (LeadsTo parents) (LeadsTo longer) (λ x. x) new_arc w.0 q path)) w.2),
    );
  }

-- ---- starts

module _ (world : World) (records : List Record) (parents : List (List ℕ)) (part : Part) (name : Text) where
  pub starts_none : AreStarts world records parents part name 0 []
  starts_none = record { exact = λ i. (λ has. absurd (omega (arith, has.1)), λ w. absurd (omega (arith, w.1))) }

  -- the record at the next place suits the part
  pub starts_more : (upto : ℕ) (starts : List ℕ) (entry : Record) → AreStarts world records parents part name upto starts
      → slice_get records upto ≡ Some entry → IsTrue (suits world part name (installed_node entry))
      → AreStarts world records parents part name (upto + 1) (starts ++ get_or parents upto [])
  starts_more upto starts entry so_far got suit = record {
    exact = λ i. (
      λ has. ⊎_elim
          (λ old. let w = (so_far.exact i).0 old in (w.0, omega (arith, w.1), w.2, w.3))
          (λ here. (upto, omega arith, (entry, got, suit), here))
          (Contains-append_cases starts (get_or parents upto []) i has),
      λ w. ⊎_elim
          (λ less. Contains-append_left starts (get_or parents upto []) i ((so_far.exact i).1 (w.0, less, w.2, w.3)))
          (λ le.
          let same : w.0 ≡ upto = omega (arith, le, w.1) in
          Contains-append_right starts (get_or parents upto []) i (subst (λ s. LeadsTo parents s i) same w.3))
          (cases_lt w.0 upto),
    );
  }

  -- it does not
  pub starts_same : (upto : ℕ) (starts : List ℕ) (entry : Record) → AreStarts world records parents part name upto starts
      → slice_get records upto ≡ Some entry → suits world part name (installed_node entry) ≡ false
      → AreStarts world records parents part name (upto + 1) starts
  starts_same upto starts entry so_far got fails = record {
    exact = λ i. (
      λ has. let w = (so_far.exact i).0 has in (w.0, omega (arith, w.1), w.2, w.3),
      λ w. ⊎_elim
          (λ less. (so_far.exact i).1 (w.0, less, w.2, w.3))
          (λ le.
          let same : upto ≡ w.0 = omega (arith, le, w.1) in
          let is : Some w.2.0 ≡ Some entry = sym w.2.1 ∙ ap (slice_get records) (sym same) ∙ got in
          let one : w.2.0 ≡ entry = cc in
          absurd (false≢true (sym fails ∙ ap (λ e. suits world part name (installed_node e)) (sym one) ∙ w.2.2)))
          (cases_lt w.0 upto),
    );
  }

  -- starts are places
  pub starts_low : (starts : List ℕ) → AreParents records parents → AreStarts world records parents part name (length records) starts
      → All (λ s. s < length parents) starts
  starts_low starts are told = all_from (λ s. s < length parents) starts (λ i has.
      let w = (told.exact i).0 has in
      All-contains (λ x. x < length parents) (get_or parents w.0 []) i
      (All-get_or (All (λ x. x < length parents)) parents w.0 [] (omega (arith, w.1, are.each)) are.within) w.3)

  -- what is marked is what the part is met below
  pub met_where_marked : (starts : List ℕ) (marks : List Bool) → part.name ≡ Some name → AreParents records parents
      → AreStarts world records parents part name (length records) starts → AreAbove parents starts marks
      → AreMarks records (λ entry. IsMetBelow world records entry part) marks
  met_where_marked starts marks named are told above = record {
    exact = λ place entry got.
        let lt : place < length parents = omega (arith, got_lt records place entry got, are.each) in
        let at = hash_there records place entry got in (
          λ marked.
              let w = (above.exact place lt).0 marked in
              let s = (told.exact w.0).0 w.1 in
              let path : Path (LeadsTo parents) s.0 place = ⊎_elim
              (λ same. one_arc (LeadsTo parents) s.0 place (subst (LeadsTo parents s.0) same s.3))
              (λ path. arc_before (LeadsTo parents) s.0 w.0 place s.3 path) w.2 in
              record {
                name = name;
                named = named;
                below = s.2.0;
                there = (s.0, got_lt records s.0 s.2.0 s.2.1, got_is records s.0 s.2.0 s.2.0 s.2.1);
                chained = (are.chained entry.hash s.2.0.hash place s.0 at (hash_there records s.0 s.2.0 s.2.1)).0 path;
                holds = s.2.2;
              },
          λ met.
              let same_name : Some met.name ≡ Some name = sym met.named ∙ named in
              let is_name : met.name ≡ name = cc in
              let s = met.there.0 in
              let got_s : slice_get records s ≡ Some met.below = got_from records s met.below met.below met.there.1 met.there.2 in
              let suit : SuitsAt world records part name s =
              (met.below, got_s, subst (λ n. IsTrue (suits world part n (installed_node met.below))) is_name met.holds) in
              let path = (are.chained entry.hash met.below.hash place s at (hash_there records s met.below got_s)).1 met.chained in
              (above.exact place lt).1 (⊎_elim
              (λ arc. (place, (told.exact place).1 (s, met.there.1, suit, arc), inl refl))
              (λ w. (w.0, (told.exact w.0).1 (s, met.there.1, suit, w.1), inr w.2))
              (first_arc (LeadsTo parents) s place path)),
        );
  }

-- a part without a name is met nowhere
pub met_nowhere : (world : World) (records : List Record) (part : Part) (marks : List Bool) (n : ℕ) → part.name ≡ None
    → marks ≡ replicate n false → AreMarks records (λ entry. IsMetBelow world records entry part) marks
met_nowhere world records part marks n none are = record {
  exact = λ place entry got. (
    λ marked. absurd (no_marks n place (subst (λ ms. IsMarked ms place) are marked)),
    λ met. absurd (let no : None ≡ Some met.name = sym none ∙ met.named in cc),
  );
}
