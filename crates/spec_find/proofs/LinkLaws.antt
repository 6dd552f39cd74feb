-- Chains of dependencies, and paths from records to those that need them.
use Rattle.std.proofs.Common.{◌≡◌, ◌↔◌, cond, refl, sym, ap, subst, ◌∙◌, ℕ, ◌+◌, ◌<◌, Bool, true, false, not, List, [], ◌∷◌, ◌++◌, length, get_or, take, map, filter, Contains, Option, Some, None, ◌⊎◌, ⊎_elim, arith}
use Rattle.std.specs.List.{find, list_any, slice_get}
use Rattle.std.specs.Str.{bytes_eq}
use Rattle.std.specs.Cmp.Lexicographic.{bytes_decides}
use Rattle.std.proofs.lemmas.Bool.{and_cases, false≢true}
use Rattle.std.proofs.lemmas.List.{map-append, append-nil, append_assoc, take_more}
use Rattle.std.proofs.lemmas.Grind.{flat_map-append}
use Rattle.std.proofs.lemmas.Map.Views.{Contains-from_any}
use Rattle.std.proofs.lemmas.List.Elements.{filter-append}
use Rattle.reachability.specs.Paths.{Path, HasArc}
use Rattle.reachability.specs.Places.{IsAt, AreOnce, AreNumbered, AreHeads, AreWithin, LeadsTo}
use Rattle.reachability.proofs.CountLaws.{first_or_later, has_image, image_of}
use Rattle.reachability.proofs.HeadLaws.{number_path, zip_push}
use Rattle.reachability.proofs.PathLaws.{one_arc, two_paths, along, carried}
use Rattle.graph_core.specs.Graphs.{Text}
use Rattle.reuse_db.specs.declared.record.Dependency.{Dependency}
use Rattle.reuse_db.specs.Databases.{AreRecords, hashes_of, is_lost, dangling, lost_or}
use Rattle.reuse_db.specs.declared.record.Record.{Record}
use Rattle.spec_find.specs.Found.{is_kept, links_of, links_in}
use Rattle.spec_find.specs.Marks.{flip, flipped, AreParents}
use Rattle.spec_find.proofs.OrderLaws.{got_lt, got_is, hash_there}

-- ---- arcs the other way

module _ {K : Type 0} where
  -- a path over arcs the other way leads back
  pub path_back : (Joins Others : K → K → Type 0) → ((p q : K) → Joins p q → Others q p) → (p q : K) → Path Joins p q → Path Others q p
  path_back Joins Others back p q path = along Joins (λ x. Path Others q x) q (λ x arc. one_arc Others q x (back x q arc))
      (λ x y arc rest. two_paths Others q y x rest (one_arc Others y x (back x y arc))) p path

  there_flipped : (arcs : List (K × K)) (p q : K) → HasArc arcs p q → HasArc (flipped arcs) q p
  there_flipped arcs p q arc = has_image flip arcs (p, q) arc

  back_flipped : (arcs : List (K × K)) (q p : K) → HasArc (flipped arcs) q p → HasArc arcs p q
  back_flipped arcs q p arc =
      let pair = image_of flip arcs (q, p) arc in
      let first : pair.0.0 ≡ p = ap (λ x. x.1) pair.2 in
      let second : pair.0.1 ≡ q = ap (λ x. x.0) pair.2 in
      subst (Contains arcs) (λ i. (first i, second i)) pair.1

  -- paths over flipped arcs are those over the arcs, the other way
  pub flipped_path : (arcs : List (K × K)) (p q : K) → Path (HasArc (flipped arcs)) q p ↔ Path (HasArc arcs) p q
  flipped_path arcs p q = (
    path_back (HasArc (flipped arcs)) (HasArc arcs) (back_flipped arcs) q p,
    path_back (HasArc arcs) (HasArc (flipped arcs)) (there_flipped arcs) p q,
  )

-- ---- dependencies are records

found_none : {X : Type 0} (p : X → Bool) (xs : List X) → find p xs ≡ None → (x : X) → Contains xs x → p x ≡ false
found_none p [] none x has = absurd (omega (arith, has.1))
found_none p (y ∷ ys) none x has = by_test (p y) refl none (λ rest later. found_none p ys rest x later)
  where
    by_test : (b : Bool) → p y ≡ b → cond b (Some y) (find p ys) ≡ None → (find p ys ≡ None → Contains ys x → p x ≡ false) → p x ≡ false
    by_test true is all further = absurd (let no : Some y ≡ None = all in cc)
    by_test false is all further = ⊎_elim (λ same. ap p (sym same) ∙ is) (λ later. further all later) (first_or_later y ys x has)

lost_none : (hashes : List Text) (records : List Record) → dangling hashes records ≡ None → (entry : Record) → Contains records entry
    → find (is_lost hashes) entry.dependencies ≡ None
lost_none hashes [] none entry has = absurd (omega (arith, has.1))
lost_none hashes (e ∷ es) none entry has =
    by_first (find (is_lost hashes) e.dependencies) refl none (λ rest later. lost_none hashes es rest entry later)
  where
    by_first : (o : Option Dependency) → find (is_lost hashes) e.dependencies ≡ o → lost_or e o (dangling hashes es) ≡ None
        → (dangling hashes es ≡ None → Contains es entry → find (is_lost hashes) entry.dependencies ≡ None)
        → find (is_lost hashes) entry.dependencies ≡ None
    by_first None is all further = ⊎_elim
        (λ same. ap (λ (x : Record). find (is_lost hashes) x.dependencies) (sym same) ∙ is)
        (λ later. further all later) (first_or_later e es entry has)
    by_first (Some d) is all further = absurd (let no : Some (e.hash, d.hash) ≡ None = all in cc)

-- a link or run dependency of a record is a record
pub kept_there : (records : List Record) → AreRecords records → (place : ℕ) (entry : Record) → slice_get records place ≡ Some entry
    → (d : Dependency) → Contains entry.dependencies d → is_kept d ≡ true → Contains (hashes_of records) d.hash
kept_there records right place entry got d has kept =
    let there : Contains records entry = (place, got_lt records place entry got, got_is records place entry entry got) in
    let not_lost = found_none (is_lost (hashes_of records)) entry.dependencies
    (lost_none (hashes_of records) records right.known entry there) d has in
    ⊎_elim
    (λ fails. absurd (false≢true (sym fails ∙ kept)))
    (λ known. Contains-from_any {eq = bytes_eq} (λ x y e. (bytes_decides x y).0 e) d.hash (hashes_of records)
    (not_false (list_any (bytes_eq d.hash) (hashes_of records)) known))
    (and_cases (is_kept d) (not (list_any (bytes_eq d.hash) (hashes_of records))) not_lost)
  where
    not_false : (b : Bool) → not b ≡ false → b ≡ true
    not_false true e = refl
    not_false false e = absurd (let bad : true ≡ false = e in cc)

-- ---- arcs by places

module _ (keys : List Text) where
  -- the arcs of one record more
  pub numbered_append : (links more : List (Text × Text)) (numbers others : List (ℕ × ℕ)) → AreNumbered keys links numbers
      → AreNumbered keys more others → AreNumbered keys (links ++ more) (numbers ++ others)
  numbered_append [] more [] others first then = then
  numbered_append [] more (n ∷ ns) others first then = elim first [ ]
  numbered_append (l ∷ ls) more [] others first then = elim first [ ]
  numbered_append (l ∷ ls) more (n ∷ ns) others first then = (first.0, numbered_append ls more ns others first.1 then)

  -- one link more, behind those of others
  pub numbered_push : (links front : List (Text × Text)) (link : Text × Text) (numbers : List (ℕ × ℕ)) (number : ℕ × ℕ)
      → AreNumbered keys (links ++ front) numbers → IsAt keys link.0 number.0 → IsAt keys link.1 number.1
      → AreNumbered keys (links ++ (front ++ link ∷ [])) (numbers ++ number ∷ [])
  numbered_push links front link numbers number so_far first second =
      subst (λ l. AreNumbered keys l (numbers ++ number ∷ [])) (append_assoc links front (link ∷ []))
      (zip_push (λ arc n. IsAt keys arc.0 n.0 × IsAt keys arc.1 n.1) (links ++ front) numbers link number so_far (first, second))

-- the links of one dependency more, which is kept
pub links_kept : (entry : Record) (done : ℕ) (d : Dependency) → done < length entry.dependencies → d ≡ get_or entry.dependencies done d
    → is_kept d ≡ true
    → flipped (map (λ x. (entry.hash, x.hash)) (filter is_kept (take (done + 1) entry.dependencies)))
    ≡ flipped (map (λ x. (entry.hash, x.hash)) (filter is_kept (take done entry.dependencies))) ++ (d.hash, entry.hash) ∷ []
links_kept entry done d lt is kept =
    rw (
      take_more entry.dependencies done d lt,
      ← is,
      filter-append is_kept (take done entry.dependencies) (d ∷ []),
      kept,
      map-append,
      map-append,
    ) refl

-- and of one that is not
pub links_same : (entry : Record) (done : ℕ) (d : Dependency) → done < length entry.dependencies → d ≡ get_or entry.dependencies done d
    → is_kept d ≡ false
    → flipped (map (λ x. (entry.hash, x.hash)) (filter is_kept (take (done + 1) entry.dependencies)))
    ≡ flipped (map (λ x. (entry.hash, x.hash)) (filter is_kept (take done entry.dependencies)))
links_same entry done d lt is fails =
    rw (take_more entry.dependencies done d lt, ← is, filter-append is_kept (take done entry.dependencies) (d ∷ []), fails, append-nil) refl

-- two records at one place are one, with one list of dependencies
pub same_dependencies : (records : List Record) (place : ℕ) (e entry : Record) (items : List Dependency) → slice_get records place ≡ Some e
    → slice_get records place ≡ Some entry → items ≡ e.dependencies → items ≡ entry.dependencies
same_dependencies records place e entry items got got_other is =
    let both : Some e ≡ Some entry = sym got ∙ got_other in
    let one : e ≡ entry = cc in
    is ∙ ap (λ (x : Record). x.dependencies) one

-- one arc more, of a dependency that is kept
pub one_arc_more : (records : List Record) (place : ℕ) (entry : Record) → slice_get records place ≡ Some entry → (done : ℕ) (d : Dependency)
    → done < length entry.dependencies → d ≡ get_or entry.dependencies done d → is_kept d ≡ true → (a : ℕ)
    → IsAt (hashes_of records) d.hash a
    → (links : List (Text × Text)) (arcs : List (ℕ × ℕ))
    → AreNumbered (hashes_of records) (links ++ flipped (map (λ x. (entry.hash, x.hash)) (filter is_kept (take done entry.dependencies))))
    arcs
    → AreNumbered (hashes_of records) (links ++ flipped
    (map (λ x. (entry.hash, x.hash)) (filter is_kept (take (done + 1) entry.dependencies))))
    (arcs ++ (a, place) ∷ [])
one_arc_more records place entry got done d lt is kept a at links arcs so_far =
    subst (λ l. AreNumbered (hashes_of records) (links ++ l) (arcs ++ (a, place) ∷ [])) (sym (links_kept entry done d lt is kept))
    (numbered_push (hashes_of records) links (flipped (map (λ x. (entry.hash, x.hash)) (filter is_kept (take done entry.dependencies))))
    (d.hash, entry.hash) arcs (a, place) so_far at (hash_there records place entry got))

-- the links of one record more
pub links_more : (records : List Record) (place : ℕ) (entry : Record) → slice_get records place ≡ Some entry
    → flipped (links_in (take (place + 1) records)) ≡ flipped (links_in (take place records)) ++ flipped (links_of entry)
links_more records place entry got =
    let lt = got_lt records place entry got in
    ap flipped (ap links_in (take_more records place entry lt
    ∙ ap (λ x. take place records ++ x ∷ []) (got_is records place entry entry got))
    ∙ flat_map-append links_of (take place records) (entry ∷ [])
    ∙ ap (λ l. links_in (take place records) ++ l) (append-nil (links_of entry)))
    ∙ map-append flip (links_in (take place records)) (links_of entry)

-- ---- paths over places

-- what paths over places tell of chains
pub are_parents : (records : List Record) (numbers : List (ℕ × ℕ)) (heads : List (List ℕ)) → AreOnce (hashes_of records)
    → AreNumbered (hashes_of records) (flipped (links_in records)) numbers → AreHeads (length records) numbers heads → AreWithin heads
    → AreParents records heads
are_parents records numbers heads once numbered are within = record {
  each = are.each;
  within = within;
  chained = λ p q i j at_i at_j.
      let by_key = number_path (hashes_of records) (flipped (links_in records)) numbers numbered once q p j i at_j at_i in
      let turned = flipped_path (links_in records) p q in (
        λ path. turned.0 (by_key.0 (carried (LeadsTo heads) (HasArc numbers) (λ x. x) (λ x y. (are.same x y).0) j i path)),
        λ chain. carried (HasArc numbers) (LeadsTo heads) (λ x. x) (λ x y. (are.same x y).1) j i (by_key.1 (turned.1 chain)),
      );
}
