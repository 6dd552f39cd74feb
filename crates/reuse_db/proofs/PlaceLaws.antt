-- Hashes of records: one more hash, and a hash that stands twice.
use Rattle.std.proofs.Common.{◌≡◌, sym, ap, subst, ◌∙◌, ℕ, ◌+◌, ◌-◌, ◌<◌, List, [], ◌∷◌, ◌++◌, length, get_or, take, Contains, arith}
use Rattle.std.proofs.lemmas.List.{take_more, get_or-map, get_or_default, length-map}
use Rattle.reuse_db.specs.declared.record.Record.{Record}
use Rattle.reuse_db.specs.Databases.{hashes_of, IsTwice}

module _ (entries : List Record) (i : ℕ) (entry : Record) (lt : i < length entries) (is : entry ≡ get_or entries i entry) where
  -- the hashes of one record more
  pub hashes_more : take (i + 1) (hashes_of entries) ≡ take i (hashes_of entries) ++ entry.hash ∷ []
  hashes_more = take_more (hashes_of entries) i entry.hash (omega (arith, lt, length-map entries (λ (e : Record). e.hash)))
      ∙ ap (λ l. take i (hashes_of entries) ++ l ∷ []) (get_or-map (λ (e : Record). e.hash) entries i entry entry.hash lt
      ∙ ap (λ (e : Record). e.hash) (sym is))

  -- a hash that stood before stands twice
  pub twice : Contains (take i (hashes_of entries)) entry.hash → IsTwice entries i
  twice there =
      (lt, λ d. subst (λ (e : Record). Contains (take i (hashes_of entries)) e.hash) (is ∙ get_or_default entries i entry d lt) there)

  -- a hash that did not stand before does not stand twice
  pub not_twice : (Contains (take i (hashes_of entries)) entry.hash → ⊥) → IsTwice entries i → ⊥
  not_twice lacks is_twice = lacks (subst (λ (e : Record). Contains (take i (hashes_of entries)) e.hash) (sym is) (is_twice.1 entry))
