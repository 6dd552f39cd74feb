-- A variant is governed exactly where it has a governing definition.
use Rattle.std.proofs.Common.{◌≡◌, refl, sym, ◌∙◌, Bool, true, false, ◌&&◌, ◌||◌, ℕ, List, [], ◌∷◌, map, cond, Option, Some, None}
use Rattle.std.specs.List.{list_any, filter}
use Rattle.std.specs.Option.{is_some, option_or}
use Rattle.std.specs.Str.{bytes_eq}
use Rattle.std.specs.Ordering.{match_ordering}
use Rattle.std.specs.declared.cmp.Ordering.TheVariants.{Less, Equal, Greater}
use Rattle.std.specs.Cmp.Lexicographic.{nat_list_eq_equiv, texts_ties, same_text}
use Rattle.std.specs.BTreeSet.{insert_key}
use Rattle.std.proofs.Math.Bool.{or-false, and-true, and-false}
use Rattle.problem.specs.OfVariantValues.Texts.{byte_cmp, with_text, with_texts}
use Rattle.problem.specs.OfGraphCore.Graphs.{Text, Content}
use Rattle.problem.specs.OfConditionRules.Words.{is_one_text, find_last}
use Rattle.problem.specs.OfGraphCore.Node.{Node}
use Rattle.problem.specs.OfConditionRules.Holds.{governing}
use Rattle.problem.specs.OfRecipeData.VariantRow.{VariantRow}
use Rattle.problem.specs.Problems.{world_of, variants_at, applies, Problem}
use Rattle.graph_rules.specs.Built.{governed}

-- ---- truth

or_again : (a b : Bool) → (a || (a || b)) ≡ (a || b)
or_again true b = refl
or_again false b = refl

or_swap : (a b c : Bool) → (a || (b || c)) ≡ (b || (a || c))
or_swap true true c = refl
or_swap true false c = refl
or_swap false true c = refl
or_swap false false c = refl

-- ---- texts put together

same_key : (a b : List ℕ) → byte_cmp a b ≡ Equal → a ≡ b
same_key a b e = same_text a b (sym (texts_ties a b ∙ rw e refl))

among-with_text : (texts : List Text) (word text : Text)
    → is_one_text (with_text texts word) text ≡ (bytes_eq text word || is_one_text texts text)
among-with_text [] word text = refl
among-with_text (t ∷ ts) word text =
    let rest = among-with_text ts word text in
    elim (byte_cmp word t) as (λ o. byte_cmp word t ≡ o
    → is_one_text (match_ordering o (word ∷ t ∷ ts) (t ∷ ts) (t ∷ insert_key byte_cmp ts word)) text
    ≡ (bytes_eq text word || (bytes_eq text t || is_one_text ts text))) [
      | Less ↦ λ e. refl
      | Equal ↦ λ e. rw (same_key word t e) (sym (or_again (bytes_eq text t) (is_one_text ts text)))
      | Greater ↦ λ e. rw rest (or_swap (bytes_eq text t) (bytes_eq text word) (is_one_text ts text))
    ] refl

among-with_texts : (texts words : List Text) (text : Text)
    → is_one_text (with_texts texts words) text ≡ (is_one_text words text || is_one_text texts text)
unfolding with_texts
among-with_texts texts [] text = refl
among-with_texts texts (word ∷ words) text =
    among-with_texts (with_text texts word) words text
    ∙ rw (among-with_text texts word text) (or_swap (is_one_text words text) (bytes_eq text word) (is_one_text texts text)
    ∙ or_assoc (bytes_eq text word) (is_one_text words text) (is_one_text texts text))
  where
    or_assoc : (a b c : Bool) → (a || (b || c)) ≡ ((a || b) || c)
    or_assoc true b c = refl
    or_assoc false b c = refl

-- ---- the last of those that pass

some-or : {T : Type 0} (a b : Option T) → is_some (option_or a b) ≡ (is_some a || is_some b)
some-or None b = refl
some-or (Some x) b = refl

or_turn : (a b : Bool) → (a || b) ≡ (b || a)
or_turn true true = refl
or_turn true false = refl
or_turn false true = refl
or_turn false false = refl

some-if : {T : Type 0} (b : Bool) (x : T) → is_some (cond b (Some x) None) ≡ b
some-if true x = refl
some-if false x = refl

is_some-find_last : {T : Type 0} (p : T → Bool) (xs : List T) → is_some (find_last p xs) ≡ list_any p xs
is_some-find_last p [] = refl
is_some-find_last p (x ∷ xs) =
    some-or (find_last p xs) (cond (p x) (Some x) None) ∙ rw (is_some-find_last p xs, some-if (p x) x) (or_turn (list_any p xs) (p x))

-- an element with a key that passes, and the key among those of the elements that pass
with_key : {T : Type 0} (key : T → Text) (p : T → Bool) (xs : List T) (text : Text)
    → list_any (λ x. bytes_eq (key x) text && p x) xs ≡ is_one_text (map key (filter p xs)) text
with_key key p [] text = refl
with_key key p (x ∷ xs) text =
    elim (p x) as (λ b. ((bytes_eq (key x) text && b) || list_any (λ y. bytes_eq (key y) text && p y) xs)
    ≡ is_one_text (map key (cond b (x ∷ filter p xs) (filter p xs))) text) [
      | true ↦ rw (and-true (bytes_eq (key x) text), nat_list_eq_equiv.symm (key x) text, with_key key p xs text) refl
      | false ↦ rw (and-false (bytes_eq (key x) text), with_key key p xs text) refl
    ]

-- a variant is governed exactly where a row governs it
pub governed-governing : (problem : Problem) (graph : Content) (node : Node) (variant : Text)
    → is_one_text (governed problem graph node) variant ≡ is_some (governing (world_of problem) graph node.name variant)
unfolding governing
governed-governing problem graph node variant =
    let rows = variants_at problem node.name in
    let holding : VariantRow → Bool = λ row. applies problem graph row.when node in
    among-with_texts [] (map (λ row. row.name) (filter holding rows)) variant
    ∙ or-false (is_one_text (map (λ row. row.name) (filter holding rows)) variant)
    ∙ sym (with_key (λ row. row.name) holding rows variant)
    ∙ sym (is_some-find_last (λ row. bytes_eq row.name variant && holding row) rows)
