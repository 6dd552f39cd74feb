-- The segments of a call are no larger than its tokens.
use Rattle.std.proofs.Common.{◌≡◌, refl, ℕ, ◌+◌, ◌≤◌, List, [], ◌∷◌, sum_by, arith}
use Rattle.std.specs.Prelude.{Ok, Err, ◌==◌, ◌||◌}
use Rattle.std.proofs.lemmas.List.Sums.{sum_by-cons}
use Rattle.recipe_lexer.specs.declared.token.Token.{Token}
use Rattle.recipe_lexer.specs.declared.token.TokenKind.{TokenKind}
use Rattle.recipe_lexer.specs.declared.token.TokenKind.TheVariants.{Op}
use Rattle.recipe_values.specs.declared.value.Element.{Element}
use Rattle.recipe_values.specs.declared.value.Value.TheVariants.{Many}
use Rattle.recipe_values.specs.declared.value.PlacedValue.{PlacedValue}
use Rattle.recipe_values.specs.declared.segment.Atom.{Atom}
use Rattle.recipe_values.specs.declared.segment.Atom.TheVariants.{Plain, Inner}
use Rattle.recipe_values.specs.declared.segment.Segment.{Segment}
use Rattle.recipe_values.specs.declared.levels.Level.{Level}
use Rattle.recipe_values.specs.declared.levels.Levels.{Levels}
use Rattle.recipe_values.specs.Reads.{Read, then_read}
use Rattle.recipe_values.specs.Values.{is_empty, segment_value}
use Rattle.recipe_values.specs.Brackets.{without_last, segments_of, element, elements, many, bracketed, is_around, group, put_atom, cut, enter, leave_by, leave, ends_bracket, begins_bracket, with_sign, with_kind, levels_of, arguments_of}
use Rattle.recipe_lexer.proofs.Keeping.{cond_all}
use Rattle.file_limits.proofs.Sizes.{token_size, tokens_size, read_size, atom_size, segment_size, level_size, levels_size}
use Rattle.file_limits.proofs.TokenCounts.{Few, few-more, few-join}
use Rattle.file_limits.proofs.ValueSizes.{ReadFits, value-fits}

-- ---- what brackets stand for

element-few : (n : ℕ) (r : Read PlacedValue) → ReadFits n r → Few n (then_read r (λ (x : PlacedValue). Ok (element x ∷ [])))
element-few n (Ok r) h = omega (arith, h.1)
element-few n (Err place) h = tt

elements-few : (bytes : List ℕ) (segments : List Segment) → Few (sum_by segment_size segments) (elements bytes segments)
unfolding elements
elements-few bytes [] = omega arith
elements-few bytes (s ∷ more) =
    let both = few-join (segment_size s) (sum_by segment_size more)
    (then_read (segment_value bytes s) (λ (x : PlacedValue). Ok (element x ∷ [])))
    (elements bytes more) (element-few (segment_size s) (segment_value bytes s) (value-fits bytes s)) (elements-few bytes more) in
    few-more (segment_size s + sum_by segment_size more) (sum_by segment_size (s ∷ more)) _ both
    (omega (arith, sum_by-cons segment_size s more))

without-last : (segments : List Segment) → sum_by segment_size (without_last segments) ≤ sum_by segment_size segments
without-last [] = omega arith
without-last (s ∷ []) =
    cond_all (λ (kept : List Segment). sum_by segment_size kept ≤ sum_by segment_size (s ∷ [])) (is_empty s.atoms) [] (s ∷ [])
    (λ e. omega arith) (λ e. omega arith)
without-last (s ∷ t ∷ more) =
    omega (
      arith,
      without-last (t ∷ more),
      sum_by-cons segment_size s (t ∷ more),
      sum_by-cons segment_size s (without_last (t ∷ more)),
    )

segments-size : (level : Level) → sum_by segment_size (segments_of level) ≤ level_size level
segments-size level = omega (arith, without-last (level.here ∷ level.behind), sum_by-cons segment_size level.here level.behind)

many-size : (bytes : List ℕ) (place n : ℕ) (segments : List Segment) → sum_by segment_size segments ≤ n
    → read_size (many bytes place segments) ≤ n
many-size bytes place n segments le = many-size-cases (elements bytes segments) (elements-few bytes segments)
  where
    many-size-cases : (r : Read (List Element)) → Few (sum_by segment_size segments) r
        → read_size (then_read r (λ (found : List Element). Ok (record { value = Many found; place = place; token = place }))) ≤ n
    many-size-cases (Ok found) h = omega (arith, h, le)
    many-size-cases (Err p) h = omega arith

around-size : (n place : ℕ) (r : Read PlacedValue) → ReadFits n r → read_size (bracketed place r) ≤ n
around-size n place (Ok r) h = h.0
around-size n place (Err p) h = omega arith

group-size : (bytes : List ℕ) (sign place : ℕ) (level : Level) → read_size (group bytes sign place level) ≤ level_size level
unfolding group
group-size bytes sign place level =
    let n : ℕ = level_size level in
    cond_all (λ r. read_size r ≤ n) (is_around sign level) (bracketed place (segment_value bytes level.here)) _
    (λ e. let here = around-size (segment_size level.here) place (segment_value bytes level.here) (value-fits bytes level.here) in
    omega (arith, here))
    (λ e. cond_all (λ r. read_size r ≤ n) (sign == 40 || sign == 91) (many bytes place (segments_of level)) (Err place)
    (λ f. many-size bytes place n (segments_of level) (segments-size level)) (λ f. omega arith))

-- ---- the tokens of a call, from the right

put-size : (a : Atom) (levels : Levels) → levels_size (put_atom a levels) ≡ atom_size a + levels_size levels
put-size a levels = omega (arith, sum_by-cons atom_size a levels.inner.here.atoms)

cut-size : (place : ℕ) (levels : Levels) → levels_size (cut place levels) ≡ levels_size levels
cut-size place levels = omega (arith, sum_by-cons segment_size levels.inner.here levels.inner.behind)

enter-size : (place : ℕ) (levels : Levels) → levels_size (enter place levels) ≡ levels_size levels
enter-size place levels = omega (arith, sum_by-cons level_size levels.inner levels.around)

leave-by : (bytes : List ℕ) (sign place : ℕ) (level : Level) (around : List Level)
    → levels_size (leave_by bytes sign place level around) ≤ level_size level + sum_by level_size around + 1
leave-by bytes sign place level [] = omega arith
leave-by bytes sign place level (outer ∷ around) =
    omega (
      arith,
      put-size (Inner place (group bytes sign place level)) (record { inner = outer; around = around }),
      group-size bytes sign place level,
      sum_by-cons level_size outer around,
    )

sign-size : (bytes : List ℕ) (b : ℕ) (t : Token) (levels : Levels) → t.kind ≡ Op b
    → levels_size (with_sign bytes b t levels) ≤ levels_size levels + token_size t
sign-size bytes b t levels is =
    let one : 1 ≤ token_size t = rw is (omega arith) in
    let P = λ (after : Levels). levels_size after ≤ levels_size levels + token_size t in
    cond_all P (ends_bracket b) (enter t.start levels) _ (λ e. omega (arith, enter-size t.start levels)) (λ e.
    cond_all P (begins_bracket b) (leave bytes b t.start levels) _
    (λ f. omega (arith, one, leave-by bytes b t.start levels.inner levels.around)) (λ f.
    cond_all P (b == 44) (cut t.start levels) (put_atom (Plain t) levels) (λ g. omega (arith, cut-size t.start levels))
    (λ g. omega (arith, put-size (Plain t) levels))))

kind-size : (bytes : List ℕ) (k : TokenKind) (t : Token) (levels : Levels) → t.kind ≡ k
    → levels_size (with_kind bytes k t levels) ≤ levels_size levels + token_size t
kind-size bytes (Op b) t levels is = sign-size bytes b t levels is
kind-size bytes k t levels is = omega (arith, put-size (Plain t) levels)

levels-size : (bytes : List ℕ) (stop : ℕ) (tokens : List Token) → levels_size (levels_of bytes stop tokens) ≤ tokens_size tokens
unfolding levels_of
levels-size bytes stop [] = omega arith
levels-size bytes stop (t ∷ rest) =
    omega (
      arith,
      levels-size bytes stop rest,
      kind-size bytes t.kind t (levels_of bytes stop rest) refl,
      sum_by-cons token_size t rest,
    )

-- the segments of a call are no larger than its tokens
pub arguments-size : (bytes : List ℕ) (stop : ℕ) (tokens : List Token)
    → sum_by segment_size (arguments_of bytes stop tokens) ≤ tokens_size tokens
unfolding arguments_of
arguments-size bytes stop tokens =
    omega (
      arith,
      segments-size (levels_of bytes stop tokens).inner,
      levels-size bytes stop tokens,
    )
