-- What a step does, and what is still to come behind it, is what was to come before.
use Rattle.std.proofs.Common.{◌≡◌, ◌∙◌, ℕ, ◌+◌, ◌-◌, Bool, true, false, cond, List, [], ◌∷◌, ◌++◌, refl, ap, sym, arith, zero, suc}
use Rattle.std.specs.Prelude.{Ok, Err, nat_lt, ◌||◌}
use Rattle.std.proofs.lemmas.Bool.{ne_eqb, lt-ltb}
use Rattle.recipe_statements.specs.Lines.{plain_form, head_form}
use Rattle.recipe_statements.specs.Blocks.{LogicalLine, StatementBlock, Empty, top_block, others, line_in_front, all_blocks}
use Rattle.recipe_statements.specs.Statements.{Items, join_items, deepest, place, call_item, when_item, plain_items, headed_items, body, outer_plain, outer_headed, is_class, outer}
use Rattle.recipe_statements.specs.Inside.{State, Step, took_plain, took_headed, took, closed, rest_of, remaining}
use Rattle.recipe_statements.specs.declared.form.PlainForm.{PlainForm}
use Rattle.recipe_statements.specs.declared.form.PlainForm.TheVariants as plain
use Rattle.recipe_statements.specs.declared.form.HeadForm.{HeadForm}
use Rattle.recipe_statements.specs.declared.form.HeadForm.TheVariants as head
use Rattle.recipe_statements.specs.declared.item.ClassItem.{ClassItem}
use Rattle.recipe_statements.specs.declared.item.StatementFault.TheVariants as fault
use Rattle.recipe_statements.proofs.Joins.{join_none, join_assoc, join_push, top_followed, drop_others}

-- a step led to a state from which `following` is to come, or to a fault; together they are `all`
abbrev pub Agrees : List ℕ → List StatementBlock → Items → Step → Type 0
Agrees bytes following all (Ok t) = remaining bytes t following ≡ all
Agrees bytes following all (Err e) = all ≡ Err e

agrees_by : (bytes : List ℕ) (following : List StatementBlock) (a b : Items) (step : Step) → a ≡ b → Agrees bytes following b step
    → Agrees bytes following a step
agrees_by bytes following a b (Ok t) e agrees = agrees ∙ sym e
agrees_by bytes following a b (Err f) e agrees = e ∙ agrees

some_passed : (n : ℕ) → nat_lt 0 (suc n) ≡ true
some_passed n = lt-ltb 0 (suc n) (omega arith)

sub_suc : (n : ℕ) → suc n - 1 ≡ n
sub_suc n = omega arith

-- ---- the end of a block

abbrev pub at : Bool → ℕ → ℕ → ℕ → List ClassItem → State
at seen level passed first items = record { seen = seen; level = level; passed = passed; first = first; items = items }

closed_by : (bytes : List ℕ) (seen : Bool) (level passed first : ℕ) (items : List ClassItem) (following : List StatementBlock)
    → remaining bytes (closed (at seen level passed first items)) following ≡ remaining bytes (at seen level passed first items)
    (Empty ∷ following)
unfolding closed remaining rest_of body
closed_by bytes seen level (suc n) first items following = rw (some_passed n, sub_suc n) refl
closed_by bytes seen zero zero first items following = refl
closed_by bytes seen (suc d) zero first items following = rw (sub_suc d, join_none) refl

-- a block that is closed counts as an empty one before the rest
pub closed_law : (bytes : List ℕ) (s : State) (following : List StatementBlock)
    → remaining bytes (closed s) following ≡ remaining bytes s (Empty ∷ following)
closed_law bytes s following = closed_by bytes s.seen s.level s.passed s.first s.items following

-- ---- a line

plain_outer : (bytes : List ℕ) (line : LogicalLine) (form : PlainForm) (seen : Bool) (first : ℕ) (items : List ClassItem)
    (bs : List StatementBlock)
    → Agrees bytes bs (join_items (Ok items) (outer_plain form line (outer bytes seen (all_blocks bs))))
    (took_plain form line (at seen zero zero first items))
unfolding remaining rest_of
plain_outer bytes line plain.Passed seen first items bs = refl
plain_outer bytes line plain.Directive seen first items bs = refl
plain_outer bytes line plain.Other seen first items bs = refl

plain_body : (bytes : List ℕ) (line : LogicalLine) (form : PlainForm) (seen : Bool) (d first : ℕ) (items : List ClassItem)
    (bs : List StatementBlock)
    → Agrees bytes bs
    (join_items (Ok items) (join_items (plain_items form line d (body bytes d (top_block bs))) (rest_of bytes seen d (others bs))))
    (took_plain form line (at seen (suc d) zero first items))
unfolding remaining rest_of
plain_body bytes line plain.Passed seen d first items bs = refl
plain_body bytes line plain.Directive seen d first items bs =
    rw (ne_eqb (suc d) 0 (omega arith), sub_suc d)
    (join_push items (call_item line d) (join_items (body bytes d (top_block bs)) (rest_of bytes seen d (others bs)))
    ∙ ap (join_items (Ok items)) (join_assoc (Ok (call_item line d ∷ [])) (body bytes d (top_block bs)) (rest_of bytes seen d (others bs))))
plain_body bytes line plain.Other seen d first items bs = refl

headed_outer : (bytes : List ℕ) (line : LogicalLine) (form : HeadForm) (seen : Bool) (first : ℕ) (items : List ClassItem)
    (bs : List StatementBlock)
    → Agrees bytes bs
    (join_items (Ok items) (outer_headed form line seen (body bytes 0 (top_block bs))
    (outer bytes (seen || is_class form) (all_blocks (others bs)))))
    (took_headed form line (at seen zero zero first items))
unfolding remaining rest_of
headed_outer bytes line head.Passed true first items bs =
    ap (λ (b : List StatementBlock). join_items (Ok items) (outer bytes true (all_blocks b))) (sym (drop_others 0 bs))
headed_outer bytes line head.Passed false first items bs =
    ap (λ (b : List StatementBlock). join_items (Ok items) (outer bytes false (all_blocks b))) (sym (drop_others 0 bs))
headed_outer bytes line head.Class true first items bs = refl
headed_outer bytes line head.Class false first items bs = refl
headed_outer bytes line head.When seen first items bs = refl
headed_outer bytes line head.Other seen first items bs = refl

headed_body : (bytes : List ℕ) (line : LogicalLine) (form : HeadForm) (seen : Bool) (d first : ℕ) (items : List ClassItem)
    (bs : List StatementBlock)
    → Agrees bytes bs
    (join_items (Ok items) (join_items (headed_items form line d (body bytes (d + 1) (top_block bs)) (body bytes d (top_block (others bs))))
    (rest_of bytes seen d (others (others bs))))) (took_headed form line (at seen (suc d) zero first items))
unfolding remaining rest_of
headed_body bytes line head.Passed seen d first items bs =
    ap (λ (b : List StatementBlock). join_items (Ok items) (join_items (body bytes d (top_block b)) (rest_of bytes seen d (others b))))
    (sym (drop_others 0 bs))
headed_body bytes line head.Class seen d first items bs = rw (ne_eqb (suc d) 0 (omega arith)) refl
headed_body bytes line head.When seen d first items bs =
    let w : ClassItem = when_item line d in
    let inner : Items = body bytes (suc d) (top_block bs) in
    let rest : Items = body bytes d (top_block (others bs)) in
    let more : Items = rest_of bytes seen d (others (others bs)) in
    let one : d + 1 ≡ suc d = omega arith in
    let two : suc d + 1 ≡ suc (suc d) = omega arith in
    let deeper : join_items (Ok (items ++ w ∷ [])) (join_items inner (join_items rest more))
    ≡ join_items (Ok items) (join_items (join_items (Ok (w ∷ [])) (join_items inner rest)) more) =
    join_push items w (join_items inner (join_items rest more))
    ∙ ap (join_items (Ok items)) (ap (join_items (Ok (w ∷ []))) (join_assoc inner rest more)
    ∙ join_assoc (Ok (w ∷ [])) (join_items inner rest) more) in
    rw (ne_eqb (suc d) 0 (omega arith), sub_suc d, one, two)
    (elim (nat_lt d deepest) as (λ c. Agrees bytes bs
    (join_items (Ok items) (join_items (cond c (join_items (Ok (w ∷ [])) (join_items inner rest)) (Err (fault.TooDeep (place line)))) more))
    (cond c (Ok (at seen (suc (suc d)) zero first (items ++ w ∷ []))) (Err (fault.TooDeep (place line))))) [
      | true ↦
          deeper
      | false ↦ refl
    ])
headed_body bytes line head.Other seen d first items bs = refl

-- ---- a line, in any state

plain_law : (bytes : List ℕ) (line : LogicalLine) (seen : Bool) (level first : ℕ) (items : List ClassItem) (bs : List StatementBlock)
    → Agrees bytes bs (remaining bytes (at seen level zero first items) (line_in_front line false bs))
    (took_plain (plain_form bytes line.tokens) line (at seen level zero first items))
unfolding remaining rest_of outer body
plain_law bytes line seen zero first items bs =
    let form : PlainForm = plain_form bytes line.tokens in
    rw (top_followed bs) (plain_outer bytes line form seen first items bs)
plain_law bytes line seen (suc d) first items bs = plain_body bytes line (plain_form bytes line.tokens) seen d first items bs

headed_law : (bytes : List ℕ) (line : LogicalLine) (seen : Bool) (level first : ℕ) (items : List ClassItem) (bs : List StatementBlock)
    → Agrees bytes bs (remaining bytes (at seen level zero first items) (line_in_front line true bs))
    (took_headed (head_form bytes line.tokens) line (at seen level zero first items))
unfolding remaining rest_of outer body
headed_law bytes line seen zero first items bs =
    rw (top_followed (others bs)) (headed_outer bytes line (head_form bytes line.tokens) seen first items bs)
headed_law bytes line seen (suc d) first items bs = headed_body bytes line (head_form bytes line.tokens) seen d first items bs

took_by : (bytes : List ℕ) (line : LogicalLine) (has : Bool) (seen : Bool) (level passed first : ℕ) (items : List ClassItem)
    (bs : List StatementBlock)
    → Agrees bytes bs (remaining bytes (at seen level passed first items) (line_in_front line has bs))
    (took bytes line has (at seen level passed first items))
unfolding took remaining
took_by bytes line false seen level (suc n) first items bs =
    rw (some_passed n) (ap (λ (b : List StatementBlock). join_items (Ok items) (rest_of bytes seen level b)) (sym (drop_others n bs)))
took_by bytes line true seen level (suc n) first items bs =
    let two : suc n + 1 ≡ suc (suc n) = omega arith in
    rw (some_passed n, two) (ap (λ (b : List StatementBlock). join_items (Ok items) (rest_of bytes seen level b))
    (sym (drop_others (suc n) bs)
    ∙ sym (drop_others n (others bs))))
took_by bytes line false seen level zero first items bs = plain_law bytes line seen level first items bs
took_by bytes line true seen level zero first items bs = headed_law bytes line seen level first items bs

-- a line that is taken is one line more before the rest
pub took_law : (bytes : List ℕ) (line : LogicalLine) (has : Bool) (s : State) (bs : List StatementBlock)
    → Agrees bytes bs (remaining bytes s (line_in_front line has bs)) (took bytes line has s)
took_law bytes line has s bs = took_by bytes line has s.seen s.level s.passed s.first s.items bs
