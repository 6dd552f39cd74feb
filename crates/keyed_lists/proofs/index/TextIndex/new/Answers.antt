use Rattle.std.proofs.Common.{sym, ap, ◌∙◌, map, List, ℕ, Bor, rules}
use Rattle.std.proofs.lemmas.Fn.{always_returns_same}
use Rattle.std.proofs.lemmas.List.Sorted.{ranks_by}
use Rattle.std.specs.Cmp.Lexicographic.{nat_list_cmp_total}
use Rattle.std.specs.Ordering.{is_lt}
use Rattle.std.specs.Str.{bytes_eq}
use Rattle.keyed_lists.specs.OfVariantValues.Texts.{byte_cmp}
use Rattle.keyed_lists.proofs.Lent.{filter_mapped, same_text}
use Rattle.keyed_lists.proofs.index.TextIndex.new.Goals as goal

pub invariant_of-result : goal.invariant_of-result
invariant_of-result g c = c.in_ok-sort_by.ensures.sorted (λ a b. is_lt (byte_cmp a.0.now b.0.now))
    (ranks_by nat_list_cmp_total (λ (e : Bor (List ℕ) × Bor g.row.T.Denot). e.0.now)) (always_returns_same _ _ _ (λ a r f k. search rules))

pub returns : goal.returns
returns g c text =
    let seen : Bor (List ℕ) × Bor g.row.T.Denot → List ℕ × g.row.T.Denot = λ e. (e.0.now, e.1.now) in
    let text_of : Bor (List ℕ) × Bor g.row.T.Denot → List ℕ = λ e. e.0.now in
    let before = c.args.entries.items in
    let after = c.sort_by.new.self.items in
    filter_mapped seen (λ e. bytes_eq e.0 text) after
    ∙ ap (map seen) (same_text text_of before after text (c.in_ok-sort_by.ensures.stable (λ a b. is_lt (byte_cmp (text_of a) (text_of b)))
    (ranks_by nat_list_cmp_total text_of) (always_returns_same _ _ _ (λ a r f k. search rules))))
    ∙ sym (filter_mapped seen (λ e. bytes_eq e.0 text) before)
