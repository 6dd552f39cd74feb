use Rattle.std.proofs.Common.{◌≡◌, ◌∙◌, ap, sym, subst, Some, insert}
use Rattle.std.specs.Prelude.{slice_get}
use Rattle.std.proofs.lemmas.Bool.{false≢true}
use Rattle.explain_failure.specs.Rising.{place_of}
use Rattle.explain_failure.proofs.Numbers.{number-there, number-put}
use Rattle.explain_failure.proofs.rising.put.Goals as goal

pub returns-then-stands_at : goal.returns-then-stands_at
returns-then-stands_at c =
    let xs = c.args.numbers.now.items in
    let at : c.find_place-at.result ≡ place_of xs c.args.number = c.find_place-at.ensures.value
    ∙ ap (λ ys. place_of ys c.args.number) c.as_slice.ensures.value in
    number-there xs c.args.number (subst (λ k. slice_get xs k ≡ Some c.args.number) at
    (subst (λ ys. slice_get ys c.find_place-at.result ≡ Some c.args.number) c.as_slice-2.ensures.value
    (c.stands_at.ensures.0 c.if-stands_at.true)))

pub returns : goal.returns
returns c =
    let xs = c.args.numbers.now.items in
    let at : c.find_place-at.result ≡ place_of xs c.args.number = c.find_place-at.ensures.value
    ∙ ap (λ ys. place_of ys c.args.number) c.as_slice.ensures.value in
    c.in_ok-insert.ensures.items ∙ ap (λ k. insert xs k c.args.number) at
    ∙ number-put xs c.args.number (λ e. false≢true
    (sym c.if-stands_at.false ∙ c.stands_at.ensures.1
    (subst (λ ys. slice_get ys c.find_place-at.result ≡ Some c.args.number) (sym c.as_slice-2.ensures.value)
    (subst (λ k. slice_get xs k ≡ Some c.args.number) (sym at) e))))
