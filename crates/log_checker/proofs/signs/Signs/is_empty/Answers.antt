use Rattle.std.proofs.Common.{◌≡◌, ◌∙◌, sym, ap, subst, None}
use Rattle.std.proofs.lemmas.Bool.{false≢true}
use Rattle.log_checker.specs.Signs.{sign_of, are_clear}
use Rattle.log_checker.proofs.Marks.{empty-signs, clear-signs, nothing-above}
use Rattle.log_checker.proofs.signs.Signs.is_empty.Goals as goal

pub returns-then-is_empty : goal.returns-then-is_empty
returns-then-is_empty c =
    let marks = c.self.inside.marks.items in
    let above = c.self.inside.above.entries in
    let touched = c.self.inside.touched.items in
    let e : c.are_clear.result ≡ are_clear marks touched = c.are_clear.ensures
    ∙ ap (λ m. are_clear m c.as_slice-then-is_empty.result.now) c.as_slice.ensures.value
    ∙ ap (are_clear marks) c.as_slice-then-is_empty.ensures.value in (
      (λ t x. subst (λ s. sign_of s x ≡ None) c.self.view_is
          (empty-signs marks above touched c.self.invariant.0 (c.is_empty.ensures.0 c.if-is_empty.true) (sym e ∙ t) x)),
      (λ h. e ∙ clear-signs marks above touched (λ x. subst (λ s. sign_of s x ≡ None) (sym c.self.view_is) (h x))),
    )

pub returns-else-is_empty : goal.returns-else-is_empty
returns-else-is_empty c = (
  (λ t. absurd (false≢true (sym c.if-is_empty.false ∙ t))),
  (λ h. c.is_empty.ensures.1 (nothing-above c.self.inside.marks.items c.self.inside.above.entries c.self.invariant.1
      (λ x. subst (λ s. sign_of s x ≡ None) (sym c.self.view_is) (h x)))),
)
