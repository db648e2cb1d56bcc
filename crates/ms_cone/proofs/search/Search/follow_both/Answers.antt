use Rattle.std.proofs.Common.{◌≡◌, ℕ, List, get_or, inl, inr, subst, ap, ◌∙◌}
use Rattle.std.proofs.lemmas.Option.{get_or_from_slice_get}
use Rattle.ms_cone.specs.Links.{IsLinked}
use Rattle.ms_cone.specs.Search.{Found, Follows, led_by}
use Rattle.ms_cone.proofs.Following.{follows_both}
use Rattle.ms_cone.proofs.search.Search.follow_both.Goals as goal

pub returns : goal.returns
returns c b at =
    let now = c.args.self.now in
    let first = c.args.old.now in
    let then = c.args.new.now in
    let atom = get_or c.as_slice.result.now c.args.place 0 in
    let is : atom ≡ b = ap (λ (xs : List ℕ). get_or xs c.args.place 0) (c.as_slice.ensures.keys ∙ ap (λ (s : Found). s.members) c.self.view_is) ∙ get_or_from_slice_get now.members c.args.place b 0 at in
    subst (λ x. Follows now c.follow-2.new.self x (λ a. led_by first then a x)) is
    (follows_both now c.follow.new.self c.follow-2.new.self atom (IsLinked first atom) (IsLinked then atom) (λ a. led_by first then a atom)
    c.in_ok-follow.ensures c.in_ok-follow-2.ensures (λ a is_first. inl is_first) (λ a is_then. inr is_then) (λ a either. either))
