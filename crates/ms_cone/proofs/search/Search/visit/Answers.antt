use Rattle.std.proofs.Common.{◌≡◌, Some, get_or, slice_get, sym, ap, subst, ◌∙◌, arith}
use Rattle.std.proofs.lemmas.Option.{slice_get-get_or}
use Rattle.ms_cone.specs.Search.{Found, Visits, led_by}
use Rattle.ms_cone.proofs.Entering.{grows_longer}
use Rattle.ms_cone.proofs.Exploring.{visits}
use Rattle.ms_cone.proofs.search.Search.visit.Goals as goal

pub pass-requires : goal.pass-requires
pass-requires c =
    let old = c.args.self.now in
    let mid = c.follow_both-2.new.self in
    let some = c.requires.some in
    let b = get_or old.members old.visited 0 in
    let at = slice_get-get_or old.members old.visited 0 some in
    let place = ap (λ (s : Found). s.visited) c.follow_both.view_is in
    let follows = c.in_ok-follow_both.ensures b (subst (λ n. slice_get old.members n ≡ Some b) (sym place) at) in
    let longer = grows_longer old.members mid.members (λ a. led_by c.args.old.now c.args.new.now a b) follows.members in
    let stays = follows.visited in
    omega (arith, longer, some, stays)

pub returns : goal.returns
returns c =
    let old = c.args.self.now in
    let mid = c.follow_both-2.new.self in
    let b = get_or old.members old.visited 0 in
    let at = slice_get-get_or old.members old.visited 0 c.requires.some in
    let place = ap (λ (s : Found). s.visited) c.follow_both.view_is in
    let follows = c.in_ok-follow_both.ensures b (subst (λ n. slice_get old.members n ≡ Some b) (sym place) at) in
    subst (λ (s : Found). Visits old s (led_by c.args.old.now c.args.new.now)) (sym (c.look_ahead.ensures ∙ c.pass.ensures))
    (visits (led_by c.args.old.now c.args.new.now) old mid b at follows)
