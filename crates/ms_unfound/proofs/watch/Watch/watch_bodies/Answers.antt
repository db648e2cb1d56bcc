use Rattle.std.proofs.Common.{◌∙◌, ℕ, List, get_or, subst, take}
use Rattle.std.specs.List.{All, Contains}
use Rattle.std.proofs.lemmas.List.{get_or_default, take_all}
use Rattle.std.proofs.lemmas.List.Elements.{All-more, All-weaker}
use Rattle.ms_unfound.specs.declared.part.Support.{Support}
use Rattle.ms_unfound.specs.Watched.{places_at}
use Rattle.ms_unfound.proofs.WatchLaws.{keep_on}
use Rattle.ms_unfound.proofs.watch.Watch.watch_bodies.Goals as goal

pub loop-support-preserved : goal.loop-support-preserved
loop-support-preserved c =
    let place = c.args.place in
    let before = c.loop-support.self.places.items in
    let now = c.watch_var.new.self.places.items in
    let inv = c.loop-support.invariant in
    let Has : List (List ℕ) → Support → Type 0 = λ ls x. Contains (places_at ls x.body) place in (
      c.watch_var.ensures.seen ∙ inv.0,
      c.watch_var.ensures.settled ∙ inv.1,
      keep_on c.args.self.now.places.items before now inv.2 c.watch_var.ensures.keeps,
      All-more (Has now) c.args.supports.now c.loop-support.support-index c.support-item.result c.loop-support-test.true
          (All-weaker (Has before) (Has now) (λ x has. c.watch_var.ensures.keeps x.body place has) (take c.loop-support.support-index c.args.supports.now) inv.3)
          (subst (Has now) c.support-item.is c.in_ok-watch_var.ensures.has),
    )

pub returns-clause-all : goal.returns-clause-all
returns-clause-all c =
    subst (All (λ (x : Support). Contains (places_at c.loop-support.self.places.items x.body) c.args.place)) (take_all c.loop-support.support-index c.args.supports.now c.loop-support-test.false) c.loop-support.invariant.3
