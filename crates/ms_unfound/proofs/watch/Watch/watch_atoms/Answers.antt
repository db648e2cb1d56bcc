use Rattle.std.proofs.Common.{◌∙◌, ℕ, List, get_or, subst, take}
use Rattle.std.specs.List.{All, Contains}
use Rattle.std.proofs.lemmas.List.{get_or_default, take_all}
use Rattle.std.proofs.lemmas.List.Elements.{All-more, All-weaker}
use Rattle.ms_unfound.specs.Watched.{places_at}
use Rattle.ms_unfound.proofs.WatchLaws.{keep_on}
use Rattle.ms_unfound.proofs.watch.Watch.watch_atoms.Goals as goal

pub loop-atom-preserved : goal.loop-atom-preserved
loop-atom-preserved c =
    let place = c.args.place in
    let before = c.loop-atom.self.places.items in
    let now = c.watch_var.new.self.places.items in
    let inv = c.loop-atom.invariant in
    let Has : List (List ℕ) → ℕ → Type 0 = λ ls x. Contains (places_at ls x) place in (
      c.watch_var.ensures.seen ∙ inv.0,
      c.watch_var.ensures.settled ∙ inv.1,
      keep_on c.args.self.now.places.items before now inv.2 c.watch_var.ensures.keeps,
      All-more (Has now) c.args.atoms.now c.loop-atom.atom-index (get_or c.args.atoms.now c.loop-atom.atom-index 0) c.loop-atom-test.true
          (All-weaker (Has before) (Has now) (λ x has. c.watch_var.ensures.keeps x place has) (take c.loop-atom.atom-index c.args.atoms.now) inv.3)
          (subst (Has now) (get_or_default c.args.atoms.now c.loop-atom.atom-index 0 (get_or c.args.atoms.now c.loop-atom.atom-index 0) c.loop-atom-test.true) c.in_ok-watch_var.ensures.has),
    )

pub returns-clause-all : goal.returns-clause-all
returns-clause-all c =
    subst (All (λ (x : ℕ). Contains (places_at c.loop-atom.self.places.items x) c.args.place)) (take_all c.loop-atom.atom-index c.args.atoms.now c.loop-atom-test.false) c.loop-atom.invariant.3
