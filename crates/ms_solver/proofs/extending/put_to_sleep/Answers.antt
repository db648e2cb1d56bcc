use Rattle.std.proofs.Common.{◌≡◌, ◌∙◌, ◌<◌, ◌++◌, ◌∷◌, [], ◌+◌, ℕ, List, Option, take, length, ap, subst, sym, arith}
use Rattle.std.proofs.lemmas.Option.{slice_get-get_or}
use Rattle.ms_nogood.specs.Store.{Store}
use Rattle.ms_complete.proofs.Lists.{next_one}
use Rattle.ms_solver.specs.Extending.{PutsToSleep}
use Rattle.ms_solver.proofs.Sleeping.{sleep_more, sleep_past}
use Rattle.ms_solver.proofs.extending.put_to_sleep.Goals as goal
use Rattle.ms_solver.proofs.extending.put_to_sleep.Goals.{then-a-first+in_ok-key, else-a-first}

pub loop-a-preserved : goal.loop-a-preserved
loop-a-preserved c =
    let e : ℕ = c.a.inside.0 in
    let front : List ℕ = take c.loop-a.a-index c.args.externals.now in
    let next : take (c.loop-a.a-index + 1) c.args.externals.now ≡ front ++ e ∷ [] =
    next_one c.args.externals.now c.loop-a.a-index c.a-item.result c.loop-a-test.true c.a-item.is ∙ ap (λ (x : ℕ). front ++ x ∷ []) (sym c.a.view_is) in
    let inside : e < length c.args.atoms.now =
    subst (λ (x : ℕ). x < length c.args.atoms.now) (sym (c.a.view_is ∙ c.a-item.is)) (c.requires.numbered c.loop-a.a-index c.a-item.result c.loop-a-test.true) in
    let places : length c.loop-a.sleepers ≡ length c.args.atoms.now = c.loop-a.invariant.places ∙ c.requires.places in
    let within : e < length c.loop-a.sleepers = omega (arith, inside, places) in
    elim c.if-a-first.branch [
      | then-a-first+in_ok-key w ↦
          subst (λ (s : Store). PutsToSleep c.args.first (take (c.loop-a.a-index + 1) c.args.externals.now) c.args.atoms.now c.args.store.now c.args.sleepers.now s c.if-a-first.sleepers) (sym w.store-is)
          (sleep_more c.args.first e _ w.in_ok-key.key front (take (c.loop-a.a-index + 1) c.args.externals.now) c.args.atoms.now c.args.store.now c.loop-a.store w.hold_false.new.store
          c.args.sleepers.now c.loop-a.sleepers c.if-a-first.sleepers c.loop-a.invariant next w.if-a-first.true within (slice_get-get_or c.args.atoms.now e 0 inside)
          w.in_ok-key.ensures (w.sleepers-is ∙ w.set.ensures))
      | else-a-first w ↦
          subst (λ (s : Store). PutsToSleep c.args.first (take (c.loop-a.a-index + 1) c.args.externals.now) c.args.atoms.now c.args.store.now c.args.sleepers.now s c.if-a-first.sleepers) (sym w.store-is)
          (subst (λ (xs : List (Option ℕ)). PutsToSleep c.args.first (take (c.loop-a.a-index + 1) c.args.externals.now) c.args.atoms.now c.args.store.now c.args.sleepers.now c.loop-a.store xs) (sym w.sleepers-is)
          (sleep_past c.args.first e front (take (c.loop-a.a-index + 1) c.args.externals.now) c.args.atoms.now c.args.store.now c.loop-a.store c.args.sleepers.now c.loop-a.sleepers c.loop-a.invariant next w.if-a-first.false))
    ]
