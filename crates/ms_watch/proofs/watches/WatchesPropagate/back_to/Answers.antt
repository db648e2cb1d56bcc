use Rattle.std.proofs.Common.{◌≡◌, ◌≤◌, ◌⊎◌, inl, inr, ap, arith}
use Rattle.std.proofs.lemmas.Bool.{cases_lt}
use Rattle.ms_watch.specs.Watches.{Watching}
use Rattle.ms_watch.proofs.Steps.{step_back}
use Rattle.ms_watch.proofs.watches.WatchesPropagate.back_to.Goals as goal

pub returns-clause-back : goal.returns-clause-back
returns-clause-back c store trail level low is step =
    let w : Watching = c.args.self.now in
    let v : Watching = record { links = c.self.inside.lists; keys = c.self.inside.keys.items; seen = c.self.inside.seen } in
    let new : Watching = record { links = c.self.inside.lists; keys = c.self.inside.keys.items; seen = c.min-self-inside.result } in
    let view : v ≡ w = c.self.view_is in
    let seen : c.self.inside.seen ≡ w.seen = ap (λ (u : Watching). u.seen) view in
    let which : (new.seen ≡ w.seen) ⊎ (new.seen ≡ c.args.len) = elim (cases_lt c.self.inside.seen c.args.len) [
      | inl lt ↦ inl (omega (arith, c.min-self-inside.ensures, seen))
      | inr le ↦ inr (omega (arith, c.min-self-inside.ensures, seen))
    ] in
    step_back w new store trail level c.args.len (ap (λ (u : Watching). u.links) view) (ap (λ (u : Watching). u.keys) view)
    (omega (arith, c.min-self-inside.ensures, seen)) (omega (arith, c.min-self-inside.ensures, seen)) which low is step
