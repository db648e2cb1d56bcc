use Rattle.std.proofs.Common.{◌≡◌, ◌∙◌, ap, refl, subst, sym}
use Rattle.ms_search.specs.Runs.{AreAttached, empty_trail}
use Rattle.ms_solver.specs.States.{CanRelease, Knowledge, Serves, State, kept_of}
use Rattle.ms_solver.proofs.Releasing.{is_asleep, released_serves, sleeper, sleeps_there}
use Rattle.ms_solver.proofs.Stores.{kept_stays, woken_keeps_attached, woken_keeps_kept, woken_keeps_lits}
use Rattle.ms_solver.proofs.solver.SolverBy.release.Goals as goal

pub wake_sleeper-requires : goal.wake_sleeper-requires
wake_sleeper-requires g c =
    let knows : Knowledge = record { store = c.self.inside.store; numbering = c.self.inside.completion; loops = c.self.inside.loops; atoms = c.self.inside.atoms; sleepers = c.self.inside.sleepers } in
    let same : knows ≡ c.args.self.now.knows = ap (λ (s : State g.row.P.Denot). s.knows) c.self.view_is in
    let can : CanRelease knows c.args.a = subst (λ (k : Knowledge). CanRelease k c.args.a) (sym same) c.requires.join in
    let own = can.serves.sleepers c.args.a can.input in
    (own.key, own.at, is_asleep knows can.join can.serves c.args.a own.key can.input own.at)

pub returns-clause-serves : goal.returns-clause-serves
returns-clause-serves g c j released serves is =
    let knows : Knowledge = record { store = c.self.inside.store; numbering = c.self.inside.completion; loops = c.self.inside.loops; atoms = c.self.inside.atoms; sleepers = c.self.inside.sleepers } in
    let same : knows ≡ c.args.self.now.knows = ap (λ (s : State g.row.P.Denot). s.knows) c.self.view_is in
    let old : Serves knows j = subst (λ (k : Knowledge). Serves k j) (sym same) serves in
    let own = old.sleepers c.args.a is.input in
    released_serves knows j old c.args.a own.key is.input own.at c.inputs_keep_consequences.ensures released is c.wake_sleeper.new.store (c.wake_sleeper.ensures own.key own.at)

pub returns-clause-kept : goal.returns-clause-kept
returns-clause-kept g c =
    let knows : Knowledge = record { store = c.self.inside.store; numbering = c.self.inside.completion; loops = c.self.inside.loops; atoms = c.self.inside.atoms; sleepers = c.self.inside.sleepers } in
    let same : knows ≡ c.args.self.now.knows = ap (λ (s : State g.row.P.Denot). s.knows) c.self.view_is in
    let can : CanRelease knows c.args.a = subst (λ (k : Knowledge). CanRelease k c.args.a) (sym same) c.requires.join in
    let own = can.serves.sleepers c.args.a can.input in
    let woken = c.wake_sleeper.ensures own.key own.at in
    let asleep = sleeps_there knows can.join can.serves c.args.a own.key can.input own.at in
    kept_stays c.self.inside.store c.wake_sleeper.new.store can.serves.order (woken_keeps_kept c.self.inside.store c.wake_sleeper.new.store own.key (sleeper own.number) asleep refl woken) ∙ ap kept_of same

pub returns-clause-attached : goal.returns-clause-attached
returns-clause-attached g c =
    let knows : Knowledge = record { store = c.self.inside.store; numbering = c.self.inside.completion; loops = c.self.inside.loops; atoms = c.self.inside.atoms; sleepers = c.self.inside.sleepers } in
    let same : knows ≡ c.args.self.now.knows = ap (λ (s : State g.row.P.Denot). s.knows) c.self.view_is in
    let can : CanRelease knows c.args.a = subst (λ (k : Knowledge). CanRelease k c.args.a) (sym same) c.requires.join in
    let own = can.serves.sleepers c.args.a can.input in
    let woken = c.wake_sleeper.ensures own.key own.at in
    let asleep = sleeps_there knows can.join can.serves c.args.a own.key can.input own.at in
    woken_keeps_attached c.self.inside.store c.wake_sleeper.new.store own.key (sleeper own.number) asleep refl woken (g.P.Propagate.attached c.self.inside.search.propagation)
    (subst (λ (s : State g.row.P.Denot). AreAttached (g.P.Propagate.attached s.search.propagation) s.knows.store) (sym c.self.view_is) c.requires.attached)

pub returns-clause-in_step : goal.returns-clause-in_step
returns-clause-in_step g c =
    let knows : Knowledge = record { store = c.self.inside.store; numbering = c.self.inside.completion; loops = c.self.inside.loops; atoms = c.self.inside.atoms; sleepers = c.self.inside.sleepers } in
    let same : knows ≡ c.args.self.now.knows = ap (λ (s : State g.row.P.Denot). s.knows) c.self.view_is in
    let can : CanRelease knows c.args.a = subst (λ (k : Knowledge). CanRelease k c.args.a) (sym same) c.requires.join in
    let own = can.serves.sleepers c.args.a can.input in
    let woken = c.wake_sleeper.ensures own.key own.at in
    let asleep = sleeps_there knows can.join can.serves c.args.a own.key can.input own.at in
    g.met.P.Propagate.changes c.self.inside.search.propagation c.self.inside.store c.wake_sleeper.new.store (empty_trail c.self.inside.search.room)
    (subst (λ (s : State g.row.P.Denot). g.P.Propagate.InStep s.search.propagation s.knows.store (empty_trail s.search.room)) (sym c.self.view_is) c.requires.in_step)
    (λ key is. woken_keeps_lits c.self.inside.store c.wake_sleeper.new.store own.key (sleeper own.number) asleep refl woken key)
