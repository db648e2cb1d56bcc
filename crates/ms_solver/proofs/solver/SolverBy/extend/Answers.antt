use Rattle.std.proofs.Common.{◌≡◌, ◌∙◌, ◌++◌, ◌<◌, List, ℕ, length, ap, subst, sym}
use Rattle.std.specs.List.{All}
use Rattle.ms_nogood.specs.Store.{Store}
use Rattle.ms_search.specs.Runs.{AreAttached, empty_trail}
use Rattle.ms_unfound.proofs.WithCompletion.{completion_declares}
use Rattle.ms_solver.specs.Extending.{KeepsSlots, PutsToSleep}
use Rattle.ms_problem.specs.Numbered.{AreNumbers}
use Rattle.ms_solver.specs.States.{CanExtend, Knowledge, Serves, State, kept_of}
use Rattle.ms_solver.proofs.Joining.{joined_serves, named_all}
use Rattle.ms_solver.proofs.Lists.{on_ok}
use Rattle.ms_solver.proofs.Sleeping.{numbers_stay}
use Rattle.ms_solver.proofs.Stores.{kept_stays, slots_from, slots_keep_attached, slots_keep_kept, slots_keep_lits}
use Rattle.ms_solver.proofs.solver.SolverBy.extend.Goals as goal

pub extend-requires-2-clause-bodies : goal.extend-requires-2-clause-bodies
extend-requires-2-clause-bodies g c =
    (completion_declares c.requires.join.join.atoms c.args.m.now c.self.inside.completion c.extend.new.self c.self.inside.store c.extend.new.store c.requires.join.well_formed c.in_ok-extend.ensures).bodies

pub number_atoms-requires-clause-numbers : goal.number_atoms-requires-clause-numbers
number_atoms-requires-clause-numbers g c =
    let knows : Knowledge = record { store = c.self.inside.store; numbering = c.self.inside.completion; loops = c.self.inside.loops; atoms = c.self.inside.atoms; sleepers = c.self.inside.sleepers } in
    let same : knows ≡ c.args.self.now.knows = ap (λ (s : State g.row.P.Denot). s.knows) c.self.view_is in
    let can : CanExtend knows c.args.m.now = subst (λ (k : Knowledge). CanExtend k c.args.m.now) (sym same) c.requires.join in
    let taken = c.in_ok-extend.ensures in
    subst (λ (n : ℕ). AreNumbers c.extend.new.self.things n c.self.inside.atoms) (sym can.well_formed.first)
    (numbers_stay c.self.inside.completion.things taken.more c.extend.new.self.things can.join.atoms c.self.inside.atoms taken.things can.serves.atoms)

pub notes_from-requires : goal.notes_from-requires
notes_from-requires g c =
    let knows : Knowledge = record { store = c.self.inside.store; numbering = c.self.inside.completion; loops = c.self.inside.loops; atoms = c.self.inside.atoms; sleepers = c.self.inside.sleepers } in
    let same : knows ≡ c.args.self.now.knows = ap (λ (s : State g.row.P.Denot). s.knows) c.self.view_is in
    let can : CanExtend knows c.args.m.now = subst (λ (k : Knowledge). CanExtend k c.args.m.now) (sym same) c.requires.join in
    named_all knows c.args.m.now c.extend.new.self c.extend.new.store c.in_ok-extend.ensures can.join can.serves can.well_formed (length c.args.terms.now)
    (subst (λ (k : Knowledge). All (λ (name : ℕ). name < length c.args.terms.now) (k.numbering.names ++ c.args.m.now.names)) (sym same) c.requires.names)

pub returns-clause-serves : goal.returns-clause-serves
returns-clause-serves g c = on_ok c.notes_from.result (λ j joined serves is.
    let knows : Knowledge = record { store = c.self.inside.store; numbering = c.self.inside.completion; loops = c.self.inside.loops; atoms = c.self.inside.atoms; sleepers = c.self.inside.sleepers } in
    let same : knows ≡ c.args.self.now.knows = ap (λ (s : State g.row.P.Denot). s.knows) c.self.view_is in
    let old : Serves knows j = subst (λ (k : Knowledge). Serves k j) (sym same) serves in
    let sleeps : PutsToSleep c.args.m.now.first_new c.args.m.now.externals c.number_atoms.new.atoms c.extend.new.store c.add_places.new.sleepers c.put_to_sleep.new.store c.put_to_sleep.new.sleepers =
    subst (λ (xs : List ℕ). PutsToSleep c.args.m.now.first_new xs c.number_atoms.new.atoms c.extend.new.store c.add_places.new.sleepers c.put_to_sleep.new.store c.put_to_sleep.new.sleepers) c.as_slice.ensures
    (subst (λ (xs : List ℕ). PutsToSleep c.args.m.now.first_new c.as_slice.result.now xs c.extend.new.store c.add_places.new.sleepers c.put_to_sleep.new.store c.put_to_sleep.new.sleepers) c.as_slice-2.ensures c.in_ok-put_to_sleep.ensures) in
    joined_serves c.consequences_stay.ensures knows c.args.m.now c.extend.new.self c.extend.new.store c.put_to_sleep.new.store c.extend-2.new.self c.number_atoms.new.atoms c.add_places.new.sleepers c.put_to_sleep.new.sleepers
    j joined old is c.in_ok-extend.ensures c.in_ok-extend-2.ensures.taken c.in_ok-number_atoms.ensures c.in_ok-add_places.ensures sleeps)

pub returns-clause-kept : goal.returns-clause-kept
returns-clause-kept g c =
    let knows : Knowledge = record { store = c.self.inside.store; numbering = c.self.inside.completion; loops = c.self.inside.loops; atoms = c.self.inside.atoms; sleepers = c.self.inside.sleepers } in
    let same : knows ≡ c.args.self.now.knows = ap (λ (s : State g.row.P.Denot). s.knows) c.self.view_is in
    let can : CanExtend knows c.args.m.now = subst (λ (k : Knowledge). CanExtend k c.args.m.now) (sym same) c.requires.join in
    let slots : KeepsSlots c.self.inside.store c.put_to_sleep.new.store = slots_from c.self.inside.store c.extend.new.store c.put_to_sleep.new.store c.in_ok-extend.ensures.keeps c.in_ok-put_to_sleep.ensures.store in
    on_ok c.notes_from.result (kept_stays c.self.inside.store c.put_to_sleep.new.store can.serves.order (slots_keep_kept c.self.inside.store c.put_to_sleep.new.store slots) ∙ ap kept_of same)

pub returns-clause-keys : goal.returns-clause-keys
returns-clause-keys g c =
    let same : c.self.inside.store ≡ c.args.self.now.knows.store = ap (λ (s : State g.row.P.Denot). s.knows.store) c.self.view_is in
    on_ok c.notes_from.result (subst (λ (s : Store). KeepsSlots s c.put_to_sleep.new.store) same
    (slots_from c.self.inside.store c.extend.new.store c.put_to_sleep.new.store c.in_ok-extend.ensures.keeps c.in_ok-put_to_sleep.ensures.store))

pub returns-clause-attached : goal.returns-clause-attached
returns-clause-attached g c =
    let slots : KeepsSlots c.self.inside.store c.put_to_sleep.new.store = slots_from c.self.inside.store c.extend.new.store c.put_to_sleep.new.store c.in_ok-extend.ensures.keeps c.in_ok-put_to_sleep.ensures.store in
    on_ok c.notes_from.result (slots_keep_attached c.self.inside.store c.put_to_sleep.new.store slots (g.P.Propagate.attached c.self.inside.search.propagation)
    (subst (λ (s : State g.row.P.Denot). AreAttached (g.P.Propagate.attached s.search.propagation) s.knows.store) (sym c.self.view_is) c.requires.attached))

pub returns-clause-in_step : goal.returns-clause-in_step
returns-clause-in_step g c =
    let slots : KeepsSlots c.self.inside.store c.put_to_sleep.new.store = slots_from c.self.inside.store c.extend.new.store c.put_to_sleep.new.store c.in_ok-extend.ensures.keeps c.in_ok-put_to_sleep.ensures.store in
    let wired : AreAttached (g.P.Propagate.attached c.self.inside.search.propagation) c.self.inside.store =
    subst (λ (s : State g.row.P.Denot). AreAttached (g.P.Propagate.attached s.search.propagation) s.knows.store) (sym c.self.view_is) c.requires.attached in
    on_ok c.notes_from.result (g.met.P.Propagate.changes c.self.inside.search.propagation c.self.inside.store c.put_to_sleep.new.store (empty_trail c.self.inside.search.room)
    (subst (λ (s : State g.row.P.Denot). g.P.Propagate.InStep s.search.propagation s.knows.store (empty_trail s.search.room)) (sym c.self.view_is) c.requires.in_step)
    (λ key is. slots_keep_lits c.self.inside.store c.put_to_sleep.new.store slots key (wired.known key is)))
