use Rattle.std.proofs.Common.{◌≡◌, ◌<◌, ◌≤◌, ◌^◌, ℕ, List, length, map, ap, subst, sym, arith}
use Rattle.std.specs.List.{All}
use Rattle.ms_search.specs.declared.ask.Run.{Run}
use Rattle.ms_solver.specs.Numbered.{IsPickedFrom, atoms_of}
use Rattle.ms_solver.specs.Solves.{CanSolve, IsQuestion, Solves}
use Rattle.ms_solver.specs.States.{Knowledge, Serves, State}
use Rattle.ms_solver.proofs.Few.{numbers_few}
use Rattle.ms_solver.proofs.Solved.{atoms_within, picked, solves_told, start_within, store_within, unique}
use Rattle.ms_solver.proofs.solver.SolverBy.solve.Goals as goal

pub run-requires-clause-store : goal.run-requires-clause-store
run-requires-clause-store g c =
    let knows : Knowledge = record { store = c.self.inside.store; numbering = c.self.inside.completion; loops = c.self.inside.loops; atoms = c.self.inside.atoms; sleepers = c.self.inside.sleepers } in
    let same : knows ≡ c.args.self.now.knows = ap (λ (s : State g.row.P.Denot). s.knows) c.self.view_is in
    let can : CanSolve knows c.args.ask.now = subst (λ (k : Knowledge). CanSolve k c.args.ask.now) (sym same) c.requires.join in
    let asks : IsQuestion knows.numbering.things knows.atoms c.args.ask.now c.in_ok-question.question = subst (λ (numbers : List ℕ). IsQuestion knows.numbering.things numbers c.args.ask.now c.in_ok-question.question) c.as_slice-numbers.ensures c.in_ok-question.ensures.question in
    store_within knows can.join can.serves c.args.ask.now c.in_ok-question.question asks

pub run-requires-clause-demanded : goal.run-requires-clause-demanded
run-requires-clause-demanded g c =
    let knows : Knowledge = record { store = c.self.inside.store; numbering = c.self.inside.completion; loops = c.self.inside.loops; atoms = c.self.inside.atoms; sleepers = c.self.inside.sleepers } in
    let same : knows ≡ c.args.self.now.knows = ap (λ (s : State g.row.P.Denot). s.knows) c.self.view_is in
    let can : CanSolve knows c.args.ask.now = subst (λ (k : Knowledge). CanSolve k c.args.ask.now) (sym same) c.requires.join in
    let asks : IsQuestion knows.numbering.things knows.atoms c.args.ask.now c.in_ok-question.question = subst (λ (numbers : List ℕ). IsQuestion knows.numbering.things numbers c.args.ask.now c.in_ok-question.question) c.as_slice-numbers.ensures c.in_ok-question.ensures.question in
    start_within knows can.join can.serves c.args.ask.now c.in_ok-question.question asks

pub run-requires-clause-atoms : goal.run-requires-clause-atoms
run-requires-clause-atoms g c =
    let knows : Knowledge = record { store = c.self.inside.store; numbering = c.self.inside.completion; loops = c.self.inside.loops; atoms = c.self.inside.atoms; sleepers = c.self.inside.sleepers } in
    let same : knows ≡ c.args.self.now.knows = ap (λ (s : State g.row.P.Denot). s.knows) c.self.view_is in
    let can : CanSolve knows c.args.ask.now = subst (λ (k : Knowledge). CanSolve k c.args.ask.now) (sym same) c.requires.join in
    let asks : IsQuestion knows.numbering.things knows.atoms c.args.ask.now c.in_ok-question.question = subst (λ (numbers : List ℕ). IsQuestion knows.numbering.things numbers c.args.ask.now c.in_ok-question.question) c.as_slice-numbers.ensures c.in_ok-question.ensures.question in
    atoms_within knows can.join can.serves c.args.ask.now c.in_ok-question.question asks

pub run-requires-clause-unique : goal.run-requires-clause-unique
run-requires-clause-unique g c =
    let knows : Knowledge = record { store = c.self.inside.store; numbering = c.self.inside.completion; loops = c.self.inside.loops; atoms = c.self.inside.atoms; sleepers = c.self.inside.sleepers } in
    let same : knows ≡ c.args.self.now.knows = ap (λ (s : State g.row.P.Denot). s.knows) c.self.view_is in
    let can : CanSolve knows c.args.ask.now = subst (λ (k : Knowledge). CanSolve k c.args.ask.now) (sym same) c.requires.join in
    let asks : IsQuestion knows.numbering.things knows.atoms c.args.ask.now c.in_ok-question.question = subst (λ (numbers : List ℕ). IsQuestion knows.numbering.things numbers c.args.ask.now c.in_ok-question.question) c.as_slice-numbers.ensures c.in_ok-question.ensures.question in
    unique knows can.join can.serves c.args.ask.now c.in_ok-question.question asks c.assignments_are_possible.ensures

pub as_sets-requires-clause-fits : goal.as_sets-requires-clause-fits
as_sets-requires-clause-fits g c =
    let knows : Knowledge = record { store = c.self.inside.store; numbering = c.self.inside.completion; loops = c.self.inside.loops; atoms = c.self.inside.atoms; sleepers = c.self.inside.sleepers } in
    let same : knows ≡ c.args.self.now.knows = ap (λ (s : State g.row.P.Denot). s.knows) c.self.view_is in
    let can : CanSolve knows c.args.ask.now = subst (λ (k : Knowledge). CanSolve k c.args.ask.now) (sym same) c.requires.join in
    let few : length knows.atoms ≤ length knows.numbering.things = numbers_few knows.numbering.things can.join.atoms knows.atoms can.serves.atoms in
    let fits : length knows.numbering.things < 2 ^ 32 = c.in_ok-question.ensures.fits in
    let all : length knows.atoms < 2 ^ 32 = omega (arith, few, fits) in
    subst (λ (numbers : List ℕ). length numbers < 2 ^ 32) (sym c.as_slice.ensures) all

pub as_sets-requires-clause-picked : goal.as_sets-requires-clause-picked
as_sets-requires-clause-picked g c =
    let knows : Knowledge = record { store = c.self.inside.store; numbering = c.self.inside.completion; loops = c.self.inside.loops; atoms = c.self.inside.atoms; sleepers = c.self.inside.sleepers } in
    let same : knows ≡ c.args.self.now.knows = ap (λ (s : State g.row.P.Denot). s.knows) c.self.view_is in
    let can : CanSolve knows c.args.ask.now = subst (λ (k : Knowledge). CanSolve k c.args.ask.now) (sym same) c.requires.join in
    let asks : IsQuestion knows.numbering.things knows.atoms c.args.ask.now c.in_ok-question.question = subst (λ (numbers : List ℕ). IsQuestion knows.numbering.things numbers c.args.ask.now c.in_ok-question.question) c.as_slice-numbers.ensures c.in_ok-question.ensures.question in
    subst (λ (numbers : List ℕ). All (IsPickedFrom numbers) c.in_ok-run.run'.answers) (sym c.as_slice.ensures)
    (picked knows can.join can.serves c.args.ask.now c.in_ok-question.question asks c.assignments_are_possible.ensures c.in_ok-run.run' c.in_ok-run.ensures.lists)

pub returns-clause-solves : goal.returns-clause-solves
returns-clause-solves g c j serves =
    let knows : Knowledge = record { store = c.self.inside.store; numbering = c.self.inside.completion; loops = c.self.inside.loops; atoms = c.self.inside.atoms; sleepers = c.self.inside.sleepers } in
    let same : knows ≡ c.args.self.now.knows = ap (λ (s : State g.row.P.Denot). s.knows) c.self.view_is in
    let old : Serves knows j = subst (λ (k : Knowledge). Serves k j) (sym same) serves in
    let asks : IsQuestion knows.numbering.things knows.atoms c.args.ask.now c.in_ok-question.question = subst (λ (numbers : List ℕ). IsQuestion knows.numbering.things numbers c.args.ask.now c.in_ok-question.question) c.as_slice-numbers.ensures c.in_ok-question.ensures.question in
    let run : Run = c.in_ok-run.run' in
    let new : Knowledge = record knows { store = c.run.new.store; loops = c.run.new.theory } in
    let sets : c.in_ok-answers.answers ≡ map (atoms_of knows.atoms) run.answers = subst (λ (numbers : List ℕ). c.in_ok-answers.answers ≡ map (atoms_of numbers) run.answers) c.as_slice.ensures c.in_ok-answers.ensures in
    let means = c.in_ok-run.ensures.means in
    subst (λ (k : Knowledge). Solves j k c.args.ask.now (record { ending = run.ending; answers = c.in_ok-answers.answers; notes = run.notes }) new) same
    (subst (λ (answers : List (List ℕ)). Solves j knows c.args.ask.now (record { ending = run.ending; answers = answers; notes = run.notes }) new) (sym sets)
    (solves_told knows j old c.args.ask.now c.in_ok-question.question asks c.assignments_are_possible.ensures run c.in_ok-run.ensures.lists c.completion_and_loops.ensures c.in_ok-run.ensures.run
    c.possible_is_over_base.ensures c.run.new.store c.in_ok-run.ensures.leaves c.run.new.theory means.vars means.gives c.in_ok-run.ensures.lasting c.trimmed-kept.ensures.order))
