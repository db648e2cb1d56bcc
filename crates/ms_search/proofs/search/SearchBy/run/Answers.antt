use Rattle.std.proofs.Common.{ℕ, ◌≡◌, ◌<◌, false, List, IfOk, sym, subst}
use Rattle.std.specs.Prelude.{All}
use Rattle.ms_lits.specs.declared.lit.Lit.{Lit}
use Rattle.ms_lits.specs.Literals.{Nogood}
use Rattle.ms_nogood.specs.Store.{Store}
use Rattle.ms_search.specs.declared.ask.Ask.{Ask}
use Rattle.ms_search.specs.Posed.{Lists}
use Rattle.ms_search.specs.Problems.{AreUnique, IsTarget, problem_of}
use Rattle.ms_search.proofs.search.SearchBy.run.Goals as goal

target_posed : (gives : Nogood → Type 0) (store : Store) (ask : Ask) (atoms : List ℕ) → ask.impossible ≡ false → AreUnique (problem_of gives store ask atoms) → All (λ (atom : ℕ). atom < ask.vars) atoms → All (λ (lit : Lit). lit.var < ask.vars) ask.assume → IsTarget (problem_of gives store ask atoms)
target_posed gives store ask atoms possible unique atoms_within start_within = record {
  possible = possible;
  member = λ answer is. record {
    truth = is.truth;
    admitted = record { completed = is.admitted.completed; accepted = is.admitted.accepted };
    meets = record { possible = is.meets.possible; demanded = is.meets.demanded };
    answers = is.answers;
  };
  unique = unique;
  atoms_within = atoms_within;
  start_within = start_within;
}

pub solve-run-requires-clause-target : goal.solve-run-requires-clause-target
solve-run-requires-clause-target g c = λ possible.
    subst (λ (atoms : List ℕ). IsTarget (problem_of (g.T.Theory.Gives c.args.theory.now) c.args.store.now c.args.ask.now atoms)) (sym c.as_slice.ensures)
    (target_posed (g.T.Theory.Gives c.args.theory.now) c.args.store.now c.args.ask.now c.args.atoms.now possible c.requires.unique c.requires.atoms c.requires.demanded)

pub returns-clause-lists : goal.returns-clause-lists
returns-clause-lists g c =
    subst (λ (atoms : List ℕ). IfOk c.solve-run.result (Lists (problem_of (g.T.Theory.Gives c.args.theory.now) c.args.store.now c.args.ask.now atoms))) c.as_slice.ensures c.solve-run.ensures.lists
