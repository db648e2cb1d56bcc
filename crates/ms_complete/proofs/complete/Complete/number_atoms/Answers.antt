use Rattle.std.proofs.Common.{subst, sym, List, [], ℕ}
use Rattle.std.proofs.lemmas.List.{take_all}
use Rattle.ms_complete.specs.Numbering.{IsAtomOf}
use Rattle.ms_complete.specs.Rules.{IsAtomAt}
use Rattle.ms_complete.specs.Sets.{Match}
use Rattle.ms_complete.proofs.NumberLaws.{declares_none, declares_next, atoms_next, match_none}
use Rattle.ms_complete.proofs.complete.Complete.number_atoms.Goals as goal

pub loop-a-init : goal.loop-a-init
loop-a-init c = record { declares = declares_none c.args.self.now (IsAtomOf c.args.atoms.now); paired = subst (λ (ns : List ℕ). Match (IsAtomAt c.args.self.now.things) [] ns) (sym c.in_ok-numbers.ensures.items) (match_none (IsAtomAt c.args.self.now.things)) }

pub loop-a-preserved : goal.loop-a-preserved
loop-a-preserved c = record {
  declares = declares_next c.args.self.now c.loop-a.self c.number_atom.new.self c.args.atoms.now c.loop-a.a-index c.a-item.result c.in_ok-number.number c.loop-a-test.true c.a-item.is
      c.loop-a.invariant.declares c.in_ok-number.ensures;
  paired = atoms_next c.loop-a.self c.number_atom.new.self c.args.atoms.now c.loop-a.numbers.items c.push.new.self.items c.loop-a.a-index c.a-item.result c.in_ok-number.number c.loop-a-test.true c.a-item.is
      c.loop-a.invariant.paired c.in_ok-number.ensures c.in_ok-push.ensures.items;
}

pub returns-clause-numbers : goal.returns-clause-numbers
returns-clause-numbers c = subst (λ (atoms : List ℕ). Match (IsAtomAt c.loop-a.self.things) atoms c.loop-a.numbers.items) (take_all c.loop-a.a-index c.args.atoms.now c.loop-a-test.false) c.loop-a.invariant.paired
