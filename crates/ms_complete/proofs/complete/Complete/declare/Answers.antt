use Rattle.std.proofs.Common.{subst, List, ℕ}
use Rattle.std.specs.List.{All, Contains}
use Rattle.std.proofs.lemmas.List.{take_all}
use Rattle.std.proofs.lemmas.List.Elements.{All-nil}
use Rattle.ms_join.specs.Things.Thing.{atom}
use Rattle.ms_complete.specs.Numbering.{IsAtomOf}
use Rattle.ms_complete.proofs.NumberLaws.{declares_none, declares_next, all_declared_next}
use Rattle.ms_complete.proofs.complete.Complete.declare.Goals as goal

pub loop-a-init : goal.loop-a-init
loop-a-init c = record { declares = declares_none c.args.self.now (IsAtomOf c.args.atoms.now); all = All-nil (λ a. Contains c.args.self.now.things (atom a)) }

pub loop-a-preserved : goal.loop-a-preserved
loop-a-preserved c = record {
  declares = declares_next c.args.self.now c.loop-a.self c.number_atom.new.self c.args.atoms.now c.loop-a.a-index c.a-item.result c.in_ok-number_atom.field-0 c.loop-a-test.true c.a-item.is
      c.loop-a.invariant.declares c.in_ok-number_atom.ensures;
  all = all_declared_next c.loop-a.self c.number_atom.new.self c.args.atoms.now c.loop-a.a-index c.a-item.result c.in_ok-number_atom.field-0 c.loop-a-test.true c.a-item.is
      c.loop-a.invariant.all c.in_ok-number_atom.ensures;
}

pub returns-clause-all : goal.returns-clause-all
returns-clause-all c = subst (λ (atoms : List ℕ). All (λ a. Contains c.loop-a.self.things (atom a)) atoms) (take_all c.loop-a.a-index c.args.atoms.now c.loop-a-test.false) c.loop-a.invariant.all
