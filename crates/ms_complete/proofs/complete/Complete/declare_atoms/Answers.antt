use Rattle.std.proofs.Common.{arith}
use Rattle.ms_complete.specs.Numbering.{IsNewAtom}
use Rattle.ms_complete.proofs.NumberLaws.{declares_none, new_declared_next, new_all_next}
use Rattle.ms_complete.proofs.complete.Complete.declare_atoms.Goals as goal

pub loop-a-init : goal.loop-a-init
loop-a-init c = record { declares = declares_none c.args.self.now (IsNewAtom c.args.first c.args.count); all = λ b least less. absurd (omega (arith, least, less)) }

pub loop-a-preserved : goal.loop-a-preserved
loop-a-preserved c = record {
  declares = new_declared_next c.args.self.now c.loop-a.self c.number_atom.new.self c.args.first c.args.count c.loop-a.a c.in_ok-number_atom.field-0 (omega arith) (omega arith) c.loop-a.invariant.declares c.in_ok-number_atom.ensures;
  all = new_all_next c.loop-a.self c.number_atom.new.self c.args.first c.loop-a.a c.in_ok-number_atom.field-0 c.loop-a.invariant.all c.in_ok-number_atom.ensures;
}
