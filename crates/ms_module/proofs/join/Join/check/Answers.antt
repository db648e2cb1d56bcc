use Rattle.std.proofs.Common.{Option, subst}
use Rattle.ms_join.specs.declared.join_fault.JoinFault.{JoinFault}
use Rattle.ms_module.specs.Names.{names_of}
use Rattle.ms_module.specs.Faults.{Finds}
use Rattle.ms_module.proofs.join.Join.check.Goals as goal

pub returns-in-Ok-None : goal.returns-in-Ok-None
returns-in-Ok-None c = subst (λ (o : Option JoinFault). Finds (names_of c.args.terms.now c.args.base.now) c.args.self.now c.args.m.now o) c.in-Ok-None.field-0-is c.in-Ok-None.ensures

pub returns-in-Ok-Some : goal.returns-in-Ok-Some
returns-in-Ok-Some c = subst (λ (o : Option JoinFault). Finds (names_of c.args.terms.now c.args.base.now) c.args.self.now c.args.m.now o) c.in-Ok-Some.field-0-is c.in-Ok-Some.ensures
