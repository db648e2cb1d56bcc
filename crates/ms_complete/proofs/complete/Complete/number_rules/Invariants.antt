use Rattle.std.proofs.Common.{take}
use Rattle.std.specs.List.{Any}
use Rattle.ms_complete.specs.Numbering.{Declares, IsOfRule}
use Rattle.ms_complete.specs.Rules.{IsNumbered}
use Rattle.ms_complete.specs.Sets.{Match}
use Rattle.ms_complete.proofs.complete.Complete.number_rules.Given as goal

abbrev pub invariant-loop-rule : goal.invariant-loop-rule
invariant-loop-rule l = record {
  declares : Declares (λ t. Any (λ rule. IsOfRule rule t) l.rules) l.fn.self l.self;
  paired : Match (IsNumbered l.self.things) (take l.rule-index l.rules) l.numbered.items;
}
