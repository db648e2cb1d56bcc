use Rattle.std.proofs.Common.{[]}
use Rattle.std.proofs.lemmas.List.Elements.{All-nil}
use Rattle.ms_join.specs.AnswerSets.{IsRuleOver}
use Rattle.ms_cone.proofs.Adding.{keeps_below}
use Rattle.ms_unfound.proofs.members.cyclic_heads.Goals as goal

pub around-requires-clause-old : goal.around-requires-clause-old
around-requires-clause-old c = keeps_below c.in-Some.atoms c.new.result [] c.new.ensures (All-nil (IsRuleOver c.in-Some.atoms))
