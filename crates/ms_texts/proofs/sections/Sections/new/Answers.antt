use Rattle.ms_texts.proofs.PlaceLaws.{indexes_none}
use Rattle.ms_texts.proofs.sections.Sections.new.Goals as goal

pub invariant_of-result : goal.invariant_of-result
invariant_of-result c = indexes_none _ _ c.new-2.ensures.empty c.new.ensures.items
