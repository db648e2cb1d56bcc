use Rattle.ms_grammar.specs.Reading.{EndsValue}
use Rattle.ms_parse.proofs.Exact.{exact_from_whole}
use Rattle.ms_parse.proofs.directive.read_whole_value.Goals as goal

pub returns : goal.returns
returns c = exact_from_whole _ _ _ _ EndsValue tt _ _ _ _ c.in_ok-found.ensures.read c.whole.ensures
