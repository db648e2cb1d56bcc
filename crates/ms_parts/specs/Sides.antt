-- What is made of the two sides of a pair.
use Rattle.std.specs.Prelude.{List, Option, Some}
use Rattle.ms_grammar.specs.declared.term.TextTerm.{TextTerm}
use Rattle.ms_grammar.specs.declared.statement.AggFn.{AggFn}
use Rattle.ms_grammar.specs.declared.statement.Cmp.{Cmp}
use Rattle.ms_grammar.specs.declared.statement.TextLit.{TextLit}
use Rattle.ms_grammar.specs.declared.statement.TextLit.TheVariants.{Test}
use Rattle.ms_grammar.specs.declared.statement.TextGuard.{TextGuard}
use Rattle.ms_grammar.specs.declared.statement.SetElement.{SetElement}
use Rattle.ms_grammar.specs.declared.statement.TextSet.{TextSet}
use Rattle.ms_grammar.specs.declared.statement.AggElement.{AggElement}
use Rattle.ms_grammar.specs.declared.statement.TextAgg.{TextAgg}

abbrev pub test_of : Cmp → TextTerm × TextTerm → TextLit
test_of cmp sides = Test sides.0 cmp sides.1

abbrev pub guard_of : Cmp → TextTerm → Option TextGuard
guard_of cmp bound = Some (record { cmp = cmp; bound = bound })

abbrev pub set_element_of : TextTerm × List TextLit → SetElement
set_element_of sides = record { atom = sides.0; conds = sides.1 }

abbrev pub element_of : List TextTerm × List TextLit → AggElement
element_of sides = record { tuple = sides.0; conds = sides.1 }

abbrev pub set_of : List SetElement → Option TextGuard × Option TextGuard → TextSet
set_of elements guards = record { left = guards.0; elements = elements; right = guards.1 }

abbrev pub aggregate_of : AggFn → List AggElement → Option TextGuard × Option TextGuard → TextAgg
aggregate_of function elements guards = record { function = function; left = guards.0; elements = elements; right = guards.1 }
