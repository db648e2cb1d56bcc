-- How parts of statements are put together.
use Rattle.std.proofs.Common.{List, Option, Some}
use Rattle.ms_grammar.specs.declared.term.TextTerm.{TextTerm}
use Rattle.ms_grammar.specs.declared.statement.Cmp.{Cmp}
use Rattle.ms_grammar.specs.declared.statement.TextLit.{TextLit}
use Rattle.ms_grammar.specs.declared.statement.TextLit.TheVariants.{Test}
use Rattle.ms_grammar.specs.declared.statement.TextGuard.{TextGuard}
use Rattle.ms_grammar.specs.declared.statement.SetElement.{SetElement}
use Rattle.ms_grammar.specs.declared.statement.AggElement.{AggElement}
use Rattle.ms_grammar.specs.declared.statement.Head.{Head}
use Rattle.ms_grammar.specs.declared.statement.BodyLit.{BodyLit}
use Rattle.ms_grammar.specs.declared.statement.Form.{Form}
use Rattle.ms_grammar.specs.declared.statement.Form.TheVariants.{Rule}

abbrev pub test_with : Cmp → TextTerm → TextTerm → TextLit
test_with cmp t u = Test t cmp u

abbrev pub set_element : TextTerm → List TextLit → SetElement
set_element a conds = record { atom = a; conds = conds }

abbrev pub agg_element : List TextTerm → List TextLit → AggElement
agg_element tuple conds = record { tuple = tuple; conds = conds }

abbrev pub guard_with : Cmp → TextTerm → Option TextGuard
guard_with cmp t = Some (record { cmp = cmp; bound = t })

abbrev pub set_pair : List SetElement → Option TextGuard → List SetElement × Option TextGuard
set_pair elements right = (elements, right)

abbrev pub agg_pair : List AggElement → Option TextGuard → List AggElement × Option TextGuard
agg_pair elements right = (elements, right)

abbrev pub rule_of : Head → List BodyLit → Form
rule_of h b = Rule h b
