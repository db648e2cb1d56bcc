-- Core rules have a head exactly where they are no constraint.
use Rattle.std.proofs.Common.{List, [], ◌∷◌, Bool, true, false, Option, Some, None, refl, map}
use Rattle.std.proofs.lemmas.List.Elements.{All-nil, All-cons, All-append, All-map}
use Rattle.std.specs.List.{All, flat_map}
use Rattle.ms_base.proofs.Lists.{All-flat_map}
use Rattle.ms_grammar.specs.declared.statement.TextGuard.{TextGuard}
use Rattle.ms_grammar.specs.declared.statement.TextSet.{TextSet}
use Rattle.ms_grammar.specs.declared.statement.SetElement.{SetElement}
use Rattle.ms_grammar.specs.declared.statement.Head.TheVariants.{Empty, Atom as HeadAtom, Set as HeadSet}
use Rattle.ms_grammar.specs.declared.statement.BodyLit.{BodyLit}
use Rattle.ms_grammar.specs.declared.statement.Form.{Form}
use Rattle.ms_grammar.specs.declared.statement.Form.TheVariants.{Rule, Program, External, Const, Show, ShowNone, IncludeIncmode}
use Rattle.ms_grammar.specs.declared.value.Value.{Value}
use Rattle.ms_core.specs.declared.rule.CoreRule.{CoreRule}
use Rattle.ms_core.specs.CoreRules.{bound, core_choice, core_rules}
use Rattle.ms_core.specs.Pools.{form_copies}
use Rattle.ms_core.specs.Replacing.{Meaning, replaced_form}
use Rattle.ms_core.specs.Texts.{Texts, PartName, core_of_call, core_of_form, core_where, meaning_of}
use Rattle.ms_call.specs.declared.command.Call.{Call}
use Rattle.ms_instances.specs.Naming.{IsHeadedRule}
use Rattle.ms_solving.specs.Grounding.{core_of_calls}

abbrev IsHeadedAs : CoreRule → Type 0
IsHeadedAs r = IsHeadedRule r.kind r.head

one : (r : CoreRule) → IsHeadedAs r → All IsHeadedAs (r ∷ [])
one r h = All-cons IsHeadedAs r [] h (All-nil IsHeadedAs)

bound_headed : (left right : Option TextGuard) (s : TextSet) (parts : List BodyLit) → All IsHeadedAs (bound (record s { left = left; right = right }) parts)
bound_headed (Some l) right s parts = one _ refl
bound_headed None (Some r) s parts = one _ refl
bound_headed None None s parts = All-nil IsHeadedAs

choices_headed : (parts : List BodyLit) (es : List SetElement) → All IsHeadedAs (map (core_choice parts) es)
choices_headed parts es = All-map IsHeadedAs (core_choice parts) es (λ k d within. (_, refl))

form_headed : (form : Form) → All IsHeadedAs (core_rules form)
form_headed (Rule Empty parts) = one _ refl
form_headed (Rule (HeadAtom a) parts) = one _ (_, refl)
form_headed (Rule (HeadSet s) parts) = All-append IsHeadedAs (map (core_choice parts) s.elements) (bound s parts) (choices_headed parts s.elements) (bound_headed s.left s.right s parts)
form_headed (External a) = one _ (_, refl)
form_headed (Program name params) = All-nil IsHeadedAs
form_headed (Const name value) = All-nil IsHeadedAs
form_headed (Show name arity) = All-nil IsHeadedAs
form_headed ShowNone = All-nil IsHeadedAs
form_headed IncludeIncmode = All-nil IsHeadedAs

copies_headed : (means : Meaning) (form : Form) → All IsHeadedAs (core_of_form means form)
copies_headed means form = All-flat_map IsHeadedAs core_rules form_headed (form_copies (replaced_form means form))

where_headed : (b : Bool) (t : Texts) (args : List Value) (s : PartName × Form) → All IsHeadedAs (core_where b t args s)
where_headed true t args s = copies_headed (meaning_of t s.0.params args) s.1
where_headed false t args s = All-nil IsHeadedAs

pub calls_headed : (t : Texts) (calls : List Call) → All (λ r. IsHeadedRule r.kind r.head) (core_of_calls t calls)
calls_headed t calls =
    All-flat_map IsHeadedAs (λ call. core_of_call t call.name call.args)
    (λ call. All-flat_map IsHeadedAs _ (λ s. where_headed _ t call.args s) t.said)
    calls
