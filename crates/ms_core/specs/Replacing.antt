-- Parameters and constants are replaced.
-- Source: parameters of parts and constants after clingo 5.
use Rattle.std.specs.Prelude.{ℕ, List, [], ◌∷◌, map, Option, Some, None}
use Rattle.std.specs.Option.{option_map}
use Rattle.ms_grammar.specs.declared.term.TextTerm.{TextTerm, out-TextTerm, Number, Text, Function, Pool, Interval, Neg, Abs, Binary}
use Rattle.ms_grammar.specs.declared.term.TextTerm.TheOpen.{TextTerm-F}
use Rattle.ms_grammar.specs.declared.term.TextTerm.TheFolds.{fold-TextTerm}
use Rattle.ms_grammar.specs.declared.statement.TextLit.{TextLit}
use Rattle.ms_grammar.specs.declared.statement.TextLit.TheVariants.{Positive, Negated, Test}
use Rattle.ms_grammar.specs.declared.statement.TextGuard.{TextGuard}
use Rattle.ms_grammar.specs.declared.statement.TextSet.{TextSet}
use Rattle.ms_grammar.specs.declared.statement.TextAgg.{TextAgg}
use Rattle.ms_grammar.specs.declared.statement.Head.{Head}
use Rattle.ms_grammar.specs.declared.statement.Head.TheVariants.{Empty, Atom as HeadAtom, Set as HeadSet}
use Rattle.ms_grammar.specs.declared.statement.BodyLit.{BodyLit}
use Rattle.ms_grammar.specs.declared.statement.BodyLit.TheVariants.{Lit, Set as BodySet, Agg as BodyAgg}
use Rattle.ms_grammar.specs.declared.statement.Form.{Form}
use Rattle.ms_grammar.specs.declared.statement.Form.TheVariants.{Rule, External as ExternalForm}
use Rattle.ms_grammar.specs.declared.value.Value.{Value}
use Rattle.ms_grammar.specs.declared.value.Value.TheOpen.{Value-F}
use Rattle.ms_grammar.specs.declared.value.Value.TheFolds.{fold-Value}

-- what a name stands for, if it stands for a value
abbrev pub Meaning : Type 0
Meaning = List ℕ → Option Value

abbrev pub value_step : Value-F TextTerm → TextTerm
value_step (Value-F.Number n) = Number n
value_step (Value-F.Text s) = Text s
value_step (Value-F.Function f args) = Function f (args ∷ [])

-- a value as a term
abbrev pub value_term : Value → TextTerm
value_term = fold-Value TextTerm value_step

abbrev pub replaced_name : Option Value → TextTerm → TextTerm
replaced_name (Some v) t = value_term v
replaced_name None t = t

abbrev pub replace_step : Meaning → TextTerm-F TextTerm → TextTerm
replace_step means (TextTerm-F.Number n) = Number n
replace_step means (TextTerm-F.Text s) = Text s
replace_step means (TextTerm-F.Function f ([] ∷ [])) = replaced_name (means f) (Function f ([] ∷ []))
replace_step means (TextTerm-F.Function f lists) = Function f lists
replace_step means (TextTerm-F.Pool ts) = Pool ts
replace_step means (TextTerm-F.Interval low high) = Interval low high
replace_step means (TextTerm-F.Neg t) = Neg t
replace_step means (TextTerm-F.Abs t) = Abs t
replace_step means (TextTerm-F.Binary op l r) = Binary op l r

-- The term with each name without arguments that stands for a value replaced, once.
abbrev pub replaced : Meaning → TextTerm → TextTerm
replaced means = fold-TextTerm TextTerm (replace_step means)

abbrev pub replaced_arguments : Meaning → TextTerm-F TextTerm → TextTerm → TextTerm
replaced_arguments means (TextTerm-F.Function p lists) t = Function p (map (map (replaced means)) lists)
replaced_arguments means other t = t

-- an atom keeps its own name
abbrev pub replaced_atom : Meaning → TextTerm → TextTerm
replaced_atom means t = replaced_arguments means (out-TextTerm t) t

abbrev pub replaced_literal : Meaning → TextLit → TextLit
replaced_literal means (Positive a) = Positive (replaced_atom means a)
replaced_literal means (Negated a) = Negated (replaced_atom means a)
replaced_literal means (Test l cmp r) = Test (replaced means l) cmp (replaced means r)

abbrev pub replaced_guard : Meaning → TextGuard → TextGuard
replaced_guard means g = record g { bound = replaced means g.bound }

abbrev pub replaced_set : Meaning → TextSet → TextSet
replaced_set means s = record {
  left = option_map (replaced_guard means) s.left;
  elements = map (λ e. record { atom = replaced_atom means e.atom; conds = map (replaced_literal means) e.conds }) s.elements;
  right = option_map (replaced_guard means) s.right;
}

abbrev pub replaced_aggregate : Meaning → TextAgg → TextAgg
replaced_aggregate means a = record {
  function = a.function;
  left = option_map (replaced_guard means) a.left;
  elements = map (λ e. record { tuple = map (replaced means) e.tuple; conds = map (replaced_literal means) e.conds }) a.elements;
  right = option_map (replaced_guard means) a.right;
}

abbrev pub replaced_part : Meaning → BodyLit → BodyLit
replaced_part means (Lit l) = Lit (replaced_literal means l)
replaced_part means (BodySet negated s) = BodySet negated (replaced_set means s)
replaced_part means (BodyAgg negated a) = BodyAgg negated (replaced_aggregate means a)

abbrev pub replaced_head : Meaning → Head → Head
replaced_head means Empty = Empty
replaced_head means (HeadAtom a) = HeadAtom (replaced_atom means a)
replaced_head means (HeadSet s) = HeadSet (replaced_set means s)

-- The statement with parameters and constants replaced.
abbrev pub replaced_form : Meaning → Form → Form
replaced_form means (Rule head body) = Rule (replaced_head means head) (map (replaced_part means) body)
replaced_form means (ExternalForm a) = ExternalForm (replaced_atom means a)
replaced_form means form = form
