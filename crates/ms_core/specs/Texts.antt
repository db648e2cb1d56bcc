-- What texts say together: their parts, their constants, and which atoms they show.
-- Source: `#program`, `#const`, `#show` and `#include <incmode>` after clingo 5, in a profile of this project.
use Rattle.std.specs.Prelude.{ℕ, ◌==◌, nat_eq, Bool, true, false, ◌&&◌, if◌then◌else◌, List, [], ◌∷◌, ◌++◌, length, Option, Some, None, codes}
use Rattle.std.specs.List.{flat_map, filter_map, list_any}
use Rattle.std.specs.Cmp.Lexicographic.{pointwise}
use Rattle.ms_grammar.specs.declared.term.TextTerm.{Function}
use Rattle.ms_grammar.specs.declared.value.Value.{Value}
use Rattle.ms_grammar.specs.declared.statement.Form.{Form}
use Rattle.ms_grammar.specs.declared.statement.Form.TheVariants.{Program, External, Const, Show, ShowNone, IncludeIncmode}
use Rattle.ms_grammar.specs.declared.statement.Statement.{Statement}
use Rattle.ms_core.specs.declared.rule.CoreRule.{CoreRule}
use Rattle.ms_core.specs.Replacing.{Meaning, replaced_form}
use Rattle.ms_core.specs.Pools.{form_copies}
use Rattle.ms_core.specs.CoreRules.{core_rules}

abbrev pub is_name : List ℕ → List ℕ → Bool
is_name name other = pointwise nat_eq name other

-- A part by its name, with the names of its parameters in one place of a text.
pub record PartName : Type 0 where
  pub name : List ℕ
  pub params : List (List ℕ)

-- where each text begins
abbrev pub base_part : PartName
base_part = record { name = codes "base"; params = [] }

-- the part whose atom `query(t)` is an external in the incremental mode
abbrev pub check_part : PartName
check_part = record { name = codes "check"; params = codes "t" ∷ [] }

abbrev pub query_external : Form
query_external = External (Function (codes "query") ((Function (codes "t") ([] ∷ []) ∷ []) ∷ []))

-- what a statement says of a part, and the part of the statements after it
abbrev pub said_of : PartName → Form → PartName × Form
said_of here IncludeIncmode = (check_part, query_external)
said_of here form = (here, form)

abbrev pub part_after : PartName → Form → PartName
part_after here (Program name params) = record { name = name; params = params }
part_after here form = here

-- the statements of a text from here on, each with its part
unfoldable pub said_from : PartName → List Statement → List (PartName × Form)
said_from here [] = []
said_from here (s ∷ ss) = said_of here s.form ∷ said_from (part_after here s.form) ss

-- What the accepted texts say, in their order, and the values that were given to constants from outside, the
-- last one first.
pub record Texts : Type 0 where
  pub said : List (PartName × Form)
  pub given : List (List ℕ × Value)

abbrev pub no_texts : Texts
no_texts = record { said = []; given = [] }

-- with one more text, which begins in the base
abbrev pub with_text : Texts → List Statement → Texts
with_text t statements = record t { said = t.said ++ said_from base_part statements }

abbrev pub with_given : Texts → List ℕ → Value → Texts
with_given t name value = record t { given = (name, value) ∷ t.given }

-- the value of a name in a list of names with values
unfoldable pub value_in : List (List ℕ × Value) → List ℕ → Option Value
value_in [] name = None
value_in (given ∷ more) name = if is_name given.0 name then Some given.1 else value_in more name

abbrev pub constant_of : Form → Option (List ℕ × Value)
constant_of (Const name value) = Some (name, value)
constant_of form = None

-- the constants that texts define
abbrev pub defined : Texts → List (List ℕ × Value)
defined t = filter_map (λ statement. constant_of statement.1) t.said

-- The value of a constant. One that was given from outside wins.
abbrev pub constant : Texts → List ℕ → Option Value
constant t name = value_in (t.given ++ defined t) name

unfoldable pub paired : {A B : Type 0} → List A → List B → List (A × B)
paired [] ys = []
paired (x ∷ xs) [] = []
paired (x ∷ xs) (y ∷ ys) = (x, y) ∷ paired xs ys

-- parameters before constants
abbrev pub meaning_of : Texts → List (List ℕ) → List Value → Meaning
meaning_of t params args name = elim (value_in (paired params args) name) [ Some v ↦ Some v | None ↦ constant t name ]

-- the core rules of one statement, under a meaning
abbrev pub core_of_form : Meaning → Form → List CoreRule
core_of_form means form = flat_map core_rules (form_copies (replaced_form means form))

abbrev pub is_part : List ℕ → ℕ → PartName → Bool
is_part name count part = is_name part.name name && (length part.params == count)

abbrev pub core_where : Bool → Texts → List Value → PartName × Form → List CoreRule
core_where true t args statement = core_of_form (meaning_of t statement.0.params args) statement.1
core_where false t args statement = []

-- The core rules of a part with these arguments: those of its statements, in the order of the texts.
abbrev pub core_of_call : Texts → List ℕ → List Value → List CoreRule
core_of_call t name args = flat_map (λ statement. core_where (is_part name (length args) statement.0) t args statement) t.said

-- What `#show` says: nothing of a statement that is none.
abbrev pub says_show : Form → Bool
says_show (Show name arity) = true
says_show ShowNone = true
says_show form = false

abbrev pub shows_form : List ℕ → ℕ → Form → Bool
shows_form name arity (Show p n) = is_name p name && (n == arity)
shows_form name arity form = false

-- Atoms of this name and number of arguments are shown: all are where there is no `#show`.
abbrev pub shows : Texts → List ℕ → ℕ → Bool
shows t name arity = if list_any (λ statement. says_show statement.1) t.said then list_any (λ statement. shows_form name arity statement.1) t.said else true

-- the line of the first `#const` whose name is defined before it, where these were defined
unfoldable pub second_definition : List (List ℕ × Value) → List Statement → Option ℕ
second_definition before [] = None
second_definition before (s ∷ ss) = elim (constant_of s.form) [
  | None ↦ second_definition before ss
  | Some c ↦ elim (value_in before c.0) [ Some v ↦ Some s.line | None ↦ second_definition (c ∷ before) ss ]
]

-- The line in which a text defines a constant a second time, for the first time, if it does.
abbrev pub const_twice : Texts → List Statement → Option ℕ
const_twice t statements = second_definition (defined t) statements
