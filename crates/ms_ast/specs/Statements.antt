-- What is printed of a statement.
use Rattle.std.specs.Prelude.{ℕ, Bool, true, false, List, [], ◌∷◌, ◌++◌, map, Option, Some, None, codes}
use Rattle.ms_text.specs.declared.token.TokenKind.{TokenKind}
use Rattle.ms_text.specs.declared.token.TokenKind.TheVariants.{Not, Program, External, Const, Show, Include, Dot, Colon, If, LeftBrace, RightBrace, Slash, Equal, NotEqual, Less, LessEqual, Greater, GreaterEqual}
use Rattle.ms_grammar.specs.declared.statement.Cmp.{Cmp}
use Rattle.ms_grammar.specs.declared.statement.Cmp.TheVariants.{Eq, Ne, Lt, Le, Gt, Ge}
use Rattle.ms_grammar.specs.declared.statement.TextLit.{TextLit}
use Rattle.ms_grammar.specs.declared.statement.TextLit.TheVariants.{Positive, Negated, Test}
use Rattle.ms_grammar.specs.declared.statement.TextGuard.{TextGuard}
use Rattle.ms_grammar.specs.declared.statement.SetElement.{SetElement}
use Rattle.ms_grammar.specs.declared.statement.TextSet.{TextSet}
use Rattle.ms_grammar.specs.declared.statement.AggElement.{AggElement}
use Rattle.ms_grammar.specs.declared.statement.TextAgg.{TextAgg}
use Rattle.ms_grammar.specs.declared.statement.Head.{Head}
use Rattle.ms_grammar.specs.declared.statement.Head.TheVariants.{Empty, Atom, Set as HeadSet}
use Rattle.ms_grammar.specs.declared.statement.BodyLit.{BodyLit}
use Rattle.ms_grammar.specs.declared.statement.BodyLit.TheVariants.{Lit, Set as BodySet, Agg as BodyAgg}
use Rattle.ms_grammar.specs.declared.statement.Form.{Form}
use Rattle.ms_grammar.specs.declared.statement.Form.TheVariants.{Rule, Program as ProgramForm, External as ExternalForm, Const as ConstForm, Show as ShowForm, ShowNone, IncludeIncmode}
use Rattle.ms_grammar.specs.Words.{name, number}
use Rattle.ms_grammar.specs.Statements.{function_kind}
use Rattle.ms_ast.specs.Ink.{Ink, blank, word, ink_text, mark, in_parens, side_by_side, comma, comma_blank, semicolon_blank, apart}
use Rattle.ms_ast.specs.Terms.{term_ink}
use Rattle.ms_ast.specs.Values.{value_ink}

abbrev pub cmp_kind : Cmp → TokenKind
cmp_kind Eq = Equal
cmp_kind Ne = NotEqual
cmp_kind Lt = Less
cmp_kind Le = LessEqual
cmp_kind Gt = Greater
cmp_kind Ge = GreaterEqual

abbrev pub literal_ink : TextLit → List Ink
literal_ink (Positive t) = term_ink t
literal_ink (Negated t) = mark Not ∷ blank ∷ term_ink t
literal_ink (Test l cmp r) = term_ink l ++ (apart (cmp_kind cmp) ++ term_ink r)

-- a colon stands only before conditions
abbrev pub conditions_ink : List TextLit → List Ink
conditions_ink [] = []
conditions_ink (l ∷ ls) = apart Colon ++ side_by_side comma_blank (map literal_ink (l ∷ ls))

abbrev pub set_element_ink : SetElement → List Ink
set_element_ink e = term_ink e.atom ++ conditions_ink e.conds

abbrev pub agg_element_ink : AggElement → List Ink
agg_element_ink e = side_by_side comma (map term_ink e.tuple) ++ conditions_ink e.conds

-- a guard has its sign always
abbrev pub left_ink : Option TextGuard → List Ink
left_ink None = []
left_ink (Some g) = term_ink g.bound ++ apart (cmp_kind g.cmp)

abbrev pub right_ink : Option TextGuard → List Ink
right_ink None = []
right_ink (Some g) = apart (cmp_kind g.cmp) ++ term_ink g.bound

abbrev pub in_braces : List (List Ink) → List Ink
in_braces elements = mark LeftBrace ∷ side_by_side semicolon_blank elements ++ mark RightBrace ∷ []

abbrev pub set_ink : TextSet → List Ink
set_ink s = left_ink s.left ++ (in_braces (map set_element_ink s.elements) ++ right_ink s.right)

abbrev pub agg_ink : TextAgg → List Ink
agg_ink a = left_ink a.left ++ (mark (function_kind a.function) ∷ (in_braces (map agg_element_ink a.elements) ++ right_ink a.right))

abbrev pub negation_ink : Bool → List Ink
negation_ink true = mark Not ∷ blank ∷ []
negation_ink false = []

abbrev pub part_ink : BodyLit → List Ink
part_ink (Lit l) = literal_ink l
part_ink (BodySet negated s) = negation_ink negated ++ set_ink s
part_ink (BodyAgg negated a) = negation_ink negated ++ agg_ink a

abbrev pub body_ink : List BodyLit → List Ink
body_ink body = side_by_side comma_blank (map part_ink body)

abbrev pub head_ink : Head → List Ink
head_ink Empty = []
head_ink (Atom t) = term_ink t
head_ink (HeadSet s) = set_ink s

-- `:-` and the body, where it isn't empty
abbrev pub behind_head : List BodyLit → List Ink
behind_head [] = []
behind_head (b ∷ bs) = apart If ++ body_ink (b ∷ bs)

-- a rule without a head has its `:-` always
abbrev pub rule_ink : Head → List BodyLit → List Ink
rule_ink Empty body = mark If ∷ blank ∷ body_ink body
rule_ink (Atom t) body = term_ink t ++ behind_head body
rule_ink (HeadSet s) body = set_ink s ++ behind_head body

abbrev pub params_ink : List (List ℕ) → List Ink
params_ink [] = []
params_ink (p ∷ ps) = in_parens (side_by_side comma (map (λ n. word (name n) ∷ []) (p ∷ ps)))

-- a statement before its dot
abbrev pub form_ink : Form → List Ink
form_ink (Rule head body) = rule_ink head body
form_ink (ProgramForm n params) = mark Program ∷ blank ∷ word (name n) ∷ params_ink params
form_ink (ExternalForm t) = mark External ∷ blank ∷ term_ink t
form_ink (ConstForm n v) = mark Const ∷ blank ∷ word (name n) ∷ mark Equal ∷ value_ink v
form_ink (ShowForm p n) = mark Show ∷ blank ∷ word (name p) ∷ mark Slash ∷ word (number n) ∷ []
form_ink ShowNone = mark Show ∷ []
form_ink IncludeIncmode = mark Include ∷ blank ∷ mark Less ∷ word (name (codes "incmode")) ∷ mark Greater ∷ []

abbrev pub statement_ink : Form → List Ink
statement_ink form = form_ink form ++ mark Dot ∷ []

-- the text of a statement
abbrev pub statement_text : Form → List ℕ
statement_text form = ink_text (statement_ink form)
