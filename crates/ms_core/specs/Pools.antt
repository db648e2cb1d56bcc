-- Pools are copied: a statement stands for its copies, one for each choice of alternatives.
-- Source: pools of gringo, in a profile of this project.
use Rattle.std.specs.Prelude.{ℕ, List, [], ◌∷◌, map, Option, Some, None}
use Rattle.std.specs.List.{flat_map}
use Rattle.ms_grammar.specs.declared.term.TextTerm.{TextTerm, Number, Text, Function, Interval, Neg, Abs, Binary}
use Rattle.ms_grammar.specs.declared.term.TextTerm.TheOpen.{TextTerm-F}
use Rattle.ms_grammar.specs.declared.term.TextTerm.TheFolds.{fold-TextTerm}
use Rattle.ms_grammar.specs.declared.statement.TextLit.{TextLit}
use Rattle.ms_grammar.specs.declared.statement.TextLit.TheVariants.{Positive, Negated, Test}
use Rattle.ms_grammar.specs.declared.statement.TextGuard.{TextGuard}
use Rattle.ms_grammar.specs.declared.statement.SetElement.{SetElement}
use Rattle.ms_grammar.specs.declared.statement.TextSet.{TextSet}
use Rattle.ms_grammar.specs.declared.statement.AggElement.{AggElement}
use Rattle.ms_grammar.specs.declared.statement.TextAgg.{TextAgg}
use Rattle.ms_grammar.specs.declared.statement.Head.{Head}
use Rattle.ms_grammar.specs.declared.statement.Head.TheVariants.{Empty, Atom as HeadAtom, Set as HeadSet}
use Rattle.ms_grammar.specs.declared.statement.BodyLit.{BodyLit}
use Rattle.ms_grammar.specs.declared.statement.BodyLit.TheVariants.{Lit, Set as BodySet, Agg as BodyAgg}
use Rattle.ms_grammar.specs.declared.statement.Form.{Form}
use Rattle.ms_grammar.specs.declared.statement.Form.TheVariants.{Rule, External as ExternalForm}

-- each of the first with each of the second, the first varying last
abbrev pub pairs_with : {A B C : Type 0} → (A → B → C) → List A → List B → List C
pairs_with f xs ys = flat_map (λ x. map (f x) ys) xs

-- the lists that have a member of each list, at its place
unfoldable pub choices : {A : Type 0} → List (List A) → List (List A)
choices [] = [] ∷ []
choices (xs ∷ lists) = pairs_with (λ x chosen. x ∷ chosen) xs (choices lists)

abbrev pub with_arguments : List ℕ → List TextTerm → TextTerm
with_arguments f args = Function f (args ∷ [])

abbrev pub copies_step : TextTerm-F (List TextTerm) → List TextTerm
copies_step (TextTerm-F.Number n) = Number n ∷ []
copies_step (TextTerm-F.Text s) = Text s ∷ []
copies_step (TextTerm-F.Function f lists) = map (with_arguments f) (flat_map choices lists)
copies_step (TextTerm-F.Pool alternatives) = flat_map (λ copies. copies) alternatives
copies_step (TextTerm-F.Interval lows highs) = pairs_with Interval lows highs
copies_step (TextTerm-F.Neg ts) = map Neg ts
copies_step (TextTerm-F.Abs ts) = map Abs ts
copies_step (TextTerm-F.Binary op ls rs) = pairs_with (Binary op) ls rs

-- The terms without pools that a term stands for. An atom stands for atoms.
abbrev pub copies : TextTerm → List TextTerm
copies = fold-TextTerm (List TextTerm) copies_step

abbrev pub copies_of_all : {A : Type 0} → (A → List A) → List A → List (List A)
copies_of_all copies_of parts = choices (map copies_of parts)

abbrev pub literal_copies : TextLit → List TextLit
literal_copies (Positive a) = map Positive (copies a)
literal_copies (Negated a) = map Negated (copies a)
literal_copies (Test l cmp r) = pairs_with (λ l r. Test l cmp r) (copies l) (copies r)

abbrev pub guard_copies : Option TextGuard → List (Option TextGuard)
guard_copies None = None ∷ []
guard_copies (Some g) = map (λ t. Some (record g { bound = t })) (copies g.bound)

-- an element is copied by itself
abbrev pub set_element_copies : SetElement → List SetElement
set_element_copies e = pairs_with (λ a conds. record { atom = a; conds = conds }) (copies e.atom) (copies_of_all literal_copies e.conds)

abbrev pub element_copies : AggElement → List AggElement
element_copies e = pairs_with (λ tuple conds. record { tuple = tuple; conds = conds }) (copies_of_all copies e.tuple) (copies_of_all literal_copies e.conds)

-- guards lie outside of the elements
abbrev pub set_copies : TextSet → List TextSet
set_copies s = pairs_with (λ l r. record { left = l; elements = flat_map set_element_copies s.elements; right = r }) (guard_copies s.left) (guard_copies s.right)

abbrev pub aggregate_copies : TextAgg → List TextAgg
aggregate_copies a = pairs_with (λ l r. record { function = a.function; left = l; elements = flat_map element_copies a.elements; right = r }) (guard_copies a.left) (guard_copies a.right)

abbrev pub part_copies : BodyLit → List BodyLit
part_copies (Lit l) = map Lit (literal_copies l)
part_copies (BodySet negated s) = map (BodySet negated) (set_copies s)
part_copies (BodyAgg negated a) = map (BodyAgg negated) (aggregate_copies a)

abbrev pub head_copies : Head → List Head
head_copies Empty = Empty ∷ []
head_copies (HeadAtom a) = map HeadAtom (copies a)
head_copies (HeadSet s) = map HeadSet (set_copies s)

-- The statements without pools that a statement stands for.
abbrev pub form_copies : Form → List Form
form_copies (Rule head body) = pairs_with Rule (head_copies head) (copies_of_all part_copies body)
form_copies (ExternalForm a) = map ExternalForm (copies a)
form_copies form = form ∷ []
