-- What is read is spelled so: the words so far are spelled by what is pending, and each word keeps that.
use Rattle.std.proofs.Common.{◌≡◌, ℕ, List, [], ◌∷◌, ◌++◌, ◌⊎◌, inl, inr, Option, Some, None, refl, ap, sym, ◌∙◌, subst, append_assoc, append-nil}
use Rattle.std.proofs.lemmas.Option.{none-some, some_pair_parts}
use Rattle.std.specs.Option.{option_map, option_and_then}
use Rattle.ms_text.specs.declared.token.TokenKind.TheVariants as kind
use Rattle.ms_grammar.specs.declared.part.ValuePart.{ValuePart}
use Rattle.ms_grammar.specs.declared.part.ValueRow.{ValueRow}
use Rattle.ms_grammar.specs.Terms.{both}
use Rattle.ms_grammar.specs.Words.{Word, name, number, quoted, sign}
use Rattle.ms_grammar.specs.Values.{Spelling, Spellings, numeral, negative, string, constant, no_arguments, function, empty_tuple, tuple, tuple_comma, one_value, and_value, value_words, values_words, value_part, values_row, value_named, value_grouped, no_values, with_value}
use Rattle.ms_read_value.specs.declared.groups.Group.{Group}
use Rattle.ms_read_value.specs.declared.reader.Place.{Place}
use Rattle.ms_read_value.specs.declared.reader.Place.TheVariants.{First, Comma, Minus, Name, Value}
use Rattle.ms_read_value.specs.declared.reader.Progress.{Progress}
use Rattle.ms_read_value.specs.declared.reader.Progress.TheVariants.{Within, Done, Failed}
use Rattle.ms_read_value.specs.Lexemes.{lexeme_of}
use Rattle.ms_read_value.specs.Machine.{opened, with_part, closed, behind, behind_some, leave, leave_by_comma, begin, follow, follow_name, step_at}
use Rattle.ms_read_value.specs.Front.{read_on}
use Rattle.ms_read_value.proofs.Numerals.{numeral-least, negative-least}
use Rattle.ms_read_value.proofs.Steps.{constant_part, found_at-word, found_at-end}

-- the words that open a bracket
abbrev pub opening : Option (List ℕ) → List Word
opening None = sign kind.LeftParen ∷ []
opening (Some f) = name f ∷ sign kind.LeftParen ∷ []

-- The words open the bracket.
record IsNew (group : Group) (words : List Word) : Type 0 where
  row_is : group.row ≡ no_values
  words_are : words ≡ opening group.name

-- The words open the bracket and spell its values.
record HasValues (group : Group) (words : List Word) : Type 0 where
  values : Spellings
  row_is : values_row values ≡ Some group.row
  words_are : words ≡ opening group.name ++ values_words values

-- And then comes a comma.
record HasComma (group : Group) (words : List Word) : Type 0 where
  front : List Word
  values : HasValues group front
  words_are : words ≡ front ++ sign kind.Comma ∷ []

-- The words are in two parts.
record Splits (Outer Inner : List Word → Type 0) (words : List Word) : Type 0 where
  outside : List Word
  inside : List Word
  outer : Outer outside
  inner : Inner inside
  words_are : words ≡ outside ++ inside

-- The words open the brackets, and in each of them a value may come next.
pub Standing : List Group → List Word → Type 0
Standing [] words = words ≡ []
Standing (group ∷ groups) words = Splits (Standing groups) (λ inside. IsNew group inside ⊎ HasComma group inside) words

-- The words lead to the place.
pub StandsAt : Place → List Group → List Word → Type 0
StandsAt First (group ∷ groups) words = Splits (Standing groups) (IsNew group) words
StandsAt Comma (group ∷ groups) words = Splits (Standing groups) (HasComma group) words
StandsAt Value (group ∷ groups) words = Splits (Standing groups) (HasValues group) words
StandsAt Minus groups words = Splits (Standing groups) (λ inside. inside ≡ sign kind.Minus ∷ []) words
StandsAt (Name f) groups words = Splits (Standing groups) (λ inside. inside ≡ name f ∷ []) words
StandsAt place [] words = ⊥

-- The words spell the value.
pub record Spells (part : ValuePart) (words : List Word) : Type 0 where
  pub value : Spelling
  pub part_is : value_part value ≡ Some part
  pub words_are : value_words value ≡ words

-- The words lead there.
abbrev pub Leads : Progress → List Word → Type 0
Leads (Within reader) words = StandsAt reader.place reader.groups words
Leads (Done part) words = Spells part words
Leads Failed words = Unit {0}

-- one more value in a bracket
with_value-spelled : (group : Group) (words : List Word) → IsNew group words ⊎ HasComma group words → (v : Spelling) (part : ValuePart) → value_part v ≡ Some part → HasValues (with_part group part) (words ++ value_words v)
with_value-spelled group words (inl new) v part e = record {
  values = one_value v;
  row_is = ap (option_map (with_value no_values)) e ∙ ap (λ row. Some (with_value row part)) (sym new.row_is);
  words_are = ap (λ ws. ws ++ value_words v) new.words_are;
}
with_value-spelled group words (inr comma) v part e = record {
  values = and_value comma.values.values v;
  row_is = ap (λ row. both (λ r p. Some (with_value r p)) row (value_part v)) comma.values.row_is ∙ ap (λ p. both (λ r q. Some (with_value r q)) (Some group.row) p) e;
  words_are =
      ap (λ ws. ws ++ value_words v) (comma.words_are ∙ ap (λ ws. ws ++ sign kind.Comma ∷ []) comma.values.words_are)
      ∙ append_assoc (opening group.name ++ values_words comma.values.values) (sign kind.Comma ∷ []) (value_words v)
      ∙ append_assoc (opening group.name) (values_words comma.values.values) (sign kind.Comma ∷ value_words v);
}

-- a value behind the words
behind-leads : (groups : List Group) (words : List Word) → Standing groups words → (v : Spelling) (part : ValuePart) → value_part v ≡ Some part → Leads (behind groups part) (words ++ value_words v)
unfolding Standing StandsAt
behind-leads [] words s v part e = record { value = v; part_is = e; words_are = ap (λ ws. ws ++ value_words v) (sym s) }
behind-leads (group ∷ groups) words s v part e = record {
  outside = s.outside;
  inside = s.inside ++ value_words v;
  outer = s.outer;
  inner = with_value-spelled group s.inside s.inner v part e;
  words_are = ap (λ ws. ws ++ value_words v) s.words_are ∙ append_assoc s.outside s.inside (value_words v);
}

behind_some-leads : (groups : List Group) (words : List Word) → Standing groups words → (v : Spelling) (part : Option ValuePart) → value_part v ≡ part → Leads (behind_some part groups) (words ++ value_words v)
behind_some-leads groups words s v None e = tt
behind_some-leads groups words s v (Some part) e = behind-leads groups words s v part e

-- the first word of a value
begin-leads : (groups : List Group) (words : List Word) → Standing groups words → (w : Word) → Leads (begin groups (lexeme_of w)) (words ++ w ∷ [])
unfolding Standing StandsAt
begin-leads groups words s (name f) = record { outside = words; inside = name f ∷ []; outer = s; inner = refl; words_are = refl }
begin-leads groups words s (number n) = behind_some-leads groups words s (numeral n) _ (sym (numeral-least n))
begin-leads groups words s (quoted t) = behind_some-leads groups words s (string t) _ refl
begin-leads groups words s (sign kind.Minus) = record { outside = words; inside = sign kind.Minus ∷ []; outer = s; inner = refl; words_are = refl }
begin-leads groups words s (sign kind.LeftParen) = record { outside = words; inside = sign kind.LeftParen ∷ []; outer = s; inner = record { row_is = refl; words_are = refl }; words_are = refl }
begin-leads groups words s (sign other) = tt

-- a bracket that is closed
close-leads : (groups : List Group) (words : List Word) (Inner : List Word → Type 0) (s : Splits (Standing groups) Inner words) (v : Spelling) (part : Option ValuePart) → value_part v ≡ part → value_words v ≡ s.inside ++ sign kind.RightParen ∷ []
    → Leads (behind_some part groups) (words ++ sign kind.RightParen ∷ [])
close-leads groups words Inner s v part e f =
    let whole : s.outside ++ value_words v ≡ words ++ sign kind.RightParen ∷ [] =
    ap (λ ws. s.outside ++ ws) f ∙ sym (append_assoc s.outside s.inside (sign kind.RightParen ∷ [])) ∙ ap (λ ws. ws ++ sign kind.RightParen ∷ []) (sym s.words_are) in
    subst (Leads (behind_some part groups)) whole (behind_some-leads groups s.outside s.outer v part e)

new-closed : (called : Option (List ℕ)) (row : ValueRow) (groups : List Group) (words : List Word) (s : Splits (Standing groups) (IsNew (record { name = called; row = row })) words)
    → Leads (leave (record { name = called; row = row } ∷ groups)) (words ++ sign kind.RightParen ∷ [])
new-closed None row groups words s = close-leads groups words _ s empty_tuple _ (ap (λ r. closed (record { name = None; row = r })) (sym s.inner.row_is)) (ap (λ ws. ws ++ sign kind.RightParen ∷ []) (sym s.inner.words_are))
new-closed (Some f) row groups words s = close-leads groups words _ s (no_arguments f) _ (ap (λ r. closed (record { name = Some f; row = r })) (sym s.inner.row_is)) (ap (λ ws. ws ++ sign kind.RightParen ∷ []) (sym s.inner.words_are))

values-closed : (called : Option (List ℕ)) (row : ValueRow) (groups : List Group) (words : List Word) (s : Splits (Standing groups) (HasValues (record { name = called; row = row })) words)
    → Leads (leave (record { name = called; row = row } ∷ groups)) (words ++ sign kind.RightParen ∷ [])
values-closed None row groups words s = close-leads groups words _ s (tuple s.inner.values) _ (ap (option_and_then (λ r. value_grouped r.values r)) s.inner.row_is) (ap (λ ws. ws ++ sign kind.RightParen ∷ []) (sym s.inner.words_are))
values-closed (Some f) row groups words s = close-leads groups words _ s (function f s.inner.values) _ (ap (option_and_then (value_named f)) s.inner.row_is) (ap (λ ws. ws ++ sign kind.RightParen ∷ []) (sym s.inner.words_are))

comma-closed : (called : Option (List ℕ)) (row : ValueRow) (groups : List Group) (words : List Word) (s : Splits (Standing groups) (HasComma (record { name = called; row = row })) words)
    → Leads (leave_by_comma (record { name = called; row = row } ∷ groups)) (words ++ sign kind.RightParen ∷ [])
comma-closed None row groups words s =
    let values = s.inner.values in
    close-leads groups words _ s (tuple_comma values.values) _ (ap (option_and_then (value_named [])) values.row_is)
    (sym (ap (λ ws. ws ++ sign kind.RightParen ∷ []) (s.inner.words_are ∙ ap (λ ws. ws ++ sign kind.Comma ∷ []) values.words_are) ∙ append_assoc (opening None ++ values_words values.values) (sign kind.Comma ∷ []) (sign kind.RightParen ∷ [])))
comma-closed (Some f) row groups words s = tt

-- a word behind a value
follow-leads : (groups : List Group) (words : List Word) → StandsAt Value groups words → (w : Word) → Leads (follow groups (lexeme_of w)) (words ++ w ∷ [])
unfolding StandsAt
follow-leads [] words s w = absurd s
follow-leads (group ∷ groups) words s (name f) = tt
follow-leads (group ∷ groups) words s (number n) = tt
follow-leads (group ∷ groups) words s (quoted t) = tt
follow-leads (group ∷ groups) words s (sign kind.Comma) = record {
  outside = s.outside;
  inside = s.inside ++ sign kind.Comma ∷ [];
  outer = s.outer;
  inner = record { front = s.inside; values = s.inner; words_are = refl };
  words_are = ap (λ ws. ws ++ sign kind.Comma ∷ []) s.words_are ∙ append_assoc s.outside s.inside (sign kind.Comma ∷ []);
}
follow-leads (group ∷ groups) words s (sign kind.RightParen) = values-closed group.name group.row groups words s
follow-leads (group ∷ groups) words s (sign other) = tt

-- a word behind a name
outside-name : (f : List ℕ) (groups : List Group) (words : List Word) (s : Splits (Standing groups) (λ inside. inside ≡ name f ∷ []) words) → s.outside ++ name f ∷ [] ≡ words
outside-name f groups words s = ap (λ inside. s.outside ++ inside) (sym s.inner) ∙ sym s.words_are

constant-leads : (f : List ℕ) (groups : List Group) (words : List Word) → StandsAt (Name f) groups words → (w : Word) → Leads (follow_name (behind_some (value_part (constant f)) groups) (lexeme_of w)) (words ++ w ∷ [])
unfolding StandsAt
constant-leads f [] words s w = tt
constant-leads f (group ∷ groups) words s w =
    let inside : List Group = with_part group (constant_part f) ∷ groups in
    follow-leads inside words (subst (StandsAt Value inside) (outside-name f (group ∷ groups) words s) (behind-leads (group ∷ groups) s.outside s.outer (constant f) (constant_part f) refl)) w

name-leads : (f : List ℕ) (groups : List Group) (words : List Word) → StandsAt (Name f) groups words → (w : Word) → Leads (step_at (Name f) groups (lexeme_of w)) (words ++ w ∷ [])
unfolding StandsAt
name-leads f groups words s (name g) = constant-leads f groups words s (name g)
name-leads f groups words s (number n) = constant-leads f groups words s (number n)
name-leads f groups words s (quoted t) = constant-leads f groups words s (quoted t)
name-leads f groups words s (sign kind.LeftParen) = record {
  outside = s.outside;
  inside = opening (Some f);
  outer = s.outer;
  inner = record { row_is = refl; words_are = refl };
  words_are = ap (λ ws. ws ++ sign kind.LeftParen ∷ []) (sym (outside-name f groups words s)) ∙ append_assoc s.outside (name f ∷ []) (sign kind.LeftParen ∷ []);
}
name-leads f groups words s (sign other) = constant-leads f groups words s (sign other)

-- a word behind a minus
minus-leads : (groups : List Group) (words : List Word) → StandsAt Minus groups words → (w : Word) → Leads (step_at Minus groups (lexeme_of w)) (words ++ w ∷ [])
unfolding StandsAt
minus-leads groups words s (number n) =
    let whole : s.outside ++ value_words (negative n) ≡ words ++ number n ∷ [] =
    sym (append_assoc s.outside (sign kind.Minus ∷ []) (number n ∷ []))
    ∙ ap (λ inside. (s.outside ++ inside) ++ number n ∷ []) (sym s.inner)
    ∙ ap (λ ws. ws ++ number n ∷ []) (sym s.words_are) in
    subst (Leads (step_at Minus groups (lexeme_of (number n)))) whole (behind_some-leads groups s.outside s.outer (negative n) _ (sym (negative-least n)))
minus-leads groups words s (name f) = tt
minus-leads groups words s (quoted t) = tt
minus-leads groups words s (sign kind.Minus) = tt
minus-leads groups words s (sign other) = tt

-- a word behind an opening bracket
first_or_close : (groups : List Group) (words : List Word) → Leads (leave groups) (words ++ sign kind.RightParen ∷ []) → Standing groups words → (w : Word) → Leads (step_at First groups (lexeme_of w)) (words ++ w ∷ [])
first_or_close groups words closes s (name f) = begin-leads groups words s (name f)
first_or_close groups words closes s (number n) = begin-leads groups words s (number n)
first_or_close groups words closes s (quoted t) = begin-leads groups words s (quoted t)
first_or_close groups words closes s (sign kind.RightParen) = closes
first_or_close groups words closes s (sign other) = begin-leads groups words s (sign other)

first-leads : (groups : List Group) (words : List Word) → StandsAt First groups words → (w : Word) → Leads (step_at First groups (lexeme_of w)) (words ++ w ∷ [])
unfolding Standing StandsAt
first-leads [] words s w = absurd s
first-leads (group ∷ groups) words s w =
    let standing : Standing (group ∷ groups) words = record { outside = s.outside; inside = s.inside; outer = s.outer; inner = inl s.inner; words_are = s.words_are } in
    first_or_close (group ∷ groups) words (new-closed group.name group.row groups words s) standing w

-- and behind a comma
next_or_close : (groups : List Group) (words : List Word) → Leads (leave_by_comma groups) (words ++ sign kind.RightParen ∷ []) → Standing groups words → (w : Word) → Leads (step_at Comma groups (lexeme_of w)) (words ++ w ∷ [])
next_or_close groups words closes s (name f) = begin-leads groups words s (name f)
next_or_close groups words closes s (number n) = begin-leads groups words s (number n)
next_or_close groups words closes s (quoted t) = begin-leads groups words s (quoted t)
next_or_close groups words closes s (sign kind.RightParen) = closes
next_or_close groups words closes s (sign other) = begin-leads groups words s (sign other)

comma-leads : (groups : List Group) (words : List Word) → StandsAt Comma groups words → (w : Word) → Leads (step_at Comma groups (lexeme_of w)) (words ++ w ∷ [])
unfolding Standing StandsAt
comma-leads [] words s w = absurd s
comma-leads (group ∷ groups) words s w =
    let standing : Standing (group ∷ groups) words = record { outside = s.outside; inside = s.inside; outer = s.outer; inner = inr s.inner; words_are = s.words_are } in
    next_or_close (group ∷ groups) words (comma-closed group.name group.row groups words s) standing w

step-leads : (place : Place) (groups : List Group) (words : List Word) → StandsAt place groups words → (w : Word) → Leads (step_at place groups (lexeme_of w)) (words ++ w ∷ [])
step-leads First groups words s w = first-leads groups words s w
step-leads Comma groups words s w = comma-leads groups words s w
step-leads Minus groups words s w = minus-leads groups words s w
step-leads (Name f) groups words s w = name-leads f groups words s w
step-leads Value groups words s w = follow-leads groups words s w

-- a name with an opening bracket
pub opening-leads : (f : List ℕ) → StandsAt First (opened (Some f) ∷ []) (opening (Some f))
unfolding Standing StandsAt
opening-leads f = record { outside = []; inside = opening (Some f); outer = refl; inner = record { row_is = refl; words_are = refl }; words_are = refl }

-- a value where no word was read
pub front-leads : (w : Word) → Leads (begin [] (lexeme_of w)) (w ∷ [])
unfolding Standing
front-leads w = begin-leads [] [] refl w

-- The words lead to a value, and the rest follows.
pub record Finds (words ws : List Word) (part : ValuePart) (rest : List Word) : Type 0 where
  pub more : List Word
  pub spells : Spells part (words ++ more)
  pub words_are : ws ≡ more ++ rest

pub finds_more : (words : List Word) (w : Word) (ws : List Word) (part : ValuePart) (rest : List Word) → Finds (words ++ w ∷ []) ws part rest → Finds words (w ∷ ws) part rest
finds_more words w ws part rest f = record {
  more = w ∷ f.more;
  spells = subst (Spells part) (append_assoc words (w ∷ []) f.more) f.spells;
  words_are = ap (λ x. w ∷ x) f.words_are;
}

pub finds_here : (words ws : List Word) (found part : ValuePart) (rest : List Word) → Spells found words → found ≡ part → ws ≡ rest → Finds words ws part rest
finds_here words ws found part rest s e f = record {
  more = [];
  spells = subst (λ p. Spells p (words ++ [])) e (subst (Spells found) (sym (append-nil words)) s);
  words_are = f;
}

pub sound : (ws : List Word) (progress : Progress) (words : List Word) → Leads progress words → (part : ValuePart) (rest : List Word) → read_on progress ws ≡ Some (part, rest) → Finds words ws part rest
sound ws (Done found) words s part rest e = let parts = some_pair_parts found part ws rest e in finds_here words ws found part rest s parts.0 parts.1
sound ws Failed words s part rest e = absurd (none-some (part, rest) e)
sound [] (Within reader) words s part rest e = absurd (none-some (part, rest) (sym (found_at-end reader.place reader.groups) ∙ e))
sound (w ∷ ws) (Within reader) words s part rest e =
    finds_more words w ws part rest
    (sound ws (step_at reader.place reader.groups (lexeme_of w)) (words ++ w ∷ []) (step-leads reader.place reader.groups words s w) part rest
    (sym (found_at-word reader.place reader.groups w ws) ∙ e))
