-- What a text adds to others.
use Rattle.std.specs.Prelude.{◌≡◌, ℕ, Bool, true, false, ◌&&◌, ◌==◌, map, take, is_some, Vec, List, [], ◌∷◌, ◌++◌, length, Option, Some, None, Result, Ok, Err}
use Rattle.std.specs.List.{filter_map, list_any}
use Rattle.ms_grammar.specs.declared.value.Value.{Value}
use Rattle.ms_grammar.specs.declared.statement.Form.{Form}
use Rattle.ms_grammar.specs.declared.statement.Form.TheVariants.{Show, ShowNone}
use Rattle.ms_grammar.specs.declared.statement.Statement.{Statement}
use Rattle.ms_core.specs.Texts.{PartName, Texts, with_text, is_name, value_in, constant_of, second_definition, const_twice}
use Rattle.ms_texts.specs.declared.fault.TextFault.{TextFault}
use Rattle.ms_texts.specs.declared.fault.TextFault.TheVariants.{ConstTwice, OutOfMemory}

-- constants with their values
abbrev pub NamedValues : Type 0
NamedValues = List (List ℕ × Value)

-- the constants that the statements of a text define
abbrev pub constants_in : List Statement → NamedValues
constants_in statements = filter_map (λ s. constant_of s.form) statements

-- The constants of a text come after those before it, or nothing changes. They don't come where one is defined a second time.
abbrev pub Defines : {A : Type 0} → NamedValues → NamedValues → List Statement → Result A TextFault → Type 0
Defines old new statements (Ok _) = (second_definition old statements ≡ None) × (new ≡ old ++ constants_in statements)
Defines old new statements (Err (ConstTwice line)) = (second_definition old statements ≡ Some line) × (new ≡ old)
Defines old new statements (Err OutOfMemory) = new ≡ old

-- A text is added, or nothing changes. It isn't where it defines a constant a second time.
abbrev pub Adds : Texts → Texts → List Statement → Result ℕ TextFault → Type 0
Adds old new statements (Ok n) = (const_twice old statements ≡ None) × (n ≡ length statements) × (new ≡ with_text old statements)
Adds old new statements (Err (ConstTwice line)) = (const_twice old statements ≡ Some line) × (new ≡ old)
Adds old new statements (Err OutOfMemory) = new ≡ old

-- what a `#show` says: a name and a number of arguments, or neither
abbrev pub show_of : Form → Option (Option (List ℕ × ℕ))
show_of (Show name arity) = Some (Some (name, arity))
show_of ShowNone = Some None
show_of form = None

-- the entries of a map from names to values
abbrev pub named : {A : Type 0} → List (Vec ℕ A × Value) → NamedValues
named entries = map (λ e. (e.0.items, e.1)) entries

-- the constant has a value before
abbrev pub names_again : NamedValues → Option (List ℕ × Value) → Bool
names_again before None = false
names_again before (Some c) = is_some (value_in before c.0)

-- a statement that defines a constant, or none
abbrev pub DefinesOne : {A : Type 0} → NamedValues → NamedValues → Statement → Result A TextFault → Type 0
DefinesOne old new s (Ok _) = (names_again old (constant_of s.form) ≡ false) × (new ≡ old ++ constants_in (s ∷ []))
DefinesOne old new s (Err (ConstTwice line)) = (names_again old (constant_of s.form) ≡ true) × (line ≡ s.line) × (new ≡ old)
DefinesOne old new s (Err OutOfMemory) = new ≡ old

-- the same as `Defines`, but some constants may have come after an error
abbrev pub DefinesEach : {A : Type 0} → NamedValues → NamedValues → List Statement → Result A TextFault → Type 0
DefinesEach old new statements (Ok _) = (second_definition old statements ≡ None) × (new ≡ old ++ constants_in statements)
DefinesEach old new statements (Err (ConstTwice line)) = (second_definition old statements ≡ Some line) × (take (length old) new ≡ old)
DefinesEach old new statements (Err OutOfMemory) = take (length old) new ≡ old

-- what the statements of a text show
abbrev pub shows_in : List Statement → List (Option (List ℕ × ℕ))
shows_in statements = filter_map (λ s. show_of s.form) statements

-- atoms of this name and number of arguments are shown by a `#show`
abbrev pub is_shown : List ℕ → ℕ → Option (List ℕ × ℕ) → Bool
is_shown name arity None = false
is_shown name arity (Some show) = is_name show.0 name && (show.1 == arity)

-- the constants that statements with their parts define, and what they show
abbrev pub constants_of : List (PartName × Form) → NamedValues
constants_of said = filter_map (λ statement. constant_of statement.1) said

abbrev pub shows_of : List (PartName × Form) → List (Option (List ℕ × ℕ))
shows_of said = filter_map (λ statement. show_of statement.1) said

-- what is kept beside the statements is theirs
pub record AreOf (said : List (PartName × Form)) (constants : NamedValues) (shows : List (Option (List ℕ × ℕ))) : Type 0 where
  pub constants_are : constants ≡ constants_of said
  pub shows_are : shows ≡ shows_of said

-- atoms of this name and number of arguments are shown: all are where nothing is said of it
abbrev pub shown_by : List ℕ → ℕ → List (Option (List ℕ × ℕ)) → Bool
shown_by name arity [] = true
shown_by name arity (show ∷ shows) = list_any (is_shown name arity) (show ∷ shows)
