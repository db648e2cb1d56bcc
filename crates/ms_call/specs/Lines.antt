-- What a line of a script says.
use Rattle.std.specs.Prelude.{ℕ, ◌≡◌, ◌==◌, nat_eq, Bool, ◌||◌, ◌&&◌, List, [], ◌∷◌, length, drop, take_while, Ok, codes}
use Rattle.std.specs.List.{list_all, starts_with}
use Rattle.ms_text.specs.declared.token.Token.{Token}
use Rattle.ms_text.specs.Tokens.{tokens_of, is_word}
use Rattle.ms_grammar.specs.Words.{words_of}
use Rattle.ms_call.specs.declared.command.Command.{Command}
use Rattle.ms_call.specs.Commands.{IsSaid}

-- space and tab
abbrev pub is_space : ℕ → Bool
is_space b = (b == 32) || (b == 9)

-- what may stand at the ends of the line `@end`
abbrev pub is_edge : ℕ → Bool
is_edge b = is_space b || (b == 13)

-- the list without the elements at its front that pass the test
abbrev pub skipped : (ℕ → Bool) → List ℕ → List ℕ
skipped test bytes = drop (length (take_while test bytes)) bytes

-- `@end`, apart from spaces, tabs and carriage returns at its ends
abbrev pub ends_text : List ℕ → Bool
ends_text line = starts_with nat_eq (skipped is_edge line) (codes "@end") && list_all is_edge (drop 4 (skipped is_edge line))

-- A line of blanks, a comment or both.
abbrev pub IsBlank : List ℕ → Type 0
IsBlank line = tokens_of line ≡ Ok []

-- Behind spaces and tabs the line has an at sign, directly after it a command's word, which is the longest run
-- of word bytes, and then the tokens of the text that is left.
pub record HasWord (line word rest : List ℕ) (tokens : List Token) : Type 0 where
  pub after : List ℕ
  pub at_sign : skipped is_space line ≡ 64 ∷ after
  pub word_is : word ≡ take_while is_word after
  pub rest_is : rest ≡ skipped is_word after
  pub tokens_are : tokens_of rest ≡ Ok tokens

-- The line is `@add` alone.
pub record OpensText (line : List ℕ) : Type 0 where
  pub rest : List ℕ
  pub has_word : HasWord line (codes "add") rest []

-- The line is the command.
pub record IsCommand (line : List ℕ) (command : Command) : Type 0 where
  pub word : List ℕ
  pub rest : List ℕ
  pub tokens : List Token
  pub has_word : HasWord line word rest tokens
  pub said : IsSaid word (words_of rest tokens) command

-- The line is none of these.
pub record IsBad (line : List ℕ) : Type 0 where
  pub not_blank : IsBlank line → ⊥
  pub not_add : OpensText line → ⊥
  pub not_command : (command : Command) → IsCommand line command → ⊥
