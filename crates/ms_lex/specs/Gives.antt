-- What `lex` answers, against the tokens of the text.
use Rattle.std.specs.Prelude.{◌≡◌, ◌≤◌, List, Result, Ok, Err, ⊤}
use Rattle.ms_text.specs.declared.token.Token.{Token}
use Rattle.ms_text.specs.declared.token.BadByte.{BadByte}
use Rattle.ms_lex.specs.declared.LexFault.{LexFault}
use Rattle.ms_lex.specs.declared.LexFault.TheVariants.{BadByte as bad_byte, OutOfMemory}

abbrev pub Gives : Result (List Token) LexFault → Result (List Token) BadByte → Type 0
Gives (Ok tokens) of = of ≡ Ok tokens
Gives (Err (bad_byte at line)) of = of ≡ Err (record { at = at; line = line })
-- want of memory may come at any time
Gives (Err OutOfMemory) of = ⊤

-- the first token ends where the second begins, or before
abbrev pub ComesBefore : Token → Token → Type 0
ComesBefore first second = first.end ≤ second.start
