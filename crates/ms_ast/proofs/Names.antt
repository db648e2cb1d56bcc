-- The names among words in parts.
use Rattle.std.proofs.Common.{List, [], ◌∷◌, ◌++◌}
use Rattle.ms_text.specs.declared.token.TokenKind.{TokenKind}
use Rattle.ms_grammar.specs.Words.{Word, name, number, quoted, sign, separated}
use Rattle.ms_ast.specs.Law.{HaveNames}

pub names_split : (xs ys : List Word) → HaveNames (xs ++ ys) → HaveNames xs × HaveNames ys
names_split [] ys h = (tt, h)
names_split (name f ∷ xs) ys h = let parts = names_split xs ys h.1 in ((h.0, parts.0), parts.1)
names_split (number n ∷ xs) ys h = names_split xs ys h
names_split (quoted s ∷ xs) ys h = names_split xs ys h
names_split (sign kind ∷ xs) ys h = names_split xs ys h

-- each of several has such names
abbrev pub EachHaveNames : List (List Word) → Type 0
EachHaveNames [] = Unit {0}
EachHaveNames (words ∷ lists) = HaveNames words × EachHaveNames lists

pub names_each : (kind : TokenKind) (lists : List (List Word)) → HaveNames (separated (sign kind) lists) → EachHaveNames lists
names_each kind [] h = tt
names_each kind (words ∷ []) h = (h, tt)
names_each kind (words ∷ next ∷ more) h =
    let parts = names_split words (sign kind ∷ separated (sign kind) (next ∷ more)) h in
    (parts.0, names_each kind (next ∷ more) parts.1)
