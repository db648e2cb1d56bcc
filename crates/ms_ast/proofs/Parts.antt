-- Parts of statements as they are printed, and lists of them.
use Rattle.std.proofs.Common.{◌≡◌, List, [], ◌∷◌, ◌++◌, map, Option, Some, refl, sym, ap, ◌∙◌, append-nil}
use Rattle.std.specs.Option.{IfSome}
use Rattle.ms_text.specs.declared.token.TokenKind.{TokenKind}
use Rattle.ms_grammar.specs.declared.part.Counted.{Counted}
use Rattle.ms_grammar.specs.Words.{Word, sign, separated}
use Rattle.ms_grammar.specs.Statements.{alone, beside, join, row_of}
use Rattle.ms_ast.specs.Ink.{Ink, ink_words, each_after, side_by_side}
use Rattle.ms_ast.specs.Law.{HaveNames}
use Rattle.ms_ast.proofs.Inks.{ink_words_append}
use Rattle.ms_ast.proofs.Names.{EachHaveNames}
use Rattle.ms_ast.proofs.Somes.{both_some}
use Rattle.ms_ast.proofs.Apart.{Joins, AllJoin}
use Rattle.ms_ast.proofs.Lines.{Spelled}

-- the words of several, with a sign between each two
pub separated_words : (between : List Ink) (kind : TokenKind) → ink_words between ≡ sign kind ∷ [] → (inks : List (List Ink)) → ink_words (side_by_side between inks) ≡ separated (sign kind) (map ink_words inks)
separated_words between kind e [] = refl
separated_words between kind e (ink ∷ []) = ap ink_words (append-nil ink)
separated_words between kind e (ink ∷ next ∷ more) =
    ink_words_append ink (each_after between (next ∷ more))
    ∙ ap (λ ws. ink_words ink ++ ws) (ink_words_append between (next ++ each_after between more)
    ∙ (λ i. e i ++ separated_words between kind e (next ∷ more) i))

module _ (D V : Type 0) (words : D → List Word) (spelled : D → Option (Counted V)) (ink : V → List Ink) where
  -- What is printed of the part spells it, and may stand before whatever no name goes on in.
  pub record IsPrinted (c : Counted V) : Type 0 where
    pub written : Spelled D (Counted V) words spelled (ink_words (ink c.value)) c
    pub joins : Joins (ink c.value)

  -- the same of each of a list
  pub record ArePrinted (c : Counted (List V)) : Type 0 where
    pub derivations : List D
    pub words_are : map words derivations ≡ map ink_words (map ink c.value)
    pub spells : row_of spelled derivations ≡ Some c
    pub all : AllJoin (map ink c.value)

  pub none_printed : ArePrinted (alone [])
  none_printed = record { derivations = []; words_are = refl; spells = refl; all = tt }

  abbrev pub more_printed : (c : Counted V) (cs : Counted (List V)) → IsPrinted c → ArePrinted cs → ArePrinted (beside (λ x xs. x ∷ xs) c cs)
  more_printed c cs h hs = record {
    derivations = h.written.derivation ∷ hs.derivations;
    words_are = λ i. h.written.words_are i ∷ hs.words_are i;
    spells = λ i. join (λ x xs. x ∷ xs) (h.written.spells i) (hs.spells i);
    all = (h.joins, hs.all);
  }

  pub row_printed : (each : (d : D) → HaveNames (words d) → IfSome (spelled d) IsPrinted) → (ds : List D) → EachHaveNames (map words ds) → IfSome (row_of spelled ds) ArePrinted
  row_printed each [] n = none_printed
  row_printed each (d ∷ ds) n =
      both_some (λ c cs. Some (beside (λ x xs. x ∷ xs) c cs)) IsPrinted ArePrinted ArePrinted more_printed (spelled d) (row_of spelled ds) (each d n.0) (row_printed each ds n.1)

  pub separated_printed : (between : List Ink) (kind : TokenKind) → ink_words between ≡ sign kind ∷ [] → (c : Counted (List V)) (h : ArePrinted c) → separated (sign kind) (map words h.derivations) ≡ ink_words (side_by_side between (map ink c.value))
  separated_printed between kind e c h = ap (separated (sign kind)) h.words_are ∙ sym (separated_words between kind e (map ink c.value))
