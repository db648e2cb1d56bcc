-- What words tell of the kind of token that comes first.
use Rattle.std.proofs.Common.{◌≡◌, ℕ, ◌≤◌, ◌==◌, Bool, true, false, List, [], ◌∷◌, ◌++◌, length, drop, refl, ap, ◌∙◌, ◌<◌, arith, inl, inr, Option, Some, None, MatchOption}
use Rattle.std.proofs.lemmas.Bool.{eqb-true}
use Rattle.std.proofs.lemmas.List.Elements.{All-rest, All-drop, All-take}
use Rattle.std.proofs.Math.Seq.{take-append_seam}
use Rattle.ms_text.specs.declared.token.Token.{Token}
use Rattle.ms_text.specs.declared.token.TokenKind.{TokenKind}
use Rattle.ms_text.specs.declared.token.TokenKind.TheVariants.{Name, Comma, Semicolon}
use Rattle.ms_text.specs.Tokens.{LieWithin}
use Rattle.ms_grammar.specs.Words.{Word, sign, word_by_kind, word_of, words_of}
use Rattle.ms_grammar.specs.Statements.{separator}
use Rattle.ms_parse.specs.Signs.{Begins, BeginsNot, Separates, SeparatesNot}

-- a token's bytes are among the first n
abbrev pub LiesWithin : ℕ → Token → Type 0
LiesWithin n t = (t.start ≤ t.end) × (t.end ≤ n)

kind_of_sign : (k kind : TokenKind) (text : List ℕ) (t : Token) → word_by_kind k text t ≡ sign kind → k ≡ kind
kind_of_sign Name kind text t e = cc
kind_of_sign _ kind text t e = cc

pub sign_from_kind : (text : List ℕ) (t : Token) (kind : TokenKind) → ((t : Token) → word_by_kind kind text t ≡ sign kind) → t.kind ≡ kind → word_of text t ≡ sign kind
sign_from_kind text t kind says e = ap (λ k. word_by_kind k text t) e ∙ says t

pub kind_from_sign : (text : List ℕ) (t : Token) (kind : TokenKind) → word_of text t ≡ sign kind → t.kind ≡ kind
kind_from_sign text t kind e = kind_of_sign t.kind kind text t e

module _ (text : List ℕ) where
  pub words_begin : (kind : TokenKind) → ((t : Token) → word_by_kind kind text t ≡ sign kind) → (tokens rest : List Token) → Begins tokens kind rest → words_of text tokens ≡ sign kind ∷ words_of text rest
  words_begin kind says tokens rest b = ap (words_of text) b.tokens_are ∙ ap (λ w. w ∷ words_of text rest) (sign_from_kind text b.first kind says b.kind_is)

  pub words_begin_not : (kind : TokenKind) (tokens : List Token) → BeginsNot tokens kind → (ws : List Word) → words_of text tokens ≡ sign kind ∷ ws → ⊥
  words_begin_not kind [] h ws e = cc
  words_begin_not kind (t ∷ ts) h ws e =
      let word : word_of text t ≡ sign kind = cc in
      h ts (record { first = t; kind_is = kind_from_sign text t kind word; tokens_are = refl })

  pub alone_from_words : (kind : TokenKind) (tokens : List Token) → words_of text tokens ≡ sign kind ∷ [] → Begins tokens kind []
  alone_from_words kind [] e = absurd (let f : ⊥ = cc in f)
  alone_from_words kind (t ∷ []) e = let word : word_of text t ≡ sign kind = cc in record { first = t; kind_is = kind_from_sign text t kind word; tokens_are = refl }
  alone_from_words kind (t ∷ u ∷ ts) e = absurd (let f : ⊥ = cc in f)

-- a separator that comes first
pub words_separate_not : (text : List ℕ) (tokens : List Token) → SeparatesNot tokens → (s : Bool) (ws : List Word) → words_of text tokens ≡ separator s ∷ ws → ⊥
words_separate_not text tokens h true ws e = words_begin_not text Comma tokens (λ rest b. h rest (inl b)) ws e
words_separate_not text tokens h false ws e = words_begin_not text Semicolon tokens (λ rest b. h rest (inr b)) ws e

-- The words begin with a separator.
pub record Separated (text : List ℕ) (tokens rest : List Token) : Type 0 where
  pub comma : Bool
  pub words_are : words_of text tokens ≡ separator comma ∷ words_of text rest
  pub shorter : length rest < length tokens

separated_by : (text : List ℕ) (kind : TokenKind) (comma : Bool) → sign kind ≡ separator comma → ((t : Token) → word_by_kind kind text t ≡ sign kind) → (tokens rest : List Token) → Begins tokens kind rest → Separated text tokens rest
separated_by text kind comma is says tokens rest b = record {
  comma = comma;
  words_are = words_begin text kind says tokens rest b ∙ ap (λ w. w ∷ words_of text rest) is;
  shorter = rw b.tokens_are (omega arith);
}

pub separated_words : (text : List ℕ) (tokens rest : List Token) → Separates tokens rest → Separated text tokens rest
separated_words text tokens rest (inl b) = separated_by text Comma true refl (λ t. refl) tokens rest b
separated_words text tokens rest (inr b) = separated_by text Semicolon false refl (λ t. refl) tokens rest b

-- whether there are tokens
pub empty_from_test : {X : Type 0} (xs : List X) → (length xs == 0) ≡ true → xs ≡ []
empty_from_test [] e = refl
empty_from_test (x ∷ xs) e = absurd (let none : length (x ∷ xs) ≡ 0 = eqb-true _ _ e in omega arith)

pub some_words : (text : List ℕ) (tokens : List Token) → (length tokens == 0) ≡ false → words_of text tokens ≡ [] → ⊥
some_words text [] test e = cc
some_words text (t ∷ ts) test e = cc

-- what follows a first token
pub rest_within : (n : ℕ) (first : Token) (rest tokens : List Token) → tokens ≡ first ∷ rest → LieWithin n tokens → LieWithin n rest
rest_within n first rest tokens e h = All-rest (LiesWithin n) first rest tokens e h

pub after_within : (n : ℕ) (kind : TokenKind) (tokens rest : List Token) → Begins tokens kind rest → LieWithin n tokens → LieWithin n rest
after_within n kind tokens rest b h = rest_within n b.first rest tokens b.tokens_are h

pub separated_not : (tokens : List Token) → BeginsNot tokens Comma → BeginsNot tokens Semicolon → SeparatesNot tokens
separated_not tokens comma semicolon rest (inl b) = comma rest b
separated_not tokens comma semicolon rest (inr b) = semicolon rest b

module _ (X : Type 0) (now : X → List Token) where
  -- neither a comma comes first, nor what was found is behind one
  pub separator_found : (tokens : List Token) (found : Option X) → BeginsNot tokens Comma → MatchOption found (BeginsNot tokens Semicolon) (λ r. Begins tokens Semicolon (now r)) → MatchOption found (SeparatesNot tokens) (λ r. Separates tokens (now r))
  separator_found tokens None comma h = separated_not tokens comma h
  separator_found tokens (Some r) comma h = inr h

pub separator_within : (n : ℕ) (tokens rest : List Token) → Separates tokens rest → LieWithin n tokens → LieWithin n rest
separator_within n tokens rest (inl b) h = after_within n Comma tokens rest b h
separator_within n tokens rest (inr b) h = after_within n Semicolon tokens rest b h

pub drop_within : (n count : ℕ) (tokens rest : List Token) → rest ≡ drop count tokens → LieWithin n tokens → LieWithin n rest
drop_within n count tokens rest e h = rw e (All-drop (LiesWithin n) count tokens h)

pub front_within : (n : ℕ) (content tokens : List Token) (last : Token) → tokens ≡ content ++ last ∷ [] → LieWithin n tokens → LieWithin n content
front_within n content tokens last e h = rw (← take-append_seam content (last ∷ [])) (All-take (LiesWithin n) (length content) (content ++ last ∷ []) (rw e at h))
