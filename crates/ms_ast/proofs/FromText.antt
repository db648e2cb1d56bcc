-- The statements of a text are ones that the grammar has.
use Rattle.std.proofs.Common.{◌≡◌, ℕ, zero, suc, ◌+◌, ◌-◌, Bool, true, false, cond, eqb, ◌==◌, ◌||◌, List, [], ◌∷◌, ◌++◌, length, take, take_while, Option, Some, None, Result, Ok, Err, refl, sym, ap, ◌∙◌, subst, arith, append_assoc, length-append, if◌then◌else◌}
use Rattle.std.specs.Prelude.{codes}
use Rattle.std.specs.List.{slice_range}
use Rattle.std.specs.Option.{IfSome, option_map}
use Rattle.std.proofs.Math.Seq.{drop-append_seam}
use Rattle.ms_text.specs.declared.token.Token.{Token}
use Rattle.ms_text.specs.declared.token.TokenKind.{TokenKind}
use Rattle.ms_text.specs.declared.token.TokenKind.TheVariants.{Name, Number, Text, Program, External, Const, Show, Include, Count, Sum, Dot, DotDot, Comma, Semicolon, Colon, If, LeftParen, RightParen, LeftBrace, RightBrace, Plus, Minus, Star, Slash, Backslash, Bar, Equal, EqualEqual, NotEqual, LessGreater, Less, LessEqual, Greater, GreaterEqual}
use Rattle.ms_text.specs.declared.token.BadByte.{BadByte}
use Rattle.ms_text.specs.Tokens.{is_word, is_digit, is_lower, is_blank, is_in_line, line_after, name_len, name_kind, name_token, number_token, number_within, text_len, text_token, is_directive, directive_kind, longer, begins_with, sign_token, first_token, with_token, placed, tokens_from, tokens_of}
use Rattle.ms_grammar.specs.declared.statement.Statement.{Statement}
use Rattle.ms_grammar.specs.Words.{Word, word_by_kind, words_of}
use Rattle.ms_grammar.specs.Statements.{pieces_of, before_pieces, in_first, AreStatements}
use Rattle.ms_ast.specs.Law.{IsName, HaveNames, AreInGrammar}
use Rattle.ms_ast.proofs.Fronts.{front_by}
use Rattle.ms_ast.proofs.NameTokens.{name_is, word_bytes-cons, some_same}

-- the front of a text that is a name
front_words_by : (b : ℕ) (bs : List ℕ) (t : Bool) → is_word b ≡ t
    → length (take_while is_word (take (length (take_while is_word bs)) bs)) ≡ length (take (length (take_while is_word bs)) bs)
    → length (take_while is_word (take (cond t (suc (length (take_while is_word bs))) 0) (b ∷ bs))) ≡ length (take (cond t (suc (length (take_while is_word bs))) 0) (b ∷ bs))
front_words_by b bs true e h = word_bytes-cons b (take (length (take_while is_word bs)) bs) true e ∙ ap suc h
front_words_by b bs false e h = refl

front_words : (bs : List ℕ) → length (take_while is_word (take (length (take_while is_word bs)) bs)) ≡ length (take (length (take_while is_word bs)) bs)
front_words [] = refl
front_words (b ∷ bs) =
    subst (λ n. length (take_while is_word (take n (b ∷ bs))) ≡ length (take n (b ∷ bs))) (sym (word_bytes-cons b bs (is_word b) refl)) (front_words_by b bs (is_word b) refl (front_words bs))

front_name_by : (b : ℕ) (bs : List ℕ) (n : ℕ) (o : Option ℕ) → name_len bs ≡ o → ((m : ℕ) → o ≡ Some m → name_len (take m bs) ≡ Some (length (take m bs))) → (underscore lower : Bool) → eqb b 95 ≡ underscore → is_lower b ≡ lower → name_len (b ∷ bs) ≡ Some n → name_len (take n (b ∷ bs)) ≡ Some (length (take n (b ∷ bs)))
front_name_by b bs n None is rest true lower u l e = let none : None ≡ Some n = sym (ap (option_map suc) is) ∙ sym (name_is b bs true lower u l) ∙ e in cc
front_name_by b bs n (Some m) is rest true lower u l e =
    let size : suc m ≡ n = some_same (suc m) n (sym (ap (option_map suc) is) ∙ sym (name_is b bs true lower u l) ∙ e) in
    subst (λ k. name_len (take k (b ∷ bs)) ≡ Some (length (take k (b ∷ bs)))) size (name_is b (take m bs) true lower u l ∙ ap (option_map suc) (rest m refl))
front_name_by b bs n o is rest false true u l e =
    let size : suc (length (take_while is_word bs)) ≡ n = some_same (suc (length (take_while is_word bs))) n (sym (name_is b bs false true u l) ∙ e) in
    subst (λ k. name_len (take k (b ∷ bs)) ≡ Some (length (take k (b ∷ bs)))) size (name_is b (take (length (take_while is_word bs)) bs) false true u l ∙ ap (λ k. Some (suc k)) (front_words bs))
front_name_by b bs n o is rest false false u l e = let none : None ≡ Some n = sym (name_is b bs false false u l) ∙ e in cc

front_name : (text : List ℕ) (n : ℕ) → name_len text ≡ Some n → name_len (take n text) ≡ Some (length (take n text))
front_name [] n e = cc
front_name (b ∷ bs) n e = front_name_by b bs n (name_len bs) refl (front_name bs) (eqb b 95) (is_lower b) refl refl e

-- no name is found by other rules
abbrev NoName : Option (TokenKind × ℕ) → Type 0
NoName o = IfSome o (λ found. found.0 ≡ Name → ⊥)

no_name_if : (b : Bool) (x y : Option (TokenKind × ℕ)) → NoName x → NoName y → NoName (if b then x else y)
no_name_if true x y h k = h
no_name_if false x y h k = k

number_no_name : (b : ℕ) (bs : List ℕ) → NoName (number_token b bs)
number_no_name b bs = no_name_if (eqb b 48) (Some (Number, 1)) (number_within (b ∷ take_while is_digit bs)) (λ e. let f : ⊥ = cc in f)
    (no_name_if _ (Some (Number, length (b ∷ take_while is_digit bs))) None (λ e. let f : ⊥ = cc in f) tt)

text_no_name : (o : Option ℕ) → NoName (text_token o)
text_no_name None = tt
text_no_name (Some n) = λ e. let f : ⊥ = cc in f

-- a kind that is no name
abbrev OtherKind : Option TokenKind → Type 0
OtherKind o = IfSome o (λ kind. kind ≡ Name → ⊥)

other_kind_if : (b : Bool) (x y : Option TokenKind) → OtherKind x → OtherKind y → OtherKind (if b then x else y)
other_kind_if true x y h k = h
other_kind_if false x y h k = k

directive_kind_is : (word : List ℕ) → OtherKind (directive_kind word)
directive_kind_is word =
    let sum_on : Option TokenKind = if is_directive word (codes "sum") then Some Sum else None in
    let sum_other : OtherKind sum_on = other_kind_if (is_directive word (codes "sum")) (Some Sum) None (λ e. let f : ⊥ = cc in f) tt in
    let count_on : Option TokenKind = if is_directive word (codes "count") then Some Count else sum_on in
    let count_other : OtherKind count_on = other_kind_if (is_directive word (codes "count")) (Some Count) sum_on (λ e. let f : ⊥ = cc in f) sum_other in
    let include_on : Option TokenKind = if is_directive word (codes "include") then Some Include else count_on in
    let include_other : OtherKind include_on = other_kind_if (is_directive word (codes "include")) (Some Include) count_on (λ e. let f : ⊥ = cc in f) count_other in
    let show_on : Option TokenKind = if is_directive word (codes "show") then Some Show else include_on in
    let show_other : OtherKind show_on = other_kind_if (is_directive word (codes "show")) (Some Show) include_on (λ e. let f : ⊥ = cc in f) include_other in
    let const_on : Option TokenKind = if is_directive word (codes "const") then Some Const else show_on in
    let const_other : OtherKind const_on = other_kind_if (is_directive word (codes "const")) (Some Const) show_on (λ e. let f : ⊥ = cc in f) show_other in
    let external_on : Option TokenKind = if is_directive word (codes "external") then Some External else const_on in
    let external_other : OtherKind external_on = other_kind_if (is_directive word (codes "external")) (Some External) const_on (λ e. let f : ⊥ = cc in f) const_other in
    let program_on : Option TokenKind = if is_directive word (codes "program") then Some Program else external_on in
    let program_other : OtherKind program_on = other_kind_if (is_directive word (codes "program")) (Some Program) external_on (λ e. let f : ⊥ = cc in f) external_other in
    program_other

directive_no_name_by : (o : Option TokenKind) (n : ℕ) → OtherKind o → NoName (option_map (λ kind. (kind, n)) o)
directive_no_name_by None n h = tt
directive_no_name_by (Some kind) n h = h

longer_no_name : (second : ℕ) (kind : TokenKind) (bs : List ℕ) (shorter : Option (TokenKind × ℕ)) → (kind ≡ Name → ⊥) → NoName shorter → NoName (longer second kind bs shorter)
longer_no_name second kind bs shorter h k = no_name_if (begins_with second bs) (Some (kind, 2)) shorter h k

sign_no_name : (b : ℕ) (bs : List ℕ) → NoName (sign_token b bs)
sign_no_name b bs =
    let greater_on : Option (TokenKind × ℕ) = if b == 62 then longer 61 GreaterEqual bs (Some (Greater, 1)) else None in
    let greater_other : NoName greater_on = no_name_if (b == 62) (longer 61 GreaterEqual bs (Some (Greater, 1))) None (longer_no_name 61 GreaterEqual bs (Some (Greater, 1)) (λ e. let f : ⊥ = cc in f) (λ e. let f : ⊥ = cc in f)) tt in
    let less_on : Option (TokenKind × ℕ) = if b == 60 then longer 62 LessGreater bs (longer 61 LessEqual bs (Some (Less, 1))) else greater_on in
    let less_other : NoName less_on = no_name_if (b == 60) (longer 62 LessGreater bs (longer 61 LessEqual bs (Some (Less, 1)))) greater_on (longer_no_name 62 LessGreater bs (longer 61 LessEqual bs (Some (Less, 1))) (λ e. let f : ⊥ = cc in f) (longer_no_name 61 LessEqual bs (Some (Less, 1)) (λ e. let f : ⊥ = cc in f) (λ e. let f : ⊥ = cc in f))) greater_other in
    let not_equal_on : Option (TokenKind × ℕ) = if b == 33 then longer 61 NotEqual bs None else less_on in
    let not_equal_other : NoName not_equal_on = no_name_if (b == 33) (longer 61 NotEqual bs None) less_on (longer_no_name 61 NotEqual bs None (λ e. let f : ⊥ = cc in f) tt) less_other in
    let equal_on : Option (TokenKind × ℕ) = if b == 61 then longer 61 EqualEqual bs (Some (Equal, 1)) else not_equal_on in
    let equal_other : NoName equal_on = no_name_if (b == 61) (longer 61 EqualEqual bs (Some (Equal, 1))) not_equal_on (longer_no_name 61 EqualEqual bs (Some (Equal, 1)) (λ e. let f : ⊥ = cc in f) (λ e. let f : ⊥ = cc in f)) not_equal_other in
    let bar_on : Option (TokenKind × ℕ) = if b == 124 then Some (Bar, 1) else equal_on in
    let bar_other : NoName bar_on = no_name_if (b == 124) (Some (Bar, 1)) equal_on (λ e. let f : ⊥ = cc in f) equal_other in
    let backslash_on : Option (TokenKind × ℕ) = if b == 92 then Some (Backslash, 1) else bar_on in
    let backslash_other : NoName backslash_on = no_name_if (b == 92) (Some (Backslash, 1)) bar_on (λ e. let f : ⊥ = cc in f) bar_other in
    let slash_on : Option (TokenKind × ℕ) = if b == 47 then Some (Slash, 1) else backslash_on in
    let slash_other : NoName slash_on = no_name_if (b == 47) (Some (Slash, 1)) backslash_on (λ e. let f : ⊥ = cc in f) backslash_other in
    let star_on : Option (TokenKind × ℕ) = if b == 42 then Some (Star, 1) else slash_on in
    let star_other : NoName star_on = no_name_if (b == 42) (Some (Star, 1)) slash_on (λ e. let f : ⊥ = cc in f) slash_other in
    let minus_on : Option (TokenKind × ℕ) = if b == 45 then Some (Minus, 1) else star_on in
    let minus_other : NoName minus_on = no_name_if (b == 45) (Some (Minus, 1)) star_on (λ e. let f : ⊥ = cc in f) star_other in
    let plus_on : Option (TokenKind × ℕ) = if b == 43 then Some (Plus, 1) else minus_on in
    let plus_other : NoName plus_on = no_name_if (b == 43) (Some (Plus, 1)) minus_on (λ e. let f : ⊥ = cc in f) minus_other in
    let right_brace_on : Option (TokenKind × ℕ) = if b == 125 then Some (RightBrace, 1) else plus_on in
    let right_brace_other : NoName right_brace_on = no_name_if (b == 125) (Some (RightBrace, 1)) plus_on (λ e. let f : ⊥ = cc in f) plus_other in
    let left_brace_on : Option (TokenKind × ℕ) = if b == 123 then Some (LeftBrace, 1) else right_brace_on in
    let left_brace_other : NoName left_brace_on = no_name_if (b == 123) (Some (LeftBrace, 1)) right_brace_on (λ e. let f : ⊥ = cc in f) right_brace_other in
    let right_paren_on : Option (TokenKind × ℕ) = if b == 41 then Some (RightParen, 1) else left_brace_on in
    let right_paren_other : NoName right_paren_on = no_name_if (b == 41) (Some (RightParen, 1)) left_brace_on (λ e. let f : ⊥ = cc in f) left_brace_other in
    let left_paren_on : Option (TokenKind × ℕ) = if b == 40 then Some (LeftParen, 1) else right_paren_on in
    let left_paren_other : NoName left_paren_on = no_name_if (b == 40) (Some (LeftParen, 1)) right_paren_on (λ e. let f : ⊥ = cc in f) right_paren_other in
    let colon_on : Option (TokenKind × ℕ) = if b == 58 then longer 45 If bs (Some (Colon, 1)) else left_paren_on in
    let colon_other : NoName colon_on = no_name_if (b == 58) (longer 45 If bs (Some (Colon, 1))) left_paren_on (longer_no_name 45 If bs (Some (Colon, 1)) (λ e. let f : ⊥ = cc in f) (λ e. let f : ⊥ = cc in f)) left_paren_other in
    let semicolon_on : Option (TokenKind × ℕ) = if b == 59 then Some (Semicolon, 1) else colon_on in
    let semicolon_other : NoName semicolon_on = no_name_if (b == 59) (Some (Semicolon, 1)) colon_on (λ e. let f : ⊥ = cc in f) colon_other in
    let comma_on : Option (TokenKind × ℕ) = if b == 44 then Some (Comma, 1) else semicolon_on in
    let comma_other : NoName comma_on = no_name_if (b == 44) (Some (Comma, 1)) semicolon_on (λ e. let f : ⊥ = cc in f) semicolon_other in
    let dot_on : Option (TokenKind × ℕ) = if b == 46 then longer 46 DotDot bs (Some (Dot, 1)) else comma_on in
    let dot_other : NoName dot_on = no_name_if (b == 46) (longer 46 DotDot bs (Some (Dot, 1))) comma_on (longer_no_name 46 DotDot bs (Some (Dot, 1)) (λ e. let f : ⊥ = cc in f) (λ e. let f : ⊥ = cc in f)) comma_other in
    dot_other

some_pair : (x y : TokenKind × ℕ) → Some x ≡ Some y → x ≡ y
some_pair x y e = cc

is_name_by : (text : List ℕ) (n : ℕ) (o : Option ℕ) → name_len text ≡ o → name_token text o ≡ Some (Name, n) → IsName (take n text)
is_name_by text n None e f = cc
is_name_by text n (Some m) e f =
    let pair : ◌≡◌ {A = TokenKind × ℕ} (name_kind (take m text), m) (Name, n) = some_pair (name_kind (take m text), m) (Name, n) f in
    let size : m ≡ n = ap (λ p. p.1) pair in
    let kind : name_kind (take m text) ≡ Name = ap (λ p. p.0) pair in
    subst (λ k. IsName (take k text)) size (record { all_of_it = front_name text m e; no_word = kind })

found_name_by : (b : ℕ) (bs : List ℕ) (n : ℕ) (digit quote hash letter : Bool) → front_by digit quote hash letter b bs ≡ Some (Name, n) → IsName (take n (b ∷ bs))
found_name_by b bs n true quote hash letter e = absurd (subst NoName e (number_no_name b bs) refl)
found_name_by b bs n false true hash letter e = absurd (subst NoName e (text_no_name (text_len false bs)) refl)
found_name_by b bs n false false true letter e = absurd (subst NoName e (directive_no_name_by (directive_kind (take_while is_word bs)) (suc (length (take_while is_word bs))) (directive_kind_is (take_while is_word bs))) refl)
found_name_by b bs n false false false true e = is_name_by (b ∷ bs) n (name_len (b ∷ bs)) refl e
found_name_by b bs n false false false false e = absurd (subst NoName e (sign_no_name b bs) refl)

found_name : (text : List ℕ) (n : ℕ) → first_token text ≡ Some (Name, n) → IsName (take n text)
found_name [] n e = cc
found_name (b ∷ bs) n e = found_name_by b bs n (is_digit b) (eqb b 34) (eqb b 35) (is_lower b || eqb b 95) e

-- the names among the tokens of a text
abbrev NameIn : List ℕ → Token → Type 0
NameIn text t = t.kind ≡ Name → IsName (slice_range text t.start t.end)

abbrev NamesIn : List ℕ → List Token → Type 0
NamesIn text [] = Unit {0}
NamesIn text (t ∷ ts) = NameIn text t × NamesIn text ts

abbrev NamesFound : List ℕ → Result (List Token) BadByte → Type 0
NamesFound text (Ok tokens) = NamesIn text tokens
NamesFound text (Err bad) = Unit {0}

with_name : (text : List ℕ) (t : Token) (r : Result (List Token) BadByte) → NameIn text t → NamesFound text r → NamesFound text (with_token t r)
with_name text t (Ok ts) h k = (h, k)
with_name text t (Err bad) h k = tt

-- where the front has been passed over
abbrev NamesFrom : List ℕ → List ℕ → Type 0
NamesFrom front bs = (skip line : ℕ) → NamesFound (front ++ bs) (tokens_from skip bs (length front) line)

token_names : (front : List ℕ) (b : ℕ) (bs : List ℕ) (line : ℕ) (o : Option (TokenKind × ℕ)) → first_token (b ∷ bs) ≡ o → ((skip : ℕ) → NamesFound (front ++ b ∷ bs) (tokens_from skip bs (suc (length front)) line)) → NamesFound (front ++ b ∷ bs) (placed o (length front) line (λ n. tokens_from n bs (suc (length front)) line))
token_names front b bs line None e rest = tt
token_names front b bs line (Some found) e rest =
    let t : Token = record { kind = found.0; start = length front; end = length front + found.1; line = line } in
    let len : length front + found.1 - length front ≡ found.1 = omega arith in
    let part : slice_range (front ++ b ∷ bs) (length front) (length front + found.1) ≡ take found.1 (b ∷ bs) = ap (λ xs. take (length front + found.1 - length front) xs) (drop-append_seam front (b ∷ bs)) ∙ ap (λ n. take n (b ∷ bs)) len in
    with_name (front ++ b ∷ bs) t (tokens_from (found.1 - 1) bs (suc (length front)) line)
    (λ is_name. subst IsName (sym part) (found_name (b ∷ bs) found.1 (e ∙ ap (λ k. Some (k, found.1)) is_name)))
    (rest (found.1 - 1))

byte_names : (front : List ℕ) (b : ℕ) (bs : List ℕ) (line : ℕ) (blank comment : Bool) → ((skip line : ℕ) → NamesFound (front ++ b ∷ bs) (tokens_from skip bs (suc (length front)) line))
    → NamesFound (front ++ b ∷ bs) (elim blank [
      | true ↦ tokens_from zero bs (suc (length front)) (line_after b line)
      | false ↦ elim comment [
        | true ↦ tokens_from (length (take_while is_in_line bs)) bs (suc (length front)) line
        | false ↦ placed (first_token (b ∷ bs)) (length front) line (λ n. tokens_from n bs (suc (length front)) line)
      ]
    ])
byte_names front b bs line true comment rest = rest zero (line_after b line)
byte_names front b bs line false true rest = rest (length (take_while is_in_line bs)) line
byte_names front b bs line false false rest = token_names front b bs line (first_token (b ∷ bs)) refl (λ skip. rest skip line)

by_skip : (front : List ℕ) (b : ℕ) (bs : List ℕ) (skip line : ℕ) → ((skip line : ℕ) → NamesFound (front ++ b ∷ bs) (tokens_from skip bs (suc (length front)) line)) → NamesFound (front ++ b ∷ bs) (tokens_from skip (b ∷ bs) (length front) line)
unfolding tokens_from
by_skip front b bs zero line rest = byte_names front b bs line (is_blank b) (eqb b 37) rest
by_skip front b bs (suc skip) line rest = rest skip (line_after b line)

names_from : (front bs : List ℕ) → NamesFrom front bs
unfolding tokens_from
names_from front [] skip line = tt
names_from front (b ∷ bs) skip line =
    let further : length (front ++ b ∷ []) ≡ suc (length front) = omega (arith, length-append front (b ∷ [])) in
    let rest : (skip line : ℕ) → NamesFound (front ++ b ∷ bs) (tokens_from skip bs (suc (length front)) line) =
    λ skip line. subst (λ n. NamesFound (front ++ b ∷ bs) (tokens_from skip bs n line)) further
    (subst (λ text. NamesFound text (tokens_from skip bs (length (front ++ b ∷ [])) line)) (append_assoc front (b ∷ []) bs) (names_from (front ++ b ∷ []) bs skip line)) in
    by_skip front b bs skip line rest

-- the words of pieces
abbrev EachNamesIn : List ℕ → List (List Token) → Type 0
EachNamesIn text [] = Unit {0}
EachNamesIn text (piece ∷ pieces) = NamesIn text piece × EachNamesIn text pieces

first_names : (text : List ℕ) (t : Token) (pieces : List (List Token)) → NameIn text t → EachNamesIn text pieces → EachNamesIn text (in_first t pieces)
first_names text t [] h k = ((h, tt), tt)
first_names text t (piece ∷ pieces) h k = ((h, k.0), k.1)

before_names : (text : List ℕ) (kind : TokenKind) (t : Token) (pieces : List (List Token)) → NameIn text t → EachNamesIn text pieces → EachNamesIn text (before_pieces kind t pieces)
before_names text Dot t pieces h k = ((h, tt), k)
before_names text kind t pieces h k = first_names text t pieces h k

pieces_names : (text : List ℕ) (tokens : List Token) → NamesIn text tokens → EachNamesIn text (pieces_of tokens)
unfolding pieces_of
pieces_names text [] h = tt
pieces_names text (t ∷ ts) h = before_names text t.kind t (pieces_of ts) h.0 (pieces_names text ts h.1)

word_names : (text : List ℕ) (kind : TokenKind) (t : Token) (ws : List Word) → (kind ≡ Name → IsName (slice_range text t.start t.end)) → HaveNames ws → HaveNames (word_by_kind kind text t ∷ ws)
word_names text Name t ws h k = (h refl, k)
word_names text Number t ws h k = k
word_names text Text t ws h k = k
word_names text kind t ws h k = k

piece_names : (text : List ℕ) (piece : List Token) → NamesIn text piece → HaveNames (words_of text piece)
piece_names text [] h = tt
piece_names text (t ∷ ts) h = word_names text t.kind t (words_of text ts) h.0 (piece_names text ts h.1)

pieces_in_grammar : (text : List ℕ) (pieces : List (List Token)) (statements : List Statement) → EachNamesIn text pieces → AreStatements text pieces statements → AreInGrammar statements
unfolding AreStatements
pieces_in_grammar text [] [] names are = tt
pieces_in_grammar text [] (s ∷ ss) names are = absurd are
pieces_in_grammar text (piece ∷ pieces) [] names are = absurd are
pieces_in_grammar text (piece ∷ pieces) (s ∷ ss) names are =
    (record { words = words_of text piece; names = piece_names text piece names.0; spells = are.0.spells }, pieces_in_grammar text pieces ss names.1 are.1)

-- the statements that a reader finds in a text with tokens
pub statements_in_grammar : (text : List ℕ) (tokens : List Token) (statements : List Statement) → tokens_of text ≡ Ok tokens → AreStatements text (pieces_of tokens) statements → AreInGrammar statements
statements_in_grammar text tokens statements has are =
    pieces_in_grammar text (pieces_of tokens) statements (pieces_names text tokens (subst (NamesFound text) has (names_from [] text 0 1))) are
