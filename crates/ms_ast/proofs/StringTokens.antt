-- A string is a token of its own, whatever follows.
use Rattle.std.proofs.Common.{◌≡◌, ℕ, suc, ◌+◌, ◌-◌, Bool, true, false, eqb, List, [], ◌∷◌, ◌++◌, length, Option, Some, None, refl, sym, ap, ◌∙◌, subst, arith, append_assoc, length-append, if◌then◌else◌}
use Rattle.std.specs.List.{slice_range}
use Rattle.std.specs.Option.{option_map}
use Rattle.std.proofs.lemmas.Bool.{eqb-true}
use Rattle.ms_text.specs.declared.token.TokenKind.TheVariants.{Text}
use Rattle.ms_text.specs.Tokens.{text_len, text_token, first_token}
use Rattle.ms_lex.proofs.Strings.{text_len-plain}
use Rattle.ms_tree.specs.Text.{escaped, escaped_byte}
use Rattle.ms_grammar.specs.Words.{quoted, unescaped}
use Rattle.ms_ast.specs.Ink.{word_text}
use Rattle.ms_ast.proofs.Apart.{IsSign}
use Rattle.ms_ast.proofs.NameTokens.{part_of_text}

abbrev escape_by : Bool → Bool → Bool → ℕ → List ℕ
escape_by quote backslash line_end b =
    if quote then (92 ∷ 34 ∷ []) else
    (if backslash then (92 ∷ 92 ∷ []) else (if line_end then (92 ∷ 110 ∷ []) else (b ∷ [])))

escape_is : (b : ℕ) (quote backslash line_end : Bool) → eqb b 34 ≡ quote → eqb b 92 ≡ backslash → eqb b 10 ≡ line_end → escaped_byte b ≡ escape_by quote backslash line_end b
escape_is b quote backslash line_end q k l = λ i. escape_by (q i) (k i) (l i) b

-- what one byte of a string is printed as, and what it is read as
abbrev Prints : ℕ → List ℕ → Type 0
Prints b bytes = (rest : List ℕ) → (text_len false (bytes ++ rest) ≡ option_map (λ n. length bytes + n) (text_len false rest)) × (unescaped false (bytes ++ rest) ≡ b ∷ unescaped false rest)

two_more : (o : Option ℕ) → option_map suc (option_map suc o) ≡ option_map (λ n. 2 + n) o
two_more None = refl
two_more (Some n) = ap Some (omega arith)

one_more : (o : Option ℕ) → option_map suc o ≡ option_map (λ n. 1 + n) o
one_more None = refl
one_more (Some n) = ap Some (omega arith)

quote_prints : Prints 34 (92 ∷ 34 ∷ [])
unfolding text_len unescaped
quote_prints rest = (two_more (text_len false rest), refl)

backslash_prints : Prints 92 (92 ∷ 92 ∷ [])
unfolding text_len unescaped
backslash_prints rest = (two_more (text_len false rest), refl)

line_end_prints : Prints 10 (92 ∷ 110 ∷ [])
unfolding text_len unescaped
line_end_prints rest = (two_more (text_len false rest), refl)

abbrev read_by : Bool → ℕ → List ℕ → List ℕ
read_by backslash b bs = elim backslash [ true ↦ unescaped true bs | false ↦ b ∷ unescaped false bs ]

plain_reads : (b : ℕ) (rest : List ℕ) → eqb b 92 ≡ false → unescaped false (b ∷ rest) ≡ b ∷ unescaped false rest
unfolding unescaped
plain_reads b rest k = ap (λ t. read_by t b rest) k

plain_prints : (b : ℕ) → eqb b 34 ≡ false → eqb b 92 ≡ false → eqb b 10 ≡ false → Prints b (b ∷ [])
plain_prints b q k l rest =
    (text_len-plain b rest false false q l ∙ ap (λ t. option_map suc (text_len t rest)) k ∙ one_more (text_len false rest), plain_reads b rest k)

byte_prints_by : (b : ℕ) (quote backslash line_end : Bool) → eqb b 34 ≡ quote → eqb b 92 ≡ backslash → eqb b 10 ≡ line_end → Prints b (escape_by quote backslash line_end b)
byte_prints_by b true backslash line_end q k l = subst (λ c. Prints c (92 ∷ 34 ∷ [])) (sym (eqb-true b 34 q)) quote_prints
byte_prints_by b false true line_end q k l = subst (λ c. Prints c (92 ∷ 92 ∷ [])) (sym (eqb-true b 92 k)) backslash_prints
byte_prints_by b false false true q k l = subst (λ c. Prints c (92 ∷ 110 ∷ [])) (sym (eqb-true b 10 l)) line_end_prints
byte_prints_by b false false false q k l = plain_prints b q k l

byte_prints : (b : ℕ) → Prints b (escaped_byte b)
byte_prints b = subst (Prints b) (sym (escape_is b (eqb b 34) (eqb b 92) (eqb b 10) refl refl refl)) (byte_prints_by b (eqb b 34) (eqb b 92) (eqb b 10) refl refl refl)

string_len : (s tail : List ℕ) → text_len false (escaped s ++ 34 ∷ tail) ≡ Some (length (escaped s) + 1)
unfolding text_len
string_len [] tail = refl
string_len (b ∷ bs) tail =
    let len : length (escaped_byte b) + (length (escaped bs) + 1) ≡ length (escaped_byte b ++ escaped bs) + 1 = omega (arith, length-append (escaped_byte b) (escaped bs)) in
    ap (text_len false) (append_assoc (escaped_byte b) (escaped bs) (34 ∷ tail))
    ∙ (byte_prints b (escaped bs ++ 34 ∷ tail)).0
    ∙ ap (option_map (λ n. length (escaped_byte b) + n)) (string_len bs tail)
    ∙ ap Some len

string_read : (s : List ℕ) → unescaped false (escaped s) ≡ s
unfolding unescaped
string_read [] = refl
string_read (b ∷ bs) = (byte_prints b (escaped bs)).1 ∙ ap (λ cs. b ∷ cs) (string_read bs)

string_first : (s tail : List ℕ) → Some (Text, length (word_text (quoted s))) ≡ first_token (word_text (quoted s) ++ tail)
string_first s tail =
    let len : suc (length (escaped s) + 1) ≡ length (word_text (quoted s)) = ap suc (sym (length-append (escaped s) (34 ∷ []))) in
    sym (ap (λ bs. text_token (text_len false bs)) (append_assoc (escaped s) (34 ∷ []) tail) ∙ ap text_token (string_len s tail) ∙ ap (λ n. Some (Text, n)) len)

string_within : (front s tail : List ℕ) → slice_range (front ++ (word_text (quoted s) ++ tail)) (length front + 1) (length front + length (word_text (quoted s)) - 1) ≡ escaped s
string_within front s tail =
    let start : length front + 1 ≡ length (front ++ 34 ∷ []) = sym (length-append front (34 ∷ [])) in
    let len : length front + length (word_text (quoted s)) - 1 ≡ length (front ++ 34 ∷ []) + length (escaped s) = omega (arith, length-append front (34 ∷ []), length-append (escaped s) (34 ∷ [])) in
    let text : front ++ (word_text (quoted s) ++ tail) ≡ (front ++ 34 ∷ []) ++ (escaped s ++ 34 ∷ tail) = ap (λ bs. front ++ 34 ∷ bs) (append_assoc (escaped s) (34 ∷ []) tail) ∙ sym (append_assoc front (34 ∷ []) (escaped s ++ 34 ∷ tail)) in
    (λ i. slice_range (text i) (start i) (len i)) ∙ part_of_text (front ++ 34 ∷ []) (escaped s) (34 ∷ tail)

pub string_sign : (s : List ℕ) → IsSign (quoted s)
string_sign s = record {
  is_token = λ tail. record {
    head = 34;
    rest = escaped s ++ 34 ∷ [];
    text = refl;
    kind = Text;
    first = string_first s tail;
    inside = λ t ps. refl;
    reads = λ front line. ap (λ bs. quoted (unescaped false bs)) (string_within front s tail) ∙ ap quoted (string_read s);
  };
  free = λ tail. refl;
}
