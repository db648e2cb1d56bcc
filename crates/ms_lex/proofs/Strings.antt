-- How far a string has been read.
use Rattle.std.proofs.Common.{◌≡◌, ℕ, suc, ◌+◌, ◌-◌, ◌≤◌, Bool, true, false, cond, eqb, nat_eq, List, [], ◌∷◌, length, drop, Option, Some, None, refl, sym, ap, ◌∙◌, subst, arith}
use Rattle.std.specs.List.{starts_with}
use Rattle.std.specs.Option.{option_map}
use Rattle.std.proofs.lemmas.Bool.{eqb-true, eq-eqb, false≢true}
use Rattle.std.proofs.lemmas.List.{drop-drop, length-drop}
use Rattle.ms_text.specs.Tokens.{is_escape, text_len}
use Rattle.ms_lex.specs.Strings.{escape_len, character_len}

-- the length of a string, of which so many bytes were read
abbrev pub longer_by : ℕ → Option ℕ → Option ℕ
longer_by n o = option_map (λ m. n + m) o

longer_by-one : (o : Option ℕ) → option_map suc o ≡ longer_by 1 o
longer_by-one None = refl
longer_by-one (Some m) = ap Some (omega arith)

longer_by-two : (o : Option ℕ) → option_map suc (option_map suc o) ≡ longer_by 2 o
longer_by-two None = refl
longer_by-two (Some m) = ap Some (omega arith)

longer_by-add : (n m : ℕ) (o : Option ℕ) → longer_by n (longer_by m o) ≡ longer_by (n + m) o
longer_by-add n m None = refl
longer_by-add n m (Some k) = ap Some (omega arith)

-- `text_len` behind a backslash, and elsewhere
abbrev pub escaped_len : Bool → List ℕ → Option ℕ
escaped_len escape bs = elim escape [ true ↦ option_map suc (text_len false bs) | false ↦ None ]

pub text_len-escaped : (b : ℕ) (bs : List ℕ) (escape : Bool) → is_escape b ≡ escape → text_len true (b ∷ bs) ≡ escaped_len escape bs
unfolding text_len
text_len-escaped b bs escape e = ap (λ t. escaped_len t bs) e

abbrev pub plain_len : Bool → Bool → Bool → List ℕ → Option ℕ
plain_len quote line_end backslash bs = elim quote [
  | true ↦ Some 1
  | false ↦ elim line_end [ true ↦ None | false ↦ option_map suc (text_len backslash bs) ]
]

pub text_len-plain : (b : ℕ) (bs : List ℕ) (quote line_end : Bool) → eqb b 34 ≡ quote → eqb b 10 ≡ line_end → text_len false (b ∷ bs) ≡ plain_len quote line_end (eqb b 92) bs
unfolding text_len
text_len-plain b bs quote line_end e f = ap (λ t. plain_len t (eqb b 10) (eqb b 92) bs) e ∙ ap (λ t. plain_len quote t (eqb b 92) bs) f

-- the length of a string whose first character has so many bytes
abbrev after_character : List ℕ → Option ℕ → Option ℕ
after_character text None = None
after_character text (Some n) = longer_by n (text_len false (drop n text))

escape_by : (c : ℕ) (cs : List ℕ) (t : Bool) → is_escape c ≡ t → option_map suc (text_len true (c ∷ cs)) ≡ after_character (92 ∷ c ∷ cs) (cond t (Some 2) None)
escape_by c cs true e = ap (option_map suc) (text_len-escaped c cs true e) ∙ longer_by-two (text_len false cs)
escape_by c cs false e = ap (option_map suc) (text_len-escaped c cs false e)

escape : (bs : List ℕ) → text_len false (92 ∷ bs) ≡ after_character (92 ∷ bs) (escape_len bs)
unfolding text_len
escape [] = refl
escape (c ∷ cs) = escape_by c cs (is_escape c) refl

no_escape : (b : ℕ) (bs : List ℕ) → eqb b 34 ≡ false → eqb b 92 ≡ false → (t : Bool) → eqb b 10 ≡ t → text_len false (b ∷ bs) ≡ after_character (b ∷ bs) (cond t None (Some 1))
no_escape b bs e f true g = text_len-plain b bs false true e g
no_escape b bs e f false g = text_len-plain b bs false false e g ∙ ap (λ t. option_map suc (text_len t bs)) f ∙ longer_by-one (text_len false bs)

character : (b : ℕ) (bs : List ℕ) → eqb b 34 ≡ false → (t : Bool) → eqb b 92 ≡ t → text_len false (b ∷ bs) ≡ after_character (b ∷ bs) (character_len (b ∷ bs))
character b bs e true f = subst (λ c. text_len false (c ∷ bs) ≡ after_character (c ∷ bs) (character_len (c ∷ bs))) (sym (eqb-true b 92 f)) (escape bs)
character b bs e false f = rw f (no_escape b bs e f (eqb b 10) refl)

-- whether the closing quote stands at the front
abbrev pub is_closed : List ℕ → Bool
is_closed text = starts_with nat_eq text (34 ∷ [])

not_quote : (b : ℕ) (bs : List ℕ) → is_closed (b ∷ bs) ≡ false → (t : Bool) → eqb b 34 ≡ t → t ≡ false
not_quote b bs h true e = subst (λ c. is_closed (c ∷ bs) ≡ false) (eqb-true b 34 e) h
not_quote b bs h false e = refl

quote : (b : ℕ) (bs : List ℕ) → is_closed (b ∷ bs) ≡ true → (t : Bool) → eqb 34 b ≡ t → b ≡ 34
quote b bs h true e = sym (eqb-true 34 b e)
quote b bs h false e = absurd (false≢true (rw e at h))

text_len-character : (text : List ℕ) → is_closed text ≡ false → text_len false text ≡ after_character text (character_len text)
unfolding text_len
text_len-character [] h = refl
text_len-character (b ∷ bs) h = character b bs (not_quote b bs h (eqb b 34) refl) (eqb b 92) refl

text_len-closed : (text : List ℕ) → is_closed text ≡ true → text_len false text ≡ Some 1
text_len-closed [] h = absurd (false≢true h)
text_len-closed (b ∷ bs) h = text_len-plain b bs true (eqb b 10) (eq-eqb b 34 (quote b bs h (eqb 34 b) refl)) refl

-- the first `len` bytes are characters of the string
pub record HasReadString (text : List ℕ) (len : ℕ) : Type 0 where
  pub inside : len ≤ length text
  pub rest : longer_by len (text_len false (drop len text)) ≡ text_len false text

pub HasReadString-character : (text : List ℕ) (len : ℕ) → HasReadString text len → (rest : List ℕ) → rest ≡ drop len text → is_closed rest ≡ false
    → (n : ℕ) → n ≤ length rest → Some n ≡ character_len rest → HasReadString text (len + n)
HasReadString-character text len read rest r unclosed n short e =
    let bound : length rest ≡ length text - len = ap length r ∙ length-drop len text in
    let step : text_len false rest ≡ longer_by n (text_len false (drop n rest)) = text_len-character rest unclosed ∙ ap (after_character rest) (sym e) in
    let further : drop n rest ≡ drop (len + n) text = ap (drop n) r ∙ drop-drop n len text in
    record {
      inside = omega (arith, read.inside);
      rest = sym (longer_by-add len n _) ∙ ap (λ bs. longer_by len (longer_by n (text_len false bs))) (sym further) ∙ ap (longer_by len) (sym step) ∙ ap (λ bs. longer_by len (text_len false bs)) r ∙ read.rest;
    }

pub HasReadString-bad : (text : List ℕ) (len : ℕ) → HasReadString text len → (rest : List ℕ) → rest ≡ drop len text → is_closed rest ≡ false → None ≡ character_len rest → None ≡ text_len false text
HasReadString-bad text len read rest r unclosed e =
    ap (longer_by len) (sym (text_len-character rest unclosed ∙ ap (after_character rest) (sym e))) ∙ ap (λ bs. longer_by len (text_len false bs)) r ∙ read.rest

pub HasReadString-closed : (text : List ℕ) (len : ℕ) → HasReadString text len → (rest : List ℕ) → rest ≡ drop len text → is_closed rest ≡ true → Some (len + 1) ≡ text_len false text
HasReadString-closed text len read rest r closed =
    ap (longer_by len) (sym (text_len-closed rest closed)) ∙ ap (λ bs. longer_by len (text_len false bs)) r ∙ read.rest
