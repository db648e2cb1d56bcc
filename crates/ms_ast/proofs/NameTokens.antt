-- A name before a byte that doesn't go on with it is a token of its own.
use Rattle.std.proofs.Common.{◌≡◌, ℕ, suc, ◌+◌, ◌-◌, Bool, true, false, cond, eqb, ◌||◌, List, [], ◌∷◌, ◌++◌, length, take, take_while, Option, Some, None, refl, sym, ap, ◌∙◌, subst, arith, if◌then◌else◌}
use Rattle.std.specs.List.{slice_range}
use Rattle.std.specs.Option.{option_map}
use Rattle.std.proofs.lemmas.Bool.{eqb-true}
use Rattle.std.proofs.lemmas.Bool.Decides.{nat_tests}
use Rattle.std.proofs.lemmas.List.Sums.{take_while-cons}
use Rattle.std.proofs.Math.Seq.{take-append_seam, drop-append_seam}
use Rattle.ms_text.specs.declared.token.TokenKind.TheVariants.{Name}
use Rattle.ms_text.specs.Tokens.{is_word, is_lower, name_len, name_kind, name_token, first_token, begins_with}
use Rattle.ms_grammar.specs.Words.{name}
use Rattle.ms_ast.specs.Law.{IsName}
use Rattle.ms_ast.proofs.Apart.{IsToken, Free}
use Rattle.ms_ast.proofs.Fronts.{front_is, lower_no_digit, lower_no_quote, lower_no_hash}

-- a part of a text
pub part_of_text : (front part tail : List ℕ) → slice_range (front ++ (part ++ tail)) (length front) (length front + length part) ≡ part
part_of_text front part tail =
    let len : length front + length part - length front ≡ length part = omega arith in
    ap (λ bs. take (length front + length part - length front) bs) (drop-append_seam front (part ++ tail)) ∙ ap (λ n. take n (part ++ tail)) len ∙ take-append_seam part tail

pub word_bytes-cons : (b : ℕ) (bs : List ℕ) (t : Bool) → is_word b ≡ t → length (take_while is_word (b ∷ bs)) ≡ cond t (suc (length (take_while is_word bs))) 0
word_bytes-cons b bs true e = ap length (take_while-cons is_word b bs ∙ ap (λ t. cond t (b ∷ take_while is_word bs) []) e)
word_bytes-cons b bs false e = ap length (take_while-cons is_word b bs ∙ ap (λ t. cond t (b ∷ take_while is_word bs) []) e)

words_more_by : (b : ℕ) (bs tail : List ℕ) → length (take_while is_word (b ∷ bs)) ≡ length (b ∷ bs) → (length (take_while is_word bs) ≡ length bs → length (take_while is_word (bs ++ tail)) ≡ length bs) → (t : Bool) → is_word b ≡ t → length (take_while is_word (b ∷ (bs ++ tail))) ≡ length (b ∷ bs)
words_more_by b bs tail h rest true e =
    let fewer : suc (length (take_while is_word bs)) ≡ suc (length bs) = sym (word_bytes-cons b bs true e) ∙ h in
    word_bytes-cons b (bs ++ tail) true e ∙ ap suc (rest (omega arith))
words_more_by b bs tail h rest false e =
    let none : 0 ≡ suc (length bs) = sym (word_bytes-cons b bs false e) ∙ h in
    absurd (omega arith)

words_more : (bs tail : List ℕ) → length (take_while is_word bs) ≡ length bs → Free tail → length (take_while is_word (bs ++ tail)) ≡ length bs
words_more [] [] h f = refl
words_more [] (c ∷ cs) h f = word_bytes-cons c cs false f
words_more (b ∷ bs) tail h f = words_more_by b bs tail h (λ e. words_more bs tail e f) (is_word b) refl

abbrev pub name_by : Bool → Bool → List ℕ → Option ℕ
name_by underscore lower bs = if underscore then option_map suc (name_len bs) else if lower then Some (suc (length (take_while is_word bs))) else None

pub name_is : (b : ℕ) (bs : List ℕ) (underscore lower : Bool) → eqb b 95 ≡ underscore → is_lower b ≡ lower → name_len (b ∷ bs) ≡ name_by underscore lower bs
name_is b bs underscore lower u l = λ i. name_by (u i) (l i) bs

one_less : (o : Option ℕ) (n : ℕ) → option_map suc o ≡ Some (suc n) → o ≡ Some n
one_less None n e = cc
one_less (Some m) n e = let same : suc m ≡ suc n = cc in ap Some (omega arith)

pub some_same : (m n : ℕ) → Some m ≡ Some n → m ≡ n
some_same m n e = cc

name_more_by : (b : ℕ) (bs tail : List ℕ) → Free tail → name_len (b ∷ bs) ≡ Some (length (b ∷ bs)) → (name_len bs ≡ Some (length bs) → name_len (bs ++ tail) ≡ Some (length bs)) → (underscore lower : Bool) → eqb b 95 ≡ underscore → is_lower b ≡ lower → name_len (b ∷ (bs ++ tail)) ≡ Some (length (b ∷ bs))
name_more_by b bs tail h e rest true lower u l =
    name_is b (bs ++ tail) true lower u l ∙ ap (option_map suc) (rest (one_less (name_len bs) (length bs) (sym (name_is b bs true lower u l) ∙ e)))
name_more_by b bs tail h e rest false true u l =
    let all : suc (length (take_while is_word bs)) ≡ suc (length bs) = some_same _ _ (sym (name_is b bs false true u l) ∙ e) in
    name_is b (bs ++ tail) false true u l ∙ ap (λ n. Some (suc n)) (words_more bs tail (omega arith) h)
name_more_by b bs tail h e rest false false u l = let none : None ≡ Some (length (b ∷ bs)) = sym (name_is b bs false false u l) ∙ e in cc

name_more : (f tail : List ℕ) → Free tail → name_len f ≡ Some (length f) → name_len (f ++ tail) ≡ Some (length f)
name_more [] tail h e = cc
name_more (b ∷ bs) tail h e = name_more_by b bs tail h e (name_more bs tail h) (eqb b 95) (is_lower b) refl refl

-- a name begins with an underscore or one of a to z
front_by_name : (b : ℕ) (bs tail : List ℕ) → name_len (b ∷ bs) ≡ Some (length (b ∷ bs)) → (underscore lower : Bool) → eqb b 95 ≡ underscore → is_lower b ≡ lower → first_token (b ∷ tail) ≡ name_token (b ∷ tail) (name_len (b ∷ tail))
front_by_name b bs tail e true lower u l = subst (λ c. first_token (c ∷ tail) ≡ name_token (c ∷ tail) (name_len (c ∷ tail))) (sym (eqb-true b 95 u)) refl
front_by_name b bs tail e false true u l =
    front_is b tail false false false true (lower_no_digit b l) (lower_no_quote b l) (lower_no_hash b l) (ap (λ t. t || eqb b 95) l)
front_by_name b bs tail e false false u l = let none : None ≡ Some (length (b ∷ bs)) = sym (name_is b bs false false u l) ∙ e in cc

name_first : (b : ℕ) (bs tail : List ℕ) → IsName (b ∷ bs) → Free tail → Some (Name, length (b ∷ bs)) ≡ first_token (b ∷ (bs ++ tail))
name_first b bs tail h f =
    sym (front_by_name b bs (bs ++ tail) h.all_of_it (eqb b 95) (is_lower b) refl refl
    ∙ ap (name_token (b ∷ (bs ++ tail))) (name_more (b ∷ bs) tail f h.all_of_it)
    ∙ ap (λ g. Some (name_kind g, length (b ∷ bs))) (take-append_seam (b ∷ bs) tail)
    ∙ ap (λ k. Some (k, length (b ∷ bs))) h.no_word)

pub name_token_of : (f tail : List ℕ) → IsName f → Free tail → IsToken (name f) tail
name_token_of [] tail h f = let none : ◌≡◌ {A = Option ℕ} None (Some 0) = h.all_of_it in cc
name_token_of (b ∷ bs) tail h f = record {
  head = b;
  rest = bs;
  text = refl;
  kind = Name;
  first = name_first b bs tail h f;
  inside = λ t ps. refl;
  reads = λ front line. ap name (part_of_text front (b ∷ bs) tail);
}

name_no_equal_by : (b : ℕ) (bs : List ℕ) → name_len (b ∷ bs) ≡ Some (length (b ∷ bs)) → (underscore lower : Bool) → eqb b 95 ≡ underscore → is_lower b ≡ lower → eqb b 61 ≡ false
name_no_equal_by b bs e true lower u l = subst (λ c. eqb c 61 ≡ false) (sym (eqb-true b 95 u)) refl
name_no_equal_by b bs e false true u l = grind (arith, nat_tests)
name_no_equal_by b bs e false false u l = let none : None ≡ Some (length (b ∷ bs)) = sym (name_is b bs false false u l) ∙ e in cc

pub name_no_equal : (f tail : List ℕ) → IsName f → begins_with 61 (f ++ tail) ≡ false
name_no_equal [] tail n = let none : ◌≡◌ {A = Option ℕ} None (Some 0) = n.all_of_it in cc
name_no_equal (b ∷ bs) tail n = name_no_equal_by b bs n.all_of_it (eqb b 95) (is_lower b) refl refl
