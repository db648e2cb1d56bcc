-- The values of a call, read one by one up to a `)`.
use Rattle.std.proofs.Common.{◌≡◌, ◌≢◌, ℕ, List, [], ◌∷◌, ◌++◌, length, drop, Option, Some, None, Result, Ok, Err, IfOk, MatchOption, inl, inr, ◌⊎◌, refl, sym, ap, ◌∙◌, subst, append_assoc}
use Rattle.ms_text.specs.declared.token.Token.{Token}
use Rattle.ms_text.specs.declared.token.TokenKind.TheVariants.{Comma, RightParen}
use Rattle.ms_grammar.specs.declared.value.Value.{Value}
use Rattle.ms_grammar.specs.Words.{Word, sign, words_of}
use Rattle.ms_grammar.specs.Values.{Spelling, numeral, negative, string, constant, no_arguments, function, empty_tuple, tuple, tuple_comma, value_words}
use Rattle.ms_grammar.specs.Reading.{EndsValue}
use Rattle.ms_call.specs.Commands.{IsValue, AreArguments}
use Rattle.ms_words.specs.Signs.{Begins, BeginsNot}
use Rattle.ms_lines.specs.Finding.{Finds, IsOnly, IsFront, AreClosed, AreSomeClosed}
use Rattle.ms_lines.proofs.Fronts.{words_of-drop, length-words_of, front_rest}
use Rattle.ms_lines.proofs.ValueFronts.{is_value_some}
use Rattle.ms_words.proofs.SignLemmas.{words_begin, words_begin_not}
use Rattle.ms_lines.proofs.Sequences.{cons-not-nil}

-- no value begins with `)`
spelling_not_closing : (v : Spelling) (ws : List Word) → value_words v ≡ sign RightParen ∷ ws → ⊥
spelling_not_closing (numeral n) ws e = cc
spelling_not_closing (negative n) ws e = cc
spelling_not_closing (string s) ws e = cc
spelling_not_closing (constant f) ws e = cc
spelling_not_closing (no_arguments f) ws e = cc
spelling_not_closing (function f vs) ws e = cc
spelling_not_closing empty_tuple ws e = cc
spelling_not_closing (tuple vs) ws e = cc
spelling_not_closing (tuple_comma vs) ws e = cc

value_not_closing : (first rest ws : List Word) (v : Value) → IsValue first v → first ++ rest ≡ sign RightParen ∷ ws → ⊥
value_not_closing [] rest ws v is e = is_value_some v is
value_not_closing (w ∷ us) rest ws v is e = let same : w ≡ sign RightParen = cc in spelling_not_closing is.spelling us (is.words_are ∙ ap (λ w. w ∷ us) same)

arguments_not_closing : (inside rest ws : List Word) (v : Value) (vs : List Value) → AreArguments inside (v ∷ vs) → inside ++ rest ≡ sign RightParen ∷ ws → ⊥
arguments_not_closing inside rest ws v [] is e = value_not_closing inside rest ws v is e
arguments_not_closing inside rest ws v (u ∷ us) is e =
    value_not_closing is.0 (sign Comma ∷ is.1 ++ rest) ws v is.3 (sym (append_assoc is.0 (sign Comma ∷ is.1) rest) ∙ ap (λ xs. xs ++ rest) (sym is.2) ∙ e)

-- `)` comes first: there are no values
module _ (ws : List Word) where
  none_unique : (args : List Value) (inside rest : List Word) → sign RightParen ∷ ws ≡ inside ++ sign RightParen ∷ rest → AreArguments inside args → (args ≡ []) × (rest ≡ ws)
  none_unique [] inside rest e is =
      let whole : sign RightParen ∷ ws ≡ sign RightParen ∷ rest = e ∙ ap (λ xs. xs ++ sign RightParen ∷ rest) is in
      let same : rest ≡ ws = cc in
      (refl, same)
  none_unique (v ∷ vs) inside rest e is = absurd (arguments_not_closing inside (sign RightParen ∷ rest) ws v vs is (sym e))

  closed_at_once : IsOnly (AreClosed (sign RightParen ∷ ws)) ([], length ws)
  closed_at_once = (
    record { inside = []; rest = ws; words_are = refl; count_is = refl; values_are = refl },
    λ f c.
        let same = none_unique f.0 c.inside c.rest c.words_are c.values_are in
        let count : f.1 ≡ length ws = c.count_is ∙ ap length same.1 in
        ap (λ args. (args, f.1)) same.0 ∙ ap (λ n. ([], n)) count,
  )

-- Something else comes first: there are values.
module _ (ws : List Word) (other : (us : List Word) → ws ≡ sign RightParen ∷ us → ⊥) where
  some_values : (args : List Value) (inside rest : List Word) → ws ≡ inside ++ sign RightParen ∷ rest → AreArguments inside args → args ≢ []
  some_values [] inside rest e is = λ _. other rest (e ∙ ap (λ xs. xs ++ sign RightParen ∷ rest) is)
  some_values (v ∷ vs) inside rest e is = cons-not-nil v vs

  as_some : (f : List Value × ℕ) → AreClosed ws f → AreSomeClosed ws f
  as_some f c = record { some = some_values f.0 c.inside c.rest c.words_are c.values_are; closed = c }

  closed_if_some : (found : Option (List Value × ℕ)) → Finds (AreSomeClosed ws) found → Finds (AreClosed ws) found
  closed_if_some None h = λ f c. h f (as_some f c)
  closed_if_some (Some found) h = (h.0.closed, λ f c. h.1 f (as_some f c))

-- These values stand before the rest.
pub record GoesIn (all : List Word) (before : List Value) (rest : List Word) : Type 0 where
  pub sound : (us : List Value) (left : ℕ) → AreSomeClosed rest (us, left) → AreSomeClosed all (before ++ us, left)
  pub only : (f : List Value × ℕ) → AreSomeClosed all f → (us : List Value) × (f.0 ≡ before ++ us) × AreSomeClosed rest (us, f.1)

pub goes_in_start : (all : List Word) → GoesIn all [] all
goes_in_start all = record { sound = λ us left h. h; only = λ f h. (f.0, refl, h) }

-- Behind the first value comes `)`, or a comma and more of them.
abbrev Goes : List Word → Value × ℕ → List Value × ℕ → Type 0
Goes ws f g =
    ((rest : List Word) × (drop f.1 ws ≡ sign RightParen ∷ rest) × (g.0 ≡ f.0 ∷ []) × (g.1 ≡ length rest))
    ⊎ ((rest : List Word) × (us : List Value) × (drop f.1 ws ≡ sign Comma ∷ rest) × (g.0 ≡ f.0 ∷ us) × AreSomeClosed rest (us, g.1))

module _ (ws : List Word) (f : Value × ℕ) (found : IsOnly (IsFront IsValue ws) f) where
  -- a value in front is the one that was found
  front_is : (first rest : List Word) (v : Value) → ws ≡ first ++ rest → IsValue first v → EndsValue rest → (v ≡ f.0) × (drop f.1 ws ≡ rest)
  front_is first rest v e is ends =
      let front : IsFront IsValue ws (v, length first) = record { first = first; rest = rest; words_are = e; count_is = refl; is = is; ends = ends } in
      let same : (v, length first) ≡ f = found.1 (v, length first) front in
      (ap (λ g. g.0) same, ap (λ g. drop g.1 ws) (sym same) ∙ front_rest front)

  goes_by : (args : List Value) (left : ℕ) → args ≢ [] → (inside rest : List Word) → ws ≡ inside ++ sign RightParen ∷ rest → left ≡ length rest → AreArguments inside args → Goes ws f (args, left)
  goes_by [] left some inside rest e count is = absurd (some refl)
  goes_by (v ∷ []) left some inside rest e count is =
      let front = front_is inside (sign RightParen ∷ rest) v e is tt in
      inl (rest, front.1, ap (λ u. u ∷ []) front.0, count)
  goes_by (v ∷ u ∷ us) left some inside rest e count is =
      let behind : List Word = is.1 ++ sign RightParen ∷ rest in
      let whole : ws ≡ is.0 ++ (sign Comma ∷ behind) = e ∙ ap (λ xs. xs ++ sign RightParen ∷ rest) is.2 ∙ append_assoc is.0 (sign Comma ∷ is.1) (sign RightParen ∷ rest) in
      let front = front_is is.0 (sign Comma ∷ behind) v whole is.3 tt in
      inr (behind, u ∷ us, front.1, ap (λ x. x ∷ u ∷ us) front.0, record { some = cons-not-nil u us; closed = record { inside = is.1; rest = rest; words_are = refl; count_is = count; values_are = is.4 } })

  goes_some : (g : List Value × ℕ) → AreSomeClosed ws g → Goes ws f g
  goes_some g c = goes_by g.0 g.1 c.some c.closed.inside c.closed.rest c.closed.words_are c.closed.count_is c.closed.values_are

  whole_words : (rest : List Word) → drop f.1 ws ≡ rest → ws ≡ found.0.first ++ rest
  whole_words rest e = found.0.words_are ∙ ap (λ xs. found.0.first ++ xs) (sym (front_rest found.0) ∙ e)

  one_closed : (rest : List Word) → drop f.1 ws ≡ sign RightParen ∷ rest → AreSomeClosed ws (f.0 ∷ [], length rest)
  one_closed rest e = record {
    some = cons-not-nil f.0 [];
    closed = record { inside = found.0.first; rest = rest; words_are = whole_words (sign RightParen ∷ rest) e; count_is = refl; values_are = found.0.is };
  }

  more_closed : (rest : List Word) → drop f.1 ws ≡ sign Comma ∷ rest → (us : List Value) (left : ℕ) → AreSomeClosed rest (us, left) → AreSomeClosed ws (f.0 ∷ us, left)
  more_closed rest e [] left c = absurd (c.some refl)
  more_closed rest e (u ∷ us) left c =
      let inside : List Word = found.0.first ++ sign Comma ∷ c.closed.inside in
      record {
        some = cons-not-nil f.0 (u ∷ us);
        closed = record {
          inside = inside;
          rest = c.closed.rest;
          words_are = whole_words (sign Comma ∷ rest) e ∙ ap (λ xs. found.0.first ++ sign Comma ∷ xs) c.closed.words_are ∙ sym (append_assoc found.0.first (sign Comma ∷ c.closed.inside) (sign RightParen ∷ c.closed.rest));
          count_is = c.closed.count_is;
          values_are = (found.0.first, c.closed.inside, refl, found.0.is, c.closed.values_are);
        };
      }

  module _ (all : List Word) (before : List Value) (goes : GoesIn all before ws) where
    -- a comma comes next
    in_more : (rest : List Word) → drop f.1 ws ≡ sign Comma ∷ rest → GoesIn all (before ++ f.0 ∷ []) rest
    in_more rest e = record {
      sound = λ us left c. subst (λ vs. AreSomeClosed all (vs, left)) (sym (append_assoc before (f.0 ∷ []) us)) (goes.sound (f.0 ∷ us) left (more_closed rest e us left c));
      only = λ g c.
          let i = goes.only g c in
          elim (goes_some (i.0, g.1) i.2) [
            | inl h ↦ absurd (let same : sign Comma ∷ rest ≡ sign RightParen ∷ h.0 = sym e ∙ h.1 in let f : ⊥ = cc in f)
            | inr h ↦
                let whole : sign Comma ∷ h.0 ≡ sign Comma ∷ rest = sym h.2 ∙ e in
                let same : h.0 ≡ rest = cc in
                (h.1, i.1 ∙ ap (λ us. before ++ us) h.3 ∙ sym (append_assoc before (f.0 ∷ []) h.1), subst (λ ws. AreSomeClosed ws (h.1, g.1)) same h.4)
          ];
    }

    -- `)` comes next
    in_last : (rest : List Word) → drop f.1 ws ≡ sign RightParen ∷ rest → IsOnly (AreSomeClosed all) (before ++ f.0 ∷ [], length rest)
    in_last rest e = (
      goes.sound (f.0 ∷ []) (length rest) (one_closed rest e),
      λ g c.
          let i = goes.only g c in
          elim (goes_some (i.0, g.1) i.2) [
            | inl h ↦
                let whole : sign RightParen ∷ h.0 ≡ sign RightParen ∷ rest = sym h.1 ∙ e in
                let same : h.0 ≡ rest = cc in
                let args : g.0 ≡ before ++ f.0 ∷ [] = i.1 ∙ ap (λ us. before ++ us) h.2 in
                let count : g.1 ≡ length rest = h.3 ∙ ap length same in
                ap (λ vs. (vs, g.1)) args ∙ ap (λ n. (before ++ f.0 ∷ [], n)) count
            | inr h ↦ absurd (let same : sign RightParen ∷ rest ≡ sign Comma ∷ h.0 = sym e ∙ h.2 in let f : ⊥ = cc in f)
          ],
    )

    -- neither does
    in_neither : ((rest : List Word) → drop f.1 ws ≡ sign Comma ∷ rest → ⊥) → ((rest : List Word) → drop f.1 ws ≡ sign RightParen ∷ rest → ⊥) → (g : List Value × ℕ) → AreSomeClosed all g → ⊥
    in_neither comma close g c =
        let i = goes.only g c in
        elim (goes_some (i.0, g.1) i.2) [ inl h ↦ close h.0 h.1 | inr h ↦ comma h.0 h.2 ]

-- no value comes first
no_value_by : (ws : List Word) → ((f : Value × ℕ) → IsFront IsValue ws f → ⊥) → (args : List Value) → args ≢ [] → (inside rest : List Word) → ws ≡ inside ++ sign RightParen ∷ rest → AreArguments inside args → ⊥
no_value_by ws none [] some inside rest e is = some refl
no_value_by ws none (v ∷ []) some inside rest e is = none (v, length inside) (record { first = inside; rest = sign RightParen ∷ rest; words_are = e; count_is = refl; is = is; ends = tt })
no_value_by ws none (v ∷ u ∷ us) some inside rest e is =
    let whole : ws ≡ is.0 ++ (sign Comma ∷ (is.1 ++ sign RightParen ∷ rest)) = e ∙ ap (λ xs. xs ++ sign RightParen ∷ rest) is.2 ∙ append_assoc is.0 (sign Comma ∷ is.1) (sign RightParen ∷ rest) in
    none (v, length is.0) (record { first = is.0; rest = sign Comma ∷ (is.1 ++ sign RightParen ∷ rest); words_are = whole; count_is = refl; is = is.3; ends = tt })

-- The same over tokens.
module _ (text : List ℕ) (tokens : List Token) where
  pub arguments_none : (after : List Token) → Begins tokens RightParen after → IsOnly (AreClosed (words_of text tokens)) ([], length after)
  arguments_none after b =
      subst (λ ws. IsOnly (AreClosed ws) ([], length after)) (sym (words_begin text RightParen (λ t. refl) tokens after b))
      (subst (λ n. IsOnly (AreClosed (sign RightParen ∷ words_of text after)) ([], n)) (length-words_of text after) (closed_at_once (words_of text after)))

  pub arguments_some : {E : Type 0} → BeginsNot tokens RightParen → (r : Result (Option (List Value × ℕ)) E) → IfOk r (Finds (AreSomeClosed (words_of text tokens))) → IfOk r (Finds (AreClosed (words_of text tokens)))
  arguments_some b (Ok found) h = closed_if_some (words_of text tokens) (words_begin_not text RightParen tokens b) found h
  arguments_some b (Err e) h = tt

module _ (text : List ℕ) (all : List Word) (before : List Value) (rest : List Token) (goes : GoesIn all before (words_of text rest)) (found : Option (Value × ℕ)) (finds : Finds (IsFront IsValue (words_of text rest)) found) where
  pub values_none : found ≡ None → (g : List Value × ℕ) → AreSomeClosed all g → ⊥
  values_none e g c =
      let none = subst (Finds (IsFront IsValue (words_of text rest))) e finds in
      let i = goes.only g c in
      no_value_by (words_of text rest) none i.0 i.2.some i.2.closed.inside i.2.closed.rest i.2.closed.words_are i.2.closed.values_are

  module _ (f : Value × ℕ) (e : found ≡ Some f) (next : List Value) (pushed : next ≡ before ++ f.0 ∷ []) (behind : List Token) (b : behind ≡ drop f.1 rest) where
    only_front : IsOnly (IsFront IsValue (words_of text rest)) f
    only_front = subst (Finds (IsFront IsValue (words_of text rest))) e finds

    words_behind : drop f.1 (words_of text rest) ≡ words_of text behind
    words_behind = words_of-drop text f.1 rest ∙ ap (words_of text) (sym b)

    pub values_more : (after : List Token) → Begins behind Comma after → GoesIn all next (words_of text after)
    values_more after h =
        subst (λ vs. GoesIn all vs (words_of text after)) (sym pushed)
        (in_more (words_of text rest) f only_front all before goes (words_of text after) (words_behind ∙ words_begin text Comma (λ t. refl) behind after h))

    pub values_closing : BeginsNot behind Comma → (closing : Option (List Value × ℕ)) → MatchOption closing (BeginsNot behind RightParen) (λ g. (g.0 ≡ next) × (after : List Token) × (g.1 ≡ length after) × Begins behind RightParen after) → Finds (AreSomeClosed all) closing
    values_closing comma None h =
        in_neither (words_of text rest) f only_front all before goes
        (λ ws w. words_begin_not text Comma behind comma ws (sym words_behind ∙ w))
        (λ ws w. words_begin_not text RightParen behind h ws (sym words_behind ∙ w))
    values_closing comma (Some g) h =
        let last = in_last (words_of text rest) f only_front all before goes (words_of text h.1) (words_behind ∙ words_begin text RightParen (λ t. refl) behind h.1 h.3) in
        let args : before ++ f.0 ∷ [] ≡ g.0 = sym pushed ∙ sym h.0 in
        let count : length (words_of text h.1) ≡ g.1 = length-words_of text h.1 ∙ sym h.2 in
        subst (IsOnly (AreSomeClosed all)) (ap (λ vs. (vs, length (words_of text h.1))) args ∙ ap (λ n. (g.0, n)) count) last
