-- Constants that are defined a second time.
use Rattle.std.proofs.Common.{◌≡◌, ℕ, ◌+◌, ◌<◌, ◌≤◌, Bool, true, false, if◌then◌else◌, List, [], ◌∷◌, ◌++◌, length, take, drop, get_or, Option, Some, None, refl, sym, ap, ◌∙◌, arith}
use Rattle.std.specs.Prelude.{is_some, Err}
use Rattle.std.specs.List.{cons_option}
use Rattle.std.proofs.lemmas.List.{append_assoc, append-nil, take-append-le, length-take}
use Rattle.std.proofs.Math.ListN.{drop_of_length-le}
use Rattle.ms_grammar.specs.declared.value.Value.{Value}
use Rattle.ms_grammar.specs.declared.statement.Statement.{Statement}
use Rattle.ms_core.specs.Texts.{value_in, is_name, constant_of, second_definition}
use Rattle.ms_texts.specs.Additions.{constants_in, names_again, DefinesOne, DefinesEach}
use Rattle.ms_texts.specs.declared.fault.TextFault.{TextFault}
use Rattle.ms_texts.specs.declared.fault.TextFault.TheVariants.{ConstTwice, OutOfMemory}
use Rattle.ms_texts.proofs.NamedValues.{left_from, or_else, value_in_append}

abbrev Values : Type 0
Values = List (List ℕ × Value)

module _ (before : Values) (s : Statement) (ss : List Statement) where
  second_none : constant_of s.form ≡ None → second_definition before (s ∷ ss) ≡ second_definition before ss
  unfolding second_definition
  second_none e = rw (e, second_definition) refl

  second_new : (c : List ℕ × Value) → constant_of s.form ≡ Some c → value_in before c.0 ≡ None → second_definition before (s ∷ ss) ≡ second_definition (c ∷ before) ss
  unfolding second_definition
  second_new c e none = rw (e, second_definition) (rw none refl)

  second_again : (c : List ℕ × Value) (v : Value) → constant_of s.form ≡ Some c → value_in before c.0 ≡ Some v → second_definition before (s ∷ ss) ≡ Some s.line
  unfolding second_definition
  second_again c v e some = rw (e, second_definition) (rw some refl)

-- the same names have values
abbrev HaveSame : Values → Values → Type 0
HaveSame xs ys = (n : List ℕ) → is_some (value_in xs n) ≡ is_some (value_in ys n)

same_if : (b : Bool) (v : Value) (x y : Option Value) → is_some x ≡ is_some y → is_some (if b then Some v else x) ≡ is_some (if b then Some v else y)
same_if true v x y e = refl
same_if false v x y e = e

same_more : (c : List ℕ × Value) (xs ys : Values) → HaveSame xs ys → HaveSame (c ∷ xs) (c ∷ ys)
unfolding value_in
same_more c xs ys same n = same_if (is_name c.0 n) c.1 (value_in xs n) (value_in ys n) (same n)

module _ (xs ys : Values) (s : Statement) (ss : List Statement) where
  alike_value : (c : List ℕ × Value) → constant_of s.form ≡ Some c → second_definition (c ∷ xs) ss ≡ second_definition (c ∷ ys) ss → (x y : Option Value) → value_in xs c.0 ≡ x → value_in ys c.0 ≡ y → is_some x ≡ is_some y → second_definition xs (s ∷ ss) ≡ second_definition ys (s ∷ ss)
  alike_value c e later (Some v) (Some w) is_x is_y same = second_again xs s ss c v e is_x ∙ sym (second_again ys s ss c w e is_y)
  alike_value c e later (Some v) None is_x is_y same = absurd (let f : ⊥ = cc in f)
  alike_value c e later None (Some w) is_x is_y same = absurd (let f : ⊥ = cc in f)
  alike_value c e later None None is_x is_y same = second_new xs s ss c e is_x ∙ later ∙ sym (second_new ys s ss c e is_y)

  alike_at : HaveSame xs ys → second_definition xs ss ≡ second_definition ys ss → ((c : List ℕ × Value) → second_definition (c ∷ xs) ss ≡ second_definition (c ∷ ys) ss) → (o : Option (List ℕ × Value)) → constant_of s.form ≡ o → second_definition xs (s ∷ ss) ≡ second_definition ys (s ∷ ss)
  alike_at same now later None e = second_none xs s ss e ∙ now ∙ sym (second_none ys s ss e)
  alike_at same now later (Some c) e = alike_value c e (later c) (value_in xs c.0) (value_in ys c.0) refl refl (same c.0)

second_alike : (ss : List Statement) (xs ys : Values) → HaveSame xs ys → second_definition xs ss ≡ second_definition ys ss
unfolding second_definition
second_alike [] xs ys same = refl
second_alike (s ∷ ss) xs ys same = alike_at xs ys s ss same (second_alike ss xs ys same) (λ c. second_alike ss (c ∷ xs) (c ∷ ys) (same_more c xs ys same)) (constant_of s.form) refl

moved_if : (b : Bool) (v : Value) (x : Option Value) → is_some (if b then Some v else x) ≡ is_some (or_else x (if b then Some v else None))
moved_if true v (Some w) = refl
moved_if true v None = refl
moved_if false v (Some w) = refl
moved_if false v None = refl

-- a definition behind the others, or before all
moved : (c : List ℕ × Value) (xs : Values) → HaveSame (c ∷ xs) (xs ++ c ∷ [])
unfolding value_in
moved c xs n = moved_if (is_name c.0 n) c.1 (value_in xs n) ∙ sym (ap is_some (value_in_append xs (c ∷ []) n))

named_value : (x : Option Value) → is_some x ≡ true → (v : Value) × (x ≡ Some v)
named_value (Some v) e = (v, refl)
named_value None e = absurd (let f : ⊥ = cc in f)

no_value : (x : Option Value) → is_some x ≡ false → x ≡ None
no_value (Some v) e = absurd (let f : ⊥ = cc in f)
no_value None e = refl

second_nowhere : (before : Values) → second_definition before [] ≡ None
unfolding second_definition
second_nowhere before = refl

module _ (s : Statement) (ss : List Statement) (before : Values) where
  again_at : (o : Option (List ℕ × Value)) → constant_of s.form ≡ o → names_again before o ≡ true → second_definition before (s ∷ ss) ≡ Some s.line
  again_at None e again = absurd (let f : ⊥ = cc in f)
  again_at (Some c) e again =
      let value = named_value (value_in before c.0) again in
      second_again before s ss c value.0 e value.1

  second_here : names_again before (constant_of s.form) ≡ true → second_definition before (s ∷ ss) ≡ Some s.line
  second_here again = again_at (constant_of s.form) refl again

  after_at : (o : Option (List ℕ × Value)) → constant_of s.form ≡ o → names_again before o ≡ false → second_definition before (s ∷ ss) ≡ second_definition (before ++ cons_option o []) ss
  after_at None e again = second_none before s ss e ∙ ap (λ l. second_definition l ss) (sym (append-nil before))
  after_at (Some c) e again =
      second_new before s ss c e (no_value (value_in before c.0) again)
      ∙ second_alike ss (c ∷ before) (before ++ c ∷ []) (moved c before)

  second_after : names_again before (constant_of s.form) ≡ false → second_definition before (s ∷ ss) ≡ second_definition (before ++ constants_in (s ∷ [])) ss
  second_after again = after_at (constant_of s.form) refl again

constants_in-cons : (s : Statement) (ss : List Statement) → constants_in (s ∷ ss) ≡ constants_in (s ∷ []) ++ constants_in ss
constants_in-cons s ss = by (constant_of s.form)
  where
    by : (o : Option (List ℕ × Value)) → cons_option o (constants_in ss) ≡ cons_option o [] ++ constants_in ss
    by None = refl
    by (Some c) = refl

pub kept_more : {A : Type 0} (old now more : List A) → take (length old) now ≡ old → take (length old) (now ++ more) ≡ old
kept_more old now more kept =
    let long : length (take (length old) now) ≡ length old = ap length kept in
    take-append-le (length old) now more (omega (arith, long, length-take (length old) now)) ∙ kept

-- What the constants before a text have become with its first i statements.
pub record IsDefining (old : Values) (list : List Statement) (now : Values) (i : ℕ) : Type 0 where
  pub second : second_definition now (drop i list) ≡ second_definition old list
  pub all : now ++ constants_in (drop i list) ≡ old ++ constants_in list
  pub kept : take (length old) now ≡ old

module _ (old : Values) (list : List Statement) where
  take_all : {A : Type 0} (xs : List A) → take (length xs) xs ≡ xs
  take_all [] = refl
  take_all (x ∷ xs) = ap (λ l. x ∷ l) (take_all xs)

  pub defining_begins : IsDefining old list old 0
  defining_begins = record { second = refl; all = refl; kept = take_all old }

  module _ (now : Values) (i : ℕ) (so_far : IsDefining old list now i) where
    module _ (s : Statement) (inside : i < length list) (is : s ≡ get_or list i s) where
      pub defining_stops : names_again now (constant_of s.form) ≡ true → second_definition old list ≡ Some s.line
      defining_stops again = sym so_far.second ∙ ap (second_definition now) (left_from list i s inside is) ∙ second_here s (drop (i + 1) list) now again

      pub defining_goes_on : (new : Values) → names_again now (constant_of s.form) ≡ false → new ≡ now ++ constants_in (s ∷ []) → IsDefining old list new (i + 1)
      defining_goes_on new again more = record {
        second = ap (λ l. second_definition l (drop (i + 1) list)) more ∙ sym (second_after s (drop (i + 1) list) now again) ∙ ap (second_definition now) (sym (left_from list i s inside is)) ∙ so_far.second;
        all = ap (λ l. l ++ constants_in (drop (i + 1) list)) more ∙ append_assoc now (constants_in (s ∷ [])) (constants_in (drop (i + 1) list)) ∙ ap (λ l. now ++ l) (sym (constants_in-cons s (drop (i + 1) list))) ∙ ap (λ l. now ++ constants_in l) (sym (left_from list i s inside is)) ∙ so_far.all;
        kept = ap (take (length old)) more ∙ kept_more old now (constants_in (s ∷ [])) so_far.kept;
      }

    pub defining_ends : length list ≤ i → (second_definition old list ≡ None) × (now ≡ old ++ constants_in list)
    defining_ends past = (
      sym so_far.second ∙ ap (second_definition now) (drop_of_length-le list past) ∙ second_nowhere now,
      sym (append-nil now) ∙ ap (λ l. now ++ constants_in l) (sym (drop_of_length-le list past)) ∙ so_far.all,
    )

-- an error ends the definitions of a text
module _ (A B : Type 0) (old : Values) (list : List Statement) (now new : Values) (i : ℕ) (so_far : IsDefining old list now i) (s : Statement) (inside : i < length list) (is : s ≡ get_or list i s) where
  pub defining_fails : (fault : TextFault) → DefinesOne {A = A} now new s (Err fault) → DefinesEach {A = B} old new list (Err fault)
  defining_fails (ConstTwice line) d = (
    defining_stops old list now i so_far s inside is d.0 ∙ ap (λ n. Some n) (sym d.1),
    ap (take (length old)) d.2 ∙ so_far.kept,
  )
  defining_fails OutOfMemory d = ap (take (length old)) d ∙ so_far.kept
