-- What texts define and show, statement by statement.
use Rattle.std.proofs.Common.{◌≡◌, ℕ, ◌+◌, ◌<◌, ◌≤◌, drop, get_or, Bool, true, false, if◌then◌else◌, List, [], ◌∷◌, ◌++◌, length, Option, Some, None, refl, sym, ap, ◌∙◌}
use Rattle.std.specs.Prelude.{◌||◌, ◌==◌}
use Rattle.std.specs.List.{filter_map, cons_option, list_any}
use Rattle.std.proofs.lemmas.List.Elements.{filter_map-append}
use Rattle.ms_grammar.specs.declared.value.Value.{Value}
use Rattle.ms_grammar.specs.declared.statement.Form.{Form}
use Rattle.ms_grammar.specs.declared.statement.Form.TheVariants.{Rule, Program, External, Const, Show, ShowNone, IncludeIncmode}
use Rattle.ms_grammar.specs.declared.statement.Statement.{Statement}
use Rattle.ms_core.specs.Texts.{PartName, Texts, base_part, query_external, said_of, part_after, said_from, constant_of, says_show, shows_form, shows}
use Rattle.ms_texts.specs.Additions.{constants_in, constants_of, shows_in, shows_of, show_of, is_shown, shown_by, AreOf}
use Rattle.ms_texts.proofs.NamedValues.{left_from}
use Rattle.std.proofs.lemmas.List.{append_assoc, append-nil}
use Rattle.std.proofs.Math.ListN.{drop_of_length-le}

abbrev Said : Type 0
Said = List (PartName × Form)

cons_one : {X : Type 0} (o : Option X) (xs : List X) → cons_option o [] ++ xs ≡ cons_option o xs
cons_one None xs = refl
cons_one (Some x) xs = refl

module _ {X : Type 0} (h : Form → Option X) (same : h query_external ≡ h IncludeIncmode) where
  said_same : (here : PartName) (form : Form) → h (said_of here form).1 ≡ h form
  said_same here (Rule head body) = refl
  said_same here (Program n ps) = refl
  said_same here (External a) = refl
  said_same here (Const n v) = refl
  said_same here (Show p n) = refl
  said_same here ShowNone = refl
  said_same here IncludeIncmode = same

  found_in : (here : PartName) (list : List Statement) → filter_map (λ (said : PartName × Form). h said.1) (said_from here list) ≡ filter_map (λ (s : Statement). h s.form) list
  unfolding said_from
  found_in here [] = refl
  found_in here (s ∷ ss) =
      ap (λ o. cons_option o (filter_map (λ (said : PartName × Form). h said.1) (said_from (part_after here s.form) ss))) (said_same here s.form)
      ∙ ap (cons_option (h s.form)) (found_in (part_after here s.form) ss)

  found_after : (said : Said) (list : List Statement) → filter_map (λ (said : PartName × Form). h said.1) (said ++ said_from base_part list) ≡ filter_map (λ (said : PartName × Form). h said.1) said ++ filter_map (λ (s : Statement). h s.form) list
  found_after said list = filter_map-append (λ (said : PartName × Form). h said.1) said (said_from base_part list) ∙ ap (λ l. filter_map (λ (said : PartName × Form). h said.1) said ++ l) (found_in base_part list)

pub constants_of-text : (said : Said) (list : List Statement) → constants_of (said ++ said_from base_part list) ≡ constants_of said ++ constants_in list
constants_of-text said list = found_after constant_of refl said list

pub shows_of-text : (said : Said) (list : List Statement) → shows_of (said ++ said_from base_part list) ≡ shows_of said ++ shows_in list
shows_of-text said list = found_after show_of refl said list

is_more : {A : Type 0} → List A → Bool
is_more [] = false
is_more (x ∷ xs) = true

says_more : (form : Form) (more : List (Option (List ℕ × ℕ))) (b : Bool) → b ≡ is_more more → (says_show form || b) ≡ is_more (cons_option (show_of form) more)
unfolding is_more
says_more (Rule head body) more b e = e
says_more (Program n ps) more b e = e
says_more (External a) more b e = e
says_more (Const n v) more b e = e
says_more (Show p n) more b e = refl
says_more ShowNone more b e = refl
says_more IncludeIncmode more b e = e

says_any : (said : Said) → list_any (λ statement. says_show statement.1) said ≡ is_more (shows_of said)
unfolding is_more
says_any [] = refl
says_any (s ∷ ss) = says_more s.1 (shows_of ss) (list_any (λ statement. says_show statement.1) ss) (says_any ss)

module _ (name : List ℕ) (arity : ℕ) where
  shown_more : (form : Form) (more : List (Option (List ℕ × ℕ))) (b : Bool) → b ≡ list_any (is_shown name arity) more → (shows_form name arity form || b) ≡ list_any (is_shown name arity) (cons_option (show_of form) more)
  shown_more (Rule head body) more b e = e
  shown_more (Program n ps) more b e = e
  shown_more (External a) more b e = e
  shown_more (Const n v) more b e = e
  shown_more (Show p n) more b e = ap (λ c. shows_form name arity (Show p n) || c) e
  shown_more ShowNone more b e = e
  shown_more IncludeIncmode more b e = e

  shown_any : (said : Said) → list_any (λ statement. shows_form name arity statement.1) said ≡ list_any (is_shown name arity) (shows_of said)
  shown_any [] = refl
  shown_any (s ∷ ss) = shown_more s.1 (shows_of ss) (list_any (λ statement. shows_form name arity statement.1) ss) (shown_any ss)

  by_list : (xs : List (Option (List ℕ × ℕ))) → (if is_more xs then list_any (is_shown name arity) xs else true) ≡ shown_by name arity xs
  unfolding is_more
  by_list [] = refl
  by_list (x ∷ xs) = refl

  pub shows_by : (t : Texts) → shown_by name arity (shows_of t.said) ≡ shows t name arity
  shows_by t =
      sym (by_list (shows_of t.said))
      ∙ ap (λ b. if b then list_any (is_shown name arity) (shows_of t.said) else true) (sym (says_any t.said))
      ∙ ap (λ b. if list_any (λ statement. says_show statement.1) t.said then b else true) (sym (shown_any t.said))

-- what is shown, statement by statement
pub shown_next : (now : List (Option (List ℕ × ℕ))) (list : List Statement) (i : ℕ) (s : Statement) → i < length list → s ≡ get_or list i s → (new : List (Option (List ℕ × ℕ))) → new ≡ now ++ cons_option (show_of s.form) [] → now ++ shows_in (drop i list) ≡ shows_in list → new ++ shows_in (drop (i + 1) list) ≡ shows_in list
shown_next now list i s inside is new more so_far =
    ap (λ l. l ++ shows_in (drop (i + 1) list)) more
    ∙ append_assoc now (cons_option (show_of s.form) []) (shows_in (drop (i + 1) list))
    ∙ ap (λ l. now ++ l) (cons_one (show_of s.form) (shows_in (drop (i + 1) list)))
    ∙ ap (λ l. now ++ shows_in l) (sym (left_from list i s inside is))
    ∙ so_far

pub shown_ends : (now : List (Option (List ℕ × ℕ))) (list : List Statement) (i : ℕ) → length list ≤ i → now ++ shows_in (drop i list) ≡ shows_in list → now ≡ shows_in list
shown_ends now list i past so_far = sym (append-nil now) ∙ ap (λ l. now ++ shows_in l) (sym (drop_of_length-le list past)) ∙ so_far

-- what is kept beside the statements, with those of a text
pub are_of_text : (said more : Said) (constants values : List (List ℕ × Value)) (shows seen : List (Option (List ℕ × ℕ))) (list : List Statement) → AreOf said constants shows
    → more ≡ said ++ said_from base_part list → values ≡ constants ++ constants_in list → seen ≡ shows ++ shows_in list → AreOf more values seen
are_of_text said more constants values shows seen list are is_more is_values is_seen = record {
  constants_are = is_values ∙ ap (λ l. l ++ constants_in list) are.constants_are ∙ sym (constants_of-text said list) ∙ ap constants_of (sym is_more);
  shows_are = is_seen ∙ ap (λ l. l ++ shows_in list) are.shows_are ∙ sym (shows_of-text said list) ∙ ap shows_of (sym is_more);
}

pub shown_some : (name : List ℕ) (arity : ℕ) (xs : List (Option (List ℕ × ℕ))) → (length xs == 0) ≡ false → list_any (is_shown name arity) xs ≡ shown_by name arity xs
shown_some name arity [] e = absurd (let f : ⊥ = cc in f)
shown_some name arity (x ∷ xs) e = refl
