-- What sections say.
use Rattle.std.proofs.Common.{◌≡◌, ℕ, zero, suc, ◌+◌, ◌<◌, ◌≤◌, Bool, true, false, if◌then◌else◌, List, [], ◌∷◌, ◌++◌, map, length, take, set, get_or, refl, sym, ap, subst, ◌∙◌, arith}
use Rattle.std.specs.List.{filter}
use Rattle.std.proofs.lemmas.Grind.{flat_map-append}
use Rattle.std.proofs.lemmas.List.{append_assoc, append-nil, map-append}
use Rattle.std.proofs.lemmas.List.Elements.{filter-append}
use Rattle.ms_grammar.specs.declared.statement.Form.{Form}
use Rattle.ms_grammar.specs.declared.statement.Form.TheVariants.{Rule, Program, External, Const, Show, ShowNone, IncludeIncmode}
use Rattle.ms_grammar.specs.declared.statement.Statement.{Statement}
use Rattle.ms_core.specs.Texts.{PartName, base_part, check_part, query_external, said_of, part_after, said_from}
use Rattle.ms_texts.specs.declared.section.Section.{Section}
use Rattle.ms_texts.specs.Sections.{part_of, said_in, said_by, GoesOn, silent, silenced}

pub said_by-append : (xs ys : List Section) → said_by (xs ++ ys) ≡ said_by xs ++ said_by ys
said_by-append xs ys = flat_map-append said_in xs ys

pub said_by-last : (xs : List Section) (s : Section) → said_by (xs ++ s ∷ []) ≡ said_by xs ++ said_in s
said_by-last xs s = said_by-append xs (s ∷ []) ∙ ap (λ l. said_by xs ++ l) (append-nil (said_in s))

abbrev pub with_form : Section → Form → Section
with_form s form = record s { forms = s.forms ++ form ∷ [] }

pub said_in-last : (s : Section) (form : Form) → said_in (with_form s form) ≡ said_in s ++ (part_of s, form) ∷ []
said_in-last s form = map-append (λ f. (part_of s, f)) s.forms (form ∷ [])

-- a statement that stands in the section before it, and ends it or not
pub goes_on : (done : List Section) (here : Section) (form : Form) → said_of (part_of here) form ≡ (part_of here, form) → part_after (part_of here) form ≡ part_of here → GoesOn done here form done (with_form here form)
goes_on done here form said after = (
  ap (λ l. said_by done ++ l) (said_in-last here form)
      ∙ sym (append_assoc (said_by done) (said_in here) ((part_of here, form) ∷ []))
      ∙ ap (λ s. (said_by done ++ said_in here) ++ s ∷ []) (sym said),
  sym after,
)

pub goes_on_under : (done : List Section) (here next : Section) (form : Form) → said_of (part_of here) form ≡ (part_of here, form) → next.forms ≡ [] → part_of next ≡ part_after (part_of here) form → GoesOn done here form (done ++ with_form here form ∷ []) next
goes_on_under done here next form said empty after = (
  ap (λ fs. said_by (done ++ with_form here form ∷ []) ++ map (λ f. (part_of next, f)) fs) empty
      ∙ append-nil (said_by (done ++ with_form here form ∷ []))
      ∙ said_by-last done (with_form here form)
      ∙ ap (λ l. said_by done ++ l) (said_in-last here form)
      ∙ sym (append_assoc (said_by done) (said_in here) ((part_of here, form) ∷ []))
      ∙ ap (λ s. (said_by done ++ said_in here) ++ s ∷ []) (sym said),
  after,
)

pub goes_on_after_check : (done : List Section) (here check next : Section) (form : Form) → said_of (part_of here) form ≡ (check_part, query_external) → said_in check ≡ (check_part, query_external) ∷ [] → next.forms ≡ [] → part_of next ≡ part_after (part_of here) form → GoesOn done here form ((done ++ here ∷ []) ++ check ∷ []) next
goes_on_after_check done here check next form said checks empty after = (
  ap (λ fs. said_by ((done ++ here ∷ []) ++ check ∷ []) ++ map (λ f. (part_of next, f)) fs) empty
      ∙ append-nil (said_by ((done ++ here ∷ []) ++ check ∷ []))
      ∙ said_by-last (done ++ here ∷ []) check
      ∙ ap (λ l. l ++ said_in check) (said_by-last done here)
      ∙ ap (λ l. (said_by done ++ said_in here) ++ l) checks
      ∙ ap (λ s. (said_by done ++ said_in here) ++ s ∷ []) (sym said),
  after,
)

-- What is said by the sections so far, and by the statements that are left, is what the whole text says.
abbrev pub IsOnTheWay : List Statement → List Section → Section → List Statement → Type 0
IsOnTheWay list done here left = (said_by done ++ said_in here) ++ said_from (part_of here) left ≡ said_from base_part list

pub way_begins : (list : List Statement) (done : List Section) (here : Section) (left : List Statement) → done ≡ [] → part_of here ≡ base_part → here.forms ≡ [] → left ≡ list → IsOnTheWay list done here left
way_begins list done here left none base empty all =
    ap (λ d. (said_by d ++ said_in here) ++ said_from (part_of here) left) none
    ∙ ap (λ fs. map (λ f. (part_of here, f)) fs ++ said_from (part_of here) left) empty
    ∙ ap (λ p. said_from p left) base
    ∙ ap (said_from base_part) all

said_more : (here : PartName) (s : Statement) (ss : List Statement) → said_from here (s ∷ ss) ≡ said_of here s.form ∷ said_from (part_after here s.form) ss
unfolding said_from
said_more here s ss = refl

said_none : (here : PartName) → said_from here [] ≡ []
unfolding said_from
said_none here = refl

pub way_goes_on : (list : List Statement) (done : List Section) (here : Section) (left : List Statement) → IsOnTheWay list done here left → (s : Statement) (more : List Statement) → left ≡ s ∷ more → (longer : List Section) (next : Section) → GoesOn done here s.form longer next → IsOnTheWay list longer next more
way_goes_on list done here left way s more is longer next goes =
    ap (λ l. l ++ said_from (part_of next) more) goes.0
    ∙ append_assoc (said_by done ++ said_in here) (said_of (part_of here) s.form ∷ []) (said_from (part_of next) more)
    ∙ ap (λ p. (said_by done ++ said_in here) ++ said_of (part_of here) s.form ∷ said_from p more) goes.1
    ∙ ap (λ l. (said_by done ++ said_in here) ++ l) (sym (said_more (part_of here) s more))
    ∙ ap (λ l. (said_by done ++ said_in here) ++ said_from (part_of here) l) (sym is)
    ∙ way

pub way_ends : (list : List Statement) (done : List Section) (here : Section) (left : List Statement) → IsOnTheWay list done here left → left ≡ [] → said_by (done ++ here ∷ []) ≡ said_from base_part list
way_ends list done here left way none =
    said_by-last done here
    ∙ sym (append-nil (said_by done ++ said_in here))
    ∙ ap (λ l. (said_by done ++ said_in here) ++ l) (sym (said_none (part_of here)))
    ∙ ap (λ l. (said_by done ++ said_in here) ++ said_from (part_of here) l) (sym none)
    ∙ way

-- silent sections say nothing
pub said_by-silenced : (n : ℕ) (ss : List Section) → said_by (silenced n ss) ≡ said_by (take n ss)
unfolding silenced
said_by-silenced zero [] = refl
said_by-silenced (suc n) [] = refl
said_by-silenced zero (s ∷ ss) = said_by-silenced zero ss
said_by-silenced (suc n) (s ∷ ss) = ap (λ l. said_in s ++ l) (said_by-silenced n ss)

pub silenced_past : (n : ℕ) (ss : List Section) → length ss ≤ n → silenced n ss ≡ ss
unfolding silenced
silenced_past zero [] h = refl
silenced_past (suc n) [] h = refl
silenced_past zero (s ∷ ss) h = absurd (omega (arith, h))
silenced_past (suc n) (s ∷ ss) h = ap (λ l. s ∷ l) (silenced_past n ss (omega (arith, h)))

silenced_suc : (n : ℕ) (ss : List Section) (s : Section) → n < length ss → s ≡ get_or ss n s → silenced (suc n) (set ss n (silent s)) ≡ silenced n ss
unfolding silenced
silenced_suc n [] s h is = absurd (omega (arith, h))
silenced_suc zero (x ∷ xs) s h is = ap (λ y. silent y ∷ silenced zero xs) is
silenced_suc (suc n) (x ∷ xs) s h is = ap (λ l. x ∷ l) (silenced_suc n xs s (omega (arith, h)) is)

pub silenced_next : (n k : ℕ) (ss : List Section) (s : Section) → k ≡ n + 1 → n < length ss → s ≡ get_or ss n s → silenced k (set ss n (silent s)) ≡ silenced n ss
silenced_next n k ss s e h is = ap (λ m. silenced m (set ss n (silent s))) (let f : k ≡ suc n = omega (arith, e) in f) ∙ silenced_suc n ss s h is

-- The statements of parts are those of the sections of these parts.
section_of : (test : PartName → Bool) (p : PartName) (forms : List Form) (b : Bool) → test p ≡ b → filter (λ (said : PartName × Form). test said.0) (map (λ f. (p, f)) forms) ≡ (if b then map (λ f. (p, f)) forms else [])
section_of test p [] true e = refl
section_of test p [] false e = refl
section_of test p (f ∷ fs) true e = rw e (ap (λ l. (p, f) ∷ l) (section_of test p fs true e))
section_of test p (f ∷ fs) false e = rw e (section_of test p fs false e)

filter_more : (test : PartName → Bool) (s : Section) (ss : List Section) (b : Bool) → test (part_of s) ≡ b → said_by (filter (λ s. test (part_of s)) ss) ≡ filter (λ (said : PartName × Form). test said.0) (said_by ss)
    → said_by (filter (λ s. test (part_of s)) (s ∷ ss)) ≡ filter (λ (said : PartName × Form). test said.0) (said_by (s ∷ ss))
filter_more test s ss true e same =
    ap (λ b. said_by (if b then s ∷ filter (λ s. test (part_of s)) ss else filter (λ s. test (part_of s)) ss)) e
    ∙ ap (λ l. said_in s ++ l) same
    ∙ ap (λ l. l ++ filter (λ (said : PartName × Form). test said.0) (said_by ss)) (sym (section_of test (part_of s) s.forms true e))
    ∙ sym (filter-append (λ (said : PartName × Form). test said.0) (said_in s) (said_by ss))
filter_more test s ss false e same =
    ap (λ b. said_by (if b then s ∷ filter (λ s. test (part_of s)) ss else filter (λ s. test (part_of s)) ss)) e
    ∙ same
    ∙ ap (λ l. l ++ filter (λ (said : PartName × Form). test said.0) (said_by ss)) (sym (section_of test (part_of s) s.forms false e))
    ∙ sym (filter-append (λ (said : PartName × Form). test said.0) (said_in s) (said_by ss))

pub said_by-filter : (test : PartName → Bool) (ss : List Section) → said_by (filter (λ s. test (part_of s)) ss) ≡ filter (λ (said : PartName × Form). test said.0) (said_by ss)
said_by-filter test [] = refl
said_by-filter test (s ∷ ss) = filter_more test s ss (test (part_of s)) refl (said_by-filter test ss)

-- a statement that neither begins a part nor includes one
said_plainly : (p : PartName) (form : Form) → (form ≡ IncludeIncmode → ⊥) → said_of p form ≡ (p, form)
said_plainly p (Rule head body) other = refl
said_plainly p (Program n ps) other = refl
said_plainly p (External a) other = refl
said_plainly p (Const n v) other = refl
said_plainly p (Show n k) other = refl
said_plainly p ShowNone other = refl
said_plainly p IncludeIncmode other = absurd (other refl)

stays_plainly : (p : PartName) (form : Form) → ((n : List ℕ) (ps : List (List ℕ)) → form ≡ Program n ps → ⊥) → part_after p form ≡ p
stays_plainly p (Rule head body) other = refl
stays_plainly p (Program n ps) other = absurd (other n ps refl)
stays_plainly p (External a) other = refl
stays_plainly p (Const n v) other = refl
stays_plainly p (Show n k) other = refl
stays_plainly p ShowNone other = refl
stays_plainly p IncludeIncmode other = refl

pub goes_on_plainly : (done : List Section) (here : Section) (form : Form) → (form ≡ IncludeIncmode → ⊥) → ((n : List ℕ) (ps : List (List ℕ)) → form ≡ Program n ps → ⊥) → (next : Section) → next ≡ with_form here form → GoesOn done here form done next
goes_on_plainly done here form other another next is = subst (λ s. GoesOn done here form done s) (sym is) (goes_on done here form (said_plainly (part_of here) form other) (stays_plainly (part_of here) form another))

pub length_none : {A : Type 0} (xs : List A) → length xs ≡ 0 → xs ≡ []
length_none [] e = refl
length_none (x ∷ xs) e = absurd (omega (arith, e))
