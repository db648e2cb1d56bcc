-- What a solver lists for an ask is what the machine lists.
use Rattle.std.proofs.Common.{◌≡◌, ◌∙◌, ℕ, ◌<◌, List, length, get_or, All, Contains, Bool, true, false, Option, Some, None, refl, sym, subst}
use Rattle.std.specs.Prelude.{◌==◌, slice_get}
use Rattle.std.proofs.lemmas.Bool.{eq-eqb, false_from_ne_true, false≢true}
use Rattle.std.proofs.lemmas.Bool.Decides.{Decides-eqb}
use Rattle.std.proofs.lemmas.List.Folds.{Any-from_list_any, list_any_at}
use Rattle.std.proofs.lemmas.List.Elements.{All-nil, All-contains, All-weaker}
use Rattle.std.proofs.lemmas.Option.{slice_get_within}
use Rattle.ms_tree.specs.Tree.{Tree}
use Rattle.ms_call.specs.declared.command.Assumption.{Assumption}
use Rattle.ms_join.specs.declared.assumption.AtomAsk.{AtomAsk}
use Rattle.ms_join.specs.declared.assumption.AtomLit.{AtomLit}
use Rattle.ms_join.specs.declared.ground_rule.Input.{Input}
use Rattle.ms_join.specs.Assumptions.{MeetsEach}
use Rattle.ms_join.specs.Modules.{IsJoin}
use Rattle.ms_join.specs.Sets.{set_of, IsAtomSet}
use Rattle.ms_lits.specs.declared.note.Ending.{Ending}
use Rattle.ms_lits.specs.declared.note.Ending.TheVariants.{Complete, StillOpen, Cut}
use Rattle.ms_search.specs.declared.ask.Run.{Run}
use Rattle.ms_problem.specs.Solves.{IsAskedFor}
use Rattle.ms_solver.specs.Laws.{HasValue, ValuesAreAssumed}
use Rattle.ms_solver.specs.Solves.{EndsWith, Lists}
use Rattle.ms_solving.specs.Listing.{AreAllAnswers, EndsAs, HasAtom, IsAnswer, IsListing, Meets, Solves, tree_of_value}
use Rattle.ms_machine.specs.Machine.{IsAskOf, IsDemanded, State, by_assumption, by_input}
use Rattle.ms_complete.proofs.Lists.{all_from, any_from, some_at}
use Rattle.ms_session.specs.Assuming.{IsKnown}
use Rattle.ms_session.specs.Kept.{IsAtomOf, IsNumberOf}

-- a set has the atom exactly where it has its number
has_number : (names : List Tree) (set : List ℕ) (t : Tree) (a : ℕ) → IsAtomOf names t a → HasAtom names set t → Contains set a
has_number names set t a atom h =
    let same : h.1 ≡ a = atom.only h.1 h.4 in
    subst (λ (b : ℕ). Contains set b) same (h.0, h.2, h.3)

has_atom : (names : List Tree) (set : List ℕ) (t : Tree) (a : ℕ) → IsAtomOf names t a → Contains set a → HasAtom names set t
has_atom names set t a atom h = (h.0, a, h.1, h.2, atom.there)

in_set : (set : List ℕ) (a : ℕ) → Contains set a → set_of set a ≡ true
in_set set a h = list_any_at (λ b. b == a) set h.0 a h.1 (eq-eqb (get_or set h.0 a) a h.2)

from_set : (set : List ℕ) (a : ℕ) → set_of set a ≡ true → Contains set a
from_set set a h =
    let any = Any-from_list_any (λ b. b == a) set h in
    let same : any.1 ≡ a = (Decides-eqb any.1 a).0 any.4 in
    subst (λ (b : ℕ). Contains set b) same (any.0, any.2, any.3)

meets_lit : (names : List Tree) (set : List ℕ) (t : Tree) (a : ℕ) (truth : Bool) → IsAtomOf names t a → Meets names set t truth → set_of set a ≡ truth
meets_lit names set t a true atom h = in_set set a (has_number names set t a atom h)
meets_lit names set t a false atom h = false_from_ne_true (set_of set a) (λ is. h (has_atom names set t a atom (from_set set a is)))

lit_meets : (names : List Tree) (set : List ℕ) (t : Tree) (a : ℕ) (truth : Bool) → IsAtomOf names t a → set_of set a ≡ truth → Meets names set t truth
lit_meets names set t a true atom h = has_atom names set t a atom (from_set set a h)
lit_meets names set t a false atom h = λ has. false≢true (sym h ∙ in_set set a (has_number names set t a atom has))

-- an atom outside the base is in no set
not_in_set : (names : List Tree) (set : List ℕ) (t : Tree) → ¬ Contains names t → ¬ HasAtom names set t
not_in_set names set t missing h = missing (some_at names h.1 t h.4)

ends_for : (Is : List ℕ → Type 0) (ending : Ending) (asked : ℕ) (sets : List (List ℕ)) → EndsWith asked (length sets) ending → (ending ≡ Complete → AreAllAnswers Is sets) → EndsAs ending asked Is sets
ends_for Is Complete asked sets ends all = (ends, all refl)
ends_for Is StillOpen asked sets ends all = ends
ends_for Is Cut asked sets ends all = ends

module _ (s : State) (asked limit : ℕ) (assume : List Assumption) (ask : AtomAsk) (is : IsAskOf s asked limit assume ask) where
  -- the literals are over the base
  module _ (join : IsJoin s.join) (counted : length s.names ≡ s.join.atoms) where
    demanded_within : (lit : AtomLit) → IsDemanded s assume lit → lit.atom < s.join.atoms
    demanded_within lit (by_input has) = All-contains (λ (i : Input). i.atom < s.join.atoms) s.join.inputs (record { atom = lit.atom; value = Some lit.truth }) join.over.inputs has
    demanded_within lit (by_assumption some) = subst (λ (n : ℕ). lit.atom < n) counted (slice_get_within s.names lit.atom (tree_of_value some.1.atom) some.4.0)

    pub ask_within : All (λ (lit : AtomLit). lit.atom < s.join.atoms) ask.assume
    ask_within = All-weaker (IsDemanded s assume) (λ (lit : AtomLit). lit.atom < s.join.atoms) demanded_within ask.assume is.each

  -- the inputs have their values
  has_values : (set : List ℕ) → MeetsEach set ask.assume → All (HasValue (set_of set)) s.join.inputs
  has_values set met = all_from (HasValue (set_of set)) s.join.inputs (λ i has value at.
      let same : i ≡ record { atom = i.atom; value = Some value } = λ j. record { atom = i.atom; value = at j } in
      All-contains (λ (lit : AtomLit). set_of set lit.atom ≡ lit.truth) ask.assume (record { atom = i.atom; truth = value }) met
      (is.all (record { atom = i.atom; truth = value }) (by_input (subst (λ (x : Input). Contains s.join.inputs x) same has))))

  module _ (known : All (IsKnown s.names) assume) where
    meets_given : (set : List ℕ) → ask.impossible ≡ false → MeetsEach set ask.assume → (given : Assumption) → Contains assume given
        → (number : Option ℕ) → IsNumberOf s.names (tree_of_value given.atom) number → (truth : Bool) → given.truth ≡ truth → Meets s.names set (tree_of_value given.atom) truth
    meets_given set possible met given has (Some a) atom truth at =
        lit_meets s.names set (tree_of_value given.atom) a truth atom
        (All-contains (λ (lit : AtomLit). set_of set lit.atom ≡ lit.truth) ask.assume (record { atom = a; truth = truth }) met
        (is.all (record { atom = a; truth = truth }) (by_assumption
        (any_from (λ (g : Assumption). (slice_get s.names a ≡ Some (tree_of_value g.atom)) × (truth ≡ g.truth)) assume given has (atom.there, sym at)))))
    meets_given set possible met given has None missing false at = not_in_set s.names set (tree_of_value given.atom) missing
    meets_given set possible met given has None missing true at =
        absurd (false≢true (sym possible ∙ is.impossible.1
        (any_from (λ (g : Assumption). (g.truth ≡ true) × ¬ Contains s.names (tree_of_value g.atom)) assume given has (at, missing))))

    -- what is asked for is an answer
    to_answer : ValuesAreAssumed → IsJoin s.join → ask.impossible ≡ false → (set : List ℕ) → IsAskedFor s.join ask set → IsAnswer s.names s.join assume set
    to_answer law join possible set of = record {
      over_base = of.over_base;
      answers = (law s.join (set_of set) join).1 (of.answers, has_values set of.assumed);
      assumed = all_from (λ (g : Assumption). Meets s.names set (tree_of_value g.atom) g.truth) assume (λ given has.
          let (number, found) = All-contains (IsKnown s.names) assume given known has in
          meets_given set possible of.assumed given has number found given.truth refl);
    }

    meets_demanded : ValuesAreAssumed → IsJoin s.join → (set : List ℕ) → IsAnswer s.names s.join assume set → (lit : AtomLit) → IsDemanded s assume lit → set_of set lit.atom ≡ lit.truth
    meets_demanded law join set of lit (by_input has) =
        All-contains (HasValue (set_of set)) s.join.inputs (record { atom = lit.atom; value = Some lit.truth }) ((law s.join (set_of set) join).0 of.answers).1 has lit.truth refl
    meets_demanded law join set of lit (by_assumption some) =
        let given = some.1 in
        let among : Contains assume given = (some.0, some.2, some.3) in
        let (number, found) = All-contains (IsKnown s.names) assume given known among in
        let met = All-contains (λ (g : Assumption). Meets s.names set (tree_of_value g.atom) g.truth) assume given of.assumed among in
        by_number set given lit.atom lit.truth some.4.0 some.4.1 met number found
      where
        by_number : (set : List ℕ) (given : Assumption) (a : ℕ) (truth : Bool) → slice_get s.names a ≡ Some (tree_of_value given.atom) → truth ≡ given.truth → Meets s.names set (tree_of_value given.atom) given.truth
            → (number : Option ℕ) → IsNumberOf s.names (tree_of_value given.atom) number → set_of set a ≡ truth
        by_number set given a truth at same met None missing = absurd (missing (some_at s.names a (tree_of_value given.atom) at))
        by_number set given a truth at same met (Some b) atom =
            let is_b : a ≡ b = atom.only a at in
            subst (λ (n : ℕ). set_of set n ≡ truth) (sym is_b) (meets_lit s.names set (tree_of_value given.atom) b given.truth atom met ∙ sym same)

    -- an answer is asked for
    to_asked : ValuesAreAssumed → IsJoin s.join → (set : List ℕ) → IsAnswer s.names s.join assume set → IsAskedFor s.join ask set
    to_asked law join set of = record {
      over_base = of.over_base;
      answers = ((law s.join (set_of set) join).0 of.answers).0;
      assumed = All-weaker (IsDemanded s assume) (λ (lit : AtomLit). set_of set lit.atom ≡ lit.truth) (meets_demanded law join set of) ask.assume is.each;
    }

    -- where an atom outside the base is assumed true there is no answer
    no_answer : ask.impossible ≡ true → (set : List ℕ) → ¬ IsAnswer s.names s.join assume set
    no_answer so set of =
        let some = is.impossible.0 so in
        let met = All-contains (λ (g : Assumption). Meets s.names set (tree_of_value g.atom) g.truth) assume some.1 of.assumed (some.0, some.2, some.3) in
        not_in_set s.names set (tree_of_value some.1.atom) some.4.1 (subst (λ (b : Bool). Meets s.names set (tree_of_value some.1.atom) b) some.4.0 met)

    module _ (law : ValuesAreAssumed) (join : IsJoin s.join) (run : Run) (lists : Lists s.join ask run) where
      each_answers : (impossible : Bool) → ask.impossible ≡ impossible → All (IsAnswer s.names s.join assume) run.answers
      each_answers false possible = All-weaker (IsAskedFor s.join ask) (IsAnswer s.names s.join assume) (to_answer law join possible) run.answers lists.members
      each_answers true so = subst (λ (sets : List (List ℕ)). All (IsAnswer s.names s.join assume) sets) (sym (lists.none so).0) (All-nil (IsAnswer s.names s.join assume))

      all_answers : (impossible : Bool) → ask.impossible ≡ impossible → run.ending ≡ Complete → AreAllAnswers (IsAnswer s.names s.join assume) run.answers
      all_answers false possible complete set of = lists.all complete possible set (to_asked law join set of)
      all_answers true so complete set of = absurd (no_answer so set of)

      -- the sets are over the base
      pub over_base : (n : ℕ) → n ≡ s.join.atoms → All (IsAtomSet n) run.answers
      over_base n same = subst (λ (k : ℕ). All (IsAtomSet k) run.answers) (sym same)
          (All-weaker (IsAskedFor s.join ask) (IsAtomSet s.join.atoms) (λ set of. of.over_base) run.answers lists.members)

      -- what is listed is what the machine lists
      pub solves : (shows : Tree → Bool) (listing : List (List Tree)) → IsListing shows s.names run.answers listing
          → Solves shows s.names s.join assume asked run.ending (length run.answers) listing
      solves shows listing listed = record {
        sets = run.answers;
        true_ones = record { each = each_answers ask.impossible refl; once = lists.once };
        ends = ends_for (IsAnswer s.names s.join assume) run.ending asked run.answers
            (subst (λ (n : ℕ). EndsWith n (length run.answers) run.ending) is.count lists.ends)
            (all_answers ask.impossible refl);
        counted = refl;
        listed = listed;
      }
