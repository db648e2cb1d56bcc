-- What a script sees of an atom that was released.
use Rattle.std.proofs.Common.{◌≡◌, ◌∙◌, ℕ, Bool, eqb, List, [], ◌∷◌, ◌++◌, Some, get_or, zero, suc, sym, subst, arith}
use Rattle.std.specs.List.{All, AllZip, Contains, slice_get}
use Rattle.std.specs.Prelude.{IsTrue}
use Rattle.std.proofs.lemmas.Bool.{eq-eqb, false≢true, or_left, or_right}
use Rattle.std.proofs.lemmas.List.Elements.{All-cons, All-head, All-nil, All-tail}
use Rattle.std.proofs.lemmas.List.Sorted.{All-permutation}
use Rattle.ms_tree.specs.Tree.{Tree}
use Rattle.ms_grammar.specs.declared.value.Value.{Value}
use Rattle.ms_call.specs.declared.command.Assumption.{Assumption}
use Rattle.ms_call.specs.declared.command.Call.{Call}
use Rattle.ms_call.specs.declared.command.Command.{Command}
use Rattle.ms_call.specs.declared.command.Command.TheVariants.{Add, Assign, Ground, Release, Solve}
use Rattle.ms_join.specs.AnswerSets.{set_of}
use Rattle.ms_join.specs.Modules.{IsInput}
use Rattle.ms_copies.specs.Grounding.{IsHead}
use Rattle.ms_solving.specs.Grounding.{core_of_calls}
use Rattle.ms_solving.specs.Listing.{HasAtom, IsAnswer, IsShownList, tree_of_value}
use Rattle.ms_solving.specs.Showing.{shows_atom}
use Rattle.ms_machine.specs.Machine.{State, IsInputNamed, Answers}
use Rattle.ms_machine.specs.Replies.{Reply, added, assigned, grounded, listing_of, no_effect, refused, released, solved}
use Rattle.ms_released.specs.Released.{IsFalseForGood, IsTheOne, WasReleased}
use Rattle.ms_released.proofs.Names.{at_front}
use Rattle.ms_released.proofs.Reaching.{orderly_reached, orderly_run, orderly_step, release_is_for_good}
use Rattle.ms_released.proofs.Sets.{in_no_answer_set}
use Rattle.ms_released.proofs.Staying.{no_new_head, some_and, stays_false}

-- the atom, as it is now
record IsLost (s : State) (t : Tree) : Type 0 where
  atom : ℕ
  one : IsTheOne s.names t atom
  lies : IsFalseForGood s.join atom

lost : (atom : Value) (s : State) → WasReleased atom s → IsLost s (tree_of_value atom)
lost atom s was =
    let (a, one, lies) = release_is_for_good was.before was.after atom was.reached was.release in
    let later = stays_false was.after s was.items was.outputs a lies was.since in
    let named : slice_get s.names a ≡ Some (tree_of_value atom) = later.1 (tree_of_value atom) one.named in
    let is = orderly_run was.after s was.items was.outputs (orderly_step was.before was.after (Release atom) released (orderly_reached was.before was.reached) was.release) was.since in
    record {
      atom = a;
      one = record { named = named; only = λ b at. is.each_once b a (tree_of_value atom) at named };
      lies = later.0;
    }

-- ---- answer sets

pub in_set : (set : List ℕ) (a : ℕ) → Contains set a → IsTrue (set_of set a)
in_set [] a (k, within, at) = absurd (omega arith)
in_set (x ∷ xs) a (zero, within, at) = or_left (eqb x a) (set_of xs a) (eq-eqb x a at)
in_set (x ∷ xs) a (suc k, within, at) = or_right (eqb x a) (set_of xs a) (in_set xs a (k, omega arith, at))

not_in : (s : State) (t : Tree) (assume : List Assumption) (set : List ℕ) → IsLost s t → IsAnswer s.names s.join assume set → ¬ HasAtom s.names set t
not_in s t assume set gone answer (k, b, within, at, named) =
    let here : Contains set gone.atom = subst (Contains set) (gone.one.only b named) (k, within, at) in
    false≢true (sym (in_no_answer_set s.join gone.atom (set_of set) gone.lies answer.answers) ∙ in_set set gone.atom here)

pub in_no_answer : (atom : Value) (s : State) (assume : List Assumption) (set : List ℕ) → WasReleased atom s → IsAnswer s.names s.join assume set
    → ¬ HasAtom s.names set (tree_of_value atom)
in_no_answer atom s assume set was answer = not_in s (tree_of_value atom) assume set (lost atom s was) answer

-- ---- listings

pub none_shown : (shows : Tree → Bool) (names : List Tree) (t : Tree) (sets : List (List ℕ)) (lists : List (List Tree)) → All (λ set. ¬ HasAtom names set t) sets
    → AllZip (IsShownList shows names) sets lists → All (λ shown. ¬ Contains shown t) lists
none_shown shows names t [] [] lacks zip = All-nil (λ (shown : List Tree). ¬ Contains shown t)
none_shown shows names t (set ∷ sets) (shown ∷ lists) lacks zip =
    All-cons (λ (list : List Tree). ¬ Contains list t) shown lists
    (λ there. All-head (λ (one : List ℕ). ¬ HasAtom names one t) set sets lacks ((zip.0.members t).0 there).1)
    (none_shown shows names t sets lists (All-tail (λ (one : List ℕ). ¬ HasAtom names one t) set sets lacks) zip.1)
none_shown shows names t [] (shown ∷ lists) lacks zip = absurd zip
none_shown shows names t (set ∷ sets) [] lacks zip = absurd zip

-- what a reply lists comes of answer sets, each of which lacks the term
pub listed_without : (s new : State) (t : Tree) (command : Command) (reply : Reply)
    → ((assume : List Assumption) (set : List ℕ) → IsAnswer s.names s.join assume set → ¬ HasAtom s.names set t)
    → Answers s command reply new → All (λ shown. ¬ Contains shown t) (listing_of reply)
listed_without s new t (Solve asked limit assume) (solved ending count most listing) lacks step =
    let lists = step.0.listed in
    All-permutation (λ (shown : List Tree). ¬ Contains shown t) lists.lists listing lists.same
    (none_shown (shows_atom s.texts) s.names t step.0.sets lists.lists (λ k d within. lacks assume (get_or step.0.sets k d) (step.0.true_ones.each k d within)) lists.shown)
listed_without s new t (Add text) (solved ending count most listing) lacks step = absurd step
listed_without s new t (Ground calls) (solved ending count most listing) lacks step = absurd step
listed_without s new t (Assign atom truth) (solved ending count most listing) lacks step = absurd step
listed_without s new t (Release atom) (solved ending count most listing) lacks step = absurd step
listed_without s new t command (added count) lacks step = All-nil (λ (shown : List Tree). ¬ Contains shown t)
listed_without s new t command (grounded atoms count) lacks step = All-nil (λ (shown : List Tree). ¬ Contains shown t)
listed_without s new t command assigned lacks step = All-nil (λ (shown : List Tree). ¬ Contains shown t)
listed_without s new t command released lacks step = All-nil (λ (shown : List Tree). ¬ Contains shown t)
listed_without s new t command no_effect lacks step = All-nil (λ (shown : List Tree). ¬ Contains shown t)
listed_without s new t command (refused refusal) lacks step = All-nil (λ (shown : List Tree). ¬ Contains shown t)

pub never_listed : (atom : Value) (old new : State) (command : Command) (reply : Reply) → WasReleased atom old → Answers old command reply new
    → All (λ shown. ¬ Contains shown (tree_of_value atom)) (listing_of reply)
never_listed atom old new command reply was step =
    listed_without old new (tree_of_value atom) command reply (λ assume set. not_in old (tree_of_value atom) assume set (lost atom old was)) step

-- ---- groundings and inputs

pub never_defined : (atom : Value) (old new : State) (calls : List Call) (atoms count : ℕ) → WasReleased atom old → Answers old (Ground calls) (grounded atoms count) new
    → ¬ IsHead (core_of_calls old.texts calls) (tree_of_value atom)
never_defined atom old new calls atoms count was joins head =
    let t : Tree = tree_of_value atom in
    let gone = lost atom old was in
    let there : slice_get (old.names ++ joins.names) gone.atom ≡ Some t = at_front old.names joins.names gone.atom t gone.one.named in
    no_new_head old.join joins.ground_module gone.atom gone.lies joins.composable
    ((joins.grounds.is_module.heads.members gone.atom).1 (some_and (IsHead (core_of_calls old.texts calls)) (slice_get (old.names ++ joins.names) gone.atom) t there head))

pub no_input : (atom : Value) (s : State) (a : ℕ) → WasReleased atom s → ¬ IsInputNamed s (tree_of_value atom) a
no_input atom s a was named =
    let gone = lost atom s was in
    gone.lies.output.no_input (subst (IsInput s.join) (gone.one.only a named.named) named.input)
