-- What stays along a run.
use Rattle.std.proofs.Common.{◌≡◌, ◌∙◌, ◌⊎◌, ℕ, ◌+◌, ◌<◌, ◌≤◌, Bool, List, [], ◌∷◌, ◌++◌, Some, length, get_or, inl, inr, sym, subst, ap, arith}
use Rattle.std.specs.List.{All, slice_get}
use Rattle.std.specs.Prelude.{IsTrue}
use Rattle.std.proofs.lemmas.List.{append-nil}
use Rattle.std.proofs.lemmas.List.Elements.{All-append, Contains-get_or}
use Rattle.ms_tree.specs.Tree.{Tree}
use Rattle.ms_call.specs.Items.{Item}
use Rattle.ms_call.specs.declared.command.Assumption.{Assumption}
use Rattle.ms_join.specs.declared.ground_module.GroundModule.{GroundModule}
use Rattle.ms_join.specs.declared.ground_rule.GroundRule.{GroundRule}
use Rattle.ms_join.specs.AnswerSets.{set_of}
use Rattle.ms_join.specs.Modules.{IsInput}
use Rattle.ms_copies.specs.Grounding.{IsHead}
use Rattle.ms_copies.specs.Simplifying.{AreNumbers}
use Rattle.ms_solving.specs.Grounding.{core_of_calls}
use Rattle.ms_solving.specs.Listing.{IsAnswer}
use Rattle.ms_machine.specs.Machine.{State, start}
use Rattle.ms_machine.specs.Replies.{Output}
use Rattle.ms_machine.specs.Scripts.{Run}
use Rattle.ms_released.specs.Released.{IsReached}
use Rattle.ms_released.proofs.Reaching.{IsOrderly, orderly_after, orderly_start, within_names}
use Rattle.ms_released.proofs.Staying.{input_of, joined_heads, name_stays}
use Rattle.ms_released.proofs.Steps.{Grows, Stays, same, takes_changes}
use Rattle.ms_join.specs.Possible.{IsPossible, cut}
use Rattle.ms_possible.proofs.Cutting.{IsBelow, plain_below, below_more, cut_twice}
use Rattle.ms_possible.proofs.FreeSets.{answer_is_possible}
use Rattle.ms_possible.proofs.Joining.{cut_is_possible, join_extends}

-- The rules speak of the atoms of the base.
pub record IsClosed (s : State) : Type 0 where
  pub orderly : IsOrderly s
  pub below : All (IsBelow s.join.atoms) s.join.rules

pub closed_start : IsClosed start
closed_start = record { orderly = orderly_start; below = λ k d within. absurd (omega arith) }

-- the numbers of atoms are below the length of their list
numbers_below : (atoms : List Tree) (Is : Tree → Type 0) (numbers : List ℕ) → AreNumbers atoms Is numbers → All (λ a. a < length atoms) numbers
numbers_below atoms Is numbers are k d within = within_names atoms Is (get_or numbers k d) ((are.members (get_or numbers k d)).0 (Contains-get_or numbers k d within))

-- the rules of a module that is joined
fresh_below : (old new : State) (grows : Grows old new) → All (IsBelow (length (old.names ++ grows.joins.names))) grows.joins.ground_module.rules
fresh_below old new grows k d within =
    let module_is = grows.joins.grounds.is_module in
    let atoms : List Tree = old.names ++ grows.joins.names in
    let (i, rule, below, at, (chosen, copy, left)) = module_is.left.each k d within in
    record {
      head = λ h head. within_names atoms (IsHead (core_of_calls old.texts grows.calls)) h
          ((module_is.heads.members h).0 (joined_heads old grows.calls grows.atoms grows.count new grows.joins k d within h head));
      pos = numbers_below atoms _ (get_or grows.joins.ground_module.rules k d).pos left.pos;
      neg = numbers_below atoms _ (get_or grows.joins.ground_module.rules k d).neg left.neg;
      aggs = plain_below (length atoms) (get_or grows.joins.ground_module.rules k d) left.plain;
    }

closed_still : (old new : State) → Stays old new → IsClosed old → All (IsBelow new.join.atoms) new.join.rules
closed_still old new stays is =
    subst (λ (rs : List GroundRule). All (IsBelow new.join.atoms) rs) (sym stays.rules)
    (subst (λ n. All (IsBelow n) old.join.rules) (sym stays.atoms) is.below)

closed_grown : (old new : State) → Grows old new → IsClosed old → IsOrderly new → All (IsBelow new.join.atoms) new.join.rules
closed_grown old new grows is now =
    let joined = grows.joins.joined in
    let atoms : new.join.atoms ≡ old.join.atoms + grows.joins.ground_module.fresh = joined.atoms in
    let counted : length (old.names ++ grows.joins.names) ≡ new.join.atoms = ap length (sym grows.joins.longer) ∙ now.counted in
    subst (λ (rs : List GroundRule). All (IsBelow new.join.atoms) rs) (sym joined.rules)
    (All-append (IsBelow new.join.atoms) old.join.rules grows.joins.ground_module.rules
    (λ k d within. below_more old.join.atoms new.join.atoms (get_or old.join.rules k d) (omega (arith, atoms)) (is.below k d within))
    (subst (λ n. All (IsBelow n) grows.joins.ground_module.rules) counted (fresh_below old new grows)))

pub closed_after : (old new : State) → Stays old new ⊎ Grows old new → IsClosed old → IsClosed new
closed_after old new (inl stays) is = record { orderly = orderly_after old new (inl stays) is.orderly; below = closed_still old new stays is }
closed_after old new (inr grows) is =
    let now = orderly_after old new (inr grows) is.orderly in
    record { orderly = now; below = closed_grown old new grows is now }

closed_run : (old new : State) (items : List Item) (outputs : List Output) → IsClosed old → Run old items outputs new → IsClosed new
unfolding Run
closed_run old new [] [] is run = subst IsClosed (sym run) is
closed_run old new (item ∷ items) (output ∷ outputs) is (mid, takes, run) = closed_run mid new items outputs (closed_after old mid (takes_changes old item output mid takes) is) run
closed_run old new [] (output ∷ outputs) is run = absurd run
closed_run old new (item ∷ items) [] is run = absurd run

pub closed_reached : (s : State) → IsReached s → IsClosed s
closed_reached s reached = closed_run start s reached.items reached.outputs closed_start reached.run

-- ---- what is possible

-- where the rules stay
cut_still : (old new : State) (set : ℕ → Bool) → Stays old new → IsClosed old → IsPossible new.join set → IsPossible old.join (cut old.join.atoms set)
cut_still old new set stays is =
    cut_is_possible old.join new.join [] set (stays.rules ∙ sym (append-nil old.join.rules)) (record {
      below = is.below;
      heads = λ k d within. absurd (omega arith);
      inputs = λ a less now. let of = input_of new.join a now in subst (IsInput old.join) of.atom (stays.inputs of.input of.there);
    })

cut_grown : (old new : State) (set : ℕ → Bool) → Grows old new → IsClosed old → IsPossible new.join set → IsPossible old.join (cut old.join.atoms set)
cut_grown old new set grows is =
    let m : GroundModule = grows.joins.ground_module in
    cut_is_possible old.join new.join m.rules set grows.joins.joined.rules
    (join_extends old.join new.join m is.below (joined_heads old grows.calls grows.atoms grows.count new grows.joins) grows.joins.composable grows.joins.joined)

pub cut_after : (old new : State) (set : ℕ → Bool) → Stays old new ⊎ Grows old new → IsClosed old → IsPossible new.join set → IsPossible old.join (cut old.join.atoms set)
cut_after old new set (inl stays) = cut_still old new set stays
cut_after old new set (inr grows) = cut_grown old new set grows

base_grows : (old new : State) → Stays old new ⊎ Grows old new → old.join.atoms ≤ new.join.atoms
base_grows old new (inl stays) = omega (arith, stays.atoms)
base_grows old new (inr grows) = let atoms : new.join.atoms ≡ old.join.atoms + grows.joins.ground_module.fresh = grows.joins.joined.atoms in omega (arith, atoms)

cut_run : (old new : State) (items : List Item) (outputs : List Output) (set : ℕ → Bool) → IsClosed old → Run old items outputs new
    → IsPossible new.join set → IsPossible old.join (cut old.join.atoms set)
unfolding Run
cut_run old new [] [] set is run possible = cut_after old new set (same old new run) is possible
cut_run old new (item ∷ items) (output ∷ outputs) set is (mid, takes, run) possible =
    let change = takes_changes old item output mid takes in
    let before = cut_run mid new items outputs set (closed_after old mid change is) run possible in
    subst (IsPossible old.join) (cut_twice old.join.atoms mid.join.atoms set (base_grows old mid change))
    (cut_after old mid (cut mid.join.atoms set) change is before)
cut_run old new [] (output ∷ outputs) set is run possible = absurd run
cut_run old new (item ∷ items) [] set is run possible = absurd run

pub past_stays : (old new : State) (items : List Item) (outputs : List Output) (set : ℕ → Bool) → IsReached old → Run old items outputs new
    → IsPossible new.join set → IsPossible old.join (cut old.join.atoms set)
past_stays old new items outputs set reached run possible = cut_run old new items outputs set (closed_reached old reached) run possible

-- ---- names and consequences

pub names_kept : (old new : State) (items : List Item) (outputs : List Output) → Run old items outputs new
    → (a : ℕ) (t : Tree) → slice_get old.names a ≡ Some t → slice_get new.names a ≡ Some t
unfolding Run
names_kept old new [] [] run a t at = subst (λ (s : State). slice_get s.names a ≡ Some t) (sym run) at
names_kept old new (item ∷ items) (output ∷ outputs) (mid, takes, run) a t at =
    names_kept mid new items outputs run a t (name_stays old mid (takes_changes old item output mid takes) a t at)
names_kept old new [] (output ∷ outputs) run a t at = absurd run
names_kept old new (item ∷ items) [] run a t at = absurd run

pub consequence_stays : (old new : State) (items : List Item) (outputs : List Output) (holds : (ℕ → Bool) → Bool) → IsReached old → Run old items outputs new
    → ((set : ℕ → Bool) → IsPossible old.join set → IsTrue (holds set))
    → (set : ℕ → Bool) → IsPossible new.join set → IsTrue (holds (cut old.join.atoms set))
consequence_stays old new items outputs holds reached run every set possible = every (cut old.join.atoms set) (past_stays old new items outputs set reached run possible)

pub consequence_holds : (old new : State) (items : List Item) (outputs : List Output) (holds : (ℕ → Bool) → Bool) → IsReached old → Run old items outputs new
    → ((set : ℕ → Bool) → IsPossible old.join set → IsTrue (holds set))
    → (assume : List Assumption) (set : List ℕ) → IsAnswer new.names new.join assume set → IsTrue (holds (cut old.join.atoms (set_of set)))
consequence_holds old new items outputs holds reached run every assume set answer =
    consequence_stays old new items outputs holds reached run every (set_of set) (answer_is_possible new.join (set_of set) answer.answers)
