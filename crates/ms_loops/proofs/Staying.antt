-- Consequences stay, since old things have the truths in a set that they have in its cut to the old base.
use Rattle.std.proofs.Common.{◌≡◌, ◌∙◌, ◌⊎◌, ℕ, zero, suc, ◌<◌, Bool, List, ◌++◌, Option, Some, length, get_or, sym, ap, inl, inr, arith}
use Rattle.std.specs.Prelude.{All, slice_get}
use Rattle.std.proofs.lemmas.Option.{slice_get-get_or}
use Rattle.ms_lits.specs.declared.lit.Lit.{Lit}
use Rattle.ms_lits.specs.Literals.{Nogood}
use Rattle.ms_join.specs.declared.ground_module.GroundModule.{GroundModule}
use Rattle.ms_join.specs.Composability.{IsComposable}
use Rattle.ms_join.specs.Modules.{Join, IsAssigned, IsJoin, IsJoined, IsReleased, IsWellFormed}
use Rattle.ms_join.specs.Possible.{cut}
use Rattle.ms_join.specs.Things.{Thing, thing_holds}
use Rattle.ms_join.specs.Things.Thing.{atom}
use Rattle.ms_possible.proofs.Cutting.{cut_below}
use Rattle.ms_possible.proofs.FreeSets.{assigned_keeps, released_keeps}
use Rattle.ms_possible.proofs.Joining.{joined_keeps}
use Rattle.ms_things.specs.Aggregates.{IsAggregateNogood}
use Rattle.ms_things.specs.Completion.{IsCompletionNogood}
use Rattle.ms_things.specs.Consequences.{IsConsequence}
use Rattle.ms_things.specs.Loops.{IsLoopNogood}
use Rattle.ms_things.specs.Numbers.{AreThings, ext, known_truth}
use Rattle.ms_loops.proofs.Growing.{get_front}
use Rattle.ms_loops.proofs.Members.{member_at}
use Rattle.ms_loops.proofs.Nogoods.{none_contained}
use Rattle.ms_loops.proofs.Truths.{same_by_parts}
use Rattle.ms_loops.proofs.Unfounded.{founded_from_possible}

module _ (old : Join) (things : List Thing) (set : ℕ → Bool) (are : AreThings old things) where
  cut_truth : (n k : ℕ) (t : Thing) → k < n → slice_get things k ≡ Some t → thing_holds (cut old.atoms set) t ≡ thing_holds set t
  cut_truth zero k t less at = absurd (omega (arith, less))
  cut_truth (suc n) k t less at =
      same_by_parts (cut old.atoms set) set t
      (λ a is. cut_below old.atoms set a ((are.exactly (atom a)).0 (member_at things (atom a) k (at ∙ ap (λ (u : Thing). Some u) is))))
      (λ u made.
      let p = are.before k t u at made in
      let lower : p.0 < k = p.1 in
      cut_truth n p.0 u (omega (arith, less, lower)) p.2)

  cut_ext : (more : List Thing) (k : ℕ) → k < length things → ext (cut old.atoms set) things k ≡ ext set (things ++ more) k
  cut_ext more k within =
      let t : Thing = get_or things k (atom 0) in
      let at : slice_get things k ≡ Some t = slice_get-get_or things k (atom 0) within in
      ap (known_truth (cut old.atoms set)) at ∙ cut_truth (suc k) k t (omega arith) at ∙ sym (ap (known_truth set) (get_front things more k t at))

pub consequences_stay : (old new : Join) (m : GroundModule) (things more : List Thing) (nogood : Nogood) → IsJoin old → IsWellFormed old.atoms m → IsComposable old m → IsJoined old m new
    → AreThings old things → All (λ lit. lit.var < length things) nogood → IsConsequence old things nogood → IsConsequence new (things ++ more) nogood
consequences_stay old new m things more nogood is well composable joined are within consequence set possible contained =
    consequence (cut old.atoms set) (joined_keeps old new m set is.over well composable joined possible)
    (λ k d inside.
    let lit : Lit = get_or nogood k d in
    cut_ext old things set are more lit.var (within k d inside) ∙ contained k d inside)

pub inputs_keep : (old new : Join) (a : ℕ) (value : Option Bool) (things : List Thing) (nogood : Nogood) → IsReleased old a new ⊎ IsAssigned old a value new
    → IsConsequence old things nogood → IsConsequence new things nogood
inputs_keep old new a value things nogood (inl released) consequence set possible contained = consequence set (released_keeps old new a set released possible) contained
inputs_keep old new a value things nogood (inr assigned) consequence set possible contained = consequence set ((assigned_keeps old new a value set assigned).1 possible) contained

pub nogoods_are : (j : Join) (things : List Thing) (nogood : Nogood) → IsCompletionNogood j things nogood ⊎ (IsLoopNogood j things nogood ⊎ IsAggregateNogood j things nogood)
    → IsConsequence j things nogood
nogoods_are j things nogood (inl n) set possible contained = (none_contained j things set (founded_from_possible j set possible)).completion nogood n contained
nogoods_are j things nogood (inr (inl n)) set possible contained = (none_contained j things set (founded_from_possible j set possible)).loops nogood n contained
nogoods_are j things nogood (inr (inr n)) set possible contained = (none_contained j things set (founded_from_possible j set possible)).aggregates nogood n contained
