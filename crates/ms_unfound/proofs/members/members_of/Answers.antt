use Rattle.std.proofs.Common.{ℕ, List, subst, sym}
use Rattle.std.specs.Prelude.{◌↔◌}
use Rattle.std.specs.List.{Contains}
use Rattle.std.proofs.lemmas.List.Sorted.{Contains-permutation, IsNonDecreasingBy-from_sort, IsPermutation-sym}
use Rattle.std.proofs.lemmas.Result.{IfOk-weaker}
use Rattle.ms_unfound.specs.Members.{AreSelected, IsCyclic, IsRising}
use Rattle.ms_unfound.proofs.MemberLaws.{selected_by}
use Rattle.ms_unfound.proofs.members.members_of.Goals as goal

pub selected-requires-clause-rounds : goal.selected-requires-clause-rounds
selected-requires-clause-rounds c =
    subst IsRising (sym c.as_slice.ensures.value) (λ i k up_to within. IsNonDecreasingBy-from_sort (λ x. x) c.sort_unstable.new.self.items c.sort_unstable.ensures.sorted i k 0 up_to within)

pub returns : goal.returns
returns c =
    let cone = c.args.cone.now in
    let rounds = c.in_ok-rounds.rounds.items in
    let sorted = c.as_slice.result.now in
    let same : (n : ℕ) → Contains sorted n ↔ IsCyclic cone c.args.rules.now n = λ n. (
      λ has. (c.in_ok-rounds.ensures n).0 (Contains-permutation c.sort_unstable.new.self.items rounds n (IsPermutation-sym rounds c.sort_unstable.new.self.items c.sort_unstable.ensures.permutation) (subst (λ (xs : List ℕ). Contains xs n) c.as_slice.ensures.value has)),
      λ cyclic. subst (λ (xs : List ℕ). Contains xs n) (sym c.as_slice.ensures.value) (Contains-permutation rounds c.sort_unstable.new.self.items n c.sort_unstable.ensures.permutation ((c.in_ok-rounds.ensures n).1 cyclic)),
    ) in
    IfOk-weaker c.selected.result (AreSelected cone (Contains sorted) c.args.heads.now) (AreSelected cone (IsCyclic cone c.args.rules.now) c.args.heads.now)
    (λ m are. selected_by cone (Contains sorted) (IsCyclic cone c.args.rules.now) c.args.heads.now m same are)
    c.selected.ensures
