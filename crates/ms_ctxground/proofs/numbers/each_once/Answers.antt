use Rattle.std.proofs.lemmas.List.Filters.{dedup_is}
use Rattle.std.proofs.lemmas.List.Kept.{Contains-dedup_nat, Contains-from_dedup}
use Rattle.std.proofs.lemmas.List.Sorted.{Contains-permutation, IsPermutation-sym}
use Rattle.std.proofs.lemmas.Map.Keys.{IsStrictlyIncreasing-dedup}
use Rattle.std.proofs.Common.{◌∙◌}
use Rattle.ms_ctxground.proofs.numbers.each_once.Goals as goal

pub returns : goal.returns
returns c =
    let is = c.from_vec.ensures ∙ dedup_is _ _ _ c.dedup.ensures.filtered in
    let moved = c.sort_unstable.ensures.permutation in
    record {
      rising = rw is (IsStrictlyIncreasing-dedup _ c.sort_unstable.ensures.sorted);
      members = λ a. (
        λ h. Contains-permutation _ _ a (IsPermutation-sym _ _ moved) (Contains-from_dedup _ _ a (rw is at h)),
        λ h. rw is (Contains-dedup_nat _ a (Contains-permutation _ _ a moved h)),
      );
    }
