use Rattle.std.proofs.Common.{◌≡◌, List, true, eqb-true, subst, sym}
use Rattle.std.specs.Prelude.{◌↔◌}
use Rattle.std.specs.Cmp.{booleans_Decides, first_so, second_so}
use Rattle.std.specs.List.{Contains}
use Rattle.std.proofs.lemmas.List.Filters.{dedup_is}
use Rattle.std.proofs.lemmas.List.Kept.{Contains-dedup, Contains-from_dedup}
use Rattle.std.proofs.lemmas.List.Sorted.{Contains-permutation, IsPermutation-sym}
use Rattle.ms_join.specs.declared.assumption.AtomLit.{AtomLit}
use Rattle.ms_join.specs.contracts.assumption.AtomLitPartialEq.TheImpl as derived
use Rattle.ms_join.specs.contracts.assumption.AtomLitEq.TheImpl.Laws.{laws-law}
use Rattle.ms_session.proofs.solving.each_once.Goals as goal

same_lit : (x y : AtomLit) → (derived.ghosts).eq x y ≡ true → x ≡ y
same_lit x y alike =
    let atom : x.atom ≡ y.atom = eqb-true x.atom y.atom (first_so _ _ alike) in
    let truth : x.truth ≡ y.truth = (booleans_Decides x.truth y.truth).0 (second_so _ _ alike) in
    λ i. record { atom = atom i; truth = truth i }

pub returns : goal.returns
returns c =
    let old = c.args.lits.now.items in
    let sorted = c.sort_unstable.new.self.items in
    let moved = c.sort_unstable.ensures.permutation in
    subst (λ (lits : List AtomLit). (l : AtomLit) → Contains lits l ↔ Contains old l) (sym (dedup_is _ _ _ c.dedup.ensures.filtered))
    (λ l. (
      λ has. Contains-permutation sorted old l (IsPermutation-sym old sorted moved) (Contains-from_dedup (derived.ghosts).eq sorted l has),
      λ has. Contains-dedup laws-law same_lit sorted l (Contains-permutation old sorted l moved has),
    ))
