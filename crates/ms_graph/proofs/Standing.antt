-- Stages, and what stands of an edge from one state to the next.
use Rattle.std.proofs.Common.{◌≡◌, ◌<◌, ◌⊎◌, ℕ, List, inl, inr, refl, subst}
use Rattle.std.specs.List.{Contains}
use Rattle.ms_graph.specs.declared.stage.Stage.{Stage}
use Rattle.ms_graph.specs.declared.stage.Stage.TheVariants.{New, Open, Closed}
use Rattle.ms_graph.specs.State.{State}
use Rattle.ms_graph.specs.Search.{IsFollowed, IsClosedUpTo, Stands}

pub open_not_new : (p : ℕ) → Open p ≡ New → ⊥
open_not_new p same = cc

pub open_not_closed : (p n : ℕ) → Open p ≡ Closed n → ⊥
open_not_closed p n same = cc

pub closed_not_new : (n : ℕ) → Closed n ≡ New → ⊥
closed_not_new n same = cc

pub same_place : (p q : ℕ) → Open p ≡ Open q → p ≡ q
same_place p q same = cc

pub same_number : (m n : ℕ) → Closed m ≡ Closed n → m ≡ n
same_number m n same = cc

pub followed_not_new : (segments : List ℕ) (p : ℕ) (end : Stage) → IsFollowed segments p end → end ≡ New → ⊥
followed_not_new segments p end followed new = subst (λ x. IsFollowed segments p x) new followed

pub up_to_not_new : (n : ℕ) (end : Stage) → IsClosedUpTo n end → end ≡ New → ⊥
up_to_not_new n end closed new = subst (λ x. IsClosedUpTo n x) new closed

pub up_to_not_open : (n p : ℕ) (end : Stage) → IsClosedUpTo n end → end ≡ Open p → ⊥
up_to_not_open n p end closed open' = subst (λ x. IsClosedUpTo n x) open' closed

-- other segments, of which none starts up to the place that didn't before
pub followed_fewer : (segments fewer : List ℕ) (p : ℕ) (end : Stage) → ((b : ℕ) → Contains fewer b → Contains segments b ⊎ (p < b)) → IsFollowed segments p end → IsFollowed fewer p end
followed_fewer segments fewer p New within followed = followed
followed_fewer segments fewer p (Open q) within followed = λ b c lt. elim (within b c) [
  | inl old ↦ followed b old lt
  | inr beyond ↦ beyond
]
followed_fewer segments fewer p (Closed n) within followed = tt

pub stands_keep : (s t : State) (k link link_new : ℕ) (from end end_new : Stage) → (k < link → k < link_new) → ((p : ℕ) → from ≡ Open p → k < link → Contains s.path p → Contains t.path p) → ((p : ℕ) → from ≡ Open p → IsFollowed s.segments p end → IsFollowed t.segments p end_new) → ((n : ℕ) → from ≡ Closed n → IsClosedUpTo n end → IsClosedUpTo n end_new) → Stands s k link from end → Stands t k link_new from end_new
stands_keep s t k link link_new New end end_new left path followed closed stands = left stands
stands_keep s t k link link_new (Open p) end end_new left path followed closed stands = elim stands [
  | inl waits ↦ inl (path p refl waits.1 waits.0, left waits.1)
  | inr done ↦ inr (followed p refl done)
]
stands_keep s t k link link_new (Closed n) end end_new left path followed closed stands = closed n refl stands

pub stands_again : (s : State) (k link link_new : ℕ) (from end : Stage) → (k < link → k < link_new) → Stands s k link from end → Stands s k link_new from end
stands_again s k link link_new from end left stands =
    stands_keep s s k link link_new from end end left (λ p _ _ c. c) (λ p _ followed. followed) (λ n _ closed. closed) stands
