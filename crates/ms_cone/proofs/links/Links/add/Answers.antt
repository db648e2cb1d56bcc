use Rattle.std.proofs.Common.{arith, ◌≡◌, ◌+◌, ℕ, cond, length, List, Some, nat_eq, subst, sym, ap, ◌∙◌}
use Rattle.std.specs.Map.{lookup}
use Rattle.std.proofs.lemmas.Grind.{common_steps}
use Rattle.indexmap.specs.IndexMap.{get}
use Rattle.ms_cone.specs.declared.links.Chain.{Chain}
use Rattle.ms_cone.specs.declared.links.Link.{Link}
use Rattle.ms_cone.specs.Chains.{AreChained}
use Rattle.ms_cone.specs.Links.{AddsLinks}
use Rattle.ms_cone.proofs.Adding.{adds_link}
use Rattle.ms_cone.proofs.Chained.{chained_more}
use Rattle.ms_cone.proofs.links.Links.add.Goals as goal

pub invariant_of-self-3 : goal.invariant_of-self-3
invariant_of-self-3 c =
    let links = c.self.inside.links.items in
    let l : Link = record { from = c.args.from; to = c.args.to; before = c.chain-chain.result.last } in
    let chain : Chain = record { last = c.len-last.result; count = c.saturating_add-count.result } in
    let count : c.len-last.result ≡ length links + 1 = grind (arith, common_steps) in
    let reserved = get nat_eq c.reserve.new.self in
    subst (λ (ls : List Link). AreChained ls (get nat_eq c.insert.new.self)) (sym c.in_ok-push.ensures.items)
    (chained_more links l chain (get nat_eq c.self.inside.chains) (get nat_eq c.insert.new.self) count c.self.invariant c.chain-chain.ensures
    (λ q. c.in_ok-insert.ensures.updates.0 q
    ∙ ap (λ (x : ℕ). cond (nat_eq x q) (Some chain) (reserved q)) c.from.view_is
    ∙ ap (λ (es : List (ℕ × Chain)). cond (nat_eq c.args.from q) (Some chain) (lookup (nat_eq q) es)) c.in_ok-reserve.ensures.entries))

pub returns : goal.returns
returns c =
    let links = c.self.inside.links.items in
    let l : Link = record { from = c.args.from; to = c.args.to; before = c.chain-chain.result.last } in
    subst (λ (now : List Link). AddsLinks now c.push.new.self.items (λ a b. (a ≡ c.args.from) × (b ≡ c.args.to))) c.self.view_is
    (subst (λ (new : List Link). AddsLinks links new (λ a b. (a ≡ c.args.from) × (b ≡ c.args.to))) (sym c.in_ok-push.ensures.items) (adds_link links l))
