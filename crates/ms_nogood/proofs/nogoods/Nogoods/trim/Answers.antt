use Rattle.std.proofs.Common.{◌≡◌, ◌-◌, ◌≤◌, length, drop, refl, ap, arith, subst, sym, ◌∙◌, get_or}
use Rattle.std.proofs.lemmas.Grind.{common_steps}
use Rattle.ms_nogood.specs.Store.{IsStore, Store, Trims}
use Rattle.ms_nogood.proofs.Kept.{Dropped, dropped_none, dropped_more, trimmed_store, trims_made}
use Rattle.ms_nogood.proofs.nogoods.Nogoods.trim.Goals as goal

pub loop-i-init : goal.loop-i-init
loop-i-init c = record {
  kept = refl;
  passing = refl;
  fresh = refl;
  capacity = refl;
  dropped = dropped_none c.self.inside.kept.items c.self.inside.slots.slots 0 refl;
}

pub loop-i-preserved : goal.loop-i-preserved
loop-i-preserved c =
    let i = c.loop-i.invariant in
    let u = c.try_remove.ensures.updates in
    let more = c.loop-i-test.true in
    let count = c.saturating_sub-count.ensures in
    let len = c.len.ensures in
    record {
      kept = i.kept;
      passing = i.passing;
      fresh = i.fresh;
      capacity = c.try_remove.ensures.capacity ∙ i.capacity;
      dropped = dropped_more c.self.inside.kept.items c.self.inside.slots.slots c.loop-i.self-inside.slots.slots c.try_remove.new.self.slots c.loop-i.i c.index.result.now i.dropped
          (grind (arith, common_steps))
          (c.index.ensures ∙ ap (λ v. get_or v.items c.loop-i.i c.index.result.now) i.kept)
          u.changed u.others;
    }

pub invariant_of-self : goal.invariant_of-self
invariant_of-self c =
    let i = c.loop-i.invariant in
    let count : c.saturating_sub-count.result ≤ length c.self.inside.kept.items = grind (arith, common_steps) in
    let at : c.loop-i.i ≡ c.saturating_sub-count.result = omega arith in
    let lefts = c.drop-drain.ensures.items ∙ c.drain.ensures.kept ∙ ap (λ v. drop c.saturating_sub-count.result v.items) i.kept in
    trimmed_store c.self.inside.slots.slots c.loop-i.self-inside.slots.slots c.self.inside.kept.items c.drop-drain.new.self.0.items c.loop-i.self-inside.passing.items c.saturating_sub-count.result c.self.inside.slots.capacity c.loop-i.self-inside.slots.capacity (subst (λ v. IsStore c.self.inside.slots.slots c.self.inside.kept.items v.items c.self.inside.slots.capacity) (sym i.passing) c.self.invariant) i.capacity count lefts
    (subst (Dropped c.self.inside.kept.items c.self.inside.slots.slots c.loop-i.self-inside.slots.slots) at i.dropped)

pub returns : goal.returns
returns c =
    let i = c.loop-i.invariant in
    let at : c.loop-i.i ≡ c.saturating_sub-count.result = omega arith in
    let lefts = c.drop-drain.ensures.items ∙ c.drain.ensures.kept ∙ ap (λ v. drop c.saturating_sub-count.result v.items) i.kept in
    let old : Store = record { slots = c.self.inside.slots.slots; kept = c.self.inside.kept.items; fresh = c.self.inside.fresh.items } in
    let new : Store = record { slots = c.loop-i.self-inside.slots.slots; kept = c.drop-drain.new.self.0.items; fresh = c.loop-i.self-inside.fresh.items } in
    let count : c.saturating_sub-count.result ≡ length c.self.inside.kept.items - c.args.keep = grind (arith, common_steps) in
    subst (λ (x : Store). Trims x new c.args.keep) c.self.view_is
    (trims_made old new c.args.keep c.saturating_sub-count.result count lefts (ap (λ v. v.items) i.fresh)
    (subst (Dropped c.self.inside.kept.items c.self.inside.slots.slots c.loop-i.self-inside.slots.slots) at i.dropped))
