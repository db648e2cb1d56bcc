use Rattle.std.proofs.Common.{◌≡◌, ◌∷◌, ◌++◌, [], inl, refl, ◌∙◌, sym}
use Rattle.ms_nogood.proofs.Passing.{each_dropped, store_dropped, store_left}
use Rattle.ms_nogood.proofs.nogoods.Nogoods.end_solve.Goals as goal

pub loop-key-preserved-then-ends_at : goal.loop-key-preserved-then-ends_at
loop-key-preserved-then-ends_at c =
    let i = c.loop-key.invariant in
    let u = c.try_remove.ensures.updates in
    let is = sym c.ends_at.ensures ∙ c.if-ends_at.true in
    record {
      fresh = i.fresh;
      kept = i.kept;
      store = store_dropped c.loop-key.self-inside.slots.slots c.try_remove.new.self.slots c.loop-key.self-inside.kept.items c.loop-key.self-inside.passing.items c.pop.new.self.items c.in-Some.key c.loop-key.self-inside.slots.capacity c.try_remove.new.self.capacity i.store c.in-Some.ensures.items u.others is u.changed c.try_remove.ensures.capacity;
      each = each_dropped c.self.inside.slots.slots c.loop-key.self-inside.slots.slots c.try_remove.new.self.slots c.in-Some.key i.each u.others is u.changed;
    }

pub loop-key-preserved-then-ends_at-2 : goal.loop-key-preserved-then-ends_at-2
loop-key-preserved-then-ends_at-2 c =
    let i = c.loop-key.invariant in
    let u = c.try_remove.ensures.updates in
    let is = sym c.ends_at.ensures ∙ c.if-ends_at.true in
    record {
      fresh = i.fresh;
      kept = i.kept;
      store = store_dropped c.loop-key.self-inside.slots.slots c.try_remove.new.self.slots c.loop-key.self-inside.kept.items c.loop-key.self-inside.passing.items c.pop.new.self.items c.in-Some.key c.loop-key.self-inside.slots.capacity c.try_remove.new.self.capacity i.store c.in-Some.ensures.items u.others is u.changed c.try_remove.ensures.capacity;
      each = each_dropped c.self.inside.slots.slots c.loop-key.self-inside.slots.slots c.try_remove.new.self.slots c.in-Some.key i.each u.others is u.changed;
    }

pub loop-key-preserved : goal.loop-key-preserved
loop-key-preserved c =
    let i = c.loop-key.invariant in
    record {
      fresh = i.fresh;
      kept = i.kept;
      store = store_left c.loop-key.self-inside.slots.slots c.loop-key.self-inside.kept.items c.loop-key.self-inside.passing.items c.pop.new.self.items c.in-Some.key c.loop-key.self-inside.slots.capacity i.store c.in-Some.ensures.items (sym c.ends_at.ensures ∙ c.if-ends_at.false);
      each = i.each;
    }
