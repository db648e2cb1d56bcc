use Rattle.std.proofs.Common.{Some, refl, sym, subst}
use Rattle.ms_nogood.specs.Store.{IsAsleepAt, IsStore, Store}
use Rattle.ms_nogood.specs.declared.kind.Kind.TheVariants.{Base}
use Rattle.ms_nogood.specs.declared.nogoods.Nogoods.TheInside.{Inside}
use Rattle.ms_nogood.proofs.Passing.{store_woken}
use Rattle.ms_nogood.proofs.nogoods.Nogoods.wake.Goals as goal
use Rattle.ms_nogood.proofs.nogoods.Nogoods.wake.Goals.{in-Some, in_default}

pub invariant_of-self : goal.invariant_of-self
invariant_of-self c = elim c.match-get_mut.branch [
  | in-Some w ↦ subst (λ (x : Inside). IsStore x.slots.slots x.kept.items x.passing.items x.slots.capacity) (sym w.self-inside-is)
      (store_woken c.self.inside.slots.slots c.self.inside.kept.items c.self.inside.passing.items c.args.key c.self.inside.slots.capacity (record { lits = w.slot.inside.lits.items; kind = Some Base }) c.self.invariant (subst (λ (x : Store). IsAsleepAt x c.args.key) (sym c.self.view_is) c.requires) refl)
  | in_default w ↦ subst (λ (x : Inside). IsStore x.slots.slots x.kept.items x.passing.items x.slots.capacity) (sym w.self-inside-is) c.self.invariant
]
