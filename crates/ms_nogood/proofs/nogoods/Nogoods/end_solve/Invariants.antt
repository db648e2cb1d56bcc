use Rattle.std.proofs.Common.{◌≡◌, ◌⊎◌, ℕ, None, get_or, vec_len}
use Rattle.ms_nogood.specs.Store.{IsStore, lasting}
use Rattle.ms_nogood.proofs.nogoods.Nogoods.end_solve.Given as goal

abbrev pub invariant-loop-key : goal.invariant-loop-key
invariant-loop-key l = record {
  fresh : l.self-inside.fresh ≡ l.initial.self-inside.fresh;
  kept : l.self-inside.kept ≡ l.initial.self-inside.kept;
  store : IsStore l.self-inside.slots.slots l.self-inside.kept.items l.self-inside.passing.items l.self-inside.slots.capacity;
  each : (key : ℕ) → (get_or l.self-inside.slots.slots key None ≡ get_or l.initial.self-inside.slots.slots key None) ⊎ (get_or l.self-inside.slots.slots key None ≡ lasting (get_or l.initial.self-inside.slots.slots key None));
}

abbrev pub decreases-loop-key : goal.decreases-loop-key
decreases-loop-key l = vec_len l.self-inside.passing
