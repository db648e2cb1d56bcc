use Rattle.std.proofs.Common.{ℕ, ◌≡◌, ◌<◌, ◌≤◌, false}
use Rattle.std.specs.Prelude.{is_some}
use Rattle.ms_nogood.specs.Store.{slot_at}
use Rattle.ms_nogood.proofs.nogoods.Nogoods.keys_from.Given as goal

abbrev pub invariant-loop-key : goal.invariant-loop-key
invariant-loop-key l = record {
  start : l.from ≤ l.key;
  none : (key : ℕ) → l.from ≤ key → key < l.key → is_some (slot_at l.self key) ≡ false;
}
