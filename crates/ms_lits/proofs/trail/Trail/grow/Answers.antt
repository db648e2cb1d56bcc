use Rattle.std.proofs.Common.{ℕ, ◌≡◌, ◌<◌, ◌≤◌, false, inl, inr, length, get_or, refl, sym, ◌∙◌, ap, subst, arith, List, []}
use Rattle.std.proofs.lemmas.Bool.{cases_lt}
use Rattle.std.proofs.lemmas.Grind.{common_steps}
use Rattle.ms_lits.specs.declared.trail.Entry.{Entry}
use Rattle.ms_lits.specs.declared.trail.Mark.TheVariants.{Free}
use Rattle.ms_lits.specs.Assignment.{Assignment}
use Rattle.ms_lits.specs.Storage.{AreLevels, is_set}
use Rattle.ms_lits.proofs.Stored.{stored_empty, unmarked_empty}
use Rattle.ms_lits.proofs.trail.Trail.grow.Goals as goal

pub invariant_of-self-2 : goal.invariant_of-self-2
invariant_of-self-2 c =
    let kept : c.reserve.new.self.items ≡ c.self.inside.entries.items = c.in_ok-reserve.ensures.items in
    let none : c.self.inside.entries.items ≡ [] = ap (λ (a : Assignment). a.entries) c.self.view_is ∙ c.requires in
    let ends : c.reserve-2.new.self.items ≡ c.self.inside.ends.items = c.in_ok-reserve-2.ensures.items in
    let E : List Entry → Type 0 = λ xs. AreLevels xs c.reserve-2.new.self.items in
    let N : List ℕ → Type 0 = λ xs. AreLevels c.self.inside.entries.items xs in
    let few = c.self.invariant.ends_len in
    let above = c.if-vars-self.false in
    let places : c.args.vars ≤ length c.resize.new.self.items = grind (arith, common_steps) in
    let marks : length c.resize-2.new.self.items ≡ c.args.vars = grind (arith, common_steps) in
    let s = c.self.invariant.stored in
    let empty : length c.self.inside.entries.items ≡ 0 = ap length none in
    let old : (i : ℕ) → i < c.self.inside.room → is_set (get_or c.self.inside.marks.items i Free) ≡ false = λ i lt. unmarked_empty c.self.inside.room c.self.inside.entries.items c.self.inside.places.items c.self.inside.marks.items i s none lt in
    let by = c.in_ok-resize-2.ensures.by_index in
    let free : (i : ℕ) → i < length c.resize-2.new.self.items → is_set (get_or c.resize-2.new.self.items i Free) ≡ false = λ i lt. elim (cases_lt i c.self.inside.room) [
      | inl before ↦ (ap is_set (by.0 i Free (omega arith) (let m = s.marks_len in grind (arith, common_steps))) ∙ old i before)
      | inr behind ↦ ap is_set (by.1 i Free refl (let m = s.marks_len in grind (arith, common_steps)) (omega arith))
    ] in
    record {
      stored = stored_empty c.args.vars c.reserve.new.self.items c.resize.new.self.items c.resize-2.new.self.items (kept ∙ none) places marks free;
      levels = subst E (sym kept) (subst N (sym ends) c.self.invariant.levels);
      entries_room = grind (arith, common_steps);
      ends_room = grind (arith, common_steps);
      ends_len = grind (arith, common_steps);
      fits = omega arith;
    }
