use Rattle.std.proofs.Common.{ℕ, ◌≡◌, ◌++◌, ◌∷◌, [], List, inl, inr, ap, false, true, get_or, None, Some, ◌∙◌, sym, subst}
use Rattle.ms_nogood.specs.declared.kind.Kind.{Kind}
use Rattle.ms_nogood.specs.Store.{AreKept, CoverEnding, ends, ends_with_solve, holds_kept, is_kept}
use Rattle.ms_nogood.proofs.Passing.{cover_more, cover_same, ended_more, order_more, order_same}
use Rattle.ms_nogood.proofs.nogoods.Nogoods.add.Goals as goal

pub invariant_of-self-in-Kept : goal.invariant_of-self-in-Kept
invariant_of-self-in-Kept c =
    let e = c.in_ok-key.ensures in
    let u = e.updates in
    let i = c.self.invariant in
    let kept : holds_kept (get_or c.insert.new.self.slots c.in_ok-key.key None) ≡ true = ap holds_kept u.changed ∙ ap (λ (k : Kind). is_kept (Some k)) c.in-Kept.is in
    let lasts : ends (get_or c.insert.new.self.slots c.in_ok-key.key None) ≡ false = ap ends u.changed ∙ ap ends_with_solve c.in-Kept.is in
    record {
      ended = ended_more c.self.inside.slots.slots c.insert.new.self.slots c.in_ok-key.key c.self.inside.slots.capacity c.insert.new.self.capacity i.ended u.others e.capacity e.key_in_range;
      order = subst (AreKept c.insert.new.self.slots) (sym (c.push-in-Kept.ensures ∙ ap (λ (xs : List ℕ). xs ++ c.in_ok-key.key ∷ []) c.reserve.ensures.items))
          (order_more c.self.inside.slots.slots c.insert.new.self.slots c.self.inside.kept.items c.in_ok-key.key i.order e.was_vacant u.others kept);
      covered = subst (CoverEnding c.insert.new.self.slots) (sym c.reserve-2.ensures.items)
          (cover_same c.self.inside.slots.slots c.insert.new.self.slots c.self.inside.passing.items c.in_ok-key.key i.covered u.others lasts);
    }

pub invariant_of-self-in-Temporary : goal.invariant_of-self-in-Temporary
invariant_of-self-in-Temporary c =
    let e = c.in_ok-key.ensures in
    let u = e.updates in
    let i = c.self.invariant in
    let unkept : is_kept (Some c.args.kind) ≡ false = elim c.in-Temporary.is [
      | inl is ↦ ap (λ (k : Kind). is_kept (Some k)) is
      | inr is ↦ ap (λ (k : Kind). is_kept (Some k)) is
    ] in
    record {
      ended = ended_more c.self.inside.slots.slots c.insert.new.self.slots c.in_ok-key.key c.self.inside.slots.capacity c.insert.new.self.capacity i.ended u.others e.capacity e.key_in_range;
      order = subst (AreKept c.insert.new.self.slots) (sym c.reserve.ensures.items)
          (order_same c.self.inside.slots.slots c.insert.new.self.slots c.self.inside.kept.items c.in_ok-key.key i.order u.others (ap holds_kept e.was_vacant) (ap holds_kept u.changed ∙ unkept));
      covered = subst (CoverEnding c.insert.new.self.slots) (sym (c.push-in-Temporary.ensures ∙ ap (λ (xs : List ℕ). xs ++ c.in_ok-key.key ∷ []) c.reserve-2.ensures.items))
          (cover_more c.self.inside.slots.slots c.insert.new.self.slots c.self.inside.passing.items c.in_ok-key.key i.covered u.others);
    }
