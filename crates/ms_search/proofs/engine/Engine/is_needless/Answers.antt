use Rattle.std.proofs.Common.{sym, subst, ◌∙◌}
use Rattle.std.specs.Prelude.{All}
use Rattle.std.proofs.lemmas.Bool.{not-true}
use Rattle.ms_lits.specs.Literals.{IsContained, Nogood}
use Rattle.ms_nogood.specs.Store.{slot_at}
use Rattle.ms_nogood.proofs.Propagation.{stored_read}
use Rattle.ms_search.specs.Needless.{HasNoReason}
use Rattle.ms_search.proofs.engine.Engine.is_needless.Goals as goal

pub returns-then-contains_all : goal.returns-then-contains_all
returns-then-contains_all g c = λ is.
    let r = stored_read (slot_at c.args.store.now c.args.key) c.get-lits.result.now c.get-lits.ensures in
    record {
      other = c.if-key-newest.false;
      ending = sym c.ends.ensures ∙ c.if-not-ends.false;
      stored = r.stored;
      found = r.found;
      contains = subst (λ (ls : Nogood). IsContained ls c.args.own.now) (sym r.same) (c.contains_all.ensures c.if-contains_all.true);
      free = subst (All (HasNoReason c.args.self.now.trail.entries c.args.key)) (sym r.same) (c.is_reason.ensures (not-true c.is_reason.result is));
    }
