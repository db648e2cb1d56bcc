use Rattle.std.proofs.Common.{◌<◌, ◌≤◌, ap, sym, subst, arith, length, refl}
use Rattle.ms_lits.specs.declared.trail.Entry.{Entry}
use Rattle.ms_analyze.proofs.Learning.{all_lower, entry_read, has_reason, last_among, last_below, none_absurd, some_any, some_itself}
use Rattle.ms_analyze.proofs.cut.Cut.reason_of.Goals as goal

pub returns-then-entry-level-clause-alone : goal.returns-then-entry-level-clause-alone
returns-then-entry-level-clause-alone c =
    let h = c.in_ok-next.ensures in
    let under = last_below c.args.self.now.places.keys c.in_ok-next.field-0.now c.args.last h.last (h.variant.0 refl) c.requires.below in
    let on : c.in_ok-next.field-0.now < length c.args.trail.now.entries = omega (arith, under, c.requires.within) in
    let lower : c.entry.result.level < c.args.trail.now.level = subst (λ n. c.entry.result.level < n) c.level.ensures c.if-entry-level.true in
    all_lower c.args.trail.now c.args.self.now.places.keys c.in_ok-next.field-0.now c.entry.result c.requires.assignment h.all_up_to on c.entry.ensures lower

pub returns-clause-reason : goal.returns-clause-reason
returns-clause-reason c = some_itself c.entry-2.result.reason _ (ap (λ (e : Entry). e.reason) (entry_read c.args.trail.now.entries c.args.last c.entry-2.result c.entry-2.ensures))

pub returns-clause-other : goal.returns-clause-other
returns-clause-other c =
    let h = c.in_ok-next.ensures in
    let high : c.args.trail.now.level ≤ c.entry.result.level = subst (λ n. n ≤ c.entry.result.level) c.level.ensures c.if-entry-level.false in
    some_any c.entry-2.result.reason _ (record {
      place = c.in_ok-next.field-0.now;
      among = last_among c.args.self.now.places.keys c.in_ok-next.field-0.now h.last (h.variant.0 refl);
      reached = subst (λ (e : Entry). c.args.trail.now.level ≤ e.level) (sym (entry_read c.args.trail.now.entries c.in_ok-next.field-0.now c.entry.result c.entry.ensures)) high;
    })

pub returns-clause-alone : goal.returns-clause-alone
returns-clause-alone c =
    let h = c.in_ok-next.ensures in
    let under = last_below c.args.self.now.places.keys c.in_ok-next.field-0.now c.args.last h.last (h.variant.0 refl) c.requires.below in
    let high : c.args.trail.now.level ≤ c.entry.result.level = subst (λ n. n ≤ c.entry.result.level) c.level.ensures c.if-entry-level.false in
    none_absurd c.entry-2.result.reason _ (has_reason c.args.trail.now c.in_ok-next.field-0.now c.args.last c.entry.result c.entry-2.result c.requires.assignment c.requires.decision under c.requires.within c.entry.ensures c.entry-2.ensures high c.requires.present)
