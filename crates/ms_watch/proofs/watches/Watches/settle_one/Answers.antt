use Rattle.std.proofs.Common.{◌≡◌, ◌<◌, ◌≤◌, ◌++◌, ◌∷◌, ◌∙◌, [], inl, inr, true, false, Some, length, sym, ap, subst, refl, arith}
use Rattle.std.specs.Prelude.{is_some}
use Rattle.std.proofs.lemmas.Bool.{both_ways}
use Rattle.std.proofs.lemmas.List.{length-append}
use Rattle.std.proofs.lemmas.List.Elements.{All-contains}
use Rattle.ms_lits.specs.declared.lit.Lit.{Lit}
use Rattle.ms_lits.specs.Literals.{Nogood, opposite_of}
use Rattle.ms_lits.specs.Assignment.{Assignment, entry_made}
use Rattle.ms_nogood.specs.Store.{nogood_at}
use Rattle.ms_nogood.specs.Looks.{IsCalmAt}
use Rattle.ms_nogood.proofs.Propagation.{propagates_none}
use Rattle.ms_watch.specs.declared.state.State.TheVariants.{Loose}
use Rattle.ms_watch.specs.Watches.{Watching, list_of, lits_at, state_in, is_attached, free, loose}
use Rattle.ms_watch.specs.Walks.{IsSettling}
use Rattle.ms_watch.proofs.Forced.{awake_is, within_one}
use Rattle.ms_watch.proofs.Settling.{calm_open, calm_two, calm_at, settling_assigned, settling_stays, settling_frees, settling_watches, watching_fewer, sent_fewer}
use Rattle.ms_watch.proofs.watches.Watches.settle_one.Goals as goal

pub returns-in_default-clause-propagates : goal.returns-in_default-clause-propagates
returns-in_default-clause-propagates c = propagates_none c.args.store.now c.args.trail.now c.args.trail.now refl

pub returns-in_default-clause-settling : goal.returns-in_default-clause-settling
returns-in_default-clause-settling c before s =
    settling_frees before c.args.self.now c.send.new.self c.args.store.now c.args.trail.now c.args.watch s c.requires.front c.send.ensures c.requires.there (λ e. c.in_default.not-Loose (c.state.ensures ∙ e))

pub returns-in_default-clause-fewer : goal.returns-in_default-clause-fewer
returns-in_default-clause-fewer c is =
    sent_fewer c.args.self.now c.send.new.self c.args.store.now c.args.trail.now c.args.watch free c.requires.walking c.requires.front c.send.ensures (omega (arith, c.requires.there)) (omega arith)

pub returns-then-not-awake-clause-propagates : goal.returns-then-not-awake-clause-propagates
returns-then-not-awake-clause-propagates c = propagates_none c.args.store.now c.args.trail.now c.args.trail.now refl

pub returns-then-not-awake-clause-settling : goal.returns-then-not-awake-clause-settling
returns-then-not-awake-clause-settling c before s =
    settling_stays before c.args.self.now c.send-then-not-awake.new.self c.args.store.now c.args.trail.now c.args.watch s c.requires.front c.send-then-not-awake.ensures c.requires.there
    (λ state same stored found. absurd (both_ways (is_some (nogood_at c.args.store.now c.args.watch.key)) (sym c.awake.ensures ∙ c.if-not-awake.true) (ap is_some found)))

pub returns-then-not-awake-clause-fewer : goal.returns-then-not-awake-clause-fewer
returns-then-not-awake-clause-fewer c is =
    sent_fewer c.args.self.now c.send-then-not-awake.new.self c.args.store.now c.args.trail.now c.args.watch loose c.requires.walking c.requires.front c.send-then-not-awake.ensures c.requires.there (omega arith)

pub returns-in-Whole-clause-propagates : goal.returns-in-Whole-clause-propagates
returns-in-Whole-clause-propagates c = propagates_none c.args.store.now c.args.trail.now c.args.trail.now refl

pub returns-in-Two-clause-propagates : goal.returns-in-Two-clause-propagates
returns-in-Two-clause-propagates c = propagates_none c.args.store.now c.args.trail.now c.args.trail.now refl

pub returns-in-Two-clause-settling : goal.returns-in-Two-clause-settling
returns-in-Two-clause-settling c before s =
    let key = c.args.watch.key in
    let lits : Nogood = c.get.result.now in
    let awake : is_some (nogood_at c.args.store.now c.args.watch.key) ≡ true = sym c.awake.ensures ∙ c.if-not-awake.false in
    let o = c.in-Two.ensures in
    elim c.watch.ensures [
      | inl h ↦ settling_watches before c.args.self.now c.watch.new.self c.args.store.now c.args.trail.now c.args.watch h.0.0 c.in-Two.first c.in-Two.second lits s c.requires.front h.0.1 h.1
          (sym c.state.ensures ∙ c.in-Loose.is) c.get.ensures (within_one c.args.store.now c.args.trail.now.room c.args.watch.key lits c.requires.within awake c.get.ensures) o
      | inr e ↦ settling_stays before c.args.self.now c.watch.new.self c.args.store.now c.args.trail.now c.args.watch s c.requires.front e c.requires.there
          (λ state same. calm_at c.args.store.now c.args.trail.now.entries c.args.watch.key lits (awake_is c.args.store.now c.args.watch.key lits awake c.get.ensures)
          (calm_two c.args.trail.now.entries lits c.in-Two.first c.in-Two.second o.differ o.has_first o.has_second o.first_untrue o.second_untrue))
    ]

pub returns-in-Two-clause-fewer : goal.returns-in-Two-clause-fewer
returns-in-Two-clause-fewer c is =
    let lits : Nogood = c.get.result.now in
    let o = c.in-Two.ensures in
    let attached : is_attached (state_in c.args.self.now.keys c.args.watch.key) ≡ true = ap is_attached (sym c.state.ensures ∙ c.in-Loose.is) in
    let covered = c.requires.walking.kept.covered c.args.watch.key lits attached c.get.ensures in
    let P : Lit → Type 0 = λ (l : Lit). list_of l < length c.args.self.now.links.heads in
    elim c.watch.ensures [
      | inl h ↦ watching_fewer c.args.self.now c.watch.new.self c.args.store.now c.args.trail.now c.args.watch h.0.0 c.in-Two.first c.in-Two.second c.requires.walking c.requires.front h.0.1 h.1
          (All-contains P lits c.in-Two.first covered o.has_first) (All-contains P lits c.in-Two.second covered o.has_second)
      | inr e ↦ sent_fewer c.args.self.now c.watch.new.self c.args.store.now c.args.trail.now c.args.watch loose c.requires.walking c.requires.front e c.requires.there (omega arith)
    ]

pub returns-in-One-clause-settling : goal.returns-in-One-clause-settling
returns-in-One-clause-settling c before s =
    let w : Watching = c.args.self.now in
    let lits : Nogood = c.get.result.now in
    let lit : Lit = c.in-One.lit in
    let trail : Assignment = c.args.trail.now in
    let new_trail : Assignment = c.force.new.trail in
    let awake : is_some (nogood_at c.args.store.now c.args.watch.key) ≡ true = sym c.awake.ensures ∙ c.if-not-awake.false in
    elim c.force.ensures.assigned [
      | inl h ↦ settling_stays before w c.send-in-One.new.self c.args.store.now new_trail c.args.watch (subst (IsSettling before w c.args.store.now) (sym h.0) s) c.requires.front c.send-in-One.ensures c.requires.there
          (λ state same. subst (λ (a : Assignment). IsCalmAt c.args.store.now a.entries c.args.watch.key) (sym h.0)
          (calm_at c.args.store.now trail.entries c.args.watch.key lits (awake_is c.args.store.now c.args.watch.key lits awake c.get.ensures) (calm_open trail.entries lits lit c.in-One.ensures.0 h.1)))
      | inr e ↦ settling_stays before w c.send-in-One.new.self c.args.store.now new_trail c.args.watch
          (subst (IsSettling before w c.args.store.now) (sym e) (settling_assigned before w c.args.store.now trail (opposite_of lit) (Some c.args.watch.key) s)) c.requires.front c.send-in-One.ensures c.requires.there
          (λ state same. absurd (omega (arith, same, s.longer, ap (λ (a : Assignment). length a.entries) e, length-append trail.entries (entry_made (opposite_of lit) trail.level (Some c.args.watch.key) ∷ []))))
    ]

pub returns-in-One-clause-fewer : goal.returns-in-One-clause-fewer
returns-in-One-clause-fewer c is =
    sent_fewer c.args.self.now c.send-in-One.new.self c.args.store.now c.args.trail.now c.args.watch loose c.requires.walking c.requires.front c.send-in-One.ensures c.requires.there (omega arith)
