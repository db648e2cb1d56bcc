use Rattle.std.proofs.Common.{◌∙◌, ◌≤◌, ◌++◌, ◌∷◌, [], ℕ, List, ap, length, subst, sym}
use Rattle.std.specs.List.{All}
use Rattle.std.proofs.lemmas.Option.{MatchOption-at_none, MatchOption-at_some}
use Rattle.ms_lits.specs.declared.trail.Entry.{Entry}
use Rattle.ms_unfound.specs.declared.part.Part.{Part}
use Rattle.ms_unfound.specs.declared.unfounded.Unfounded.TheInside.{Inside}
use Rattle.ms_unfound.specs.Parts.{IsPart, Known}
use Rattle.ms_unfound.specs.Taking.{HasNoMember, IsPartOfModule, Takes}
use Rattle.ms_unfound.specs.Watched.{AreSettled, AreWatched}
use Rattle.ms_unfound.proofs.TakeLaws.{parts_kept, parts_more, takes_kept, takes_more}
use Rattle.ms_unfound.proofs.unfounded.Unfounded.extend.Goals as goal
use Rattle.ms_unfound.proofs.unfounded.Unfounded.extend.Goals.{in-Some+in_ok-keep, in_default}

pub invariant_of-self-2 : goal.invariant_of-self-2
invariant_of-self-2 c =
    let things = c.args.c.now.things in
    let old = c.self.inside in
    let fits : old.vars ≤ length things = subst (λ (k : Known). k.vars ≤ length things) (sym c.self.view_is) c.requires.known in (
      subst (λ n. All (IsPart n) c.match-branch-2.self-inside.parts) (sym c.things-self-inside.ensures.count) (elim c.match-branch-2.branch [
        | in-Some+in_ok-keep w ↦
            let made : IsPartOfModule things c.args.m.now w.in-Some.part = MatchOption-at_some (HasNoMember c.args.m.now) (IsPartOfModule things c.args.m.now) w.in-Some.part w.in-Some.is c.in_ok-part.ensures in
            subst (All (IsPart (length things))) (sym (ap (λ (i : Inside). i.parts) w.self-inside-is ∙ w.in_ok-keep.ensures.ok))
            (parts_more old.vars things c.args.m.now old.parts w.in-Some.part fits c.self.invariant.0 made)
        | in_default w ↦
            subst (All (IsPart (length things))) (sym (ap (λ (i : Inside). i.parts) w.self-inside-is)) (parts_kept old.vars (length things) old.parts fits c.self.invariant.0)
      ]),
      elim c.match-branch-2.branch [
        | in-Some+in_ok-keep w ↦ subst (λ (i : Inside). AreWatched i.watch.places.items i.parts) (sym w.self-inside-is) w.in_ok-keep.ensures.watched
        | in_default w ↦ subst (λ (i : Inside). AreWatched i.watch.places.items i.parts) (sym w.self-inside-is) c.self.invariant.1
      ],
      elim c.match-branch-2.branch [
        | in-Some+in_ok-keep w ↦ subst (λ (i : Inside). AreSettled i.parts i.watch.settled i.watch.seen) (sym w.self-inside-is) w.in_ok-keep.ensures.settled
        | in_default w ↦ subst (λ (i : Inside). AreSettled i.parts i.watch.settled i.watch.seen) (sym w.self-inside-is) c.self.invariant.2
      ],
    )

pub returns-clause-taken : goal.returns-clause-taken
returns-clause-taken c =
    let things = c.args.c.now.things in
    let old = c.self.inside in
    let before : Known = record { vars = old.vars; parts = old.parts; seen = old.watch.seen } in
    let after : ℕ → List Part → List Entry → Known = λ n ps seen. record { vars = n; parts = ps; seen = seen } in
    let now = c.match-branch-2.self-inside in
    subst (λ (k : Known). Takes k c.args.m.now things (after c.things-self-inside.result now.parts now.watch.seen)) c.self.view_is
    (subst (λ n. Takes before c.args.m.now things (after n now.parts now.watch.seen)) (sym c.things-self-inside.ensures.count) (elim c.match-branch-2.branch [
      | in-Some+in_ok-keep w ↦
          let made : IsPartOfModule things c.args.m.now w.in-Some.part = MatchOption-at_some (HasNoMember c.args.m.now) (IsPartOfModule things c.args.m.now) w.in-Some.part w.in-Some.is c.in_ok-part.ensures in
          subst (λ (i : Inside). Takes before c.args.m.now things (after (length things) i.parts i.watch.seen)) (sym w.self-inside-is)
          (subst (λ (ps : List Part). Takes before c.args.m.now things (after (length things) ps w.keep.new.watch.seen)) (sym w.in_ok-keep.ensures.ok)
          (subst (λ (seen : List Entry). Takes before c.args.m.now things (after (length things) (old.parts ++ w.in-Some.part ∷ []) seen)) (sym w.in_ok-keep.ensures.seen)
          (takes_more before c.args.m.now things w.in-Some.part c.self.invariant.0 made)))
      | in_default w ↦
          let none : HasNoMember c.args.m.now = MatchOption-at_none (HasNoMember c.args.m.now) (IsPartOfModule things c.args.m.now) w.in_default.is c.in_ok-part.ensures in
          subst (λ (i : Inside). Takes before c.args.m.now things (after (length things) i.parts i.watch.seen)) (sym w.self-inside-is)
          (takes_kept before c.args.m.now things c.self.invariant.0 none)
    ]))
