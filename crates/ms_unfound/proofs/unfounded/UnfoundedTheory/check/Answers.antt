use Rattle.std.proofs.Common.{◌∙◌, List, Result, ap, subst, sym, ℕ, Vec, Global}
use Rattle.std.specs.Prelude.{IfOk, MatchOption}
use Rattle.std.specs.List.{All, Any}
use Rattle.std.proofs.lemmas.Option.{MatchOption-at_none, MatchOption-at_some}
use Rattle.std.proofs.lemmas.Result.{IfOk-weaker}
use Rattle.ms_base.specs.declared.memory.OutOfMemory.{OutOfMemory}
use Rattle.ms_nogood.specs.Theories.{Judges}
use Rattle.ms_nogood.specs.declared.theory.Verdict.{Verdict}
use Rattle.ms_unfound.specs.declared.part.Part.{Part}
use Rattle.ms_unfound.specs.Loops.{IsGiven}
use Rattle.ms_unfound.specs.Parts.{Known}
use Rattle.ms_unfound.specs.Settled.{IsExact, IsPressingGiven, IsPressingLoop, IsSettled, IsSettledPart}
use Rattle.ms_unfound.specs.Watched.{AreSettled, AreWatched}
use Rattle.ms_unfound.proofs.WatchLaws.{found_from, judged, same_settles}
use Rattle.ms_unfound.proofs.unfounded.UnfoundedTheory.check.Goals as goal
use Rattle.ms_unfound.proofs.unfounded.UnfoundedTheory.check.Goals.{in-None, in-Some}

pub invariant_of-self : goal.invariant_of-self
invariant_of-self c =
    let inside = c.self.inside in (
      c.self.invariant.0,
      subst (λ (v : Vec (List ℕ) Global). AreWatched v.items inside.parts) (sym c.see.ensures.places) c.self.invariant.1,
      c.see.ensures.settled inside.parts c.self.invariant.1 c.self.invariant.2,
    )

pub returns-in_err-see-clause-settled : goal.returns-in_err-see-clause-settled
returns-in_err-see-clause-settled c =
    let new : Known = record { vars = c.self.inside.vars; parts = c.self.inside.parts; seen = c.see.new.self.seen } in
    same_settles c.args.self.now new (ap (λ (k : Known). k.vars) c.self.view_is) (ap (λ (k : Known). k.parts) c.self.view_is)

pub pressing-requires-clause-settled : goal.pressing-requires-clause-settled
pressing-requires-clause-settled c =
    let inside = c.self.inside in
    subst (λ (ps : List Part). AreSettled ps c.see.new.self.settled c.args.trail.now.entries) (sym c.as_slice.ensures)
    (subst (AreSettled inside.parts c.see.new.self.settled) c.in_ok-see.ensures.seen (c.see.ensures.settled inside.parts c.self.invariant.1 c.self.invariant.2))

pub invariant_of-self-in_err-pressing : goal.invariant_of-self-in_err-pressing
invariant_of-self-in_err-pressing c =
    let inside = c.self.inside in
    let watch = c.pressing.new.watch in (
      c.self.invariant.0,
      subst (λ (v : Vec (List ℕ) Global). AreWatched v.items inside.parts) (sym (c.pressing.ensures.places ∙ c.see.ensures.places)) c.self.invariant.1,
      subst (AreSettled inside.parts watch.settled) (sym (c.pressing.ensures.seen ∙ c.in_ok-see.ensures.seen))
          (subst (λ (ps : List Part). AreSettled ps watch.settled c.args.trail.now.entries) c.as_slice.ensures c.pressing.ensures.settled),
    )

pub returns-in_err-pressing-clause-settled : goal.returns-in_err-pressing-clause-settled
returns-in_err-pressing-clause-settled c =
    let new : Known = record { vars = c.self.inside.vars; parts = c.self.inside.parts; seen = c.pressing.new.watch.seen } in
    same_settles c.args.self.now new (ap (λ (k : Known). k.vars) c.self.view_is) (ap (λ (k : Known). k.parts) c.self.view_is)

pub invariant_of-self-2 : goal.invariant_of-self-2
invariant_of-self-2 c =
    let inside = c.self.inside in
    let watch = c.pressing.new.watch in (
      c.self.invariant.0,
      subst (λ (v : Vec (List ℕ) Global). AreWatched v.items inside.parts) (sym (c.pressing.ensures.places ∙ c.see.ensures.places)) c.self.invariant.1,
      subst (AreSettled inside.parts watch.settled) (sym (c.pressing.ensures.seen ∙ c.in_ok-see.ensures.seen))
          (subst (λ (ps : List Part). AreSettled ps watch.settled c.args.trail.now.entries) c.as_slice.ensures c.pressing.ensures.settled),
    )

pub returns-clause-exact : goal.returns-clause-exact
returns-clause-exact c =
    let inside = c.self.inside in
    let known = c.args.self.now in
    let entries = c.args.trail.now.entries in
    let told = c.in_ok-pressing.field-0 in
    let by_parts : List Part → Type 0 = λ ps. MatchOption told (All (λ part. IsSettledPart part entries) ps) (λ nogood. Any (λ part. IsPressingLoop part entries nogood) ps) in
    let by : Known → Type 0 = λ k. MatchOption told (IsSettled k entries) (IsPressingGiven k entries) in
    let there : Known = record { vars = inside.vars; parts = inside.parts; seen = inside.watch.seen } in
    let found : MatchOption told (IsSettled known entries) (IsPressingGiven known entries) =
    subst by c.self.view_is (found_from there entries told c.self.invariant.0 (subst by_parts c.as_slice.ensures c.in_ok-pressing.ensures.found)) in
    elim c.match-branch-3.branch [
      | in-None w ↦
          subst (λ (r : Result Verdict OutOfMemory). IfOk r (IsExact known entries)) (sym w.result-is) (MatchOption-at_none (IsSettled known entries) (IsPressingGiven known entries) w.in-None.is found)
      | in-Some w ↦
          subst (λ (r : Result Verdict OutOfMemory). IfOk r (IsExact known entries)) (sym w.result-is)
          (MatchOption-at_some (IsSettled known entries) (IsPressingGiven known entries) w.in-Some.nogood w.in-Some.is found)
    ]

pub returns-clause-judges : goal.returns-clause-judges
returns-clause-judges c =
    let known = c.args.self.now in
    let entries = c.args.trail.now.entries in
    IfOk-weaker c.match-branch-3.result (IsExact known entries) (Judges (IsSettled known) (IsGiven known) known.vars entries) (judged known entries) (returns-clause-exact c)

pub returns-clause-settled : goal.returns-clause-settled
returns-clause-settled c =
    let new : Known = record { vars = c.self.inside.vars; parts = c.self.inside.parts; seen = c.pressing.new.watch.seen } in
    same_settles c.args.self.now new (ap (λ (k : Known). k.vars) c.self.view_is) (ap (λ (k : Known). k.parts) c.self.view_is)
