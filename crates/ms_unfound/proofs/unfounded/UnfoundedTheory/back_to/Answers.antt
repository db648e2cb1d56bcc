use Rattle.std.proofs.Common.{ap, sym, subst, Vec, Global, List, ℕ}
use Rattle.ms_unfound.specs.Parts.{Known}
use Rattle.ms_unfound.specs.Watched.{AreWatched}
use Rattle.ms_unfound.proofs.WatchLaws.{same_settles}
use Rattle.ms_unfound.proofs.unfounded.UnfoundedTheory.back_to.Goals as goal

pub invariant_of-self : goal.invariant_of-self
invariant_of-self c =
    let inside = c.self.inside in (
      c.self.invariant.0,
      subst (λ (v : Vec (List ℕ) Global). AreWatched v.items inside.parts) (sym c.back_to.ensures.places) c.self.invariant.1,
      c.back_to.ensures.settled inside.parts c.self.invariant.1 c.self.invariant.2,
    )

pub returns-clause-settled : goal.returns-clause-settled
returns-clause-settled c =
    let new : Known = record { vars = c.self.inside.vars; parts = c.self.inside.parts; seen = c.back_to.new.self.seen } in
    same_settles c.args.self.now new (ap (λ (k : Known). k.vars) c.self.view_is) (ap (λ (k : Known). k.parts) c.self.view_is)
