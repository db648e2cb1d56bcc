use Rattle.std.proofs.Common.{sym, subst, length, ◌<◌}
use Rattle.ms_atombase.specs.Bases.{Interns}
use Rattle.ms_atombase.proofs.Places.{interned}
use Rattle.ms_atombase.proofs.atom_base.AtomBase.intern.Goals as goal

pub invariant_of-self-2 : goal.invariant_of-self-2
invariant_of-self-2 c =
    let stored = c.in_ok-place.ensures.stored in
    (interned _ _ c.args.t c.in_ok-place.place stored.0 c.in_ok-place.ensures.keys c.self.invariant (subst (λ atoms. length atoms < 4294967295) (sym c.self.view_is) c.requires) stored.1 stored.2).base

pub returns-clause-ok : goal.returns-clause-ok
returns-clause-ok c =
    let stored = c.in_ok-place.ensures.stored in
    subst (λ atoms. Interns atoms c.insert_full.new.self.keys c.args.t c.in_ok-place.place) c.self.view_is
    (interned _ _ c.args.t c.in_ok-place.place stored.0 c.in_ok-place.ensures.keys c.self.invariant (subst (λ atoms. length atoms < 4294967295) (sym c.self.view_is) c.requires) stored.1 stored.2).interns
