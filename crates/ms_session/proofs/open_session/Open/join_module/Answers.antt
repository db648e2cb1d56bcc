use Rattle.std.proofs.Common.{length, refl}
use Rattle.ms_session.specs.Opened.{names_of}
use Rattle.ms_session.proofs.Refusing.{atoms_within, refuses}
use Rattle.ms_session.proofs.Telling.{declares}
use Rattle.ms_session.proofs.open_session.Open.join_module.Goals as goal

pub returns-in_ok-refusal-in-Err-clause-joins : goal.returns-in_ok-refusal-in-Err-clause-joins
returns-in_ok-refusal-in-Err-clause-joins c =
    let s = c.args.self.now in (
      refuses (names_of s) s.join c.args.ground_module.now c.in-Err.fault c.in_ok-refusal-in-Err.refusal c.in-Err.ensures c.in_ok-refusal-in-Err.ensures,
      c.back_to.ensures,
      refl,
    )

pub refusal_of-requires-clause-within : goal.refusal_of-requires-clause-within
refusal_of-requires-clause-within c =
    let s = c.args.self.now in
    atoms_within (names_of s) s.join c.args.ground_module.now (length s.base) c.in-Err.fault c.requires.base.counted c.requires.solver.fit.serves.join c.requires.base.well_formed c.in-Err.ensures

pub returns-in_ok-self-in-Ok-clause-declares : goal.returns-in_ok-self-in-Ok-clause-declares
returns-in_ok-self-in-Ok-clause-declares c =
    let s = c.args.self.now in
    declares s.base s.join s.solver c.args.ground_module.now c.requires.solver c.requires.base.well_formed s.terms c.join.new.self c.extend.new.self
    c.in-Ok.ensures c.in_ok-join-in-Ok.ensures.ok c.rules.ensures.join c.in_ok-self-in-Ok.ensures.numbering c.in_ok-self-in-Ok.ensures.serves c.in_ok-self-in-Ok.field-0
    c.in_ok-self-in-Ok.ensures.kept c.in_ok-self-in-Ok.ensures.attached c.in_ok-self-in-Ok.ensures.in_step c.in_ok-self-in-Ok.ensures.notes
