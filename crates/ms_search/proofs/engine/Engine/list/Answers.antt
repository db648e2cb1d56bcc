use Rattle.std.proofs.Common.{◌≡◌, ◌∙◌, Bool, true, false, Result, Ok, Err, IfOk}
use Rattle.ms_lits.specs.declared.note.Ending.{Ending}
use Rattle.ms_lits.specs.declared.note.Ending.TheVariants.{Complete}
use Rattle.ms_search.specs.Engines.{point_of}
use Rattle.ms_search.proofs.Ends.{over_impossible}
use Rattle.ms_search.proofs.engine.Engine.list.Goals as goal

pub returns-then-ask-clause-over : goal.returns-then-ask-clause-over
returns-then-ask-clause-over g c = over_impossible g.K.Target.problem (point_of c.args.self.now c.args.store.now c.args.log.now) c.requires.point (c.requires.asked.impossible ∙ c.if-ask.true)

-- where the flag isn't set, nothing is owed
not_set : {X E : Type 0} → (P : X → Type 0) (told : Result X E) (flag : Bool) → flag ≡ false → IfOk told (λ (x : X). flag ≡ true → P x)
not_set P (Ok x) flag unset = λ is. cc
not_set P (Err e) flag unset = tt

pub returns-clause-idle : goal.returns-clause-idle
returns-clause-idle g c = not_set (λ (ending : Ending). (ending ≡ Complete) × (c.search.new.log ≡ c.args.log.now)) c.search.result c.args.ask.now.impossible c.if-ask.false
