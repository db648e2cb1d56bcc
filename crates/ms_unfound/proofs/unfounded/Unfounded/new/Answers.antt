use Rattle.std.proofs.Common.{[], List, subst, sym}
use Rattle.ms_join.specs.Modules.{no_join}
use Rattle.ms_lits.specs.declared.trail.Entry.{Entry}
use Rattle.ms_unfound.specs.declared.part.Part.{Part}
use Rattle.ms_unfound.specs.Parts.{Known}
use Rattle.ms_unfound.specs.Taking.{AreLoopsOf}
use Rattle.ms_unfound.proofs.TakeLaws.{no_loops}
use Rattle.ms_unfound.proofs.unfounded.Unfounded.new.Goals as goal

pub returns-clause-loops : goal.returns-clause-loops
returns-clause-loops c =
    let made : List Part → List Entry → Known = λ ps seen. record { vars = 0; parts = ps; seen = seen } in
    subst (λ (seen : List Entry). AreLoopsOf no_join [] (made c.new.result seen)) (sym c.new-2.ensures.seen)
    (subst (λ (ps : List Part). AreLoopsOf no_join [] (made ps [])) (sym c.new.ensures) no_loops)
