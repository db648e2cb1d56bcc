use Rattle.std.proofs.Common.{◌∙◌, ◌++◌, ◌∷◌, [], List, ap, sym}
use Rattle.ms_lits.specs.declared.trail.Entry.{Entry}
use Rattle.ms_unfound.proofs.WatchLaws.{stay_pop, stay_popped_none}
use Rattle.ms_unfound.proofs.watch.Watch.forget_last.Goals as goal

pub returns-in-Some-clause-settled : goal.returns-in-Some-clause-settled
returns-in-Some-clause-settled c =
    stay_pop c.args.self.now c.touch.new.self c.in-Some.last c.touch.ensures.touched (c.in-Some.ensures.taken ∙ ap (λ (es : List Entry). es ++ c.in-Some.last ∷ []) (sym c.touch.ensures.seen))

pub returns-in_default-clause-settled : goal.returns-in_default-clause-settled
returns-in_default-clause-settled c = stay_popped_none c.args.self.now c.pop.new.self c.in_default.ensures.taken
