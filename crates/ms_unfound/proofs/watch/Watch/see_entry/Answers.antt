use Rattle.std.proofs.Common.{◌∙◌, ◌++◌, ◌∷◌, [], List, ap}
use Rattle.ms_lits.specs.declared.trail.Entry.{Entry}
use Rattle.ms_unfound.specs.Watched.{places_at}
use Rattle.ms_unfound.proofs.WatchLaws.{stay_push, stay_touched}
use Rattle.ms_unfound.proofs.watch.Watch.see_entry.Goals as goal

pub returns-in_err-push-clause-settled : goal.returns-in_err-push-clause-settled
returns-in_err-push-clause-settled c =
    let old = c.args.self.now in
    stay_touched old (record c.touch.new.self { seen = c.push.new.self }) (places_at old.places.items c.args.entry.lit.var) c.touch.ensures.touched (c.in_err-push.ensures.err ∙ c.touch.ensures.seen)

pub returns-clause-settled : goal.returns-clause-settled
returns-clause-settled c =
    stay_push c.args.self.now (record c.touch.new.self { seen = c.push.new.self }) c.args.entry c.touch.ensures.touched
    (c.in_ok-push.ensures.ok ∙ ap (λ (es : List Entry). es ++ c.args.entry ∷ []) c.touch.ensures.seen)
