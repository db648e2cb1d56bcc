use Rattle.std.proofs.Common.{subst}
use Rattle.std.specs.Prelude.{IfNone}
use Rattle.ms_watch.specs.declared.lists.Watch.{Watch}
use Rattle.ms_watch.specs.Links.{HasFront}
use Rattle.ms_watch.specs.Watches.{Watching, pending}
use Rattle.ms_watch.proofs.watches.Watches.pending.Goals as goal

pub returns-clause-none : goal.returns-clause-none
returns-clause-none c =
    subst (λ (w : Watching). IfNone c.front.result ((watch : Watch) → ¬ HasFront w.links pending watch)) c.self.view_is c.front.ensures.none
