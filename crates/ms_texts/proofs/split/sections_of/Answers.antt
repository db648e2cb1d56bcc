use Rattle.std.proofs.Common.{sym, ap, ◌∙◌}
use Rattle.ms_texts.specs.Sections.{said_by}
use Rattle.ms_texts.proofs.SectionLaws.{way_goes_on, way_ends, length_none}
use Rattle.ms_texts.proofs.split.sections_of.Goals as goal

pub loop-statement-preserved : goal.loop-statement-preserved
loop-statement-preserved c =
    way_goes_on c.args.list c.loop-statement.made.items c.loop-statement.here c.loop-statement.statement-iterator.rest.items c.loop-statement.invariant c.in-Some.statement c.next.new.self.rest.items c.in-Some.ensures.steps.0 c.with_form.new.done.items c.in_ok-here-2.here c.in_ok-here-2.ensures

pub returns : goal.returns
returns c =
    ap said_by c.in_ok-push.ensures.items
    ∙ way_ends c.args.list c.loop-statement.made.items c.loop-statement.here c.loop-statement.statement-iterator.rest.items c.loop-statement.invariant (length_none c.loop-statement.statement-iterator.rest.items (sym c.loop-statement.statement-iterator.rest.ok.0 ∙ c.in-None.ensures.steps.0))
