use Rattle.std.proofs.Common.{ap}
use Rattle.ms_lits.specs.declared.note.Note.TheVariants.{Body as BodyNote}
use Rattle.ms_things.specs.Signs.{IsFor}
use Rattle.ms_things.specs.Completion.{parts_of}
use Rattle.ms_complete.specs.Keys.{plain}
use Rattle.ms_complete.proofs.LineLaws.{match_same}
use Rattle.ms_complete.proofs.complete.Complete.body_note.Goals as goal

pub returns : goal.returns
returns c =
    let line = c.set_in_line.new.lits.items in (
      line,
      record {
        in_order = c.set_in_line.ensures.order;
        says = match_same (IsFor c.args.self.now.things) (parts_of (plain c.args.pos.now c.args.neg.now)) c.in_ok-line.line.items line c.set_in_line.ensures.same c.in_ok-line.ensures;
      },
      ap BodyNote c.from_vec.ensures,
    )
