use Rattle.std.proofs.Common.{refl}
use Rattle.ms_term.specs.declared.wanted.Wanted.TheVariants.{Text}
use Rattle.ms_term.proofs.Finding.{looked_up, no_text}
use Rattle.ms_term.proofs.terms.Terms.find_text.Goals as goal

pub returns-in_err-word : goal.returns-in_err-word
returns-in_err-word c =
    rw (c.from_residual.ensures, ← c.self.view_is) (no_text c.self.inside.words c.self.inside.table.nodes.keys c.self.invariant.table c.args.bytes.now c.in_err-word.ensures)

pub returns : goal.returns
returns c =
    let word = c.in_ok-word.ensures in
    let found = looked_up c.self.inside.words c.self.inside.table.nodes.keys c.self.invariant.table (Text c.in_ok-word.word) (record { word = word.within; below = tt; size = refl }) c.find-2.result c.find-2.ensures.place c.find-2.ensures.found in
    rw (← c.self.view_is, ← word.names) found
