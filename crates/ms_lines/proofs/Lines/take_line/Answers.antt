use Rattle.std.proofs.Common.{take, subst}
use Rattle.ms_call.specs.Items.{Says}
use Rattle.ms_lines.specs.Feeding.{item_of}
use Rattle.ms_lines.specs.Finding.{IsOnly}
use Rattle.ms_lines.proofs.LineSteps.{says_then, gives_some, end_dropped, lacks_first}
use Rattle.ms_lines.proofs.Lines.take_line.Goals as goal

pub returns-clause-said : goal.returns-clause-said
returns-clause-said c =
    says_then c.args.self.now (record { text = c.read_line.new.text; rest = c.advance.new.self }) c.args.len c.requires (item_of c.in_ok-fed.fed)
    (subst (λ bytes. IsOnly (Says c.args.self.now.text (take c.args.len bytes)) (item_of c.in_ok-fed.fed, c.read_line.new.text)) c.bytes.ensures c.in_ok-fed.ensures.said)
    c.advance.ensures

pub returns-clause-some : goal.returns-clause-some
returns-clause-some c = gives_some _ _ c.in_ok-fed.fed _ c.in_ok-fed.ensures.said.0

pub returns-clause-kept : goal.returns-clause-kept
returns-clause-kept c = end_dropped _ _ _ c.advance.ensures

pub returns-clause-shorter : goal.returns-clause-shorter
returns-clause-shorter c = lacks_first _ _ _ c.requires c.advance.ensures
