use Rattle.std.proofs.lemmas.Result.{IfOk-weaker}
use Rattle.ms_parse.proofs.Contents.{mapped, program_read, external_read, const_read, show_read, include_read, rule_read}
use Rattle.ms_parse.proofs.statement.read_content.Goals as goal

pub returns-in_ok-read_program-in-Program : goal.returns-in_ok-read_program-in-Program
returns-in_ok-read_program-in-Program c =
    program_read c.args.text.now c.args.content.now c.in-Some.after.now c.in-Some.first.now c.in-Some.ensures.cases.0 _ c.in-Program.is _ c.in_ok-read_program-in-Program.ensures (mapped _ _ _ c.map.ensures.cases)

pub returns-in_ok-read_external-in-External : goal.returns-in_ok-read_external-in-External
returns-in_ok-read_external-in-External c =
    external_read c.args.text.now c.args.content.now c.in-Some.after.now c.in-Some.first.now c.in-Some.ensures.cases.0 _ c.in-External.is _ (c.in_ok-read_external-in-External.ensures) (mapped _ _ _ c.map-in-External.ensures.cases)

pub returns-in_ok-read_const-in-Const : goal.returns-in_ok-read_const-in-Const
returns-in_ok-read_const-in-Const c =
    const_read c.args.text.now c.args.content.now c.in-Some.after.now c.in-Some.first.now c.in-Some.ensures.cases.0 _ c.in-Const.is _ c.in_ok-read_const-in-Const.ensures (mapped _ _ _ c.map-in-Const.ensures.cases)

pub returns-in_ok-read_show-in-Show : goal.returns-in_ok-read_show-in-Show
returns-in_ok-read_show-in-Show c =
    show_read c.args.text.now c.args.content.now c.in-Some.after.now c.in-Some.first.now c.in-Some.ensures.cases.0 _ c.in-Show.is _ c.in_ok-read_show-in-Show.ensures (mapped _ _ _ c.map-in-Show.ensures.cases)

pub returns-in-Include : goal.returns-in-Include
returns-in-Include c =
    include_read c.args.text.now c.args.content.now c.in-Some.after.now c.in-Some.first.now c.in-Some.ensures.cases.0 _ c.in-Include.is c.is_incmode.result c.is_incmode.ensures (rw c.alone.ensures at c.then_some.ensures)

pub returns-in_default-kind : goal.returns-in_default-kind
returns-in_default-kind c =
    let k = c.in_default-kind in
    IfOk-weaker c.read_rule.result _ _ (λ found h. rule_read c.args.text.now c.args.content.now c.in-Some.after.now c.in-Some.first.now c.in-Some.ensures.cases.0 found k.not-Program k.not-External k.not-Const k.not-Show k.not-Include h) c.read_rule.ensures
