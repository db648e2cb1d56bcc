use Rattle.std.proofs.Common.{◌≡◌, length, codes, arith}
use Rattle.ms_lex.proofs.Words.{seven_letters, eight_letters}
use Rattle.ms_lex.proofs.directive.directive_kind.Goals as goal

pub returns-in-program : goal.returns-in-program
returns-in-program c =
    let l : length c.args.word.now ≡ 7 = omega arith in
    let e : c.args.word.now ≡ codes "program" = search seven_letters in rw e

pub returns-in-include : goal.returns-in-include
returns-in-include c =
    let l : length c.args.word.now ≡ 7 = omega arith in
    let e : c.args.word.now ≡ codes "include" = search seven_letters in rw e

pub returns-in-external : goal.returns-in-external
returns-in-external c =
    let l : length c.args.word.now ≡ 8 = omega arith in
    let e : c.args.word.now ≡ codes "external" = search eight_letters in rw e
