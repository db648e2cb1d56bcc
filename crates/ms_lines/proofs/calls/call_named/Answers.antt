use Rattle.std.proofs.Common.{sym, subst}
use Rattle.ms_grammar.specs.Words.{words_of}
use Rattle.ms_lines.specs.Finding.{IsOnly, IsCallAfter}
use Rattle.ms_words.proofs.SignLemmas.{after_within}
use Rattle.ms_lines.proofs.CallFronts.{call_without, call_with_arguments}
use Rattle.ms_lines.proofs.calls.call_named.Goals as goal

pub returns-in_default-clause-found : goal.returns-in_default-clause-found
returns-in_default-clause-found c =
    subst (λ args. IsOnly (IsCallAfter c.args.name (words_of c.args.text.now c.args.after.now)) (record { name = c.args.name; args = args }, 1)) (sym c.new.ensures) (call_without c.args.text.now c.args.name c.args.after.now c.in_default.ensures)

pub read_arguments-requires : goal.read_arguments-requires
read_arguments-requires c = after_within _ _ _ _ c.in-Some.ensures c.requires

pub returns-clause-found : goal.returns-clause-found
returns-clause-found c = call_with_arguments c.args.text.now c.args.name c.args.after.now _ c.in-Some.ensures _ c.in_ok-found.ensures.found _ c.call_with.ensures
