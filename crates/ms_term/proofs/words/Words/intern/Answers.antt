use Rattle.std.proofs.Common.{subst}
use Rattle.ms_term.specs.Words.{Keeps, bytes_of}
use Rattle.ms_term.proofs.WordTables.{kept_word}
use Rattle.ms_term.proofs.words.Words.intern.Goals as goal

pub returns-clause-ok : goal.returns-clause-ok
returns-clause-ok c =
    let stored = c.in_ok-number.ensures.stored in
    let kept = kept_word _ _ c.in_ok-bytes.bytes stored.0 c.in_ok-number.number c.in_ok-number.ensures.keys c.self.invariant stored.1 stored.2 in
    subst (λ ws. Keeps ws (bytes_of c.insert_full.new.self.keys) c.args.bytes.now c.in_ok-number.number) c.self.view_is
    (subst (λ bytes. Keeps (bytes_of c.self.inside.words.keys) (bytes_of c.insert_full.new.self.keys) bytes c.in_ok-number.number) c.in_ok-bytes.ensures.items kept)
