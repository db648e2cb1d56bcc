use Rattle.std.proofs.Common.{[], ◌∷◌, ◌++◌, sym, ◌∙◌}
use Rattle.std.proofs.lemmas.List.{append_cancel_right}
use Rattle.ms_log.specs.NoteText.{numbers_text}
use Rattle.ms_log.proofs.Colons.{declared_split, declared_cut}
use Rattle.ms_log.proofs.reading.read_declared.Goals as goal

pub returns-in_default : goal.returns-in_default
returns-in_default c = λ x h e. c.in_default.ensures ((32 ∷ x.0) ++ 32 ∷ []) (numbers_text x.1) (e ∙ declared_split x.0 x.1)

pub returns-in_default-before_space : goal.returns-in_default-before_space
returns-in_default-before_space c = λ x h e.
    let cut = declared_cut c.args.text.now c.in-Some.front.now c.in-Some.back.now c.in-Some.ensures.0 c.in-Some.ensures.1 x h e in
    c.in_default-before_space.ensures (32 ∷ x.0) cut.0

pub returns-in_default-2 : goal.returns-in_default-2
returns-in_default-2 c = λ x h e.
    let cut = declared_cut c.args.text.now c.in-Some.front.now c.in-Some.back.now c.in-Some.ensures.0 c.in-Some.ensures.1 x h e in
    let none = rw c.in_default-2.is at c.in_ok-name.ensures in
    none x.0 h.0 (append_cancel_right c.in-Some-before_space.spaced.now (32 ∷ x.0) (32 ∷ []) (sym c.in-Some-before_space.ensures ∙ cut.0))

pub returns-in_default-3 : goal.returns-in_default-3
returns-in_default-3 c = λ x h e.
    let cut = declared_cut c.args.text.now c.in-Some.front.now c.in-Some.back.now c.in-Some.ensures.0 c.in-Some.ensures.1 x h e in
    let none = rw c.in_default-3.is at c.in_ok-numbers.ensures in
    none x.1 h.1 cut.1
