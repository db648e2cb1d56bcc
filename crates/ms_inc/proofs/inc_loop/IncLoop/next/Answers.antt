use Rattle.std.proofs.Common.{◌≡◌, ◌+◌, ◌++◌, ◌∷◌, [], true, false, not, ◌&&◌, ap, sym, ◌∙◌}
use Rattle.ms_inc.specs.Turns.{Loop, is_made, turn_of, turns}
use Rattle.ms_inc.proofs.Telling.{loop_ends, loop_goes_on}
use Rattle.ms_inc.proofs.inc_loop.IncLoop.next.Goals as goal

pub returns-then-not-goes_on-clause-told : goal.returns-then-not-goes_on-clause-told
returns-then-not-goes_on-clause-told c = λ told stands.
    let now = c.args.self.now in
    let ends : (not now.over && is_made now.plan now.made c.args.last) ≡ false = cc in
    ap (λ (l : Loop). record l { over = true }) c.self.view_is ∙ (loop_ends now.plan now.made now.over told c.args.last ends stands).0

pub returns-then-not-goes_on-clause-turn : goal.returns-then-not-goes_on-clause-turn
returns-then-not-goes_on-clause-turn c = λ told stands.
    let now = c.args.self.now in
    let ends : (not now.over && is_made now.plan now.made c.args.last) ≡ false = cc in
    (loop_ends now.plan now.made now.over told c.args.last ends stands).1

pub returns-clause-told : goal.returns-clause-told
returns-clause-told c = λ told stands.
    let now = c.args.self.now in
    let goes : (not now.over && is_made now.plan now.made c.args.last) ≡ true = cc in
    ap (λ (l : Loop). record l { made = l.made + 1 }) c.self.view_is ∙ (loop_goes_on now.plan now.made now.over told c.args.last goes stands).0

pub returns-clause-turn : goal.returns-clause-turn
returns-clause-turn c = λ told stands.
    let now = c.args.self.now in
    let goes : (not now.over && is_made now.plan now.made c.args.last) ≡ true = cc in
    let grown = (loop_goes_on now.plan now.made now.over told c.args.last goes stands).1 in
    grown ∙ ap (λ (l : Loop). turns now.plan told ++ turn_of l.made ∷ []) (sym c.self.view_is)
