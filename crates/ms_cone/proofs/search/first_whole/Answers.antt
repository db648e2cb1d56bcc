use Rattle.std.proofs.Common.{sym, ap, subst, ◌∙◌}
use Rattle.ms_cone.specs.Search.{Found, IsExplored, led_by}
use Rattle.ms_cone.proofs.Exploring.{explored_start}
use Rattle.ms_cone.proofs.search.first_whole.Goals as goal

pub loop-forth-init : goal.loop-forth-init
loop-forth-init c =
    let needs = led_by c.args.old.now.needs c.args.new.now.needs in
    let uses = led_by c.args.old.now.uses c.args.new.now.uses in
    record {
      forth_atoms = ap (λ (s : Found). s.atoms) c.look_ahead.ensures ∙ c.in_ok-forth.ensures.atoms;
      back_atoms = ap (λ (s : Found). s.atoms) c.look_ahead-2.ensures ∙ c.in_ok-back.ensures.atoms;
      forth_explored = subst (IsExplored needs c.args.starts.now) (sym c.look_ahead.ensures) (explored_start needs c.args.starts.now c.in_ok-forth.forth c.in_ok-forth.ensures.start);
      back_explored = subst (IsExplored uses c.args.starts.now) (sym c.look_ahead-2.ensures) (explored_start uses c.args.starts.now c.in_ok-back.back c.in_ok-back.ensures.start);
    }
