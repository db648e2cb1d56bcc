use Rattle.std.proofs.Common.{◌≡◌, ◌∷◌, ◌∙◌, ap, map, sym, subst}
use Rattle.std.proofs.lemmas.Result.{IfOk-weaker}
use Rattle.std.proofs.lemmas.List.Filters.{dedup_is}
use Rattle.ms_complete.specs.Rules.{fails, holds}
use Rattle.ms_complete.specs.Sets.{Writes}
use Rattle.ms_unfound.specs.Loops.{sign_at}
use Rattle.ms_unfound.proofs.WriteLaws.{written_from}
use Rattle.ms_unfound.proofs.written.written.Goals as goal

pub returns : goal.returns
returns c =
    let deduped = dedup_is _ _ _ c.dedup.ensures.filtered in
    let w = written_from c.args.atom c.args.bodies.items c.push.new.self.items c.sort_unstable.new.self.items c.requires c.in_ok-push.ensures.items c.sort_unstable.ensures.permutation c.sort_unstable.ensures.sorted in
    IfOk-weaker c.lits_of.result (λ lits. lits ≡ map (sign_at c.args.atom) c.as_slice.result.now) (Writes (holds c.args.atom ∷ map fails c.args.bodies.items))
    (λ lits is. subst (Writes (holds c.args.atom ∷ map fails c.args.bodies.items)) (sym (is ∙ ap (map (sign_at c.args.atom)) (c.as_slice.ensures.value ∙ deduped))) w)
    c.lits_of.ensures
