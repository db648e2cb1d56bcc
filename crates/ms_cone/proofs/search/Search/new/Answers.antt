use Rattle.std.proofs.Common.{◌≡◌, ◌+◌, ℕ, List, ◌++◌, ◌∷◌, [], take, subst, sym, ap, ◌∙◌}
use Rattle.std.proofs.lemmas.List.{take_more}
use Rattle.ms_cone.specs.Search.{IsStart}
use Rattle.ms_cone.proofs.Entering.{start_more}
use Rattle.ms_cone.proofs.search.Search.new.Goals as goal

pub loop-atom-preserved : goal.loop-atom-preserved
loop-atom-preserved c =
    let starts = c.args.starts.now in
    let i = c.loop-atom.atom-index in
    let atom = c.atom-item.result in
    let new = c.enter.new.self in
    let enters = c.in_ok-enter.ensures in
    let more : take i starts ++ atom ∷ [] ≡ take (i + 1) starts = ap (λ (x : ℕ). take i starts ++ x ∷ []) c.atom-item.is ∙ sym (take_more starts i atom c.loop-atom-test.true) in
    record {
      atoms = enters.atoms ∙ c.loop-atom.invariant.atoms;
      start = subst (λ (xs : List ℕ). IsStart xs new) more (start_more (take i starts) c.loop-atom.search new atom c.in_ok-enter.field-0 c.loop-atom.invariant.start enters);
    }
