use Rattle.std.proofs.Common.{◌≡◌, ◌∙◌, ◌++◌, ap, map, reverse}
use Rattle.ms_term.specs.declared.printing.Piece.TheVariants.{Next}
use Rattle.ms_term.proofs.Pieces.{next_put, all_put}
use Rattle.ms_term.proofs.printing.push_next.Goals as goal

pub loop-argument-preserved : goal.loop-argument-preserved
loop-argument-preserved c =
    next_put c.loop-argument.pieces.items c.push.new.self.items _ c.loop-argument.argument-iterator.iter.rest.now c.next.new.self.iter.rest.now c.in-Some.argument.now c.loop-argument.invariant c.in-Some.ensures.steps c.in_ok-push.ensures.items

pub returns : goal.returns
returns c =
    let all : c.into_iter-argument-iterator.result.iter.rest.now ≡ c.args.arguments.now =
    ap (λ r. r.iter.rest.now) c.into_iter-argument-iterator.ensures.into_iter_gives ∙ (ap (λ r. r.rest.now) c.rev-argument-items.ensures.source ∙ c.iter.ensures.rest) in
    all_put c.loop-argument.pieces.items c.args.pieces.now.items c.loop-argument.argument-iterator.iter.rest.now c.into_iter-argument-iterator.result.iter.rest.now c.loop-argument.invariant c.in-None.ensures.steps.0
    ∙ ap (λ is. c.args.pieces.now.items ++ map (λ i. Next i) (reverse is)) all
