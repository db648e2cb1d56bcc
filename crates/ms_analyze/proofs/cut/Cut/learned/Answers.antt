use Rattle.std.proofs.Common.{◌≡◌, ◌<◌, ◌∙◌, ◌∷◌, ap, refl, subst, All, length, reverse}
use Rattle.ms_analyze.specs.Cuts.{lit_at, lits_at}
use Rattle.ms_analyze.proofs.Learning.{all_read, last_read, lit_read, none_read, rest_more}
use Rattle.ms_analyze.proofs.Resolved.{All-front}
use Rattle.ms_analyze.proofs.cut.Cut.learned.Goals as goal
use Rattle.ms_analyze.proofs.cut.Cut.learned.Goals.{in-Some, in-None}

pub loop-place-preserved : goal.loop-place-preserved
loop-place-preserved c =
    let splits = c.in-Some-place.ensures.steps in
    record {
      rest = rest_more c.args.trail.now.entries _ _ _ _ _ _ _ c.loop-place.invariant.rest splits c.in_ok-push-2.ensures.items (lit_read c.args.trail.now.entries _ _ c.at-in-loop-place.ensures);
      within = All-front (λ p. p < length c.args.trail.now.entries) _ _ (subst (All (λ p. p < length c.args.trail.now.entries)) splits c.loop-place.invariant.within);
    }

pub returns-clause-read : goal.returns-clause-read
returns-clause-read c =
    let all : c.into_iter-place-iterator.result.iter ≡ c.args.self.places.keys = ap (λ r. r.iter) c.into_iter-place-iterator.ensures.into_iter_gives ∙ c.rev-place-items.ensures.source ∙ c.iter.ensures.rest in
    record {
      lits =
          c.from_vec.ensures
          ∙ all_read c.args.trail.now.entries c.loop-place.lits.items c.push.new.self.items c.in_ok-lits.lits.items c.loop-place.place-iterator.iter c.into_iter-place-iterator.result.iter c.args.last c.at.result c.loop-place.invariant.rest c.in-None-place.ensures.steps.0 c.in_ok-push.ensures.items c.in_ok-lits.ensures.items (lit_read c.args.trail.now.entries _ _ c.at.ensures)
          ∙ ap (λ ps. lit_at c.args.trail.now.entries c.args.last ∷ lits_at c.args.trail.now.entries (reverse ps)) all;
      back = elim c.match-last.branch [
        | in-Some w ↦ last_read c.args.trail.now.entries c.args.self.places.keys _ c.match-last.back _ w.in-Some.ensures.last w.entry.ensures w.back-is
        | in-None w ↦ none_read c.args.trail.now.entries c.args.self.places.keys c.match-last.back (λ some. let no = w.in-None.ensures.variant.1 some in cc) w.back-is
      ];
      temporary = refl;
    }
