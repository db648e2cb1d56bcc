use Rattle.std.proofs.Common.{◌∙◌, ap, length, refl, slice_index}
use Rattle.std.proofs.lemmas.List.{length-set}
use Rattle.ms_unfound.proofs.WatchLaws.{has_pushed, keep_pushed}
use Rattle.ms_unfound.proofs.marking.Marking.wait.Goals as goal

pub returns : goal.returns
returns c =
    let lists = c.args.self.now.waiting.items in
    let inner = slice_index c.args.inner.now c.args.at in
    let inside = c.requires.inner c.args.at 0 c.requires.at in
    record {
      marked = refl;
      todo = refl;
      looked = ap length c.set.ensures ∙ length-set c.args.self.now.looked c.args.place c.args.at;
      waiting = length-set lists inner c.push.new.self;
      lists = keep_pushed lists inner c.index_mut.result.now inside c.index_mut.ensures.value c.push.new.self c.args.place c.in_ok-push.ensures.ok;
      has = has_pushed lists inner c.index_mut.result.now inside c.index_mut.ensures.value c.push.new.self c.args.place c.in_ok-push.ensures.ok;
    }
