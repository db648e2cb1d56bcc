use Rattle.std.proofs.Common.{◌≡◌, ◌<◌, ◌∷◌, ◌++◌, [], length, take, ◌∙◌, ap, arith, append_assoc}
use Rattle.std.specs.Prelude.{vec_capacity}
use Rattle.std.proofs.lemmas.Grind.{common_steps}
use Rattle.std.proofs.lemmas.List.{length-append, length-take-le}
use Rattle.ms_lits.proofs.Entries.{some_entry}
use Rattle.ms_lits.proofs.Stored.{stored_less}
use Rattle.ms_lits.proofs.Leveled.{levels_cut}
use Rattle.ms_lits.proofs.Back.{back_same, back_kept, cut_is}
use Rattle.ms_lits.proofs.trail.Trail.back_to.Goals as goal

pub returns-then-depth-len-clause-kept : goal.returns-then-depth-len-clause-kept
returns-then-depth-len-clause-kept c = back_same c.args.self.now c.self.inside.entries.items c.self.inside.ends.items c.self.inside.room c.args.level c.self.view_is c.self.invariant.levels (grind (arith, common_steps))

pub loop-self-preserved-in-Some : goal.loop-self-preserved-in-Some
loop-self-preserved-in-Some c =
    let i = c.loop-self.invariant in
    let splits : c.loop-self.self-inside.entries.items ≡ c.pop.new.self.items ++ c.in-Some.entry ∷ [] = c.in-Some.ensures.items in
    let len = ap length splits ∙ length-append c.pop.new.self.items (c.in-Some.entry ∷ []) in
    let more = c.loop-self-test.true in
    record {
      room = i.room;
      ends = i.ends;
      capacity = c.pop.ensures.capacity ∙ i.capacity;
      stored = stored_less c.loop-self.self-inside.room c.loop-self.self-inside.entries.items c.pop.new.self.items c.loop-self.self-inside.places.items c.loop-self.self-inside.marks.items c.in-Some.entry i.stored splits;
      above = grind (arith, common_steps);
      front = (c.in-Some.entry ∷ i.front.0, i.front.1 ∙ ap (λ xs. xs ++ i.front.0) splits ∙ append_assoc c.pop.new.self.items (c.in-Some.entry ∷ []) i.front.0);
    }

pub invariant_of-self : goal.invariant_of-self
invariant_of-self c =
    let i = c.loop-self.invariant in
    let o = c.self.invariant in
    let inside : c.args.level < length c.self.inside.ends.items = grind (arith, common_steps) in
    let len : length c.loop-self.self-inside.entries.items ≡ c.index.result.now = grind (arith, common_steps) in
    let cuts = cut_is c.self.inside.entries.items c.loop-self.self-inside.entries.items i.front.0 c.self.inside.ends.items c.args.level c.index.result.now inside c.index.ensures i.front.1 len in
    let shortens = c.truncate.ensures.items ∙ ap (λ v. take c.args.level v.items) i.ends in
    record {
      stored = i.stored;
      levels = levels_cut c.self.inside.entries.items c.loop-self.self-inside.entries.items c.self.inside.ends.items c.truncate.new.self.items c.args.level some_entry o.levels inside cuts shortens;
      entries_room = let r = i.room in let k = i.capacity in let e = o.entries_room in omega (arith, r, k, e);
      ends_room = let k = c.truncate.ensures.capacity in let e = ap vec_capacity i.ends in let r = i.room in let m = o.ends_room in omega (arith, k, e, r, m);
      ends_len = let n = ap length shortens ∙ length-take-le c.args.level c.self.inside.ends.items (omega arith) in let r = i.room in let m = o.ends_len in omega (arith, n, r, m, inside);
      fits = let r = i.room in let f = o.fits in omega (arith, r, f);
    }

pub returns-clause-kept : goal.returns-clause-kept
returns-clause-kept c =
    let i = c.loop-self.invariant in
    let inside : c.args.level < length c.self.inside.ends.items = grind (arith, common_steps) in
    let len : length c.loop-self.self-inside.entries.items ≡ c.index.result.now = grind (arith, common_steps) in
    let cuts = cut_is c.self.inside.entries.items c.loop-self.self-inside.entries.items i.front.0 c.self.inside.ends.items c.args.level c.index.result.now inside c.index.ensures i.front.1 len in
    let shortens = c.truncate.ensures.items ∙ ap (λ v. take c.args.level v.items) i.ends in
    back_kept c.args.self.now c.self.inside.entries.items c.loop-self.self-inside.entries.items c.self.inside.ends.items c.truncate.new.self.items c.self.inside.room c.loop-self.self-inside.room c.args.level c.self.view_is c.self.invariant.levels inside i.room cuts shortens
