use Rattle.std.proofs.Common.{sym, subst, refl, map, arith}
use Rattle.std.proofs.lemmas.List.{length-map}
use Rattle.std.specs.List.{Contains}
use Rattle.ms_complete.specs.Keys.{thing_in}
use Rattle.ms_complete.specs.Numbering.{Numbering, Numbers}
use Rattle.ms_complete.proofs.KeyLaws.{inserted, stored_is, once_from_distinct}
use Rattle.ms_complete.proofs.NumberLaws.{numbers_from, declared_more, few_after}
use Rattle.ms_complete.proofs.complete.Complete.number.Goals as goal

pub invariant_of-self-2 : goal.invariant_of-self-2
invariant_of-self-2 c =
    declared_more (map thing_in c.self.inside.keys.keys) (map thing_in c.insert_full.new.self.keys) (thing_in c.args.key) c.self.invariant
    (λ part made. subst (λ (n : Numbering). Contains n.things part) (sym c.self.view_is) (c.requires part made))
    (inserted c.self.inside.keys.keys c.insert_full.new.self.keys c.args.key c.in_ok-place.ensures.keys)
    (few_after (map thing_in c.self.inside.keys.keys) (map thing_in c.insert_full.new.self.keys) (thing_in c.args.key) (inserted c.self.inside.keys.keys c.insert_full.new.self.keys c.args.key c.in_ok-place.ensures.keys)
    (omega (arith, length-map c.self.inside.keys.keys thing_in, c.len.ensures.len, c.if-len.false)))
    (once_from_distinct c.insert_full.new.self.keys c.in_ok-place.ensures.unique)

pub returns : goal.returns
returns c =
    subst (λ (n : Numbering). Numbers n (record { things = map thing_in c.insert_full.new.self.keys; names = c.self.inside.names }) (thing_in c.args.key) c.in_ok-place.place) c.self.view_is
    (numbers_from (record { things = map thing_in c.self.inside.keys.keys; names = c.self.inside.names }) (record { things = map thing_in c.insert_full.new.self.keys; names = c.self.inside.names }) (thing_in c.args.key) c.in_ok-place.place
    (inserted c.self.inside.keys.keys c.insert_full.new.self.keys c.args.key c.in_ok-place.ensures.keys) refl
    (stored_is c.args.key c.insert_full.new.self.keys c.in_ok-place.place c.in_ok-place.ensures.stored))
