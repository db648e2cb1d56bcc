use Rattle.std.proofs.Common.{◌≡◌, ◌<◌, List, ℕ, Some, length, sym, subst}
use Rattle.std.specs.Prelude.{slice_get}
use Rattle.std.specs.List.{All, Contains}
use Rattle.ms_join.specs.Things.Thing.{atom, body}
use Rattle.ms_things.specs.Signs.{IsFor}
use Rattle.ms_things.specs.Completion.{parts_of}
use Rattle.ms_complete.specs.declared.key.ThingKey.TheVariants.{Body as BodyKey}
use Rattle.ms_complete.specs.Keys.{plain}
use Rattle.ms_complete.specs.Numbering.{Numbering, AreDeclared}
use Rattle.ms_complete.specs.Sets.{Match}
use Rattle.ms_complete.proofs.KeyLaws.{at_key}
use Rattle.ms_complete.proofs.BodyLaws.{body_added, positive_declared, negated_declared}
use Rattle.ms_complete.proofs.complete.Complete.add_thing.Goals as goal

pub parts_of-requires : goal.parts_of-requires
parts_of-requires c =
    let things = c.args.self.now.things in
    let are : AreDeclared things = subst (λ (n : Numbering). AreDeclared n.things) c.self.view_is c.self.invariant in
    let at : slice_get things c.args.number ≡ Some (body (plain c.in-Body.pos c.in-Body.neg)) =
    subst (λ (n : Numbering). slice_get n.things c.args.number ≡ Some (body (plain c.in-Body.pos c.in-Body.neg))) c.self.view_is
    (at_key c.self.inside.keys.keys c.as_slice.result.now c.args.number c.index-as_slice-number.result (BodyKey c.in-Body.pos c.in-Body.neg) c.as_slice.ensures.keys
    (subst (λ (n : Numbering). c.args.number < length n.things) (sym c.self.view_is) c.requires) c.index-as_slice-number.is c.in-Body.is) in
    record {
      positive = subst (λ (ps : List ℕ). All (λ a. Contains things (atom a)) ps) (sym c.as_slice-in-Body.ensures) (positive_declared things (plain c.in-Body.pos c.in-Body.neg) c.args.number are at);
      negated = subst (λ (ps : List ℕ). All (λ a. Contains things (atom a)) ps) (sym c.as_slice-in-Body-2.ensures) (negated_declared things (plain c.in-Body.pos c.in-Body.neg) c.args.number are at);
    }

pub returns-in_ok-add_body-in-Body : goal.returns-in_ok-add_body-in-Body
returns-in_ok-add_body-in-Body c =
    let things = c.args.self.now.things in
    let are : AreDeclared things = subst (λ (n : Numbering). AreDeclared n.things) c.self.view_is c.self.invariant in
    let at : slice_get things c.args.number ≡ Some (body (plain c.in-Body.pos c.in-Body.neg)) =
    subst (λ (n : Numbering). slice_get n.things c.args.number ≡ Some (body (plain c.in-Body.pos c.in-Body.neg))) c.self.view_is
    (at_key c.self.inside.keys.keys c.as_slice.result.now c.args.number c.index-as_slice-number.result (BodyKey c.in-Body.pos c.in-Body.neg) c.as_slice.ensures.keys
    (subst (λ (n : Numbering). c.args.number < length n.things) (sym c.self.view_is) c.requires) c.index-as_slice-number.is c.in-Body.is) in
    let paired : Match (IsFor things) (parts_of (plain c.in-Body.pos c.in-Body.neg)) c.in_ok-parts-in-Body.parts.items =
    subst (λ (ps : List ℕ). Match (IsFor things) (parts_of (plain ps c.in-Body.neg)) c.in_ok-parts-in-Body.parts.items) c.as_slice-in-Body.ensures
    (subst (λ (ns : List ℕ). Match (IsFor things) (parts_of (plain c.as_slice-in-Body.result.now ns)) c.in_ok-parts-in-Body.parts.items) c.as_slice-in-Body-2.ensures c.in_ok-parts-in-Body.ensures) in
    body_added things (plain c.in-Body.pos c.in-Body.neg) c.args.number c.in_ok-parts-in-Body.parts.items at paired are.once c.args.store.now c.add_body.new.store c.in_ok-add_body-in-Body.ensures
