use Rattle.std.proofs.Common.{◌≡◌, ◌∙◌, sym, subst, ap, map, Some}
use Rattle.std.specs.Prelude.{slice_get, is_some}
use Rattle.std.specs.List.{Contains}
use Rattle.std.proofs.lemmas.Bool.{false≢true}
use Rattle.ms_join.specs.Things.{body_of}
use Rattle.ms_join.specs.Things.Thing.{body}
use Rattle.ms_complete.specs.declared.key.ThingKey.TheVariants.{Body as BodyKey}
use Rattle.ms_complete.specs.Keys.{thing_in}
use Rattle.ms_complete.specs.Numbering.{Numbering}
use Rattle.ms_complete.proofs.KeyLaws.{any_from_there, key_of_body, place_is}
use Rattle.ms_complete.proofs.complete.Complete.body_of.Goals as goal

pub unreachable-requires : goal.unreachable-requires
unreachable-requires c =
    let b = body_of c.args.rule.now in
    let has = subst (λ (n : Numbering). Contains n.things (body b)) (sym c.self.view_is) c.requires in
    let same = key_of_body c.self.inside.keys.keys b c.in_ok-pos.pos c.in_ok-neg.neg has (c.in_ok-pos.ensures ∙ c.as_slice.ensures) (c.in_ok-neg.ensures ∙ c.as_slice-2.ensures) in
    let there = any_from_there (BodyKey c.in_ok-pos.pos c.in_ok-neg.neg) c.self.inside.keys.keys (subst (Contains (map thing_in c.self.inside.keys.keys)) (sym same) has) in
    false≢true (sym (ap is_some c.in-None.is) ∙ (c.get_index_of.ensures.found ∙ there))

pub returns : goal.returns
returns c =
    let b = body_of c.args.rule.now in
    let has = subst (λ (n : Numbering). Contains n.things (body b)) (sym c.self.view_is) c.requires in
    let same = key_of_body c.self.inside.keys.keys b c.in_ok-pos.pos c.in_ok-neg.neg has (c.in_ok-pos.ensures ∙ c.as_slice.ensures) (c.in_ok-neg.ensures ∙ c.as_slice-2.ensures) in
    subst (λ (n : Numbering). slice_get n.things c.in-Some.place ≡ Some (body b)) c.self.view_is
    (place_is (BodyKey c.in_ok-pos.pos c.in_ok-neg.neg) c.self.inside.keys.keys c.in-Some.place (sym c.get_index_of.ensures.index ∙ c.in-Some.is) ∙ ap Some same)
