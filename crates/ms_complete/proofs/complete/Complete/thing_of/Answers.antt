use Rattle.std.proofs.Common.{◌≡◌, ◌∙◌, sym, subst, ap, Some}
use Rattle.std.specs.Prelude.{slice_get, is_some}
use Rattle.std.specs.List.{Contains}
use Rattle.std.proofs.lemmas.Bool.{false≢true}
use Rattle.ms_join.specs.Things.Thing.{atom}
use Rattle.ms_complete.specs.declared.key.ThingKey.TheVariants.{Atom}
use Rattle.ms_complete.specs.Numbering.{Numbering}
use Rattle.ms_complete.proofs.KeyLaws.{any_from_there, place_is}
use Rattle.ms_complete.proofs.complete.Complete.thing_of.Goals as goal

pub unreachable-requires : goal.unreachable-requires
unreachable-requires c =
    let there = any_from_there (Atom c.args.a) c.self.inside.keys.keys (subst (λ (n : Numbering). Contains n.things (atom c.args.a)) (sym c.self.view_is) c.requires) in
    false≢true (sym (ap is_some c.in-None.is) ∙ (c.get_index_of.ensures.found ∙ there))

pub returns : goal.returns
returns c =
    subst (λ (n : Numbering). slice_get n.things c.in-Some.place ≡ Some (atom c.args.a)) c.self.view_is
    (place_is (Atom c.args.a) c.self.inside.keys.keys c.in-Some.place (sym c.get_index_of.ensures.index ∙ c.in-Some.is))
