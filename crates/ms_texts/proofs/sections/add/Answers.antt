use Rattle.std.proofs.Common.{◌≡◌, ap, sym, ◌∙◌, length}
use Rattle.ms_texts.specs.Sections.{places_from}
use Rattle.ms_texts.proofs.PlaceLaws.{indexes_more}
use Rattle.ms_texts.proofs.sections.add.Goals as goal

pub returns-clause-index : goal.returns-clause-index
returns-clause-index c =
    let list = c.reserve.new.self.items in
    let there : c.len.result ≡ length list = c.len.ensures ∙ c.reserve.new.self.ok.0 in
    let is = indexes_more c.args.places.now.entries c.note.new.places.entries list c.args.section c.as_slice.result.now c.len.result (λ n. c.requires n ∙ ap (places_from n 0) (sym c.reserve.ensures.items)) (sym c.as_slice.ensures) there c.in_ok-note.ensures.ok in
    λ name. is name ∙ ap (places_from name 0) (sym c.in_ok-push.ensures.items)
