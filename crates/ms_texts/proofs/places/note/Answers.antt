use Rattle.std.proofs.Common.{[], ◌∷◌, ◌++◌, sym, ap, ◌∙◌}
use Rattle.std.specs.Option.{option_copied_mut}
use Rattle.std.proofs.lemmas.Result.{err_from_is_err_and}
use Rattle.ms_texts.specs.Sections.{places_in}
use Rattle.ms_texts.proofs.PlaceLaws.{places_in-written, places_in-kept, noted_new}
use Rattle.ms_texts.proofs.places.note.Goals as goal

pub returns-in_err-push-clause-err : goal.returns-in_err-push-clause-err
returns-in_err-push-clause-err c =
    let p = err_from_is_err_and c.from_residual.result c.from_residual.ensures.1 in
    rw p.1 (λ other.
    ap (places_in other) (c.get_mut.follows.holds c.push.new.self).0
    ∙ places_in-kept c.args.name.now other c.push.new.self c.in-Some.list.now c.in_err-push.ensures.items c.args.places.now.entries (sym c.get_mut.follows.claims.0 ∙ ap option_copied_mut c.in-Some.is))

pub returns-in-Some-clause-ok : goal.returns-in-Some-clause-ok
returns-in-Some-clause-ok c = λ other.
    ap (places_in other) (c.get_mut.follows.holds c.push.new.self).0
    ∙ places_in-written c.args.name.now other c.push.new.self c.in-Some.list.now c.args.place c.in_ok-push.ensures.items c.args.places.now.entries (sym c.get_mut.follows.claims.0 ∙ ap option_copied_mut c.in-Some.is)

pub returns-clause-ok : goal.returns-clause-ok
returns-clause-ok c =
    noted_new c.args.places.now c.get_mut.follows.lender-at-none c.insert.new.self c.args.name.now c.in_ok-from_slice.field-0 c.push-2.new.self c.args.place
    c.get_mut.follows.holds-at-none c.in_ok-insert.ensures.entries c.in_ok-from_slice.ensures.items
    (c.in_ok-push-2.ensures.items ∙ ap (λ l. l ++ c.args.place ∷ []) c.new-list.ensures.items)
    (sym c.get_mut.follows.claims.0 ∙ ap option_copied_mut c.in_default.is)
