use Rattle.std.proofs.Common.{◌≡◌, Some, None, sym, ap, ◌∙◌}
use Rattle.std.specs.Option.{option_copied}
use Rattle.ms_core.specs.Texts.{value_in}
use Rattle.ms_texts.specs.Additions.{constants_of}
use Rattle.ms_texts.proofs.NamedValues.{constant_given, constant_defined}
use Rattle.ms_texts.proofs.texts.Texts.constant.Goals as goal

pub returns-in-Some : goal.returns-in-Some
returns-in-Some c =
    let is : value_in c.as_slice.result.now c.args.name.now ≡ Some c.in-Some.value.now = sym c.value_in.ensures ∙ ap option_copied c.in-Some.is in
    let given : c.args.self.now.given ≡ c.as_slice.result.now = ap (λ t. t.given) (sym c.self.view_is) ∙ sym c.as_slice.ensures.value in
    sym (constant_given c.args.self.now c.args.name.now c.in-Some.value.now (ap (λ g. value_in g c.args.name.now) given ∙ is))

pub returns-in-None : goal.returns-in-None
returns-in-None c =
    let is : value_in c.as_slice.result.now c.args.name.now ≡ None = sym c.value_in.ensures ∙ ap option_copied c.in-None.is in
    let given : c.args.self.now.given ≡ c.as_slice.result.now = ap (λ t. t.given) (sym c.self.view_is) ∙ sym c.as_slice.ensures.value in
    c.get.ensures
    ∙ ap (λ l. value_in l c.args.name.now) (c.self.invariant.constants_are ∙ ap (λ t. constants_of t.said) c.self.view_is)
    ∙ sym (constant_defined c.args.self.now c.args.name.now (ap (λ g. value_in g c.args.name.now) given ∙ is))
