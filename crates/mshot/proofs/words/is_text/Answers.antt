use Rattle.std.proofs.Common.{◌∙◌, sym}
use Rattle.std.proofs.lemmas.Slice.Eq.{bytes_eq-Decides}
use Rattle.mshot.proofs.words.is_text.Goals as goal

pub returns : goal.returns
returns c = (
  λ holds. sym c.as_str.ensures.value ∙ (bytes_eq-Decides c.as_str.result.now c.args.text.now).0 (sym c.eq.ensures ∙ holds),
  λ same. c.eq.ensures ∙ (bytes_eq-Decides c.as_str.result.now c.args.text.now).1 (c.as_str.ensures.value ∙ same),
)
