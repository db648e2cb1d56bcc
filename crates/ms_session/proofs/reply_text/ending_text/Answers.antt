use Rattle.std.proofs.Common.{◌≡◌, ◌∙◌, ap, subst, sym}
use Rattle.std.proofs.lemmas.List.{append_assoc}
use Rattle.ms_lits.specs.declared.note.Ending.{Ending}
use Rattle.ms_lits.specs.declared.note.Ending.TheVariants.{Complete, StillOpen, Cut}
use Rattle.ms_machine.specs.Replies.{ending_text}
use Rattle.ms_session.proofs.reply_text.ending_text.Goals as goal
use Rattle.ms_session.proofs.reply_text.ending_text.Goals.{in-Complete+in_ok-text-in-Complete, in-StillOpen+in_ok-text-in-StillOpen, in-Cut+in_ok-text-in-Cut}

pub returns : goal.returns
returns c =
    let bytes = c.into_bytes.result.items in
    elim c.match-ending.branch [
      | in-Complete+in_ok-text-in-Complete w ↦
          let text : bytes ≡ ending_text Complete c.args.count c.args.limit = ap (λ v. v.items) c.into_bytes.ensures.value ∙ ap (λ t. t.bytes.items) w.text-is ∙ w.in_ok-text-in-Complete.ensures.ok in
          subst (λ (e : Ending). bytes ≡ ending_text e c.args.count c.args.limit) (sym w.in-Complete.is) text
      | in-StillOpen+in_ok-text-in-StillOpen w ↦
          let text : bytes ≡ ending_text StillOpen c.args.count c.args.limit = ap (λ v. v.items) c.into_bytes.ensures.value ∙ ap (λ t. t.bytes.items) w.text-is ∙ w.in_ok-text-in-StillOpen.ensures.ok in
          subst (λ (e : Ending). bytes ≡ ending_text e c.args.count c.args.limit) (sym w.in-StillOpen.is) text
      | in-Cut+in_ok-text-in-Cut w ↦
          let text : bytes ≡ ending_text Cut c.args.count c.args.limit = ap (λ v. v.items) c.into_bytes.ensures.value ∙ ap (λ t. t.bytes.items) w.text-is ∙ w.in_ok-text-in-Cut.ensures.ok ∙ simp append_assoc in
          subst (λ (e : Ending). bytes ≡ ending_text e c.args.count c.args.limit) (sym w.in-Cut.is) text
    ]
