use Rattle.std.proofs.Common.{◌∙◌, ◌++◌, List, ℕ, ap, length}
use Rattle.ms_tree.specs.Text.{tree_text}
use Rattle.ms_term.specs.Terms.{term_at}
use Rattle.ms_complete.specs.Numbering.{Numbering}
use Rattle.ms_complete.proofs.NoteLaws.{name_within, name_below, atom_told}
use Rattle.ms_complete.proofs.complete.Complete.atom_note.Goals as goal

pub bounds-as_slice-a-inside : goal.bounds-as_slice-a-inside
bounds-as_slice-a-inside c =
    name_within c.args.self.now.names c.as_slice.result.now (length c.args.terms.now) c.args.a c.a.inside.0 (c.as_slice.ensures ∙ ap (λ (n : Numbering). n.names) c.self.view_is) c.a.view_is
    (c.requires.named c.args.a c.requires.declared)

pub print-requires : goal.print-requires
print-requires c =
    name_below c.args.self.now.names c.as_slice.result.now (length c.args.terms.now) c.args.a c.a.inside.0 (c.as_slice.ensures ∙ ap (λ (n : Numbering). n.names) c.self.view_is) c.a.view_is
    (c.requires.named c.args.a c.requires.declared) c.index-as_slice-a.result c.index-as_slice-a.is

pub returns : goal.returns
returns c =
    let text = c.from_vec.ensures ∙ (c.in_ok-print.ensures.ok ∙ ap (λ (bytes : List ℕ). bytes ++ tree_text (term_at c.args.terms.now c.index-as_slice-a.result)) c.new-text.ensures.items) in
    atom_told c.args.self.now.names c.as_slice.result.now (length c.args.terms.now) c.args.a c.a.inside.0 (c.as_slice.ensures ∙ ap (λ (n : Numbering). n.names) c.self.view_is) c.a.view_is
    (c.requires.named c.args.a c.requires.declared) c.args.terms.now c.index-as_slice-a.result c.from_vec.result c.index-as_slice-a.is text
