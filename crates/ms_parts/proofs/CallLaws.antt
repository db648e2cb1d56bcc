-- The core rules of copies.
use Rattle.std.proofs.Common.{◌≡◌, List, [], map, Some, sym, ap, ◌∙◌}
use Rattle.std.specs.List.{flat_map}
use Rattle.std.proofs.lemmas.List.Concat.{flat_map_single}
use Rattle.std.proofs.lemmas.List.Folds.{flat_map-map}
use Rattle.ms_grammar.specs.declared.term.TextTerm.{TextTerm}
use Rattle.ms_grammar.specs.declared.statement.Head.{Head}
use Rattle.ms_grammar.specs.declared.statement.BodyLit.{BodyLit}
use Rattle.ms_grammar.specs.declared.statement.Form.{Form}
use Rattle.ms_grammar.specs.declared.statement.Form.TheVariants.{Rule, External as ExternalForm}
use Rattle.ms_core.specs.declared.rule.RuleKind.TheVariants.{External}
use Rattle.ms_core.specs.Replacing.{Meaning, replaced_atom, replaced_head, replaced_part}
use Rattle.ms_core.specs.Pools.{copies, pairs_with, copies_of_all, head_copies, part_copies}
use Rattle.ms_core.specs.CoreRules.{core_rule, core_rules}
use Rattle.ms_core.specs.Texts.{core_of_form}
use Rattle.ms_parts.specs.Copies.{rule_copies}
use Rattle.ms_parts.proofs.RowLaws.{map_pairs}

abbrev rule_of : Head × List BodyLit → Form
rule_of r = Rule r.0 r.1

pub rules_of_pairs : (heads : List Head) (bodies : List (List BodyLit)) → flat_map (λ (r : Head × List BodyLit). core_rules (Rule r.0 r.1)) (pairs_with (λ x y. (x, y)) heads bodies) ≡ flat_map core_rules (pairs_with Rule heads bodies)
rules_of_pairs heads bodies =
    sym (flat_map-map core_rules rule_of (pairs_with (λ x y. (x, y)) heads bodies))
    ∙ ap (flat_map core_rules) (map_pairs rule_of heads bodies)

pub rules_of_externals : (atoms : List TextTerm) → map (λ a. core_rule External (Some a) []) atoms ≡ flat_map core_rules (map ExternalForm atoms)
rules_of_externals atoms =
    sym (flat_map_single (λ a. core_rule External (Some a) []) atoms)
    ∙ sym (flat_map-map core_rules ExternalForm atoms)

-- the core rules of a rule, from its copies
pub rule_is : (means : Meaning) (head : Head) (body : List BodyLit) (rules slice : List (Head × List BodyLit)) → rules ≡ rule_copies means head body → slice ≡ rules → flat_map (λ (r : Head × List BodyLit). core_rules (Rule r.0 r.1)) slice ≡ core_of_form means (Rule head body)
rule_is means head body rules slice are same =
    ap (flat_map (λ (r : Head × List BodyLit). core_rules (Rule r.0 r.1))) (same ∙ are)
    ∙ rules_of_pairs (head_copies (replaced_head means head)) (copies_of_all part_copies (map (replaced_part means) body))

-- the core rules of an external, from its copies
pub external_is : (means : Meaning) (atom new : TextTerm) (atoms slice : List TextTerm) → new ≡ replaced_atom means atom → atoms ≡ copies new → slice ≡ atoms → map (λ a. core_rule External (Some a) []) slice ≡ core_of_form means (ExternalForm atom)
external_is means atom new atoms slice is are same =
    rules_of_externals slice ∙ ap (λ l. flat_map core_rules (map ExternalForm l)) (same ∙ are ∙ ap copies is)
