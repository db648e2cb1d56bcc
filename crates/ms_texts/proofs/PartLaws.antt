-- The core rules of a call, by the sections of its part.
use Rattle.std.proofs.Common.{◌≡◌, ℕ, Bool, true, false, if◌then◌else◌, List, [], ◌∷◌, ◌++◌, length, refl, sym, ap, ◌∙◌}
use Rattle.std.specs.List.{flat_map, filter}
use Rattle.std.proofs.lemmas.Grind.{flat_map-append}
use Rattle.std.proofs.lemmas.List.Folds.{flat_map-map}
use Rattle.ms_grammar.specs.declared.value.Value.{Value}
use Rattle.ms_grammar.specs.declared.statement.Form.{Form}
use Rattle.ms_core.specs.declared.rule.CoreRule.{CoreRule}
use Rattle.ms_core.specs.Texts.{PartName, Texts, is_part, meaning_of, core_of_form, core_where, core_of_call}
use Rattle.ms_texts.specs.declared.section.Section.{Section}
use Rattle.ms_texts.specs.Sections.{part_of, said_in, said_by}

module _ (t : Texts) (name : List ℕ) (args : List Value) where
  abbrev called : PartName × Form → Bool
  called statement = is_part name (length args) statement.0

  abbrev core : PartName × Form → List CoreRule
  core statement = core_of_form (meaning_of t statement.0.params args) statement.1

  core_if : (b : Bool) (s : PartName × Form) (rest : List (PartName × Form)) → core_where b t args s ++ flat_map core rest ≡ flat_map core (if b then s ∷ rest else rest)
  core_if true s rest = refl
  core_if false s rest = refl

  core_filtered : (said : List (PartName × Form)) → flat_map (λ s. core_where (called s) t args s) said ≡ flat_map core (filter called said)
  core_filtered [] = refl
  core_filtered (s ∷ ss) = ap (λ l. core_where (called s) t args s ++ l) (core_filtered ss) ∙ core_if (called s) s (filter called ss)

  -- the core rules of a section
  abbrev pub core_of_section : Section → List CoreRule
  core_of_section s = flat_map (λ form. core_of_form (meaning_of t s.params args) form) s.forms

  core_of_sections : (sections : List Section) → flat_map core (said_by sections) ≡ flat_map core_of_section sections
  core_of_sections [] = refl
  core_of_sections (s ∷ ss) =
      flat_map-append core (said_in s) (said_by ss)
      ∙ ap (λ l. l ++ flat_map core (said_by ss)) (flat_map-map core (λ form. (part_of s, form)) s.forms)
      ∙ ap (λ l. core_of_section s ++ l) (core_of_sections ss)

  -- The sections of a part are all that a call of it takes.
  pub core_of_part : (sections : List Section) → said_by sections ≡ filter called t.said → core_of_call t name args ≡ flat_map core_of_section sections
  core_of_part sections is = core_filtered t.said ∙ ap (flat_map core) (sym is) ∙ core_of_sections sections
