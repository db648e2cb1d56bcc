use Rattle.std.proofs.Common.{◌≡◌, ◌∙◌, ◌↔◌, ℕ, ◌<◌, ◌≤◌, Bool, true, false, List, [], ◌∷◌, length, map, get_or, refl, sym, ap, arith, IsTrue}
use Rattle.std.specs.Prelude.{String, ◌&&◌}
use Rattle.std.specs.String.{string_bytes}
use Rattle.std.specs.declared.alloc.Global.{Global}
use Rattle.std.proofs.lemmas.Bool.{and_parts}
use Rattle.mshot.proofs.words.are_log_run.Goals as goal

both : (a b : Bool) → IsTrue a → IsTrue b → IsTrue (a && b)
both true true x y = refl
both true false x y = y
both false b x y = x

-- two words are as good as their bytes
two_words : (words : List (String Global)) (first second : String Global) (log run : List ℕ) (a b : Bool) → 2 ≤ length words → length words < 3 → first ≡ get_or words 0 first → second ≡ get_or words 1 second → IsTrue a ↔ (string_bytes first ≡ log) → IsTrue b ↔ (string_bytes second ≡ run)
    → IsTrue (a && b) ↔ (map string_bytes words ≡ log ∷ run ∷ [])
two_words [] first second log run a b some few is next p q = absurd (omega arith)
two_words (w ∷ []) first second log run a b some few is next p q = absurd (omega arith)
two_words (w ∷ v ∷ []) first second log run a b some few is next p q = (
  λ holds.
      let parts = and_parts a b holds in
      let front : string_bytes w ≡ log = ap string_bytes (sym is) ∙ p.0 parts.0 in
      let back : string_bytes v ≡ run = ap string_bytes (sym next) ∙ q.0 parts.1 in
      ap (λ t. t ∷ string_bytes v ∷ []) front ∙ ap (λ t. log ∷ t ∷ []) back,
  λ same. both a b (p.1 (ap string_bytes is ∙ front same)) (q.1 (ap string_bytes next ∙ back same)),
)
  where
    front : string_bytes w ∷ string_bytes v ∷ [] ≡ log ∷ run ∷ [] → string_bytes w ≡ log
    front e = cc

    back : string_bytes w ∷ string_bytes v ∷ [] ≡ log ∷ run ∷ [] → string_bytes v ≡ run
    back e = cc
two_words (w ∷ v ∷ u ∷ us) first second log run a b some few is next p q = absurd (omega arith)

pub returns-in-len2 : goal.returns-in-len2
returns-in-len2 c = two_words c.args.words.now c.first-item.result c.second-item.result _ _ c.is_text-log.result c.is_text-run.result c.in-len2.len_at_least c.in-len2.len_below c.first-item.is c.second-item.is c.is_text-log.ensures c.is_text-run.ensures
