use Rattle.std.proofs.Common.{◌≡◌, ◌∙◌, ℕ, ◌<◌, ◌≤◌, Bool, List, [], ◌∷◌, length, map, get_or, sym, ap, arith, IsTrue}
use Rattle.std.specs.String.{string_bytes}
use Rattle.std.specs.Prelude.{String}
use Rattle.std.specs.declared.alloc.Global.{Global}
use Rattle.std.specs.Str.{bytes_eq}
use Rattle.std.proofs.lemmas.Slice.Eq.{bytes_eq-Decides}
use Rattle.mshot.proofs.words.are_run.Goals as goal

-- one word is as good as its bytes
one_word : (words : List (String Global)) (word : String Global) (text bytes : List ℕ) (b : Bool) → 1 ≤ length words → length words < 2 → word ≡ get_or words 0 word → bytes ≡ string_bytes word → b ≡ bytes_eq bytes text → (IsTrue b → map string_bytes words ≡ text ∷ []) × (map string_bytes words ≡ text ∷ [] → IsTrue b)
one_word [] word text bytes b some few is lent eq = absurd (omega arith)
one_word (w ∷ []) word text bytes b some few is lent eq = (
  λ holds. ap (λ t. t ∷ []) (sym (lent ∙ ap string_bytes is) ∙ (bytes_eq-Decides bytes text).0 (sym eq ∙ holds)),
  λ same. eq ∙ (bytes_eq-Decides bytes text).1 (lent ∙ ap string_bytes is ∙ head same),
)
  where
    head : string_bytes w ∷ [] ≡ text ∷ [] → string_bytes w ≡ text
    head e = cc
one_word (w ∷ v ∷ vs) word text bytes b some few is lent eq = absurd (omega arith)

pub returns-in-len1 : goal.returns-in-len1
returns-in-len1 c = one_word c.args.words.now c.word-item.result _ c.as_str.result.now c.eq.result c.in-len1.len_at_least c.in-len1.len_below c.word-item.is c.as_str.ensures.value c.eq.ensures
