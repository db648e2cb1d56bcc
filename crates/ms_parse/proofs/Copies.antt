-- Counts of choices and of copies of elements.
use Rattle.std.proofs.Common.{◌≡◌, ℕ, zero, suc, ◌+◌, ◌*◌, ◌<◌, ◌≤◌, List, [], ◌∷◌, ◌++◌, Option, Some, None, refl, sym, ap, ◌∙◌, inl, inr, ◌⊎◌, append_assoc, arith}
use Rattle.std.proofs.lemmas.Bool.{cases_lt}
use Rattle.std.proofs.Math.Nat.{mul-le-mul_right}
use Rattle.ms_grammar.specs.declared.part.Counted.{Counted}
use Rattle.ms_grammar.specs.Terms.{counted}
use Rattle.ms_grammar.specs.Statements.{alone, beside, join}

counted-plus : (a b : ℕ) → counted (a + counted b) ≡ counted (a + b)
counted-plus a b = omega arith

counted-times-large : (a b c : ℕ) → 10001 ≤ b → 10001 ≤ c → counted (a * b) ≡ counted (a * c)
counted-times-large zero b c p q = omega arith
counted-times-large (suc a) b c p q =
    let left : 1 * b ≤ suc a * b = mul-le-mul_right b (omega arith) in
    let right : 1 * c ≤ suc a * c = mul-le-mul_right c (omega arith) in
    omega arith

counted-times-by : (a b : ℕ) → (b < 10001) ⊎ (10001 ≤ b) → counted (a * counted b) ≡ counted (a * b)
counted-times-by a b (inl small) = ap (λ n. counted (a * n)) (let same : counted b ≡ b = omega arith in same)
counted-times-by a b (inr large) = counted-times-large a (counted b) b (omega arith) large

counted-times : (a b : ℕ) → counted (a * counted b) ≡ counted (a * b)
counted-times a b = counted-times-by a b (cases_lt b 10001)

choices_more : (a b c : ℕ) → counted (a * counted (b * c)) ≡ counted (counted (a * b) * c)
choices_more a b c =
    let product : a * (b * c) ≡ c * (a * b) = omega arith in
    let turned : counted (a * b) * c ≡ c * counted (a * b) = omega arith in
    counted-times a (b * c) ∙ ap counted product ∙ sym (counted-times c (a * b)) ∙ ap counted (sym turned)

elements_more : (a b c : ℕ) → counted (a + counted (b + c)) ≡ counted (counted (a + b) + c)
elements_more a b c = omega arith

same_counted : {T : Type 0} (v w : T) (c d e f : ℕ) → v ≡ w → c ≡ d → e ≡ f → (let x : Counted T = record { value = v; choices = c; elements = e } in x) ≡ (record { value = w; choices = d; elements = f })
same_counted v w c d e f p q r = rw (p, q, r) refl

-- what is read side by side
pub record AreBoth {T U V : Type 0} (f : T → U → V) (c : Option (Counted T)) (d : Option (Counted U)) (whole : Counted V) : Type 0 where
  pub left : Counted T
  pub right : Counted U
  pub left_is : c ≡ Some left
  pub right_is : d ≡ Some right
  pub whole_is : whole ≡ beside f left right

pub both_from_join : {T U V : Type 0} (f : T → U → V) (c : Option (Counted T)) (d : Option (Counted U)) (whole : Counted V) → join f c d ≡ Some whole → AreBoth f c d whole
both_from_join f None d whole e = absurd (let x : ⊥ = cc in x)
both_from_join f (Some c) None whole e = absurd (let x : ⊥ = cc in x)
both_from_join f (Some c) (Some d) whole e = record { left = c; right = d; left_is = refl; right_is = refl; whole_is = cc }

module _ {T : Type 0} where
  -- the parts of which a body has been read, and those that follow
  abbrev pub and_then : Counted (List T) → Counted (List T) → Counted (List T)
  and_then = beside (λ xs ys. xs ++ ys)

  abbrev pub before : Counted T → Counted (List T) → Counted (List T)
  before = beside (λ x xs. x ∷ xs)

  abbrev pub with_last : Counted (List T) → Counted T → Counted (List T)
  with_last = beside (λ xs x. xs ++ x ∷ [])

  pub one_more : (body : Counted (List T)) (part : Counted T) (rest : Counted (List T)) → and_then body (before part rest) ≡ and_then (with_last body part) rest
  one_more body part rest = same_counted _ _ _ _ _ _ (sym (append_assoc body.value (part.value ∷ []) rest.value)) (choices_more body.choices part.choices rest.choices) (elements_more body.elements part.elements rest.elements)

  pub last_one : (body : Counted (List T)) (part : Counted T) → and_then body (before part (alone [])) ≡ with_last body part
  last_one body part =
      let choices : part.choices * 1 ≡ part.choices = omega arith in
      same_counted _ _ _ _ _ _ refl (counted-times body.choices (part.choices * 1) ∙ ap (λ n. counted (body.choices * n)) choices) (omega arith)

  pub nothing_before : (part : Counted T) (rest : Counted (List T)) → before part rest ≡ and_then (alone []) (before part rest)
  nothing_before part rest = same_counted _ _ _ _ _ _ refl (omega arith) (omega arith)
