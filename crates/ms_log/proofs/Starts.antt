-- Whether the first item of a solve's beginning is a 0.
use Rattle.std.proofs.Common.{◌≡◌, ◌≢◌, ◌≤◌, ◌-◌, ℕ, length, take, drop, get_or, arith, Bool, true, false, List, [], ◌∷◌, ◌++◌, All, refl, sym, ap, ◌∙◌, subst}
use Rattle.std.specs.List.{AllByRecursion}
use Rattle.std.specs.Prelude.{Option, Some, None, MatchOption}
use Rattle.std.proofs.lemmas.List.{take_rest}
use Rattle.std.proofs.lemmas.List.Elements.{recursion_from_All}
use Rattle.ms_lits.specs.declared.lit.Lit.{Lit}
use Rattle.ms_log.specs.NoteText.{literal_text, literals_text, items_text, IsLiteral}
use Rattle.ms_log.specs.Reading.{IsReadBack, start_text}
use Rattle.ms_log.proofs.Items.{one_list}
use Rattle.ms_log.proofs.Numerals.{bare_literal, literal_injective, no_zero}

no_zero_first : (lits : List Lit) (rest : List ℕ) → AllByRecursion IsLiteral lits → literals_text lits ≢ 32 ∷ 48 ∷ rest
no_zero_first [] rest h e = absurd (cc)
no_zero_first (lit ∷ lits) rest h e =
    let tails : literal_text lit ++ literals_text lits ≡ 48 ∷ rest = cc in
    no_zero lit (literals_text lits) rest h.0 tails

pub one_start : (o p : Bool) (ks ls : List Lit) → AllByRecursion IsLiteral ks → AllByRecursion IsLiteral ls → start_text (o, ks) ≡ start_text (p, ls) → (o ≡ p) × (ks ≡ ls)
one_start true true ks ls hk hl e =
    let tails : literals_text ks ≡ literals_text ls = cc in
    (refl, one_list literal_text IsLiteral bare_literal literal_injective ks ls hk hl tails)
one_start true false ks ls hk hl e = absurd (no_zero_first ls (literals_text ks) hl (sym e))
one_start false true ks ls hk hl e = absurd (no_zero_first ks (literals_text ls) hk e)
one_start false false ks ls hk hl e = (refl, one_list literal_text IsLiteral bare_literal literal_injective ks ls hk hl e)

none_by : (outside : Bool) (rest : List ℕ) (lits : List Lit) → All IsLiteral lits → ((ls : List Lit) → All IsLiteral ls → rest ≢ literals_text ls) → 32 ∷ 48 ∷ rest ≢ start_text (outside, lits)
none_by true rest lits h none e = let tails : rest ≡ literals_text lits = cc in none lits h tails
none_by false rest lits h none e = no_zero_first lits rest (recursion_from_All IsLiteral lits h) (sym e)

-- a text that begins with a space and a 0
pub start_is : (text : List ℕ) → 2 ≤ length text → get_or text 0 0 ≡ 32 → get_or text 1 0 ≡ 48 → text ≡ 32 ∷ 48 ∷ take (length text - 2) (drop 2 text)
start_is [] some a b = absurd (omega arith)
start_is (x ∷ []) some a b = absurd (omega arith)
start_is (x ∷ y ∷ xs) some a b =
    let rest : take (length (x ∷ y ∷ xs) - 2) xs ≡ xs = take_rest (x ∷ y ∷ xs) 2 in
    ap (λ c. c ∷ y ∷ xs) a ∙ ap (λ c. 32 ∷ c ∷ xs) b ∙ ap (λ ys. 32 ∷ 48 ∷ ys) (sym rest)

-- the literals behind a 0
pub start_read : (text rest : List ℕ) → text ≡ 32 ∷ 48 ∷ rest → (found : Option (List Lit)) → IsReadBack (items_text literal_text) (All IsLiteral) rest found → (result : Option (Bool × List Lit)) → MatchOption found (result ≡ None) (λ lits. result ≡ Some (true, lits))
    → IsReadBack start_text (λ start. All IsLiteral start.1) text result
start_read text rest is (Some lits) found result made =
    subst (λ r. IsReadBack start_text (λ start. All IsLiteral start.1) text r) (sym made) (found.0, is ∙ ap (λ xs. 32 ∷ 48 ∷ xs) found.1)
start_read text rest is None found result made =
    subst (λ r. IsReadBack start_text (λ start. All IsLiteral start.1) text r) (sym made)
    (λ start h e. none_by start.0 rest start.1 h found (sym is ∙ e))
