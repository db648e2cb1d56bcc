-- How large terms are: what falls at each call of the printer.
use Rattle.std.proofs.Common.{◌≡◌, ℕ, suc, zero, ap, ◌+◌, ◌<◌, List, [], ◌∷◌, map, length, get_or, arith}
use Rattle.ms_grammar.specs.declared.term.TextTerm.{TextTerm}
use Rattle.ms_grammar.specs.declared.term.TextTerm.TheOpen.{TextTerm-F}
use Rattle.ms_grammar.specs.declared.term.TextTerm.TheFolds.{fold-TextTerm}

abbrev pub sizes : List ℕ → ℕ
sizes [] = 0
sizes (n ∷ ns) = 1 + n + sizes ns

abbrev pub size_of : TextTerm-F ℕ → ℕ
size_of (TextTerm-F.Number n) = 1
size_of (TextTerm-F.Text s) = 1
size_of (TextTerm-F.Function f lists) = 2 + sizes (map sizes lists)
size_of (TextTerm-F.Pool ns) = 2 + sizes ns
size_of (TextTerm-F.Interval low high) = 1 + low + high
size_of (TextTerm-F.Neg n) = 1 + n
size_of (TextTerm-F.Abs n) = 1 + n
size_of (TextTerm-F.Binary op left right) = 1 + left + right

abbrev pub term_size : TextTerm → ℕ
term_size = fold-TextTerm ℕ size_of

abbrev pub terms_size : List TextTerm → ℕ
terms_size ts = sizes (map term_size ts)

abbrev pub lists_size : List (List TextTerm) → ℕ
lists_size ls = sizes (map sizes (map (map term_size) ls))

pub size_within : (ts : List TextTerm) (i : ℕ) (t : TextTerm) → i < length ts → t ≡ get_or ts i t → term_size t < terms_size ts
size_within [] i t inside e = absurd (omega arith)
size_within (u ∷ us) zero t inside e = let same : term_size t ≡ term_size u = ap term_size e in omega arith
size_within (u ∷ us) (suc i) t inside e = omega (arith, size_within us i t (omega arith) e)

pub list_within : (ls : List (List TextTerm)) (i : ℕ) (ts : List TextTerm) → i < length ls → ts ≡ get_or ls i ts → terms_size ts < lists_size ls
list_within [] i ts inside e = absurd (omega arith)
list_within (us ∷ ls) zero ts inside e = let same : terms_size ts ≡ terms_size us = ap terms_size e in omega arith
list_within (us ∷ ls) (suc i) ts inside e = omega (arith, list_within ls i ts (omega arith) e)
