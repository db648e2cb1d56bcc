-- Writes of a piece that follow one another.
use Rattle.std.proofs.Common.{◌≡◌, ℕ, ◌+◌, ◌-◌, ◌≤◌, List, ◌++◌, length, take, drop, Option, None, Some, sym, ap, ◌∙◌, arith}
use Rattle.std.proofs.lemmas.List.{append_assoc}
use Rattle.std.proofs.lemmas.Grind.{common_steps}
use Rattle.std.proofs.Math.Seq.{take-add}
use Rattle.std.specs.Io.KnownBytes.{Appends}

-- a front of the piece went out, and the rest is left to write
pub record FrontIsOut (piece rest : List ℕ) (before now : Option (List ℕ)) : Type 0 where
  pub count : ℕ
  pub within : count ≤ length piece
  pub left : rest ≡ drop count piece
  pub out : Appends before now (take count piece)

-- what is left after another front
pub left_after : (piece rest : List ℕ) (n k m : ℕ) → rest ≡ drop n piece → m ≡ length rest → take (m - k) (drop k rest) ≡ drop (n + k) piece
left_after piece rest n k m left whole = grind (arith, common_steps)

-- two fronts, one after the other
pub Appends-front : (a b c : Option (List ℕ)) (piece rest : List ℕ) (n k : ℕ) → rest ≡ drop n piece → Appends a b (take n piece) → Appends b c (take k rest) → Appends a c (take (n + k) piece)
Appends-front None b c piece rest n k left first next = tt
Appends-front (Some xs) None c piece rest n k left first next = absurd first
Appends-front (Some xs) (Some ys) None piece rest n k left first next = absurd next
Appends-front (Some xs) (Some ys) (Some zs) piece rest n k left first next =
    next ∙ ap (λ l. l ++ take k rest) first ∙ append_assoc xs (take n piece) (take k rest) ∙ ap (λ l. xs ++ (take n piece ++ take k l)) left ∙ ap (λ l. xs ++ l) (sym (take-add n k piece))
