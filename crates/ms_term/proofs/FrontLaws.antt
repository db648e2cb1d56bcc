-- Fronts of texts that are appended piece by piece.
use Rattle.std.proofs.Common.{◌≡◌, ℕ, List, [], ◌++◌, sym, ap, ◌∙◌, append-nil, append_assoc}
use Rattle.ms_term.specs.Fronts.{IsFrontOf, AppendsFront}

pub front_same : (old new : List ℕ) → new ≡ old → IsFrontOf old new
front_same old new e = record { rest = []; is = append-nil old ∙ sym e }

pub front_push : (old new more : List ℕ) → new ≡ old ++ more → IsFrontOf old new
front_push old new more e = record { rest = more; is = sym e }

pub front_then : (old mid new : List ℕ) → IsFrontOf old mid → IsFrontOf mid new → IsFrontOf old new
front_then old mid new a b = record { rest = a.rest ++ b.rest; is = sym (append_assoc old a.rest b.rest) ∙ (ap (λ xs. xs ++ b.rest) a.is ∙ b.is) }

-- nothing of the text was appended
pub nothing : (old new text : List ℕ) → new ≡ old → AppendsFront old new text
nothing old new text e = record { kept = front_same old new e; front = record { rest = text; is = ap (λ xs. xs ++ text) e } }

-- a front of a part that comes next is one of the whole
pub next_front : (old now new part after text : List ℕ) → IsFrontOf old now → now ++ (part ++ after) ≡ old ++ text → AppendsFront now new part → AppendsFront old new text
next_front old now new part after text before same part_front = record {
  kept = front_then old now new before part_front.kept;
  front = record {
    rest = part_front.front.rest ++ after;
    is = sym (append_assoc new part_front.front.rest after) ∙ (ap (λ xs. xs ++ after) part_front.front.is ∙ (append_assoc now part after ∙ same));
  };
}
