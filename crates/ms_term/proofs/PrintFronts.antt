-- Fronts of the text of a term after want of memory.
use Rattle.std.proofs.Common.{◌≡◌, ℕ, ◌<◌, List, [], ◌∷◌, ◌++◌, get_or, length, ap, ◌∙◌, append_assoc, arith}
use Rattle.std.specs.Prelude.{Result, Ok, Err, OnErr}
use Rattle.ms_tree.specs.Text.{escaped, escaped_byte}
use Rattle.ms_term.specs.Fronts.{IsFrontOf, AppendsFront}
use Rattle.ms_term.proofs.FrontLaws.{front_push, nothing, next_front}

pub on_err : {T E : Type 0} (r : Result T E) (P : Type 0) → P → OnErr r P
on_err (Ok x) P p = tt
on_err (Err e) P p = p

-- after one more piece
pub front_after : (old now new piece part after : List ℕ) → now ≡ old ++ piece → AppendsFront now new part → AppendsFront old new (piece ++ (part ++ after))
front_after old now new piece part after e front =
    next_front old now new part after (piece ++ (part ++ after)) (front_push old now piece e) (ap (λ xs. xs ++ (part ++ after)) e ∙ append_assoc old piece (part ++ after)) front

pub string_front : (old now new bytes : List ℕ) → now ≡ old ++ 34 ∷ [] → AppendsFront now new (escaped bytes) → AppendsFront old new (34 ∷ (escaped bytes ++ 34 ∷ []))
string_front old now new bytes e front = front_after old now new (34 ∷ []) (escaped bytes) (34 ∷ []) e front

pub byte_front : (old now new bytes rest : List ℕ) (b : ℕ) → 0 < length rest → b ≡ get_or rest 0 b → IsFrontOf old now → now ++ escaped rest ≡ old ++ escaped bytes
    → AppendsFront now new (escaped_byte b) → AppendsFront old new (escaped bytes)
byte_front old now new bytes [] b h is before same front = absurd (omega arith)
byte_front old now new bytes (r ∷ rest) b h is before same front =
    next_front old now new (escaped_byte b) (escaped rest) (escaped bytes) before (ap (λ k. now ++ (escaped_byte k ++ escaped rest)) is ∙ same) front

pub name_front : (old now new name arguments : List ℕ) → now ≡ old ++ name → new ≡ now → AppendsFront old new (name ++ arguments)
name_front old now new name arguments e same = front_after old now new name [] arguments e (nothing now new [] same)
