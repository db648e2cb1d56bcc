-- Which note a line is of.
use Rattle.std.proofs.Common.{◌≡◌, ℕ, ◌==◌, if◌then◌else◌, List, [], ◌∷◌, ◌++◌, Option, Some, None, refl, sym, ap, ◌∙◌, subst}
use Rattle.std.specs.Prelude.{MatchOption}
use Rattle.ms_lits.specs.declared.note.Note.{Note}
use Rattle.ms_lits.specs.declared.note.Note.TheVariants as notes
use Rattle.ms_log.specs.declared.kind.Kind.{Kind}
use Rattle.ms_log.specs.declared.kind.Kind.TheVariants.{Atom, Body, Tuple, Aggregate, Start, Theory, Kept, Temporary, Answer, Finish}
use Rattle.ms_log.specs.NoteText.{words_text, numbers_text, literals_text, IsReadable}
use Rattle.ms_log.specs.Reading.{IsReadBack, kind_text, name_text, declared_text, start_text}

-- the kind of a note, and what stands behind its words
abbrev pub kind_of_note : Note → Kind
kind_of_note (notes.Atom name) = Atom
kind_of_note (notes.Body lits) = Body
kind_of_note (notes.Tuple terms conditions) = Tuple
kind_of_note (notes.Aggregate guards tuples) = Aggregate
kind_of_note (notes.Start outside lits) = Start
kind_of_note (notes.Theory lits) = Theory
kind_of_note (notes.Kept lits) = Kept
kind_of_note (notes.Temporary lits) = Temporary
kind_of_note (notes.Answer atoms) = Answer
kind_of_note (notes.Finish ending) = Finish

abbrev pub content_of : Note → List ℕ
content_of (notes.Atom name) = name_text name
content_of (notes.Body lits) = literals_text lits
content_of (notes.Tuple terms conditions) = declared_text (terms, conditions)
content_of (notes.Aggregate guards tuples) = declared_text (guards, tuples)
content_of (notes.Start outside lits) = start_text (outside, lits)
content_of (notes.Theory lits) = literals_text lits
content_of (notes.Kept lits) = literals_text lits
content_of (notes.Temporary lits) = literals_text lits
content_of (notes.Answer atoms) = numbers_text atoms
content_of (notes.Finish ending) = name_text ending

pub words_split : (note : Note) → words_text note ≡ kind_text (kind_of_note note) ++ content_of note
words_split (notes.Atom name) = refl
words_split (notes.Body lits) = refl
words_split (notes.Tuple terms conditions) = refl
words_split (notes.Aggregate guards tuples) = refl
words_split (notes.Start outside lits) = refl
words_split (notes.Theory lits) = refl
words_split (notes.Kept lits) = refl
words_split (notes.Temporary lits) = refl
words_split (notes.Answer atoms) = refl
words_split (notes.Finish ending) = refl

-- no words of a kind begin those of another
abbrev declared_at : List ℕ → Option (Kind × List ℕ)
declared_at [] = None
declared_at (a ∷ []) = None
declared_at (a ∷ b ∷ rest) = if b == 97 then Some (Atom, rest) else if b == 98 then Some (Body, rest) else if b == 116 then Some (Tuple, rest) else Some (Aggregate, rest)

abbrev kind_at : List ℕ → Option (Kind × List ℕ)
kind_at [] = None
kind_at (a ∷ rest) = if a == 118 then declared_at rest else if a == 115 then Some (Start, rest) else if a == 120 then Some (Theory, rest) else if a == 107 then Some (Kept, rest) else if a == 116 then Some (Temporary, rest) else if a == 109 then Some (Answer, rest) else Some (Finish, rest)

kind_again : (kind : Kind) (rest : List ℕ) → kind_at (kind_text kind ++ rest) ≡ Some (kind, rest)
kind_again Atom rest = refl
kind_again Body rest = refl
kind_again Tuple rest = refl
kind_again Aggregate rest = refl
kind_again Start rest = refl
kind_again Theory rest = refl
kind_again Kept rest = refl
kind_again Temporary rest = refl
kind_again Answer rest = refl
kind_again Finish rest = refl

pair_parts : (p q : Kind × List ℕ) → Some p ≡ Some q → (p.0 ≡ q.0) × (p.1 ≡ q.1)
pair_parts p q e = let same : p ≡ q = cc in (ap (λ x. x.0) same, ap (λ x. x.1) same)

pub one_kind : (j k : Kind) (a b : List ℕ) → kind_text j ++ a ≡ kind_text k ++ b → (j ≡ k) × (a ≡ b)
one_kind j k a b e = pair_parts (j, a) (k, b) (sym (kind_again j a) ∙ ap kind_at e ∙ kind_again k b)

-- A line of a kind is read as what stands behind its words.
module _ {X : Type 0} (kind : Kind) (make : X → Note) (text : X → List ℕ) (Fits : X → Type 0)
    (is : (x : X) → words_text (make x) ≡ kind_text kind ++ text x)
    (fits : (x : X) → Fits x → IsReadable (make x))
    (only : (note : Note) → kind_of_note note ≡ kind → IsReadable note → (x : X) × Fits x × (note ≡ make x)) where
  pub kind_read : (line rest : List ℕ) → line ≡ kind_text kind ++ rest → (found : Option X) → IsReadBack text Fits rest found → (result : Option Note) → MatchOption found (result ≡ None) (λ x. result ≡ Some (make x))
      → IsReadBack words_text IsReadable line result
  kind_read line rest split (Some x) found result made =
      subst (λ r. IsReadBack words_text IsReadable line r) (sym made)
      (fits x found.0, split ∙ ap (λ xs. kind_text kind ++ xs) found.1 ∙ sym (is x))
  kind_read line rest split None found result made =
      subst (λ r. IsReadBack words_text IsReadable line r) (sym made)
      (λ note readable spelled.
      let same = one_kind (kind_of_note note) kind (content_of note) rest (sym (words_split note) ∙ sym spelled ∙ split) in
      let back = only note same.0 readable in
      let content : kind_text kind ++ rest ≡ kind_text kind ++ text back.0 = sym split ∙ spelled ∙ ap words_text back.2 ∙ is back.0 in
      found back.0 back.1 (one_kind kind kind rest (text back.0) content).1)
