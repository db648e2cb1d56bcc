-- No two notes have one line.
use Rattle.std.proofs.Common.{◌≡◌, ℕ, Bool, List, [], ◌∷◌, ◌++◌, All, refl, sym, ap, ◌∙◌}
use Rattle.std.specs.Prelude.{Option, Some, None, Result, Ok, Err, IfOk}
use Rattle.std.proofs.lemmas.List.{append_cancel_right}
use Rattle.std.proofs.lemmas.List.Elements.{recursion_from_All}
use Rattle.ms_lits.specs.declared.lit.Lit.{Lit}
use Rattle.ms_lits.specs.declared.note.Note.{Note}
use Rattle.ms_lits.specs.declared.note.Note.TheVariants.{Atom, Body, Tuple, Aggregate, Start, Theory, Kept, Temporary, Answer, Finish}
use Rattle.ms_log.specs.declared.kind.Kind.TheVariants as kinds
use Rattle.ms_log.specs.NoteText.{number_text, literal_text, numbers_text, literals_text, words_text, note_text, IsThing, IsLiteral, IsReadable}
use Rattle.ms_log.specs.Reading.{IsReadBack, IsDeclared, IsAggregate}
use Rattle.ms_log.proofs.Numerals.{bare_number, bare_literal, number_injective, literal_injective}
use Rattle.ms_log.proofs.Items.{one_list}
use Rattle.ms_log.proofs.Colons.{one_name}
use Rattle.ms_log.proofs.Starts.{one_start}
use Rattle.ms_log.proofs.Dispatch.{kind_of_note, content_of, words_split, one_kind}

one_numbers : (ms ns : List ℕ) → All IsThing ms → All IsThing ns → numbers_text ms ≡ numbers_text ns → ms ≡ ns
one_numbers ms ns hm hn e = one_list number_text IsThing bare_number number_injective ms ns (recursion_from_All IsThing ms hm) (recursion_from_All IsThing ns hn) e

one_literals : (ks ls : List Lit) → All IsLiteral ks → All IsLiteral ls → literals_text ks ≡ literals_text ls → ks ≡ ls
one_literals ks ls hk hl e = one_list literal_text IsLiteral bare_literal literal_injective ks ls (recursion_from_All IsLiteral ks hk) (recursion_from_All IsLiteral ls hl) e

same_text : (a b : List ℕ) → 32 ∷ a ≡ 32 ∷ b → a ≡ b
same_text a b e = cc

two : {A B C : Type 0} (f : A → B → C) (a c : A) (b d : B) → a ≡ c → b ≡ d → f a b ≡ f c d
two f a c b d e g = ap (λ x. f x b) e ∙ ap (λ y. f c y) g

same_note : (m n : Note) → IsReadable m → IsReadable n → kind_of_note m ≡ kind_of_note n → content_of m ≡ content_of n → m ≡ n
same_note (Atom a) (Atom b) hm hn k e = ap Atom (same_text a b e)
same_note (Body a) (Body b) hm hn k e = ap Body (one_literals a b hm hn e)
same_note (Tuple a i) (Tuple b j) hm hn k e = let parts = one_name (a, i) (b, j) hm hn e in two Tuple a b i j parts.0 (one_numbers i j hm.1 hn.1 parts.1)
same_note (Aggregate a i) (Aggregate b j) hm hn k e = let parts = one_name (a, i) (b, j) (hm.0, hm.2) (hn.0, hn.2) e in two Aggregate a b i j parts.0 (one_numbers i j hm.2 hn.2 parts.1)
same_note (Start o a) (Start p b) hm hn k e =
    let parts = one_start o p a b (recursion_from_All IsLiteral a hm) (recursion_from_All IsLiteral b hn) e in two Start o p a b parts.0 parts.1
same_note (Theory a) (Theory b) hm hn k e = ap Theory (one_literals a b hm hn e)
same_note (Kept a) (Kept b) hm hn k e = ap Kept (one_literals a b hm hn e)
same_note (Temporary a) (Temporary b) hm hn k e = ap Temporary (one_literals a b hm hn e)
same_note (Answer a) (Answer b) hm hn k e = ap Answer (one_numbers a b hm hn e)
same_note (Finish a) (Finish b) hm hn k e = ap Finish (same_text a b e)
same_note m n hm hn k e = absurd (cc)

pub one_words : (m n : Note) → IsReadable m → IsReadable n → words_text m ≡ words_text n → m ≡ n
one_words m n hm hn e =
    let parts = one_kind (kind_of_note m) (kind_of_note n) (content_of m) (content_of n) (sym (words_split m) ∙ e ∙ words_split n) in
    same_note m n hm hn parts.0 parts.1

pub one_note : (m n : Note) → IsReadable m → IsReadable n → note_text m ≡ note_text n → m ≡ n
one_note m n hm hn e = one_words m n hm hn (append_cancel_right (words_text m) (words_text n) (10 ∷ []) e)

-- where a line is that of a note, the note is found
pub only_note : {E : Type 0} (read : Result (Option Note) E) (line words : List ℕ) → line ≡ words ++ 10 ∷ [] → IfOk read (λ found. IsReadBack words_text IsReadable words found)
    → IfOk read (λ found. (note : Note) → IsReadable note → line ≡ note_text note → found ≡ Some note)
only_note (Ok (Some m)) line words is back = λ n h e.
    let same : words ≡ words_text n = append_cancel_right words (words_text n) (10 ∷ []) (sym is ∙ e) in
    ap (λ note. Some note) (one_words m n back.0 h (sym back.1 ∙ same))
only_note (Ok None) line words is back = λ n h e.
    let same : words ≡ words_text n = append_cancel_right words (words_text n) (10 ∷ []) (sym is ∙ e) in
    absurd (back n h same)
only_note (Err e) line words is back = tt

-- the contents of notes of a kind
pub tuple_only : (note : Note) → kind_of_note note ≡ kinds.Tuple → IsReadable note → (x : List ℕ × List ℕ) × IsDeclared x × (note ≡ Tuple x.0 x.1)
tuple_only (Tuple terms conditions) k h = ((terms, conditions), h, refl)
tuple_only note k h = absurd (cc)

pub aggregate_only : (note : Note) → kind_of_note note ≡ kinds.Aggregate → IsReadable note → (x : List ℕ × List ℕ) × IsAggregate x × (note ≡ Aggregate x.0 x.1)
aggregate_only (Aggregate guards tuples) k h = ((guards, tuples), h, refl)
aggregate_only note k h = absurd (cc)

pub start_only : (note : Note) → kind_of_note note ≡ kinds.Start → IsReadable note → (x : Bool × List Lit) × All IsLiteral x.1 × (note ≡ Start x.0 x.1)
start_only (Start outside lits) k h = ((outside, lits), h, refl)
start_only note k h = absurd (cc)
