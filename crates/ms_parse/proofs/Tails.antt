-- What may follow a head.
use Rattle.std.proofs.Common.{◌≡◌, List, [], ◌∷◌, ◌++◌, Option, Some, None, IfSome, refl, sym, ◌∙◌}
use Rattle.ms_text.specs.declared.token.TokenKind.TheVariants.{If}
use Rattle.ms_grammar.specs.Words.{Word, sign}
use Rattle.ms_grammar.specs.Reading.{EndsPart}
use Rattle.ms_grammar.specs.Statements.{Atom, plain, applied, atom_words, Literal, positive, negated, test, literal_words, BodyPart, literal, choice, aggregate, body_part_words, Body, body_words, more_words, Tail, no_tail, empty_tail, tail, tail_words, tail_spelled, body_spelled, alone}
use Rattle.ms_parse.specs.Content.{IsSpelled, IsBody, IsTail}
use Rattle.ms_parse.proofs.Bodies.{Parts}

pub ends_at_tail : (t : Tail) → EndsPart (tail_words t)
ends_at_tail no_tail = tt
ends_at_tail empty_tail = refl
ends_at_tail (tail b) = refl

pub nonempty : {X : Type 0} (xs : List X) (y : X) (ys : List X) → xs ++ y ∷ ys ≡ [] → ⊥
nonempty [] y ys e = cc
nonempty (x ∷ xs) y ys e = cc

pub left_nonempty : {X : Type 0} (xs ys : List X) → (xs ≡ [] → ⊥) → xs ++ ys ≡ [] → ⊥
left_nonempty [] ys h e = h refl
left_nonempty (x ∷ xs) ys h e = cc

pub right_nonempty : {X : Type 0} (xs ys : List X) → (ys ≡ [] → ⊥) → xs ++ ys ≡ [] → ⊥
right_nonempty [] ys h e = h e
right_nonempty (x ∷ xs) ys h e = cc

atom_some : (a : Atom) → atom_words a ≡ [] → ⊥
atom_some (plain p) e = cc
atom_some (applied p lists) e = cc

literal_some : (l : Literal) → literal_words l ≡ [] → ⊥
literal_some (positive a) e = atom_some a e
literal_some (negated a) e = cc
literal_some (test l kind r) e = nonempty _ (sign kind) _ e

part_some : (p : BodyPart) → body_part_words p ≡ [] → ⊥
part_some (literal l) e = literal_some l e
part_some (choice with_not s) e = right_nonempty _ _ (left_nonempty _ _ (nonempty _ _ _)) e
part_some (aggregate with_not a) e = right_nonempty _ _ (left_nonempty _ _ (nonempty _ _ _)) e

body_some : (b : Body) → body_words b ≡ [] → ⊥
body_some b e = left_nonempty (body_part_words b.first) (more_words b.more) (part_some b.first) e

nothing_after : (t : Tail) (value : Parts) → tail_words t ≡ [] → tail_spelled t ≡ Some value → Some (alone []) ≡ Some value
nothing_after no_tail value words spelled = spelled
nothing_after empty_tail value words spelled = spelled
nothing_after (tail b) value words spelled = cc

pub tail_of_none : (ws : List Word) → ws ≡ [] → IsTail ws (Some (alone []))
tail_of_none ws e = record {
  sound = record { derivation = no_tail; words_are = sym e; spells = refl };
  complete = λ t value words spelled. nothing_after t value (words ∙ e) spelled;
}

only_sign : (t : Tail) (value : Parts) → tail_words t ≡ sign If ∷ [] → tail_spelled t ≡ Some value → Some (alone []) ≡ Some value
only_sign no_tail value words spelled = spelled
only_sign empty_tail value words spelled = spelled
only_sign (tail b) value words spelled = absurd (body_some b cc)

pub tail_of_sign : (ws : List Word) → ws ≡ sign If ∷ [] → IsTail ws (Some (alone []))
tail_of_sign ws e = record {
  sound = record { derivation = empty_tail; words_are = sym e; spells = refl };
  complete = λ t value words spelled. only_sign t value (words ∙ e) spelled;
}

module _ (ws vs : List Word) (begins : ws ≡ sign If ∷ vs) (some : vs ≡ [] → ⊥) (found : Option Parts) (h : IsBody vs found) where
  body_of : (t : Tail) (value : Parts) → tail_words t ≡ ws → tail_spelled t ≡ Some value → found ≡ Some value
  body_of no_tail value words spelled = cc
  body_of empty_tail value words spelled = absurd (some cc)
  body_of (tail b) value words spelled = h.complete b value (cc) spelled

  sound_tail : (o : Option Parts) → IfSome o (IsSpelled Body Parts body_words body_spelled vs) → IfSome o (IsSpelled Tail Parts tail_words tail_spelled ws)
  sound_tail None s = tt
  sound_tail (Some value) s = record { derivation = tail s.derivation; words_are = rw s.words_are (sym begins); spells = s.spells }

  pub tail_of_body : IsTail ws found
  tail_of_body = record { sound = sound_tail found h.sound; complete = body_of }

other : (ws : List Word) → (ws ≡ [] → ⊥) → ((vs : List Word) → ws ≡ sign If ∷ vs → ⊥) → (t : Tail) → tail_words t ≡ ws → ⊥
other ws some sign_not no_tail words = some (sym words)
other ws some sign_not empty_tail words = sign_not [] (sym words)
other ws some sign_not (tail b) words = sign_not (body_words b) (sym words)

pub no_tail_of : (ws : List Word) → (ws ≡ [] → ⊥) → ((vs : List Word) → ws ≡ sign If ∷ vs → ⊥) → IsTail ws None
no_tail_of ws some sign_not = record { sound = tt; complete = λ t value words spelled. absurd (other ws some sign_not t words) }
