-- Bodies, read part by part.
use Rattle.std.proofs.Common.{◌≡◌, Bool, true, false, List, [], ◌∷◌, ◌++◌, map, Some, None, refl, sym, ap, ◌∙◌, subst}
use Rattle.ms_grammar.specs.declared.statement.BodyLit.{BodyLit}
use Rattle.ms_grammar.specs.declared.part.Counted.{Counted}
use Rattle.ms_grammar.specs.Words.{Word}
use Rattle.ms_grammar.specs.Reading.{EndsPart}
use Rattle.ms_grammar.specs.Statements.{BodyPart, body_part_words, body_part_spelled, Body, body_words, body_spelled, more_words, separator, row_of, alone}
use Rattle.ms_parse.specs.Content.{IsSpelled, IsBody, with_part}
use Rattle.ms_parse.proofs.Fronts.{IsSplit, HasNone}
use Rattle.ms_parse.proofs.Copies.{AreBoth, both_from_join, and_then, before, one_more, last_one, nothing_before}

abbrev pub Part : Type 0
Part = Counted BodyLit

abbrev pub Parts : Type 0
Parts = Counted (List BodyLit)

abbrev IsBodySpelled : List Word → Parts → Type 0
IsBodySpelled = IsSpelled Body Parts body_words body_spelled

abbrev pub IsPartSplit : List Word → Part → List Word → Type 0
IsPartSplit = IsSplit BodyPart Part body_part_words body_part_spelled EndsPart

abbrev pub HasNoPart : List Word → Type 0
HasNoPart = HasNone BodyPart Part body_part_words body_part_spelled EndsPart

ends_at_separator : (b : Bool) (ws : List Word) → EndsPart (separator b ∷ ws)
ends_at_separator true ws = refl
ends_at_separator false ws = refl

ends_at_more : (more : List (Bool × BodyPart)) → EndsPart (more_words more)
ends_at_more [] = tt
ends_at_more (part ∷ parts) = ends_at_separator part.0 (body_part_words part.1 ++ more_words parts)

-- A body that is spelled by the words that are left, where parts have been read before them.
pub record Remains (body : Parts) (rest : List Word) (whole : Parts) : Type 0 where
  pub more : Body
  pub value : Parts
  pub words_are : body_words more ≡ rest
  pub spells : body_spelled more ≡ Some value
  pub is : whole ≡ and_then body value

-- The parts have been read, and the words are left: what spells the whole is they and what the rest spells.
pub record IsReadTo (ws : List Word) (body : Parts) (rest : List Word) : Type 0 where
  pub sound : (b : Body) (value : Parts) → body_words b ≡ rest → body_spelled b ≡ Some value → IsBodySpelled ws (and_then body value)
  pub complete : (b : Body) (value : Parts) → body_words b ≡ ws → body_spelled b ≡ Some value → Remains body rest value

abbrev more_parts : Body → List BodyPart
more_parts b = map (λ part. part.1) b.more

parts_of : (b : Body) (value : Parts) → body_spelled b ≡ Some value → AreBoth (λ x xs. x ∷ xs) (body_part_spelled b.first) (row_of body_part_spelled (more_parts b)) value
parts_of b value e = both_from_join _ _ _ value e

nothing_before_body : (b : Body) (value : Parts) → body_spelled b ≡ Some value → value ≡ and_then (alone []) value
nothing_before_body b value e = let p = parts_of b value e in rw p.whole_is (nothing_before p.left p.right)

-- no part has been read
pub read_to_start : (ws : List Word) → IsReadTo ws (alone []) ws
read_to_start ws = record {
  sound = λ b value words spelled.
      subst (λ (v : Parts). IsBodySpelled ws v) (nothing_before_body b value spelled) (record { derivation = b; words_are = words; spells = spelled });
  complete = λ b value words spelled. record { more = b; value = value; words_are = words; spells = spelled; is = nothing_before_body b value spelled };
}

module _ (ws : List Word) (body : Parts) (rest : List Word) (h : IsReadTo ws body rest) where
  -- no part comes next
  pub body_without_part : HasNoPart rest → IsBody ws None
  body_without_part none = record {
    sound = tt;
    complete = λ b value words spelled.
        let r = h.complete b value words spelled in
        let p = parts_of r.more r.value r.spells in
        absurd (none r.more.first (more_words r.more.more) p.left (sym r.words_are) (ends_at_more r.more.more) p.left_is);
  }

  module _ (part : Part) (after : List Word) (split : IsPartSplit rest part after) where
    -- a body that the rest spells begins with the part
    record BeginsSo (b : Body) (value : Parts) : Type 0 where
      pub more : Parts
      pub more_is : row_of body_part_spelled (more_parts b) ≡ Some more
      pub value_is : value ≡ before part more
      pub after_is : more_words b.more ≡ after

    begins_so : (b : Body) (value : Parts) → body_words b ≡ rest → body_spelled b ≡ Some value → BeginsSo b value
    begins_so b value words spelled =
        let p = parts_of b value spelled in
        let only = split.only b.first (more_words b.more) p.left (sym words) (ends_at_more b.more) p.left_is in
        record {
          more = p.right;
          more_is = p.right_is;
          value_is = p.whole_is ∙ ap (λ (x : Part). before x p.right) only.0;
          after_is = only.1;
        }

    -- Nothing follows the part.
    last_value : (b : Body) (value : Parts) → body_words b ≡ rest → body_spelled b ≡ Some value → after ≡ [] → (more : List (Bool × BodyPart)) → more ≡ b.more → value ≡ before part (alone [])
    last_value b value words spelled nothing [] e =
        let s = begins_so b value words spelled in
        let none : row_of body_part_spelled (more_parts b) ≡ Some (alone []) = ap (λ (ps : List (Bool × BodyPart)). row_of body_part_spelled (map (λ (q : Bool × BodyPart). q.1) ps)) (sym e) in
        let same : s.more ≡ alone [] = cc in
        s.value_is ∙ ap (λ (m : Parts). before part m) same
    last_value b value words spelled nothing (p ∷ ps) e =
        let s = begins_so b value words spelled in
        let here : more_words b.more ≡ separator p.0 ∷ (body_part_words p.1 ++ more_words ps) = ap more_words (sym e) in
        absurd (let f : ⊥ = cc in f)

    pub body_at_end : after ≡ [] → IsBody ws (Some (with_part body part))
    body_at_end nothing = record {
      sound =
          let b : Body = record { first = split.derivation; more = [] } in
          let words : body_words b ≡ rest = sym (split.words_are ∙ ap (λ vs. body_part_words split.derivation ++ vs) nothing) in
          let spelled : body_spelled b ≡ Some (before part (alone [])) = rw split.spells refl in
          subst (λ (v : Parts). IsBodySpelled ws v) (last_one body part) (h.sound b (before part (alone [])) words spelled);
      complete = λ b value words spelled.
          let r = h.complete b value words spelled in
          let last = last_value r.more r.value r.words_are r.spells nothing r.more.more refl in
          ap Some (sym (r.is ∙ ap (and_then body) last ∙ last_one body part));
    }

    -- Something else than a separator follows the part.
    no_body : (b : Body) (value : Parts) → body_words b ≡ rest → body_spelled b ≡ Some value → (after ≡ [] → ⊥) → ((s : Bool) (vs : List Word) → after ≡ separator s ∷ vs → ⊥) → (more : List (Bool × BodyPart)) → more ≡ b.more → ⊥
    no_body b value words spelled some separates [] e =
        let s = begins_so b value words spelled in
        some (sym s.after_is ∙ ap more_words (sym e))
    no_body b value words spelled some separates (p ∷ ps) e =
        let s = begins_so b value words spelled in
        separates p.0 (body_part_words p.1 ++ more_words ps) (sym s.after_is ∙ ap more_words (sym e))

    pub body_not_separated : (after ≡ [] → ⊥) → ((s : Bool) (vs : List Word) → after ≡ separator s ∷ vs → ⊥) → IsBody ws None
    body_not_separated some separates = record {
      sound = tt;
      complete = λ b value words spelled.
          let r = h.complete b value words spelled in
          absurd (no_body r.more r.value r.words_are r.spells some separates r.more.more refl);
    }

    -- A separator follows the part.
    module _ (s : Bool) (rest' : List Word) (separated : after ≡ separator s ∷ rest') where
      remains_after : (b : Body) (value whole : Parts) → body_words b ≡ rest → body_spelled b ≡ Some value → whole ≡ and_then body value → (more : List (Bool × BodyPart)) → more ≡ b.more → Remains (with_part body part) rest' whole
      remains_after b value whole words spelled is [] e =
          let t = begins_so b value words spelled in
          let nothing : more_words b.more ≡ [] = ap more_words (sym e) in
          absurd (let f : ⊥ = cc in f)
      remains_after b value whole words spelled is (p ∷ ps) e =
          let t = begins_so b value words spelled in
          let here : more_words b.more ≡ separator p.0 ∷ (body_part_words p.1 ++ more_words ps) = ap more_words (sym e) in
          let more : row_of body_part_spelled (more_parts b) ≡ body_spelled (record { first = p.1; more = ps }) = ap (λ (qs : List (Bool × BodyPart)). row_of body_part_spelled (map (λ (q : Bool × BodyPart). q.1) qs)) (sym e) in
          record {
            more = record { first = p.1; more = ps };
            value = t.more;
            words_are = cc;
            spells = sym more ∙ t.more_is;
            is = is ∙ ap (and_then body) t.value_is ∙ one_more body part t.more;
          }

      pub read_to_more : IsReadTo ws (with_part body part) rest'
      read_to_more = record {
        sound = λ b value words spelled.
            let longer : Body = record { first = split.derivation; more = (s, b.first) ∷ b.more } in
            let all : body_words longer ≡ rest = sym (split.words_are ∙ ap (λ vs. body_part_words split.derivation ++ vs) (separated ∙ ap (λ vs. separator s ∷ vs) (sym words))) in
            let longer_spelled : body_spelled longer ≡ Some (before part value) = rw (split.spells, spelled) refl in
            subst (λ (v : Parts). IsBodySpelled ws v) (one_more body part value) (h.sound longer (before part value) all longer_spelled);
        complete = λ b value words spelled.
            let r = h.complete b value words spelled in
            remains_after r.more r.value value r.words_are r.spells r.is r.more.more refl;
      }
