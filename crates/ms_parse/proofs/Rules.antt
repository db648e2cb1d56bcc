-- Rules, from their heads and what follows them.
use Rattle.std.proofs.Common.{◌≡◌, List, [], ◌++◌, Option, Some, None, refl, sym, ap, ◌∙◌}
use Rattle.std.specs.Option.{option_map}
use Rattle.ms_grammar.specs.declared.statement.Head.{Head as HeadForm}
use Rattle.ms_grammar.specs.declared.statement.Form.{Form}
use Rattle.ms_grammar.specs.declared.statement.Form.TheVariants.{Rule}
use Rattle.ms_grammar.specs.declared.part.Counted.{Counted}
use Rattle.ms_grammar.specs.Words.{Word}
use Rattle.ms_grammar.specs.Reading.{EndsPart}
use Rattle.ms_grammar.specs.Statements.{plain, applied, HeadPart, no_head, atom_head, choice_head, head_words, head_spelled, Tail, no_tail, empty_tail, tail, tail_words, tail_spelled, rule_spelled, join, beside}
use Rattle.ms_parse.specs.Content.{IsTail, IsRule}
use Rattle.ms_parse.proofs.Fronts.{IsSplit, HasNone}
use Rattle.ms_parse.proofs.Copies.{AreBoth, both_from_join}
use Rattle.ms_parse.proofs.Bodies.{Parts}
use Rattle.ms_parse.proofs.Tails.{ends_at_tail, nonempty, left_nonempty}

abbrev pub IsHeadSplit : List Word → Counted HeadForm → List Word → Type 0
IsHeadSplit = IsSplit HeadPart (Counted HeadForm) head_words head_spelled EndsPart

abbrev pub HasNoHead : List Word → Type 0
HasNoHead = HasNone HeadPart (Counted HeadForm) head_words head_spelled EndsPart

-- a rule isn't the lone dot
rule_spelled-join : (h : HeadPart) (t : Tail) → (head_words h ++ tail_words t ≡ [] → ⊥) → rule_spelled h t ≡ join Rule (head_spelled h) (tail_spelled t)
rule_spelled-join no_head no_tail some = absurd (some refl)
rule_spelled-join _ _ some = refl

abbrev RuleParts : HeadPart → Tail → Counted Form → Type 0
RuleParts h t whole = AreBoth Rule (head_spelled h) (tail_spelled t) whole

rule_parts : (h : HeadPart) (t : Tail) (whole : Counted Form) → rule_spelled h t ≡ Some whole → RuleParts h t whole
rule_parts no_head no_tail whole e = absurd (let f : ⊥ = cc in f)
rule_parts h t whole e = both_from_join Rule (head_spelled h) (tail_spelled t) whole e

-- what follows `no_head` in words is what the words are
lone_dot : (h : HeadPart) (t : Tail) (whole : Counted Form) → head_words h ++ tail_words t ≡ [] → rule_spelled h t ≡ Some whole → ⊥
lone_dot no_head no_tail whole words e = cc
lone_dot no_head empty_tail whole words e = cc
lone_dot no_head (tail b) whole words e = cc
lone_dot (atom_head (plain p)) t whole words e = cc
lone_dot (atom_head (applied p lists)) t whole words e = cc
lone_dot (choice_head s) t whole words e = left_nonempty _ (tail_words t) (left_nonempty _ _ (nonempty _ _ _)) words

pub rule_of_none : (ws : List Word) → ws ≡ [] → IsRule ws None
rule_of_none ws e = record { sound = tt; complete = λ r whole words spelled. absurd (lone_dot r.0 r.1 whole (words ∙ e) spelled) }

pub rule_without_head : (ws : List Word) → HasNoHead ws → IsRule ws None
rule_without_head ws none = record {
  sound = tt;
  complete = λ r whole words spelled.
      let p = rule_parts r.0 r.1 whole spelled in
      absurd (none r.0 (tail_words r.1) p.left (sym words) (ends_at_tail r.1) p.left_is);
}

module _ (ws : List Word) (head : Counted HeadForm) (after : List Word) (split : IsHeadSplit ws head after) where
  -- a rule that the words spell has the head
  record HasHead (h : HeadPart) (t : Tail) (whole : Counted Form) : Type 0 where
    pub body : Parts
    pub body_is : tail_spelled t ≡ Some body
    pub after_is : tail_words t ≡ after
    pub whole_is : whole ≡ beside Rule head body

  has_head : (h : HeadPart) (t : Tail) (whole : Counted Form) → head_words h ++ tail_words t ≡ ws → rule_spelled h t ≡ Some whole → HasHead h t whole
  has_head h t whole words spelled =
      let p = rule_parts h t whole spelled in
      let only = split.only h (tail_words t) p.left (sym words) (ends_at_tail t) p.left_is in
      record {
        body = p.right;
        body_is = p.right_is;
        after_is = only.1;
        whole_is = p.whole_is ∙ ap (λ (x : Counted HeadForm). beside Rule x p.right) only.0;
      }

  pub rule_without_tail : IsTail after None → IsRule ws None
  rule_without_tail none = record {
    sound = tt;
    complete = λ r whole words spelled.
        let p = has_head r.0 r.1 whole words spelled in
        absurd (let f : ⊥ = cc (none.complete r.1 p.body p.after_is p.body_is) in f);
  }

  pub rule_found : (ws ≡ [] → ⊥) → (body : Parts) → IsTail after (Some body) → IsRule ws (Some (beside Rule head body))
  rule_found some body h =
      let t = h.sound.derivation in
      let words : head_words split.derivation ++ tail_words t ≡ ws = sym (split.words_are ∙ ap (λ vs. head_words split.derivation ++ vs) (sym h.sound.words_are)) in
      record {
        sound = record {
          derivation = (split.derivation, t);
          words_are = words;
          spells = rule_spelled-join split.derivation t (λ e. some (sym words ∙ e)) ∙ rw (split.spells, h.sound.spells) refl;
        };
        complete = λ r whole words spelled.
            let p = has_head r.0 r.1 whole words spelled in
            let same : body ≡ p.body = cc (h.complete r.1 p.body p.after_is p.body_is) in
            ap Some (ap (λ (x : Parts). beside Rule head x) same ∙ sym p.whole_is);
      }

  pub rule_from_tail : (ws ≡ [] → ⊥) → (found : Option Parts) → IsTail after found → IsRule ws (option_map (beside Rule head) found)
  rule_from_tail some None h = rule_without_tail h
  rule_from_tail some (Some body) h = rule_found some body h
