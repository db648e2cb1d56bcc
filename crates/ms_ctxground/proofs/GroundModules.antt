-- The ground module of instances, from its parts.
use Rattle.std.proofs.Common.{◌≡◌, ℕ, ◌+◌, ◌-◌, ◌<◌, ◌≤◌, List, ◌++◌, Option, Some, None, true, length, length-append, map, get_or, refl, sym, ◌∙◌, subst, arith, ⊎_elim, inl, inr, ◌⊎◌}
use Rattle.std.proofs.lemmas.List.{length-map, map-append, get_or-append_right}
use Rattle.std.proofs.lemmas.List.Elements.{All-append, All-contains, Contains-get_or}
use Rattle.std.proofs.lemmas.Option.{slice_get_within, slice_get-get_or}
use Rattle.std.specs.Prelude.{IsSomeAnd, IfSome}
use Rattle.std.specs.List.{All, Contains, filter_map, slice_get}
use Rattle.ms_tree.specs.Tree.{Tree}
use Rattle.ms_term.specs.Terms.{term_at, AllDifferent}
use Rattle.ms_core.specs.declared.rule.RuleKind.{RuleKind}
use Rattle.ms_core.specs.declared.rule.RuleKind.TheVariants.{Normal, Choice, Constraint, External}
use Rattle.ms_join.specs.declared.ground_rule.GroundRule.{GroundRule}
use Rattle.ms_join.specs.declared.ground_rule.GroundKind.{GroundKind}
use Rattle.ms_join.specs.declared.ground_rule.GroundKind.TheVariants.{Normal as normal, Choice as choice, Constraint as constraint}
use Rattle.ms_join.specs.declared.ground_module.GroundModule.{GroundModule}
use Rattle.ms_join.specs.AnswerSets.{HasHead, IsAtomSet, IsRuleOver}
use Rattle.ms_copies.specs.Grounding.{gives_head, gives_external}
use Rattle.ms_copies.specs.Simplifying.{ground_kind, AreNumbers}
use Rattle.ms_instances.specs.declared.instance.Instance.{Instance}
use Rattle.ms_instances.specs.Instances.{said_by, AreNewBy, IsHeadAmong, IsHeaded, IsModuleBy}
use Rattle.ms_ctxground.specs.Numbering.{AreNumbersOf, IsNumberOfHead}
use Rattle.ms_ctxground.specs.LeftRules.{AreLeftInOrder, IsLeftBy}
use Rattle.ms_ctxground.specs.NewAtoms.{head_of, IsNewOf}
use Rattle.ms_instances.specs.Naming.{IsNamed}
use Rattle.ms_ctxground.specs.Growing.{IsGrownBy}
use Rattle.ms_ctxground.proofs.Heads.{to_heads, heads_below, among_from_heads, heads_from_among}
use Rattle.ms_ctxground.proofs.Members.{Contains-map, Contains-from_map}
use Rattle.ms_ctxground.proofs.NamedTerms.{left_in_terms, numbers_of_terms, one_of_names}
use Rattle.ms_ctxground.proofs.Numbered.{from_some_and, some_and}

-- ---- numbers

within_base : (base names numbers : List ℕ) → AreNumbersOf base names numbers → All (λ a. a < length base) numbers
within_base base names numbers are k d within =
    let (n, listed, there) = from_some_and (Contains names) (slice_get base (get_or numbers k d)) ((are.members (get_or numbers k d)).0 (Contains-get_or numbers k d within)) in
    slice_get_within base (get_or numbers k d) n there

atom_set : (base names numbers : List ℕ) → AreNumbersOf base names numbers → IsAtomSet (length base) numbers
atom_set base names numbers are = record { rising = are.rising; within = within_base base names numbers are }

AreNumbers-alike : (atoms : List Tree) (P Q : Tree → Type 0) → ((t : Tree) → P t → Q t) → ((t : Tree) → Q t → P t) → (numbers : List ℕ) → AreNumbers atoms P numbers → AreNumbers atoms Q numbers
AreNumbers-alike atoms P Q there back numbers are = record {
  rising = are.rising;
  members = λ a. (
    λ h. let (t, holds, at) = from_some_and P (slice_get atoms a) ((are.members a).0 h) in some_and Q (slice_get atoms a) t at (there t holds),
    λ h. let (t, holds, at) = from_some_and Q (slice_get atoms a) h in (are.members a).1 (some_and P (slice_get atoms a) t at (back t holds)),
  );
}

-- ---- heads of rules

numbered_within : (base : List ℕ) (h : ℕ) (number : Option ℕ) → IsSomeAnd number (λ a. slice_get base a ≡ Some h) → IsSomeAnd number (λ a. a < length base)
numbered_within base h None is = is
numbered_within base h (Some a) is = slice_get_within base a h is

has_head : (base : List ℕ) (kind : RuleKind) (head : Option ℕ) (left : GroundKind) (number : Option ℕ) → IsHeaded kind head → ground_kind kind ≡ Some left → IsNumberOfHead base head number → HasHead (length base) left number
has_head base Normal head left number (h, head_is) e is =
    let left_is : normal ≡ left = cc in
    subst (λ k. HasHead (length base) k number) left_is (numbered_within base h number (subst (λ o. IsNumberOfHead base o number) head_is is))
has_head base Choice head left number (h, head_is) e is =
    let left_is : choice ≡ left = cc in
    subst (λ k. HasHead (length base) k number) left_is (numbered_within base h number (subst (λ o. IsNumberOfHead base o number) head_is is))
has_head base Constraint head left number head_is e is =
    let left_is : constraint ≡ left = cc in
    subst (λ k. HasHead (length base) k number) left_is (subst (λ o. IsNumberOfHead base o number) head_is is)
has_head base External head left number headed e is = cc

gives : (kind : RuleKind) (head : Option ℕ) (left : GroundKind) (h : ℕ) → IsHeaded kind head → ground_kind kind ≡ Some left → head ≡ Some h → gives_head kind ≡ true
gives Normal head left h headed e is = refl
gives Choice head left h headed e is = refl
gives Constraint head left h none e is = cc
gives External head left h headed e is = cc

-- a head is that of an output or of an external
pub either_kind : (kind : RuleKind) (head : Option ℕ) (h : ℕ) → IsHeaded kind head → head ≡ Some h → (gives_head kind ≡ true) ⊎ (gives_external kind ≡ true)
either_kind Normal head h headed is = inl refl
either_kind Choice head h headed is = inl refl
either_kind Constraint head h none is = absurd (cc)
either_kind External head h headed is = inr refl

abbrev pub outputs_of : List Instance → List ℕ
outputs_of instances = filter_map (head_of gives_head) instances

abbrev pub externals_of : List Instance → List ℕ
externals_of instances = filter_map (head_of gives_external) instances

module _ (table : List Tree) (different : AllDifferent table) (instances : List Instance) (old : List ℕ) (m : GroundModule)
    (old_below : All (λ n. n < length table) old)
    (named : All (IsNamed (length table)) instances)
    (headed : All (λ i. IsHeaded i.kind i.head) instances)
    (are_new : IsNewOf table old (outputs_of instances) (externals_of instances) m.names) where
  abbrev new : List ℕ
  new = old ++ m.names

  names_below : All (λ n. n < length table) m.names
  names_below k d within =
      ⊎_elim
      (λ (h : Contains (outputs_of instances) (get_or m.names k d)). All-contains (λ n. n < length table) (outputs_of instances) (get_or m.names k d) (heads_below gives_head (length table) instances named) h)
      (λ (h : Contains (externals_of instances) (get_or m.names k d)). All-contains (λ n. n < length table) (externals_of instances) (get_or m.names k d) (heads_below gives_external (length table) instances named) h)
      ((are_new.members (get_or m.names k d)).0 (Contains-get_or m.names k d within)).0

  new_below : All (λ n. n < length table) new
  new_below = All-append (λ n. n < length table) old m.names old_below names_below

  to_new : (t : Tree) (n : ℕ) → Contains (outputs_of instances) n ⊎ Contains (externals_of instances) n → term_at table n ≡ t → (Contains (map (term_at table) old) t → ⊥) → Contains (map (term_at table) m.names) t
  to_new t n among alike unknown =
      subst (Contains (map (term_at table) m.names)) alike
      (Contains-map (term_at table) m.names n ((are_new.members n).1 (among, λ known. unknown (subst (Contains (map (term_at table) old)) alike (Contains-map (term_at table) old n known)))))

  new_terms : AreNewBy (map (term_at table) old) (map (said_by table) instances) (map (term_at table) m.names)
  new_terms = record {
    rising = are_new.rising;
    members = λ t. (
      λ h.
          let (n, listed, alike) = Contains-from_map (term_at table) m.names t h in
          let (among, lacks) = (are_new.members n).0 listed in (
            inr (⊎_elim
                (λ (k : Contains (outputs_of instances) n). inl (among_from_heads gives_head table instances t (subst (Contains (map (term_at table) (outputs_of instances))) alike (Contains-map (term_at table) (outputs_of instances) n k))))
                (λ (k : Contains (externals_of instances) n). inr (among_from_heads gives_external table instances t (subst (Contains (map (term_at table) (externals_of instances))) alike (Contains-map (term_at table) (externals_of instances) n k))))
                among),
            λ known. lacks (one_of_names table different old old_below n (All-contains (λ k. k < length table) m.names n names_below listed) (subst (Contains (map (term_at table) old)) (sym alike) known)),
          ),
      λ h. ⊎_elim
          (λ (k : Contains (map (term_at table) old) t). absurd (h.1 k))
          (λ (k : IsHeadAmong gives_head (map (said_by table) instances) t ⊎ IsHeadAmong gives_external (map (said_by table) instances) t). ⊎_elim
          (λ (out : IsHeadAmong gives_head (map (said_by table) instances) t).
          let (n, listed, alike) = Contains-from_map (term_at table) (outputs_of instances) t (heads_from_among gives_head table instances t out) in
          to_new t n (inl listed) alike h.1)
          (λ (ext : IsHeadAmong gives_external (map (said_by table) instances) t).
          let (n, listed, alike) = Contains-from_map (term_at table) (externals_of instances) t (heads_from_among gives_external table instances t ext) in
          to_new t n (inr listed) alike h.1)
          k)
          h.0,
    );
  }

  module _ (rules_are : AreLeftInOrder new instances m.rules)
      (heads_are : AreNumbersOf new (outputs_of instances) m.heads)
      (externals_are : AreNumbersOf new (externals_of instances) m.externals)
      (first_is : m.first_new ≡ length old) (fresh_is : m.fresh ≡ length m.names) where
    atoms_are : map (term_at table) new ≡ map (term_at table) old ++ map (term_at table) m.names
    atoms_are = map-append (term_at table) old m.names

    is_module : IsModuleBy (map (term_at table) old) (map (said_by table) instances) (map (term_at table) m.names) m
    is_module = record {
      first = first_is ∙ sym (length-map old (term_at table));
      fresh = fresh_is ∙ sym (length-map m.names (term_at table));
      new = new_terms;
      left = rw (← atoms_are) (left_in_terms table different new new_below instances m.rules named rules_are);
      heads = rw (← atoms_are) (AreNumbers-alike (map (term_at table) new) (Contains (map (term_at table) (outputs_of instances))) (IsHeadAmong gives_head (map (said_by table) instances))
          (among_from_heads gives_head table instances) (heads_from_among gives_head table instances) m.heads
          (numbers_of_terms table different new (outputs_of instances) m.heads new_below (heads_below gives_head (length table) instances named) heads_are));
      externals = rw (← atoms_are) (AreNumbers-alike (map (term_at table) new) (Contains (map (term_at table) (externals_of instances))) (IsHeadAmong gives_external (map (said_by table) instances))
          (among_from_heads gives_external table instances) (heads_from_among gives_external table instances) m.externals
          (numbers_of_terms table different new (externals_of instances) m.externals new_below (heads_below gives_external (length table) instances named) externals_are));
    }

    size_is : length new ≡ length old + m.fresh
    size_is = omega (arith, length-append old m.names)

    rule_over : (i : Instance) (g : GroundRule) → IsHeaded i.kind i.head → IsLeftBy new i g → IsRuleOver (length new) g
    rule_over i g is_headed is = record {
      head = has_head new i.kind i.head g.kind g.head is_headed is.kind is.head;
      pos = within_base new i.pos g.pos is.pos;
      neg = within_base new i.neg g.neg is.neg;
      plain = is.plain;
    }

    head_listed : (i : Instance) (g : GroundRule) (number : Option ℕ) → Contains instances i → IsHeaded i.kind i.head → ground_kind i.kind ≡ Some g.kind → (head : Option ℕ) → i.head ≡ head → IsNumberOfHead new head number → IfSome number (Contains m.heads)
    head_listed i g None listed is_headed e head head_is is = tt
    head_listed i g (Some a) listed is_headed e None head_is is = cc
    head_listed i g (Some a) listed is_headed e (Some h) head_is is =
        (heads_are.members a).1 (some_and (Contains (outputs_of instances)) (slice_get new a) h is
        (to_heads gives_head instances i h listed (gives i.kind i.head g.kind h is_headed e head_is) head_is))

    later : (a : ℕ) → length old ≤ a → a < length new → Contains m.names (get_or new a 0)
    later a low within =
        let inside : a - length old < length m.names = omega (arith, length-append old m.names) in
        subst (Contains m.names) (sym (get_or-append_right old m.names (length old) a 0 refl low)) (Contains-get_or m.names (a - length old) 0 inside)

    new_atom : (a : ℕ) → length old ≤ a → a < length old + m.fresh → Contains m.heads a ⊎ Contains m.externals a
    new_atom a low high =
        let within : a < length new = omega (arith, size_is) in
        let n : ℕ = get_or new a 0 in
        let there : slice_get new a ≡ Some n = slice_get-get_or new a 0 within in
        let listed : Contains m.names n = later a low within in
        ⊎_elim
        (λ (h : Contains (outputs_of instances) n). inl ((heads_are.members a).1 (some_and (Contains (outputs_of instances)) (slice_get new a) n there h)))
        (λ (h : Contains (externals_of instances) n). inr ((externals_are.members a).1 (some_and (Contains (externals_of instances)) (slice_get new a) n there h)))
        ((are_new.members n).0 listed).0

    pub IsGrownBy-from_parts : IsGrownBy table instances old new m
    IsGrownBy-from_parts = record {
      is = is_module;
      base = refl;
      named = new_below;
      well_formed = record {
        first = first_is;
        fresh = fresh_is;
        rules = rw (← size_is) (λ k d within.
            let (j, i, below, at, is) = rules_are.all.each k d within in
            rule_over i (get_or m.rules k d) (All-contains (λ i. IsHeaded i.kind i.head) instances i headed (j, below, at)) is);
        bodies = λ k d within.
            let (j, i, below, at, is) = rules_are.all.each k d within in
            record { pos = is.pos.rising; neg = is.neg.rising };
        heads = rw (← size_is) (atom_set new (outputs_of instances) m.heads heads_are);
        externals = rw (← size_is) (atom_set new (externals_of instances) m.externals externals_are);
        headed = λ k d within.
            let (j, i, below, at, is) = rules_are.all.each k d within in
            head_listed i (get_or m.rules k d) (get_or m.rules k d).head (j, below, at) (All-contains (λ i. IsHeaded i.kind i.head) instances i headed (j, below, at)) is.kind i.head refl is.head;
        covered = new_atom;
      };
    }
