-- The values of terms side by side, the first of which have been named.
use Rattle.std.proofs.Common.{◌≡◌, ℕ, ◌+◌, ◌<◌, ◌≤◌, List, [], ◌∷◌, ◌++◌, map, length, drop, get_or, Option, Some, None, refl, sym, ap, ◌∙◌, arith, suc, drop-cons}
use Rattle.std.proofs.Math.ListN.{drop_of_length-le}
use Rattle.std.specs.Prelude.{option_map}
use Rattle.ms_tree.specs.Tree.{Tree, Trees, tree}
use Rattle.ms_term.specs.Terms.{term_at, terms_at, AllBelow}
use Rattle.ms_grammar.specs.Terms.{both}
use Rattle.ms_core.specs.declared.pattern.Pattern.{Pattern}
use Rattle.ms_copies.specs.Evaluating.{Chosen, all_values, value}
use Rattle.ms_value.specs.Naming.{Keeps}
use Rattle.ms_value.proofs.Tables.{after, after_none, after_all, after_kept, after_push}

-- the values of the terms from a place on
abbrev pub values_from : Chosen → List Pattern → ℕ → Option Trees
values_from chosen ps i = all_values (map (value chosen) (drop i ps))

both_some : (t : Tree) (w : Option Trees) → both (λ u us. Some (tree u us)) (Some t) w ≡ option_map (tree t) w
both_some t None = refl
both_some t (Some us) = refl

cut : (ps : List Pattern) (i : ℕ) (p : Pattern) → i < length ps → p ≡ get_or ps i p → drop i ps ≡ p ∷ drop (i + 1) ps
cut ps i p h e =
    let one_more : suc i ≡ i + 1 = omega arith in
    drop-cons ps i p h ∙ ap (λ k. get_or ps i p ∷ drop k ps) one_more ∙ ap (λ q. q ∷ drop (i + 1) ps) (sym e)

next_value : (chosen : Chosen) (ps : List Pattern) (i : ℕ) (p : Pattern) → i < length ps → p ≡ get_or ps i p
    → values_from chosen ps i ≡ both (λ u us. Some (tree u us)) (value chosen p) (values_from chosen ps (i + 1))
unfolding all_values
next_value chosen ps i p h e = ap (λ qs. all_values (map (value chosen) qs)) (cut ps i p h e)

pub named_next : (old new : List Tree) (names : List ℕ) (name : ℕ) (chosen : Chosen) (ps : List Pattern) (i : ℕ) (p : Pattern)
    → i < length ps → p ≡ get_or ps i p → Keeps old new → AllBelow (length old) names → value chosen p ≡ Some (term_at new name)
    → after new (names ++ name ∷ []) (values_from chosen ps (i + 1)) ≡ after old names (values_from chosen ps i)
named_next old new names name chosen ps i p h e keeps below is =
    let rest = values_from chosen ps (i + 1) in
    let here : values_from chosen ps i ≡ option_map (tree (term_at new name)) rest =
    next_value chosen ps i p h e ∙ ap (λ v. both (λ u us. Some (tree u us)) v rest) is ∙ both_some (term_at new name) rest in
    after_push new names name rest
    ∙ after_kept old new names (option_map (tree (term_at new name)) rest) keeps below
    ∙ ap (after old names) (sym here)

pub none_here : (ts : List Tree) (names : List ℕ) (chosen : Chosen) (ps : List Pattern) (i : ℕ) (p : Pattern) (all : Option Trees)
    → i < length ps → p ≡ get_or ps i p → value chosen p ≡ None → after ts names (values_from chosen ps i) ≡ all → all ≡ None
none_here ts names chosen ps i p all h e is same =
    sym same
    ∙ ap (after ts names) (next_value chosen ps i p h e ∙ ap (λ v. both (λ u us. Some (tree u us)) v (values_from chosen ps (i + 1))) is)
    ∙ after_none ts names

pub all_named : (ts : List Tree) (names : List ℕ) (chosen : Chosen) (ps : List Pattern) (i : ℕ) (all : Option Trees)
    → length ps ≤ i → after ts names (values_from chosen ps i) ≡ all → all ≡ Some (terms_at ts names)
unfolding all_values
all_named ts names chosen ps i all h same =
    sym same
    ∙ ap (λ qs. after ts names (all_values (map (value chosen) qs))) (drop_of_length-le ps h)
    ∙ after_all ts names
