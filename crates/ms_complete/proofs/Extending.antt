-- The steps by which a module is taken.
use Rattle.std.proofs.Common.{◌≡◌, ◌∙◌, ◌⊎◌, ◌+◌, ◌<◌, ◌≤◌, ℕ, List, ◌++◌, length, ap, subst, inl, inr}
use Rattle.std.specs.List.{Any, Contains}
use Rattle.std.proofs.lemmas.List.Elements.{All-weaker}
use Rattle.ms_nogood.specs.Store.{Store}
use Rattle.ms_join.specs.declared.ground_rule.GroundRule.{GroundRule}
use Rattle.ms_join.specs.declared.ground_module.GroundModule.{GroundModule}
use Rattle.ms_join.specs.Things.{Thing}
use Rattle.ms_join.specs.Things.Thing.{atom}
use Rattle.ms_complete.specs.declared.key.NumberedRule.{NumberedRule}
use Rattle.ms_complete.specs.declared.key.Support.{Support}
use Rattle.ms_complete.specs.Bases.{AddsExactly}
use Rattle.ms_complete.specs.Numbering.{Numbering, AreDeclared, Declares, IsAtomOf, IsNewAtom, IsOfRule, IsFrom}
use Rattle.ms_complete.specs.Rules.{IsAtomAt, IsNumbered, NewSay, RuleSays, AreSupports, HeadSays}
use Rattle.ms_complete.specs.Sets.{Match}
use Rattle.ms_complete.specs.Completing.{Completes}
use Rattle.ms_complete.proofs.Lists.{any_weaker}
use Rattle.ms_complete.proofs.NumberLaws.{declares_then, keeps_member, numbered_stays}
use Rattle.ms_complete.proofs.Stores.{adds_then, keeps_keys}
use Rattle.ms_complete.proofs.Taking.{Declared}
use Rattle.ms_complete.proofs.Brought.{all_there}
use Rattle.ms_complete.proofs.Completed.{are_of}

-- rules stay numbered
match_stays : (a b : Numbering) (Is : Thing → Type 0) → Declares Is a b → (rules : List GroundRule) (numbered : List NumberedRule) → Match (IsNumbered a.things) rules numbered → Match (IsNumbered b.things) rules numbered
match_stays a b Is d rules numbered m = record {
  each = All-weaker (λ r. Any (λ rule. IsNumbered a.things rule r) rules) (λ r. Any (λ rule. IsNumbered b.things rule r) rules)
      (λ r some. any_weaker (λ rule. IsNumbered a.things rule r) (λ rule. IsNumbered b.things rule r) (λ rule is. numbered_stays a b Is d rule r is) rules some) numbered m.each;
  all = All-weaker (λ rule. Any (IsNumbered a.things rule) numbered) (λ rule. Any (IsNumbered b.things rule) numbered)
      (λ rule some. any_weaker (IsNumbered a.things rule) (IsNumbered b.things rule) (λ r is. numbered_stays a b Is d rule r is) numbered some) rules m.all;
}

module _ (old named atoms_in rules_in new : Numbering) (m : GroundModule) (numbered : List NumberedRule) (numbers : List ℕ) (supports : List Support) where
  pub all_declared : Declares (IsNewAtom m.first_new m.fresh) named atoms_in → ((a : ℕ) → m.first_new ≤ a → a < m.first_new + m.fresh → Contains atoms_in.things (atom a))
      → Declares (λ t. Any (λ rule. IsOfRule rule t) m.rules) atoms_in rules_in → Match (IsNumbered rules_in.things) m.rules numbered
      → Declares (IsAtomOf m.heads) rules_in new → AreDeclared new.things → Declared named new m numbered
  all_declared first there second paired third are = record {
    declares = declares_then named atoms_in new (IsNewAtom m.first_new m.fresh) (λ t. Any (λ rule. IsOfRule rule t) m.rules ⊎ IsAtomOf m.heads t) (IsFrom m) first
        (declares_then atoms_in rules_in new (λ t. Any (λ rule. IsOfRule rule t) m.rules) (IsAtomOf m.heads) (λ t. Any (λ rule. IsOfRule rule t) m.rules ⊎ IsAtomOf m.heads t) second third (λ t p. inl p) (λ t p. inr p))
        (λ t p. inl p) (λ t p. inr p);
    are = are;
    atoms = λ a least less. keeps_member rules_in new (IsAtomOf m.heads) third (atom a) (keeps_member atoms_in rules_in (λ t. Any (λ rule. IsOfRule rule t) m.rules) second (atom a) (there a least less));
    numbered = match_stays rules_in new (IsAtomOf m.heads) third m.rules numbered paired;
  }

  pub completes : (s0 s1 s2 s3 : Store) (known : ℕ) → named ≡ record { things = old.things; names = old.names ++ m.names } → Declared named new m numbered
      → Match (IsAtomAt new.things) m.heads numbers → known ≡ length old.things
      → AddsExactly s0 s1 (NewSay new.things known) → AddsExactly s1 s2 (λ n. Any (λ r. RuleSays r n) numbered) → AreSupports numbered supports
      → AddsExactly s2 s3 (λ n. Any (λ number. HeadSays supports number n) numbers) → Completes old m s0 new s3
  completes s0 s1 s2 s3 known is declared heads count bodies rules are_supports supported =
      let base : Numbering = record { things = old.things; names = old.names ++ m.names } in
      let d : Declared base new m numbered = subst (λ (n : Numbering). Declared n new m numbered) is declared in
      let said : AddsExactly s0 s1 (NewSay new.things (length old.things)) = subst (λ (k : ℕ). AddsExactly s0 s1 (NewSay new.things k)) count bodies in
      let later : AddsExactly s1 s3 (λ n. Any (λ r. RuleSays r n) numbered ⊎ Any (λ number. HeadSays supports number n) numbers) =
      adds_then s1 s2 s3 (λ n. Any (λ r. RuleSays r n) numbered) (λ n. Any (λ number. HeadSays supports number n) numbers)
      (λ n. Any (λ r. RuleSays r n) numbered ⊎ Any (λ number. HeadSays supports number n) numbers) rules supported (λ n p. p) (λ n p. inl p) (λ n p. inr p) in
      let adds : AddsExactly s0 s3 (λ n. NewSay new.things (length old.things) n ⊎ (Any (λ r. RuleSays r n) numbered ⊎ Any (λ number. HeadSays supports number n) numbers)) =
      adds_then s0 s1 s3 (NewSay new.things (length old.things)) (λ n. Any (λ r. RuleSays r n) numbered ⊎ Any (λ number. HeadSays supports number n) numbers)
      (λ n. NewSay new.things (length old.things) n ⊎ (Any (λ r. RuleSays r n) numbered ⊎ Any (λ number. HeadSays supports number n) numbers)) said later (λ n p. p) (λ n p. inl p) (λ n p. inr p) in
      record {
        more = d.declares.more;
        things = d.declares.things;
        from = d.declares.each;
        all = all_there base new m numbered numbers d heads;
        names = d.declares.names;
        keeps = keeps_keys s0 s3 (λ n. NewSay new.things (length old.things) n ⊎ (Any (λ r. RuleSays r n) numbered ⊎ Any (λ number. HeadSays supports number n) numbers)) adds;
        completes = λ j joined can joins. are_of j joined m s0 base new numbered joins can d supports are_supports numbers heads s3 adds;
      }

-- the same where the parts of the module and what was found of it are lent as slices
pub extended : (old named atoms_in rules_in new : Numbering) (m : GroundModule) (names : List ℕ) (rules : List GroundRule) (heads : List ℕ) (numbered : List NumberedRule) (numbers : List ℕ) (supports : List Support)
    → (numbered_too numbered_again : List NumberedRule) (numbers_too : List ℕ) (supports_too : List Support) (s0 s1 s2 s3 : Store) (known : ℕ)
    → names ≡ m.names → rules ≡ m.rules → heads ≡ m.heads → numbered_too ≡ numbered → numbered_again ≡ numbered → numbers_too ≡ numbers → supports_too ≡ supports
    → named ≡ record { things = old.things; names = old.names ++ names } → known ≡ length old.things
    → Declares (IsNewAtom m.first_new m.fresh) named atoms_in → ((a : ℕ) → m.first_new ≤ a → a < m.first_new + m.fresh → Contains atoms_in.things (atom a))
    → Declares (λ t. Any (λ rule. IsOfRule rule t) rules) atoms_in rules_in → Match (IsNumbered rules_in.things) rules numbered
    → Declares (IsAtomOf heads) rules_in new → Match (IsAtomAt new.things) heads numbers → AreDeclared new.things
    → AddsExactly s0 s1 (NewSay new.things known) → AddsExactly s1 s2 (λ n. Any (λ r. RuleSays r n) numbered_too) → AreSupports numbered_again supports
    → AddsExactly s2 s3 (λ n. Any (λ number. HeadSays supports_too number n) numbers_too) → Completes old m s0 new s3
extended old named atoms_in rules_in new m names rules heads numbered numbers supports numbered_too numbered_again numbers_too supports_too s0 s1 s2 s3 known
    names_is rules_is heads_is too_is again_is numbers_is supports_is named_is count first there second paired third heads_paired are bodies says are_supports supported =
    completes old named atoms_in rules_in new m numbered numbers supports s0 s1 s2 s3 known
    (named_is ∙ ap (λ (ns : List ℕ). let n : Numbering = record { things = old.things; names = old.names ++ ns } in n) names_is)
    (all_declared old named atoms_in rules_in new m numbered numbers supports first there
    (subst (λ (rs : List GroundRule). Declares (λ t. Any (λ rule. IsOfRule rule t) rs) atoms_in rules_in) rules_is second)
    (subst (λ (rs : List GroundRule). Match (IsNumbered rules_in.things) rs numbered) rules_is paired)
    (subst (λ (hs : List ℕ). Declares (IsAtomOf hs) rules_in new) heads_is third) are)
    (subst (λ (hs : List ℕ). Match (IsAtomAt new.things) hs numbers) heads_is heads_paired)
    count bodies
    (subst (λ (ns : List NumberedRule). AddsExactly s1 s2 (λ n. Any (λ r. RuleSays r n) ns)) too_is says)
    (subst (λ (ns : List NumberedRule). AreSupports ns supports) again_is are_supports)
    (subst (λ (ss : List Support). AddsExactly s2 s3 (λ n. Any (λ number. HeadSays ss number n) numbers)) supports_is
    (subst (λ (ns : List ℕ). AddsExactly s2 s3 (λ n. Any (λ number. HeadSays supports_too number n) ns)) numbers_is supported))
