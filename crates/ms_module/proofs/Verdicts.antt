-- What the parts of the test of a module say of it.
use Rattle.std.proofs.Common.{◌≡◌, ◌↔◌, ℕ, ◌+◌, Bool, true, false, IsTrue, Some, None, List, [], ◌++◌, sym, ◌∙◌, subst, arith, Contains}
use Rattle.std.specs.List.{Any}
use Rattle.std.proofs.lemmas.Bool.{false≢true}
use Rattle.std.proofs.lemmas.List.Elements.{All-contains}
use Rattle.ms_tree.specs.Tree.{Tree}
use Rattle.ms_join.specs.declared.aggregate.SignedAgg.{SignedAgg}
use Rattle.ms_join.specs.declared.ground_rule.GroundRule.{GroundRule}
use Rattle.ms_join.specs.declared.ground_module.GroundModule.{GroundModule}
use Rattle.ms_join.specs.Modules.{Join, IsOutput}
use Rattle.ms_join.specs.Composability.{HasTooMany, IsTooMany, IsRecursive, IsRedefined, IsLeast, IsFirstLoop, IsComposable}
use Rattle.ms_cone.specs.Dependencies.{NeedsInSigned}
use Rattle.ms_module.specs.Bodies.{ArePlain}
use Rattle.ms_module.specs.declared.loops.CrossLoop.{CrossLoop}
use Rattle.ms_module.specs.Faults.{AreThose, FindsLoop}
use Rattle.ms_module.proofs.Leasts.{least_of}

pub is_many : (j : Join) (m : GroundModule) (n : ℕ) (rules : List GroundRule) (many : Bool) → IsTrue many ↔ HasTooMany n (j.rules ++ rules) → n ≡ j.atoms + m.fresh → rules ≡ m.rules
    → many ≡ true → IsTooMany j m
is_many j m n rules many tells atoms same is =
    subst (λ rs. HasTooMany (j.atoms + m.fresh) (j.rules ++ rs)) same (subst (λ k. HasTooMany k (j.rules ++ rules)) atoms (tells.0 is))

pub is_few : (j : Join) (m : GroundModule) (n : ℕ) (rules : List GroundRule) (many : Bool) → IsTrue many ↔ HasTooMany n (j.rules ++ rules) → n ≡ j.atoms + m.fresh → rules ≡ m.rules
    → many ≡ false → ¬ IsTooMany j m
is_few j m n rules many tells atoms same is too_many =
    false≢true (sym is ∙ tells.1 (subst (λ rs. HasTooMany n (j.rules ++ rs)) (sym same) (subst (λ k. HasTooMany k (j.rules ++ m.rules)) (sym atoms) too_many)))

pub first_redefined : (names : List Tree) (j : Join) (m : GroundModule) (heads found : List ℕ) (a : ℕ) → AreThose heads (IsOutput j) found → heads ≡ m.heads
    → IsLeast names (Contains found) a → IsLeast names (IsRedefined j m) a
first_redefined names j m heads found a those same is =
    least_of names (Contains found) (IsRedefined j m) a
    (λ b has. record { head = subst (λ xs. Contains xs b) same ((those b).0 has).0; output = ((those b).0 has).1 })
    (λ b redefined. (those b).1 (subst (λ xs. Contains xs b) (sym same) redefined.head, redefined.output)) is

pub none_redefined : (j : Join) (m : GroundModule) (heads found : List ℕ) → AreThose heads (IsOutput j) found → heads ≡ m.heads → found ≡ [] → (h : ℕ) → ¬ IsRedefined j m h
none_redefined j m heads found those same none h redefined =
    let (k, within, is) = subst (λ xs. Contains xs h) none ((those h).1 (subst (λ xs. Contains xs h) (sym same) redefined.head, redefined.output)) in
    omega arith

pub first_loop : (names : List Tree) (j : Join) (m : GroundModule) (l : CrossLoop) → ¬ IsTooMany j m → ((h : ℕ) → ¬ IsRedefined j m h) → FindsLoop names j m (Some l)
    → IsFirstLoop names j m l.new_head l.old
first_loop names j m l few different finds = record { few = few; different = different; new_head = finds.0; old = finds.1 }

-- no rule has aggregates
no_recursion : (j : Join) (m : GroundModule) → ArePlain (j.rules ++ m.rules) → (h : ℕ) → ¬ IsRecursive j m h
no_recursion j m plain h recursive =
    let (k, rule, within, at, depends) = recursive.depends in
    let empty = All-contains (λ (r : GroundRule). r.aggs ≡ []) (j.rules ++ m.rules) rule plain (k, within, at) in
    let inside : Any (NeedsInSigned recursive.other) [] = subst (λ (ss : List SignedAgg). Any (NeedsInSigned recursive.other) ss) empty depends.1 in
    let less = inside.2 in
    omega (arith, less)

pub composable : (names : List Tree) (j : Join) (m : GroundModule) → ArePlain (j.rules ++ m.rules) → ¬ IsTooMany j m → ((h : ℕ) → ¬ IsRedefined j m h) → FindsLoop names j m None → IsComposable j m
composable names j m plain few different finds = record { few = few; different = different; no_loop = finds; no_recursion = no_recursion j m plain }
