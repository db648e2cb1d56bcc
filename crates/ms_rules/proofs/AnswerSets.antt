-- An answer set is the least model of its reduct.
use Rattle.std.proofs.Common.{◌≡◌, ◌↔◌, ℕ, Bool, true, false, IsTrue, List, All, length, refl, sym, subst}
use Rattle.std.proofs.lemmas.List.{ext_get_or}
use mathlib.Core.Path.{fun_ext}
use Rattle.ms_join.specs.declared.ground_rule.Rules.{Rules}
use Rattle.ms_join.specs.AnswerSets.{Allows, IsAnswerSet, set_of}
use Rattle.ms_rules.specs.Flags.{flag_at}
use Rattle.ms_rules.specs.LeastModel.{IsLeastModel}

same_tests : (p q : Bool) → (IsTrue p → IsTrue q) → (IsTrue q → IsTrue p) → p ≡ q
same_tests true true to from = refl
same_tests true false to from = sym (to refl)
same_tests false true to from = from refl
same_tests false false to from = refl

pub IsAnswerSet-from_least : (join : Rules) (in_set derived : List Bool) → All (λ rule. Allows (flag_at in_set) rule.kind rule) join.rules → IsLeastModel join (flag_at in_set) (flag_at derived) → in_set ≡ derived → IsAnswerSet join (flag_at in_set)
IsAnswerSet-from_least join in_set derived allowed least same =
    let here : IsLeastModel join (flag_at in_set) (flag_at in_set) = subst (λ xs. IsLeastModel join (flag_at in_set) (flag_at xs)) (sym same) least in
    record { model = here.model; least = here.least.within; allowed = allowed }

pub least_from_answer_set : (join : Rules) (in_set derived : List Bool) → length in_set ≡ length derived → IsLeastModel join (flag_at in_set) (flag_at derived) → IsAnswerSet join (flag_at in_set) → in_set ≡ derived
least_from_answer_set join in_set derived same_length least answers =
    ext_get_or false in_set derived same_length
    (λ a _. same_tests (flag_at in_set a) (flag_at derived a) (answers.least (flag_at derived) least.model a) (least.least.within (flag_at in_set) answers.model a))

-- the flags of a set answer as the set does
pub answers_of_flags : (join : Rules) (flags : List Bool) (atoms given : List ℕ) (r : Bool) → given ≡ atoms → ((a : ℕ) → flag_at flags a ≡ set_of given a) → (IsTrue r ↔ IsAnswerSet join (flag_at flags)) → (IsTrue r ↔ IsAnswerSet join (set_of atoms))
answers_of_flags join flags atoms given r same_atoms same exact =
    let tests : flag_at flags ≡ set_of given = fun_ext same in
    let here : (IsTrue r ↔ IsAnswerSet join (set_of given)) = subst (λ s. (IsTrue r ↔ IsAnswerSet join s)) tests exact in
    rw (← same_atoms) here
