-- A loop across modules goes through an atom of the old base that the new module heads.
use Rattle.std.proofs.Common.{◌<◌, ◌⊎◌, ℕ, zero, suc, ◌++◌, Contains, IfSome, inl, inr, subst}
use Rattle.std.proofs.lemmas.List.Elements.{All-contains}
use Rattle.ms_join.specs.declared.ground_rule.GroundRule.{GroundRule}
use Rattle.ms_join.specs.declared.ground_module.GroundModule.{GroundModule}
use Rattle.ms_join.specs.Modules.{Join, IsJoin, IsWellFormed}
use Rattle.ms_join.specs.Dependencies.{AreTogether, Depends, Walk, Reaches}
use Rattle.ms_join.specs.Composability.{LoopsWith, IsInLoop}
use Rattle.ms_join.proofs.Walks.{reaches_self, reaches_more, reaches_through}
use Rattle.ms_cone.proofs.Walks.{depends_below, depends_cases, rule_of}

-- a head of the module in the old base
pub record IsOldHead (j : Join) (m : GroundModule) (a : ℕ) : Type 0 where
  pub head : Contains m.heads a
  pub within : a < j.atoms

-- the atom is in one component with a head in the old base
pub record IsWithOldHead (j : Join) (m : GroundModule) (a : ℕ) : Type 0 where
  pub through : ℕ
  pub is_head : IsOldHead j m through
  pub together : AreTogether (j.rules ++ m.rules) a through

-- a walk from the one atom to the other passes such a head
record Passes (j : Join) (m : GroundModule) (a b : ℕ) : Type 0 where
  through : ℕ
  is_head : IsOldHead j m through
  forth : Reaches (j.rules ++ m.rules) a through
  on : Reaches (j.rules ++ m.rules) through b

-- the atom to which the walk leads is in the old base, where the walk never left it
record StaysOld (j : Join) (m : GroundModule) (a b : ℕ) : Type 0 where
  within : b < j.atoms
  reaches : Reaches (j.rules ++ m.rules) a b

new_head : (j : Join) (m : GroundModule) → IsWellFormed j.atoms m → (a b : ℕ) → Depends m.rules a b → Contains m.heads a
new_head j m formed a b depends =
    let (k, rule, within, at, is) = rule_of m.rules a b depends in
    subst (λ h. IfSome h (Contains m.heads)) is.0 (All-contains (λ (r : GroundRule). IfSome r.head (Contains m.heads)) m.rules rule formed.headed (k, within, at))

walk_old : (j : Join) (m : GroundModule) → IsJoin j → IsWellFormed j.atoms m → (steps a b : ℕ) → a < j.atoms → Walk (j.rules ++ m.rules) steps a b → Passes j m a b ⊎ StaysOld j m a b
unfolding Walk
walk_old j m is formed zero a b old walk =
    inr (record { within = subst (λ x. x < j.atoms) walk old; reaches = subst (λ x. Reaches (j.rules ++ m.rules) a x) walk (reaches_self (j.rules ++ m.rules) a) })
walk_old j m is formed (suc steps) a b old walk =
    let rules = j.rules ++ m.rules in
    let c = walk.0 in
    elim (walk_old j m is formed steps a c old walk.1) [
      | inl passes ↦ inl (record { through = passes.through; is_head = passes.is_head; forth = passes.forth; on = reaches_more rules passes.through c b passes.on walk.2 })
      | inr stays ↦ elim (depends_cases j.rules m.rules c b walk.2) [
        | inl by_old ↦ inr (record { within = (depends_below j.atoms j.rules c b is.over.rules by_old).atom; reaches = reaches_more rules a c b stays.reaches walk.2 })
        | inr by_new ↦ inl (record {
          through = c;
          is_head = record { head = new_head j m formed c b by_new; within = stays.within };
          forth = stays.reaches;
          on = reaches_more rules c c b (reaches_self rules c) walk.2;
        })
      ]
    ]

-- both atoms of a loop across modules are in one component with a head in the old base
pub record AreWithOldHead (j : Join) (m : GroundModule) (a b : ℕ) : Type 0 where
  pub new : IsWithOldHead j m a
  pub old : IsWithOldHead j m b

pub loop_has_old_head : (j : Join) (m : GroundModule) (a b : ℕ) → IsJoin j → IsWellFormed j.atoms m → Contains m.heads a → LoopsWith j m a b → AreWithOldHead j m a b
loop_has_old_head j m a b is formed head loops =
    let rules = j.rules ++ m.rules in
    let forth = loops.together.forth in
    let back = loops.together.back in
    elim (walk_old j m is formed back.steps b a loops.output.within back.walk) [
      | inl passes ↦ record {
        new = record { through = passes.through; is_head = passes.is_head; together = record { forth = reaches_through rules a b passes.through forth passes.forth; back = passes.on } };
        old = record { through = passes.through; is_head = passes.is_head; together = record { forth = passes.forth; back = reaches_through rules passes.through a b passes.on forth } };
      }
      | inr stays ↦ record {
        new = record { through = a; is_head = record { head = head; within = stays.within }; together = record { forth = reaches_self rules a; back = reaches_self rules a } };
        old = record { through = a; is_head = record { head = head; within = stays.within }; together = record { forth = back; back = forth } };
      }
    ]

-- where no head is in the old base there is no loop across modules
pub no_loop_without_old_head : (j : Join) (m : GroundModule) → IsJoin j → IsWellFormed j.atoms m → ((h : ℕ) → ¬ IsOldHead j m h) → (a : ℕ) → ¬ IsInLoop j m a
no_loop_without_old_head j m is formed none a in_loop =
    let both = loop_has_old_head j m a in_loop.loops.0 is formed in_loop.head in_loop.loops.1 in
    none both.new.through both.new.is_head
