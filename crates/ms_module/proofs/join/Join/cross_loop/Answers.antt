use Rattle.std.proofs.Common.{◌≡◌, ◌<◌, ◌+◌, ◌++◌, ◌∙◌, List, ℕ, length, subst, sym, ap, arith}
use Rattle.std.specs.List.{All}
use Rattle.std.specs.Vec.{vec_len}
use Rattle.std.proofs.lemmas.Bool.Decides.{Decides-eqb}
use Rattle.ms_join.specs.declared.ground_rule.GroundRule.{GroundRule}
use Rattle.ms_join.specs.AnswerSets.{IsRuleOver}
use Rattle.ms_join.specs.Modules.{Join, IsJoin}
use Rattle.ms_cone.specs.Cones.{IsCone}
use Rattle.ms_module.specs.Faults.{AreThose, FindsInCone}
use Rattle.ms_module.specs.Names.{names_of}
use Rattle.ms_module.proofs.ConeLoops.{found_in_cone, kept_below, none_found, starts_below}
use Rattle.ms_module.proofs.join.Join.cross_loop.Goals as goal

pub around-requires-clause-old : goal.around-requires-clause-old
around-requires-clause-old c =
    let same : c.self.inside.state.atoms ≡ c.args.self.now.atoms = ap (λ (j : Join). j.atoms) c.self.view_is in
    let base : length c.args.base.now ≡ c.args.self.now.atoms + c.args.m.now.fresh = c.requires.base in
    let len : c.len.result ≡ length c.args.base.now = c.len.ensures in
    kept_below c.self.inside.state c.self.inside.dependencies c.len.result c.self.invariant.join c.self.invariant.dependencies_are (omega arith)

pub around-requires-clause-new : goal.around-requires-clause-new
around-requires-clause-new c =
    subst (λ (rules : List GroundRule). All (IsRuleOver c.len.result) rules) (sym c.as_slice-rules.ensures)
    (subst (λ (n : ℕ). All (IsRuleOver n) c.args.m.now.rules) (sym (c.len.ensures ∙ c.requires.base)) c.requires.well_formed.rules)

pub around-requires-clause-starts : goal.around-requires-clause-starts
around-requires-clause-starts c =
    let base : length c.args.base.now ≡ c.args.self.now.atoms + c.args.m.now.fresh = c.requires.base in
    let len : c.len.result ≡ length c.args.base.now = c.len.ensures in
    subst (λ (xs : List ℕ). All (λ a. a < c.len.result) xs) (sym c.as_slice-2.ensures.value)
    (starts_below c.args.self.now.atoms c.len.result c.as_slice.result.now c.in_ok-starts.starts.items (omega arith) (subst (λ (j : Join). AreThose c.as_slice.result.now (λ a. a < j.atoms) c.in_ok-starts.starts.items) c.self.view_is c.in_ok-starts.ensures))

pub loop_in-requires-clause-heads : goal.loop_in-requires-clause-heads
loop_in-requires-clause-heads c =
    subst (λ (xs : List ℕ). All (λ a. a < length c.args.base.now) xs) (sym c.as_slice-3.ensures)
    (subst (λ (n : ℕ). All (λ a. a < n) c.args.m.now.heads) (sym c.requires.base) c.requires.well_formed.heads.within)

pub loop_in-requires-clause-base : goal.loop_in-requires-clause-base
loop_in-requires-clause-base c =
    let base : length c.args.base.now ≡ c.args.self.now.atoms + c.args.m.now.fresh = c.requires.base in
    omega arith

pub returns : goal.returns
returns c =
    found_in_cone (names_of c.args.terms.now c.args.base.now) c.args.self.now c.args.m.now c.in_ok-starts.starts.items c.in_ok-cone.cone c.in_ok-found.found
    (subst IsJoin c.self.view_is c.self.invariant.join) c.requires.well_formed
    (record { all = subst (λ (xs : List ℕ). AreThose xs (λ a. a < c.args.self.now.atoms) c.in_ok-starts.starts.items) c.as_slice.ensures (subst (λ (j : Join). AreThose c.as_slice.result.now (λ a. a < j.atoms) c.in_ok-starts.starts.items) c.self.view_is c.in_ok-starts.ensures) })
    (subst (λ (xs : List ℕ). IsCone (c.args.self.now.rules ++ c.args.m.now.rules) xs c.in_ok-cone.cone) c.as_slice-2.ensures.value
    (subst (λ (rules : List GroundRule). IsCone (c.args.self.now.rules ++ rules) c.as_slice-2.result.now c.in_ok-cone.cone) c.as_slice-rules.ensures
    (subst (λ (j : Join). IsCone (j.rules ++ c.as_slice-rules.result.now) c.as_slice-2.result.now c.in_ok-cone.cone) c.self.view_is
    (c.in_ok-cone.ensures c.self.inside.state.rules c.self.invariant.dependencies_are))))
    (subst (λ (xs : List ℕ). FindsInCone (names_of c.args.terms.now c.args.base.now) c.args.self.now c.in_ok-cone.cone xs c.in_ok-found.found) c.as_slice-3.ensures c.in_ok-found.ensures)

pub returns-then-is_empty : goal.returns-then-is_empty
returns-then-is_empty c =
    let starts = c.in_ok-starts.starts in
    let none : vec_len starts ≡ 0 = (Decides-eqb (vec_len starts) 0).0 (sym c.is_empty.ensures ∙ c.if-is_empty.true) in
    let whole = starts.ok in
    none_found c.args.self.now c.args.m.now c.as_slice.result.now starts.items (subst IsJoin c.self.view_is c.self.invariant.join) c.requires.well_formed
    (subst (λ (j : Join). AreThose c.as_slice.result.now (λ a. a < j.atoms) starts.items) c.self.view_is c.in_ok-starts.ensures) c.as_slice.ensures
    (omega (arith, none, whole))
