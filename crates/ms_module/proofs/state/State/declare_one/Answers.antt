use Rattle.std.proofs.Common.{ℕ, set, ◌≡◌, ◌≤◌, ◌<◌, ◌^◌, length, ap, sym, subst, arith}
use Rattle.ms_join.specs.Modules.{Join, IsInput}
use Rattle.ms_module.specs.Inputs.{ArePlaced}
use Rattle.ms_module.proofs.InputLaws.{inputs_few, placed_push}
use Rattle.ms_module.proofs.state.State.declare_one.Goals as goal

pub overflow_cast-place : goal.overflow_cast-place
overflow_cast-place c =
    let few : length c.self.inside.rules.inputs ≤ length c.self.inside.places.items = inputs_few c.self.inside.places.items c.self.inside.rules.inputs c.self.invariant in
    let same : length c.self.inside.places.items ≡ c.args.self.now.atoms = ap (λ (j : Join). j.atoms) c.self.view_is in
    let len : c.len-place.result ≡ length c.self.inside.rules.inputs = c.len-place.ensures in
    let room : c.args.self.now.atoms < 2 ^ 32 = c.requires.few in
    omega arith

pub invariant_of-self-2 : goal.invariant_of-self-2
invariant_of-self-2 c =
    let same : length c.self.inside.places.items ≡ c.args.self.now.atoms = ap (λ (j : Join). j.atoms) c.self.view_is in
    let below : c.a.inside.0 < length c.self.inside.places.items = subst (λ (n : ℕ). c.a.inside.0 < n) (sym same) (subst (λ (a : ℕ). a < c.args.self.now.atoms) (sym c.a.view_is) c.requires.within) in
    subst (λ (n : ℕ). ArePlaced (set c.self.inside.places.items c.a.inside.0 n) c.push.new.self) (sym c.len-place.ensures)
    (placed_push c.self.inside.places.items c.self.inside.rules.inputs c.push.new.self c.a.inside.0 _ c.self.invariant below
    (subst (λ (j : Join). ¬ IsInput j c.a.inside.0) (sym c.self.view_is) (subst (λ (a : ℕ). ¬ IsInput c.args.self.now a) (sym c.a.view_is) c.requires.new))
    c.in_ok-push.ensures.ok (sym c.a.view_is))
