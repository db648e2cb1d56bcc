use Rattle.std.proofs.Common.{◌≡◌, ◌+◌, ℕ, ◌++◌, ◌∷◌, [], List, Contains, subst, sym, ap, ◌∙◌, take, arith}
use Rattle.std.proofs.lemmas.List.{take_all, take_more}
use Rattle.ms_cone.specs.Dependencies.{Adds}
use Rattle.ms_cone.proofs.Adding.{adds_atoms, adds_push, atoms_added}
use Rattle.ms_cone.proofs.dependencies.Dependencies.add_atoms.Goals as goal

pub loop-atom-preserved : goal.loop-atom-preserved
loop-atom-preserved c =
    let atoms = c.args.atoms.now in
    let head = c.args.head in
    let i = c.loop-atom.atom-index in
    let atom = c.atom-item.result in
    let more : take i atoms ++ atom ∷ [] ≡ take (i + 1) atoms = ap (λ (x : ℕ). take i atoms ++ x ∷ []) c.atom-item.is ∙ sym (take_more atoms i atom c.loop-atom-test.true) in
    subst (λ (xs : List ℕ). Adds c.args.self.now c.add_one.new.self (λ a b. (a ≡ head) × Contains xs b)) more
    (adds_atoms c.args.self.now c.add_one.new.self head (take i atoms ++ atom ∷ [])
    (adds_push (λ b x. b ≡ x) c.args.self.now c.loop-atom.self c.add_one.new.self head (take i atoms) atom
    (atoms_added c.args.self.now c.loop-atom.self head (take i atoms) c.loop-atom.invariant) c.in_ok-add_one.ensures))

pub returns : goal.returns
returns c =
    let atoms = c.args.atoms.now in
    let test = c.loop-atom-test.false in
    subst (λ (xs : List ℕ). Adds c.args.self.now c.loop-atom.self (λ a b. (a ≡ c.args.head) × Contains xs b)) (take_all c.loop-atom.atom-index atoms (omega (arith, test))) c.loop-atom.invariant
