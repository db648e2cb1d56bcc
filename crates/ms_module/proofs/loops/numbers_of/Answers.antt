use Rattle.std.proofs.Common.{subst, sym, ◌+◌, take, List, ℕ, HashSet, BuildHasherDefault, FoldHasher}
use Rattle.std.proofs.lemmas.List.{take_all}
use Rattle.ms_module.specs.Faults.{AreNumbersOf}
use Rattle.ms_module.proofs.ConeLoops.{numbers_more, numbers_skip}
use Rattle.ms_module.proofs.loops.numbers_of.Goals as goal
use Rattle.ms_module.proofs.loops.numbers_of.Goals.{in-Some+in_ok-insert, in_default}

pub loop-a-preserved : goal.loop-a-preserved
loop-a-preserved c =
    elim c.match-component.branch [
      | in-Some+in_ok-insert w ↦
          subst (λ (s : HashSet ℕ (BuildHasherDefault FoldHasher)). AreNumbersOf c.args.cone.now (take (c.loop-a.a-index + 1) c.args.atoms.now) s.keys) (sym w.numbers-is)
          (numbers_more c.args.cone.now c.args.atoms.now c.loop-a.numbers.keys w.insert.new.self.keys c.loop-a.a-index c.a-item.result w.in-Some.number
          c.loop-a.invariant c.loop-a-test.true c.a-item.is w.in-Some.ensures w.in_ok-insert.ensures.keys)
      | in_default w ↦
          subst (λ (s : HashSet ℕ (BuildHasherDefault FoldHasher)). AreNumbersOf c.args.cone.now (take (c.loop-a.a-index + 1) c.args.atoms.now) s.keys) (sym w.numbers-is)
          (numbers_skip c.args.cone.now c.args.atoms.now c.loop-a.numbers.keys c.loop-a.a-index c.a-item.result
          c.loop-a.invariant c.loop-a-test.true c.a-item.is w.in_default.ensures)
    ]

pub returns : goal.returns
returns c = subst (λ (seen : List ℕ). AreNumbersOf c.args.cone.now seen c.loop-a.numbers.keys) (take_all c.loop-a.a-index c.args.atoms.now c.loop-a-test.false) c.loop-a.invariant
