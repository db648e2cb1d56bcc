use Rattle.std.proofs.Common.{◌<◌, ◌∙◌, List, ℕ, length, subst, sym, Contains}
use Rattle.std.specs.List.{All}
use Rattle.std.proofs.lemmas.Option.{MatchOption-at_some, MatchOption-at_none}
use Rattle.ms_join.specs.Composability.{IsLeast}
use Rattle.ms_join.specs.Modules.{IsOutput}
use Rattle.ms_module.specs.Faults.{AreThose, AreNumbersOf, HasNumberAmong, LoopsInCone}
use Rattle.ms_module.specs.Names.{names_of}
use Rattle.ms_module.proofs.ConeLoops.{cone_loop, head_mate, no_cone_loop, head_number, those_within}
use Rattle.ms_module.proofs.join.Join.loop_in.Goals as goal

pub least-requires-clause-within : goal.least-requires-clause-within
least-requires-clause-within c =
    subst (λ (xs : List ℕ). All (λ a. a < length c.args.base.now) xs) (sym c.as_slice-2.ensures.value)
    (those_within (length c.args.base.now) c.args.heads.now c.in_ok-looping.looping.items (HasNumberAmong c.args.cone.now c.in_ok-numbers.numbers.keys) c.requires.heads c.in_ok-looping.ensures)

pub least_mate-requires-clause-outputs : goal.least_mate-requires-clause-outputs
least_mate-requires-clause-outputs c = subst (λ (xs : List ℕ). AreThose c.args.cone.now.members (IsOutput c.args.self.now) xs) (sym c.as_slice-in-Some.ensures.value) c.in_ok-outputs.ensures

pub least_mate-requires-clause-member : goal.least_mate-requires-clause-member
least_mate-requires-clause-member c =
    head_number (names_of c.args.terms.now c.args.base.now) c.args.self.now c.args.cone.now c.args.heads.now c.in_ok-outputs.outputs.items c.in_ok-numbers.numbers.keys c.in_ok-looping.looping.items c.in-Some.new_head
    c.in_ok-outputs.ensures (subst (λ (xs : List ℕ). AreNumbersOf c.args.cone.now xs c.in_ok-numbers.numbers.keys) c.as_slice.ensures.value c.in_ok-numbers.ensures) c.in_ok-looping.ensures
    (subst (λ (xs : List ℕ). IsLeast (names_of c.args.terms.now c.args.base.now) (Contains xs) c.in-Some.new_head) c.as_slice-2.ensures.value c.in-Some.ensures)

pub returns-in-Some-mate : goal.returns-in-Some-mate
returns-in-Some-mate c =
    cone_loop (names_of c.args.terms.now c.args.base.now) c.args.self.now c.args.cone.now c.args.heads.now c.in_ok-outputs.outputs.items c.in_ok-numbers.numbers.keys c.in_ok-looping.looping.items (record { new_head = c.in-Some.new_head; old = c.in-Some-mate.old })
    c.in_ok-outputs.ensures (subst (λ (xs : List ℕ). AreNumbersOf c.args.cone.now xs c.in_ok-numbers.numbers.keys) c.as_slice.ensures.value c.in_ok-numbers.ensures) c.in_ok-looping.ensures
    (subst (λ (xs : List ℕ). IsLeast (names_of c.args.terms.now c.args.base.now) (Contains xs) c.in-Some.new_head) c.as_slice-2.ensures.value c.in-Some.ensures)
    (MatchOption-at_some ((b : ℕ) → ¬ LoopsInCone c.args.self.now c.args.cone.now c.in-Some.new_head b) (IsLeast (names_of c.args.terms.now c.args.base.now) (LoopsInCone c.args.self.now c.args.cone.now c.in-Some.new_head)) c.in-Some-mate.old c.in-Some-mate.is c.in_ok-mate-in-Some.ensures)

pub returns-in-Some : goal.returns-in-Some
returns-in-Some c =
    head_mate (names_of c.args.terms.now c.args.base.now) c.args.self.now c.args.cone.now c.args.heads.now c.in_ok-outputs.outputs.items c.in_ok-numbers.numbers.keys c.in_ok-looping.looping.items c.in-Some.new_head
    c.in_ok-outputs.ensures (subst (λ (xs : List ℕ). AreNumbersOf c.args.cone.now xs c.in_ok-numbers.numbers.keys) c.as_slice.ensures.value c.in_ok-numbers.ensures) c.in_ok-looping.ensures
    (subst (λ (xs : List ℕ). IsLeast (names_of c.args.terms.now c.args.base.now) (Contains xs) c.in-Some.new_head) c.as_slice-2.ensures.value c.in-Some.ensures)
    (MatchOption-at_none ((b : ℕ) → ¬ LoopsInCone c.args.self.now c.args.cone.now c.in-Some.new_head b) (IsLeast (names_of c.args.terms.now c.args.base.now) (LoopsInCone c.args.self.now c.args.cone.now c.in-Some.new_head)) c.in-None-mate.is c.in_ok-mate-in-Some.ensures)

pub returns : goal.returns
returns c =
    no_cone_loop (names_of c.args.terms.now c.args.base.now) c.args.self.now c.args.cone.now c.args.heads.now c.in_ok-outputs.outputs.items c.in_ok-numbers.numbers.keys c.in_ok-looping.looping.items
    c.in_ok-outputs.ensures (subst (λ (xs : List ℕ). AreNumbersOf c.args.cone.now xs c.in_ok-numbers.numbers.keys) c.as_slice.ensures.value c.in_ok-numbers.ensures) c.in_ok-looping.ensures
    (sym c.as_slice-2.ensures.value ∙ c.in-None.ensures)
