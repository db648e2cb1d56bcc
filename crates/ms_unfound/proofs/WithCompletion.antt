-- A module that the completion took can be taken by the theory.
use Rattle.std.proofs.Common.{◌+◌, subst, inl, inr, refl}
use Rattle.std.specs.List.{Contains}
use Rattle.std.proofs.lemmas.List.Elements.{All-contains}
use Rattle.ms_join.specs.declared.ground_rule.GroundRule.{GroundRule}
use Rattle.ms_join.specs.AnswerSets.{IsRuleOver}
use Rattle.ms_join.specs.Things.{Body, body_of}
use Rattle.ms_join.specs.Things.Thing.{atom, body}
use Rattle.ms_things.specs.Numbers.{AreThings}
use Rattle.ms_complete.specs.Keys.{plain_body}
use Rattle.ms_complete.specs.Numbering.{IsOfRule}
use Rattle.ms_complete.proofs.Lists.{all_from, any_from}
use Rattle.ms_complete.proofs.Taking.{plain_is}
use Rattle.ms_unfound.specs.Laws.{CompletionDeclares, TakenWithCompletion}

pub completion_declares : CompletionDeclares
completion_declares base m old new store after well completes = record {
  heads = all_from (λ a. Contains new.things (atom a)) m.heads (λ a has. completes.all (atom a) (inr (inr has)));
  bodies = all_from (λ rule. Contains new.things (body (body_of rule))) m.rules (λ rule has.
      let over = All-contains (IsRuleOver (base + m.fresh)) m.rules rule well.rules has in
      subst (λ (b : Body). Contains new.things (body b)) (plain_is (base + m.fresh) rule over)
      (completes.all (body (plain_body rule)) (inr (inl (any_from (λ (r : GroundRule). IsOfRule r (body (plain_body rule))) m.rules rule has (inl (inl refl)))))));
}

pub taken_with_completion : TakenWithCompletion
taken_with_completion j joined m old new store after known taken can is_joined completes loops takes =
    let of = completes.completes j joined can is_joined in
    takes.loops j joined old.things completes.more completes.things (record {
      join = can.join;
      are = can.of.are;
      loops = loops;
      well_formed = can.well_formed;
      composable = can.composable;
      is_joined = is_joined;
      become = subst (AreThings joined) completes.things of.are;
    })
