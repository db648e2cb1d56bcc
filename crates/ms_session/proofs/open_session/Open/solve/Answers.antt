use Rattle.std.proofs.Common.{◌≡◌, ◌∙◌, ◌++◌, ℕ, List, [], ◌∷◌, All, ap, length, map, subst, sym}
use Rattle.ms_call.specs.declared.command.Assumption.{Assumption}
use Rattle.ms_call.specs.declared.command.Command.TheVariants.{Solve}
use Rattle.ms_join.specs.Sets.{IsAtomSet}
use Rattle.ms_lits.specs.declared.note.Note.TheVariants.{Finish}
use Rattle.ms_machine.specs.declared.reply.Reply.TheVariants.{Solved}
use Rattle.ms_machine.specs.Machine.{IsAskOf}
use Rattle.ms_machine.specs.Replies.{ending_text}
use Rattle.ms_solving.specs.Listing.{IsListing}
use Rattle.ms_solving.specs.Showing.{shows_atom}
use Rattle.ms_term.specs.Terms.{term_at}
use Rattle.ms_session.specs.Assuming.{IsKnown}
use Rattle.ms_session.specs.Opened.{IsStep, names_of, state_in}
use Rattle.ms_session.proofs.Solved.{can_solve, sets_over_base, solve_step}
use Rattle.ms_session.proofs.open_session.Open.solve.Goals as goal

pub solve-requires-clause-join : goal.solve-requires-clause-join
solve-requires-clause-join c =
    can_solve c.args.self.now c.args.self.now.solver [] c.args.count c.args.limit c.as_slice.result.now c.in_ok-ask.ask c.requires.ready c.in_ok-ask.ensures.asks c.in_ok-ask.ensures.known c.values_are_assumed.ensures

pub listing-requires-clause-over_base : goal.listing-requires-clause-over_base
listing-requires-clause-over_base c =
    let s = c.args.self.now in
    subst (λ (sets : List (List ℕ)). All (IsAtomSet (length s.base)) sets) (sym (c.as_slice-2.ensures ∙ c.in_ok-sets.ensures))
    (sets_over_base s c.solve.new.self [] c.args.count c.args.limit c.as_slice.result.now c.in_ok-ask.ask c.requires.ready c.in_ok-ask.ensures.asks c.in_ok-ask.ensures.known c.values_are_assumed.ensures
    c.in_ok-run.run' (c.in_ok-run.ensures.solves s.join c.requires.ready.whole.fit.serves))

pub returns : goal.returns
returns c =
    let s = c.args.self.now in
    let run = c.in_ok-run.run' in
    let limit = c.args.limit in
    let is : IsAskOf (state_in s) c.args.count limit c.args.assume.now c.in_ok-ask.ask =
    subst (λ (assume : List Assumption). IsAskOf (state_in s) c.args.count limit assume c.in_ok-ask.ask) c.as_slice.ensures c.in_ok-ask.ensures.asks in
    let known : All (IsKnown (names_of s)) c.args.assume.now = subst (λ (assume : List Assumption). All (IsKnown (names_of s)) assume) c.as_slice.ensures c.in_ok-ask.ensures.known in
    let found : c.len-found.result ≡ length run.answers = c.len-found.ensures ∙ ap length c.in_ok-sets.ensures in
    let log : c.push.new.self ≡ run.notes ++ Finish (ending_text run.ending (length run.answers) limit) ∷ [] =
    c.in_ok-push.ensures.ok ∙ ap (λ (text : List ℕ). run.notes ++ Finish text ∷ []) (c.from_vec.ensures ∙ c.in_ok-ending.ensures ∙ ap (λ (n : ℕ). ending_text run.ending n limit) found) in
    let listed : IsListing (shows_atom s.parts) (names_of s) run.answers (map (map (term_at s.terms)) c.in_ok-shown.shown) =
    subst (λ (sets : List (List ℕ)). IsListing (shows_atom s.parts) (names_of s) sets (map (map (term_at s.terms)) c.in_ok-shown.shown)) (c.as_slice-2.ensures ∙ c.in_ok-sets.ensures) c.in_ok-shown.ensures.listing in
    subst (λ (n : ℕ). IsStep s (Solve c.args.count limit c.args.assume.now) (record s { solver = c.solve.new.self; notes = c.push.new.self }) (Solved run.ending n limit c.in_ok-shown.shown)) (sym found)
    (solve_step s c.solve.new.self c.push.new.self c.args.count limit c.args.assume.now c.in_ok-ask.ask c.requires.ready is known c.values_are_assumed.ensures
    run (c.in_ok-run.ensures.solves s.join c.requires.ready.whole.fit.serves) c.in_ok-shown.shown listed log
    c.in_ok-run.ensures.attached c.in_ok-run.ensures.in_step c.in_ok-shown.ensures.named)
