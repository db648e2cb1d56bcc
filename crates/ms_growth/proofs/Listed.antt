-- No solve lists what was ruled out.
use Rattle.std.proofs.Common.{◌≡◌, ◌∙◌, ℕ, ◌<◌, List, sym, subst}
use Rattle.std.specs.List.{All, Contains}
use Rattle.std.specs.Prelude.{IsTrue}
use Rattle.std.proofs.lemmas.Bool.{false≢true}
use Rattle.std.proofs.lemmas.Option.{slice_get_within}
use Rattle.ms_tree.specs.Tree.{Tree}
use Rattle.ms_call.specs.Items.{Item}
use Rattle.ms_call.specs.declared.command.Assumption.{Assumption}
use Rattle.ms_call.specs.declared.command.Command.{Command}
use Rattle.ms_join.specs.AnswerSets.{set_of}
use Rattle.ms_solving.specs.Listing.{HasAtom, IsAnswer}
use Rattle.ms_machine.specs.Machine.{State, Answers}
use Rattle.ms_machine.specs.Replies.{Output, Reply, listing_of}
use Rattle.ms_machine.specs.Scripts.{Run}
use Rattle.ms_released.specs.Released.{IsReached}
use Rattle.ms_released.proofs.Reaching.{orderly_reached, orderly_run}
use Rattle.ms_released.proofs.Seen.{in_set, listed_without}
use Rattle.ms_growth.specs.Growth.{IsRuledOut}
use Rattle.ms_join.specs.Possible.{cut}
use Rattle.ms_possible.proofs.Cutting.{in_cut}
use Rattle.ms_possible.proofs.FreeSets.{answer_is_possible}
use Rattle.ms_growth.proofs.Running.{names_kept, past_stays}

not_in_answer : (old mid : State) (items : List Item) (outputs : List Output) (t : Tree) (assume : List Assumption) (set : List ℕ) → IsReached old → IsRuledOut old t → Run old items outputs mid
    → IsAnswer mid.names mid.join assume set → ¬ HasAtom mid.names set t
not_in_answer old mid items outputs t assume set reached out run answer (k, b, within, at, named) =
    let was = orderly_reached old reached in
    let is = orderly_run old mid items outputs was run in
    let same : b ≡ out.atom = is.each_once b out.atom t named (names_kept old mid items outputs run out.atom t out.named) in
    let holds : IsTrue (set_of set out.atom) = in_set set out.atom (subst (Contains set) same (k, within, at)) in
    let below : out.atom < old.join.atoms = subst (λ n. out.atom < n) was.counted (slice_get_within old.names out.atom t out.named) in
    let lacks = out.in_none (cut old.join.atoms (set_of set)) (past_stays old mid items outputs (set_of set) reached run (answer_is_possible mid.join (set_of set) answer.answers)) in
    false≢true (sym lacks ∙ in_cut old.join.atoms (set_of set) out.atom below holds)

pub never_listed : (old mid new : State) (items : List Item) (outputs : List Output) (t : Tree) (command : Command) (reply : Reply)
    → IsReached old → IsRuledOut old t → Run old items outputs mid → Answers mid command reply new
    → All (λ shown. ¬ Contains shown t) (listing_of reply)
never_listed old mid new items outputs t command reply reached out run step =
    listed_without mid new t command reply (λ assume set. not_in_answer old mid items outputs t assume set reached out run) step
