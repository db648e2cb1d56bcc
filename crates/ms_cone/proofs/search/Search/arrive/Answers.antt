use Rattle.std.proofs.Common.{◌≡◌, List, subst, sym, arith}
use Rattle.std.proofs.lemmas.Option.{slice_get_within}
use Rattle.ms_graph.specs.declared.edge.Edge.{Edge}
use Rattle.ms_cone.specs.Search.{Found, IsFound, Enters, Follows}
use Rattle.ms_cone.proofs.Entering.{found_edge, grows_longer}
use Rattle.ms_cone.proofs.Following.{follows_one}
use Rattle.ms_cone.proofs.search.Search.arrive.Goals as goal

pub invariant_of-self-2 : goal.invariant_of-self-2
invariant_of-self-2 c =
    let old = c.args.self.now in
    let mid : Found = record { atoms = c.self.inside.atoms; members = c.self.inside.members.keys; edges = c.self.inside.edges; visited = c.self.inside.visited } in
    let from = c.in_ok-from.from in
    let enters = subst (λ (s : Found). Enters old s c.args.atom from) (sym c.self.view_is) c.in_ok-from.ensures in
    let longer = grows_longer old.members mid.members (λ a. a ≡ c.args.atom) enters.members in
    let place = c.requires.place in
    subst (λ (edges : List Edge). IsFound (record { atoms = mid.atoms; members = mid.members; edges = edges; visited = mid.visited })) (sym c.in_ok-push.ensures.ok)
    (found_edge mid from c.args.place c.self.invariant (slice_get_within mid.members from c.args.atom enters.at) (omega (arith, place, longer)))

pub returns : goal.returns
returns c b at =
    let old = c.args.self.now in
    let mid : Found = record { atoms = c.self.inside.atoms; members = c.self.inside.members.keys; edges = c.self.inside.edges; visited = c.self.inside.visited } in
    let from = c.in_ok-from.from in
    let enters = subst (λ (s : Found). Enters old s c.args.atom from) (sym c.self.view_is) c.in_ok-from.ensures in
    subst (λ (edges : List Edge). Follows old (record { atoms = mid.atoms; members = mid.members; edges = edges; visited = mid.visited }) b (λ a. a ≡ c.args.atom)) (sym c.in_ok-push.ensures.ok)
    (follows_one old mid c.args.atom c.args.place from b enters at)
