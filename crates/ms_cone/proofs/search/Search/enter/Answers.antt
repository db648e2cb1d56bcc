use Rattle.std.proofs.Common.{◌≡◌, ◌<◌, true, nat_eq, subst, sym}
use Rattle.indexmap.specs.IndexSet.{insert_key}
use Rattle.ms_cone.specs.Search.{Found, Enters}
use Rattle.ms_cone.proofs.Entering.{entered, found_more}
use Rattle.ms_cone.proofs.search.Search.enter.Goals as goal

pub invariant_of-self-2 : goal.invariant_of-self-2
invariant_of-self-2 c =
    let old : Found = record { atoms = c.self.inside.atoms; members = c.self.inside.members.keys; edges = c.self.inside.edges; visited = c.self.inside.visited } in
    let new = c.insert_full.new.self.keys in
    let keys = subst (λ b. new ≡ insert_key nat_eq old.members b) c.atom.view_is c.in_ok-place.ensures.keys in
    let less = subst (λ (s : Found). c.args.atom < s.atoms) (sym c.self.view_is) c.requires in
    found_more old new c.args.atom keys c.self.invariant c.in_ok-place.ensures.unique less

pub returns : goal.returns
returns c =
    let old : Found = record { atoms = c.self.inside.atoms; members = c.self.inside.members.keys; edges = c.self.inside.edges; visited = c.self.inside.visited } in
    let new = c.insert_full.new.self.keys in
    let keys = subst (λ b. new ≡ insert_key nat_eq old.members b) c.atom.view_is c.in_ok-place.ensures.keys in
    let stored = c.in_ok-place.ensures.stored in
    let equal = subst (λ b. nat_eq b stored.0 ≡ true) c.atom.view_is stored.2 in
    subst (λ (now : Found). Enters now (record { atoms = old.atoms; members = new; edges = old.edges; visited = old.visited }) c.args.atom c.in_ok-place.place) c.self.view_is
    (entered old new c.args.atom c.in_ok-place.place stored.0 keys c.self.invariant stored.1 equal)
