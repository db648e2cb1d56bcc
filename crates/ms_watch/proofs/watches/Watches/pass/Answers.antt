use Rattle.std.specs.Vec.{with_item}
use Rattle.std.proofs.Common.{ℕ, inl, inr, ◌≡◌, ◌<◌, ◌++◌, ◌∷◌, [], List, Some, length, set, refl, sym, ◌∙◌, ap, subst}
use Rattle.ms_lits.specs.declared.lit.Lit.{Lit}
use Rattle.ms_lits.specs.Literals.{opposite_of}
use Rattle.ms_lits.specs.Assignment.{Assignment, HoldsIn}
use Rattle.ms_nogood.specs.Propagation.{Propagates}
use Rattle.ms_nogood.proofs.Propagation.{propagates_none}
use Rattle.ms_watch.specs.declared.lists.Watch.{Watch}
use Rattle.ms_watch.specs.declared.state.State.{State}
use Rattle.ms_watch.specs.declared.state.State.TheVariants.{Loose, Watched}
use Rattle.ms_watch.specs.Links.{Links, relinked}
use Rattle.ms_watch.specs.Watches.{Watching, list_of, state_in, pending, free, loose}
use Rattle.ms_watch.specs.Walks.{IsPassing, IsOther, WatchesLit, pending_in}
use Rattle.ms_watch.specs.Kept.{with_lit}
use Rattle.ms_watch.proofs.Passing.{other_attached}
use Rattle.ms_watch.proofs.Fates.{passing_assigned, passing_stays, passing_unwatched, passing_loosens, passing_moves, pair_there, state_set, state_else, relinked_seen}
use Rattle.ms_watch.proofs.Forced.{forced_one, assigned_holds}
use Rattle.ms_watch.proofs.watches.Watches.pass.Goals as goal
use Rattle.ms_watch.proofs.watches.Watches.pass.Goals.{in-Forces+else-awake, in-Whole+else-awake-2}

pub returns-in-Whole-clause-propagates : goal.returns-in-Whole-clause-propagates
returns-in-Whole-clause-propagates c = propagates_none c.args.store.now c.args.trail.now c.args.trail.now refl

pub returns-in-Stays-clause-propagates : goal.returns-in-Stays-clause-propagates
returns-in-Stays-clause-propagates c = propagates_none c.args.store.now c.args.trail.now c.args.trail.now refl

pub returns-in-Goes-clause-propagates : goal.returns-in-Goes-clause-propagates
returns-in-Goes-clause-propagates c = propagates_none c.args.store.now c.args.trail.now c.args.trail.now refl

pub returns-in-Moves-clause-propagates : goal.returns-in-Moves-clause-propagates
returns-in-Moves-clause-propagates c = propagates_none c.args.store.now c.args.trail.now c.args.trail.now refl

pub returns-in-Forces-2-clause-propagates : goal.returns-in-Forces-2-clause-propagates
returns-in-Forces-2-clause-propagates c = propagates_none c.args.store.now c.args.trail.now c.args.trail.now refl

pub returns-in-Stays-clause-passing : goal.returns-in-Stays-clause-passing
returns-in-Stays-clause-passing c =
    let w : Watching = c.args.self.now in
    let v : Watching = record { links = c.self.inside.lists; keys = c.self.inside.keys.items; seen = c.self.inside.seen } in
    let view : v ≡ w = c.self.view_is in
    let new : Watching = record { links = c.relink.new.self; keys = c.self.inside.keys.items; seen = c.self.inside.seen } in
    let x : Watch = record { key = c.args.watch.key; blocker = c.in-Stays.blocker } in
    let links : new.links ≡ relinked w.links pending (list_of c.args.lit) x = relinked_seen c.relink.new.self v w c.list_of.result (list_of c.args.lit) x view c.relink.ensures c.list_of.ensures.list in
    let keys : new.keys ≡ w.keys = ap (λ (u : Watching). u.keys) view in
    let seen : new.seen ≡ w.seen = ap (λ (u : Watching). u.seen) view in
    let both = passing_stays c.args.lit w c.args.store.now c.args.trail.now c.args.watch c.requires.passing c.requires.front new x links keys seen c.requires.there refl c.in-Stays.ensures.0 c.in-Stays.ensures.1 in
    both.0

pub returns-in-Stays-clause-fewer : goal.returns-in-Stays-clause-fewer
returns-in-Stays-clause-fewer c is =
    let w : Watching = c.args.self.now in
    let v : Watching = record { links = c.self.inside.lists; keys = c.self.inside.keys.items; seen = c.self.inside.seen } in
    let view : v ≡ w = c.self.view_is in
    let new : Watching = record { links = c.relink.new.self; keys = c.self.inside.keys.items; seen = c.self.inside.seen } in
    let x : Watch = record { key = c.args.watch.key; blocker = c.in-Stays.blocker } in
    let links : new.links ≡ relinked w.links pending (list_of c.args.lit) x = relinked_seen c.relink.new.self v w c.list_of.result (list_of c.args.lit) x view c.relink.ensures c.list_of.ensures.list in
    let keys : new.keys ≡ w.keys = ap (λ (u : Watching). u.keys) view in
    let seen : new.seen ≡ w.seen = ap (λ (u : Watching). u.seen) view in
    let both = passing_stays c.args.lit w c.args.store.now c.args.trail.now c.args.watch c.requires.passing c.requires.front new x links keys seen c.requires.there refl c.in-Stays.ensures.0 c.in-Stays.ensures.1 in
    both.1

pub returns-in-Goes-clause-passing : goal.returns-in-Goes-clause-passing
returns-in-Goes-clause-passing c =
    let w : Watching = c.args.self.now in
    let v : Watching = record { links = c.self.inside.lists; keys = c.self.inside.keys.items; seen = c.self.inside.seen } in
    let view : v ≡ w = c.self.view_is in
    let new : Watching = record { links = c.relink-in-Goes.new.self; keys = c.self.inside.keys.items; seen = c.self.inside.seen } in
    let links : new.links ≡ relinked w.links pending free c.args.watch = relinked_seen c.relink-in-Goes.new.self v w free free c.args.watch view c.relink-in-Goes.ensures refl in
    let keys : new.keys ≡ w.keys = ap (λ (u : Watching). u.keys) view in
    let seen : new.seen ≡ w.seen = ap (λ (u : Watching). u.seen) view in
    let both = passing_unwatched c.args.lit w c.args.store.now c.args.trail.now c.args.watch c.requires.passing c.requires.front new links keys seen c.requires.there c.in-Goes.ensures in
    both.0

pub returns-in-Goes-clause-fewer : goal.returns-in-Goes-clause-fewer
returns-in-Goes-clause-fewer c is =
    let w : Watching = c.args.self.now in
    let v : Watching = record { links = c.self.inside.lists; keys = c.self.inside.keys.items; seen = c.self.inside.seen } in
    let view : v ≡ w = c.self.view_is in
    let new : Watching = record { links = c.relink-in-Goes.new.self; keys = c.self.inside.keys.items; seen = c.self.inside.seen } in
    let links : new.links ≡ relinked w.links pending free c.args.watch = relinked_seen c.relink-in-Goes.new.self v w free free c.args.watch view c.relink-in-Goes.ensures refl in
    let keys : new.keys ≡ w.keys = ap (λ (u : Watching). u.keys) view in
    let seen : new.seen ≡ w.seen = ap (λ (u : Watching). u.seen) view in
    let both = passing_unwatched c.args.lit w c.args.store.now c.args.trail.now c.args.watch c.requires.passing c.requires.front new links keys seen c.requires.there c.in-Goes.ensures in
    both.1

pub returns-in-Moves-clause-passing : goal.returns-in-Moves-clause-passing
returns-in-Moves-clause-passing c =
    let w : Watching = c.args.self.now in
    let v : Watching = record { links = c.self.inside.lists; keys = c.self.inside.keys.items; seen = c.self.inside.seen } in
    let view : v ≡ w = c.self.view_is in
    let state : State = Watched c.in-Moves.next c.in-Moves.other in
    let new : Watching = record { links = c.relink-in-Moves.new.self; keys = (with_item c.self.inside.keys c.args.watch.key state).items; seen = c.self.inside.seen } in
    let x : Watch = record { key = c.args.watch.key; blocker = c.in-Moves.other } in
    let links : new.links ≡ relinked w.links pending (list_of c.in-Moves.next) x = relinked_seen c.relink-in-Moves.new.self v w c.list_of-in-Moves.result (list_of c.in-Moves.next) x view c.relink-in-Moves.ensures c.list_of-in-Moves.ensures.list in
    let keys : c.self.inside.keys.items ≡ w.keys = ap (λ (u : Watching). u.keys) view in
    let seen : new.seen ≡ w.seen = ap (λ (u : Watching). u.seen) view in
    let both = passing_moves c.args.lit w c.args.store.now c.args.trail.now c.args.watch c.requires.passing c.requires.front new x c.in-Moves.next c.in-Moves.other links
    (state_set w.keys new.keys c.args.watch.key state (other_attached (state_in w.keys c.args.watch.key) c.args.lit c.in-Moves.other c.in-Moves.ensures.0) (ap (λ (ks : List State). set ks c.args.watch.key state) keys))
    (state_else w.keys new.keys c.args.watch.key state (ap (λ (ks : List State). set ks c.args.watch.key state) keys))
    seen c.requires.there refl c.in-Moves.ensures.0 c.in-Moves.ensures.1 in
    both.0

pub returns-in-Moves-clause-fewer : goal.returns-in-Moves-clause-fewer
returns-in-Moves-clause-fewer c is =
    let w : Watching = c.args.self.now in
    let v : Watching = record { links = c.self.inside.lists; keys = c.self.inside.keys.items; seen = c.self.inside.seen } in
    let view : v ≡ w = c.self.view_is in
    let state : State = Watched c.in-Moves.next c.in-Moves.other in
    let new : Watching = record { links = c.relink-in-Moves.new.self; keys = (with_item c.self.inside.keys c.args.watch.key state).items; seen = c.self.inside.seen } in
    let x : Watch = record { key = c.args.watch.key; blocker = c.in-Moves.other } in
    let links : new.links ≡ relinked w.links pending (list_of c.in-Moves.next) x = relinked_seen c.relink-in-Moves.new.self v w c.list_of-in-Moves.result (list_of c.in-Moves.next) x view c.relink-in-Moves.ensures c.list_of-in-Moves.ensures.list in
    let keys : c.self.inside.keys.items ≡ w.keys = ap (λ (u : Watching). u.keys) view in
    let seen : new.seen ≡ w.seen = ap (λ (u : Watching). u.seen) view in
    let both = passing_moves c.args.lit w c.args.store.now c.args.trail.now c.args.watch c.requires.passing c.requires.front new x c.in-Moves.next c.in-Moves.other links
    (state_set w.keys new.keys c.args.watch.key state (other_attached (state_in w.keys c.args.watch.key) c.args.lit c.in-Moves.other c.in-Moves.ensures.0) (ap (λ (ks : List State). set ks c.args.watch.key state) keys))
    (state_else w.keys new.keys c.args.watch.key state (ap (λ (ks : List State). set ks c.args.watch.key state) keys))
    seen c.requires.there refl c.in-Moves.ensures.0 c.in-Moves.ensures.1 in
    both.1

pub returns-in-Forces-2-clause-passing : goal.returns-in-Forces-2-clause-passing
returns-in-Forces-2-clause-passing c =
    let w : Watching = c.args.self.now in
    let v : Watching = record { links = c.self.inside.lists; keys = c.self.inside.keys.items; seen = c.self.inside.seen } in
    let view : v ≡ w = c.self.view_is in
    let new : Watching = record { links = c.relink-in-Forces-2.new.self; keys = (with_item c.self.inside.keys c.args.watch.key Loose).items; seen = c.self.inside.seen } in
    let links : new.links ≡ relinked w.links pending loose c.args.watch = relinked_seen c.relink-in-Forces-2.new.self v w loose loose c.args.watch view c.relink-in-Forces-2.ensures refl in
    let keys : c.self.inside.keys.items ≡ w.keys = ap (λ (u : Watching). u.keys) view in
    let seen : new.seen ≡ w.seen = ap (λ (u : Watching). u.seen) view in
    let some : (other : Lit) × IsOther (state_in w.keys c.args.watch.key) c.args.lit other = elim c.in-Forces-2-1.branch [
      | in-Forces+else-awake b ↦ (b.in-Forces.other, b.in-Forces.ensures.0)
      | in-Whole+else-awake-2 b ↦ (b.in-Whole.ensures.0, b.in-Whole.ensures.1)
    ] in
    let both = passing_loosens c.args.lit w c.args.store.now c.args.trail.now c.args.watch c.requires.passing c.requires.front new some.0 links
    (state_set w.keys new.keys c.args.watch.key Loose (other_attached (state_in w.keys c.args.watch.key) c.args.lit some.0 some.1) (ap (λ (ks : List State). set ks c.args.watch.key Loose) keys))
    (state_else w.keys new.keys c.args.watch.key Loose (ap (λ (ks : List State). set ks c.args.watch.key Loose) keys))
    seen c.requires.there some.1 in
    both.0

pub returns-in-Forces-2-clause-fewer : goal.returns-in-Forces-2-clause-fewer
returns-in-Forces-2-clause-fewer c is =
    let w : Watching = c.args.self.now in
    let v : Watching = record { links = c.self.inside.lists; keys = c.self.inside.keys.items; seen = c.self.inside.seen } in
    let view : v ≡ w = c.self.view_is in
    let new : Watching = record { links = c.relink-in-Forces-2.new.self; keys = (with_item c.self.inside.keys c.args.watch.key Loose).items; seen = c.self.inside.seen } in
    let links : new.links ≡ relinked w.links pending loose c.args.watch = relinked_seen c.relink-in-Forces-2.new.self v w loose loose c.args.watch view c.relink-in-Forces-2.ensures refl in
    let keys : c.self.inside.keys.items ≡ w.keys = ap (λ (u : Watching). u.keys) view in
    let seen : new.seen ≡ w.seen = ap (λ (u : Watching). u.seen) view in
    let some : (other : Lit) × IsOther (state_in w.keys c.args.watch.key) c.args.lit other = elim c.in-Forces-2-1.branch [
      | in-Forces+else-awake b ↦ (b.in-Forces.other, b.in-Forces.ensures.0)
      | in-Whole+else-awake-2 b ↦ (b.in-Whole.ensures.0, b.in-Whole.ensures.1)
    ] in
    let both = passing_loosens c.args.lit w c.args.store.now c.args.trail.now c.args.watch c.requires.passing c.requires.front new some.0 links
    (state_set w.keys new.keys c.args.watch.key Loose (other_attached (state_in w.keys c.args.watch.key) c.args.lit some.0 some.1) (ap (λ (ks : List State). set ks c.args.watch.key Loose) keys))
    (state_else w.keys new.keys c.args.watch.key Loose (ap (λ (ks : List State). set ks c.args.watch.key Loose) keys))
    seen c.requires.there some.1 in
    both.1

pub returns-in-Forces-clause-propagates : goal.returns-in-Forces-clause-propagates
returns-in-Forces-clause-propagates c =
    let w : Watching = c.args.self.now in
    let other : Lit = c.in-Forces.other in
    let is_other : IsOther (state_in w.keys c.args.watch.key) c.args.lit other = c.in-Forces.ensures.0 in
    let but = c.in-Forces.ensures.1 in
    let propagates : Propagates c.args.store.now c.args.trail.now c.assign.new.self = forced_one c.args.store.now c.args.trail.now c.assign.new.self c.args.watch.key but.lits other c.opposite.result
    (sym c.awake.ensures ∙ c.if-awake.true) but.found (pair_there c.args.lit w c.args.store.now c.args.trail.now c.args.watch c.requires.passing c.requires.front other but.lits but.found is_other).by_other.contained c.in-Forces.ensures.2 but.all c.opposite.ensures c.assign.ensures in
    propagates

pub returns-in-Forces-clause-passing : goal.returns-in-Forces-clause-passing
returns-in-Forces-clause-passing c =
    let w : Watching = c.args.self.now in
    let v : Watching = record { links = c.self.inside.lists; keys = c.self.inside.keys.items; seen = c.self.inside.seen } in
    let view : v ≡ w = c.self.view_is in
    let other : Lit = c.in-Forces.other in
    let trail : Assignment = c.assign.new.self in
    let made : trail ≡ with_lit c.args.trail.now c.opposite.result (Some c.args.watch.key) = c.assign.ensures in
    let p : IsPassing c.args.lit w c.args.store.now trail = subst (IsPassing c.args.lit w c.args.store.now) (sym made) (passing_assigned c.args.lit w c.args.store.now c.args.trail.now c.opposite.result (Some c.args.watch.key) c.requires.passing) in
    let false_now : HoldsIn trail.entries (opposite_of other) = assigned_holds c.args.trail.now trail c.opposite.result (opposite_of other) (Some c.args.watch.key) c.opposite.ensures c.in-Forces.ensures.2 made in
    let new : Watching = record { links = c.relink-in-Forces.new.self; keys = c.self.inside.keys.items; seen = c.self.inside.seen } in
    let x : Watch = record { key = c.args.watch.key; blocker = other } in
    let links : new.links ≡ relinked w.links pending (list_of c.args.lit) x = relinked_seen c.relink-in-Forces.new.self v w c.list_of-in-Forces.result (list_of c.args.lit) x view c.relink-in-Forces.ensures c.list_of-in-Forces.ensures.list in
    let keys : new.keys ≡ w.keys = ap (λ (u : Watching). u.keys) view in
    let seen : new.seen ≡ w.seen = ap (λ (u : Watching). u.seen) view in
    let both = passing_stays c.args.lit w c.args.store.now trail c.args.watch p c.requires.front new x links keys seen c.requires.there refl false_now (inr c.in-Forces.ensures.0) in
    both.0

pub returns-in-Forces-clause-fewer : goal.returns-in-Forces-clause-fewer
returns-in-Forces-clause-fewer c is =
    let w : Watching = c.args.self.now in
    let v : Watching = record { links = c.self.inside.lists; keys = c.self.inside.keys.items; seen = c.self.inside.seen } in
    let view : v ≡ w = c.self.view_is in
    let other : Lit = c.in-Forces.other in
    let trail : Assignment = c.assign.new.self in
    let made : trail ≡ with_lit c.args.trail.now c.opposite.result (Some c.args.watch.key) = c.assign.ensures in
    let p : IsPassing c.args.lit w c.args.store.now trail = subst (IsPassing c.args.lit w c.args.store.now) (sym made) (passing_assigned c.args.lit w c.args.store.now c.args.trail.now c.opposite.result (Some c.args.watch.key) c.requires.passing) in
    let false_now : HoldsIn trail.entries (opposite_of other) = assigned_holds c.args.trail.now trail c.opposite.result (opposite_of other) (Some c.args.watch.key) c.opposite.ensures c.in-Forces.ensures.2 made in
    let new : Watching = record { links = c.relink-in-Forces.new.self; keys = c.self.inside.keys.items; seen = c.self.inside.seen } in
    let x : Watch = record { key = c.args.watch.key; blocker = other } in
    let links : new.links ≡ relinked w.links pending (list_of c.args.lit) x = relinked_seen c.relink-in-Forces.new.self v w c.list_of-in-Forces.result (list_of c.args.lit) x view c.relink-in-Forces.ensures c.list_of-in-Forces.ensures.list in
    let keys : new.keys ≡ w.keys = ap (λ (u : Watching). u.keys) view in
    let seen : new.seen ≡ w.seen = ap (λ (u : Watching). u.seen) view in
    let both = passing_stays c.args.lit w c.args.store.now trail c.args.watch p c.requires.front new x links keys seen c.requires.there refl false_now (inr c.in-Forces.ensures.0) in
    both.1
