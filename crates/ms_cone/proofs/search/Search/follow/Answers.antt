use Rattle.std.proofs.Common.{◌≡◌, ◌-◌, ap, ◌∙◌, arith}
use Rattle.std.proofs.lemmas.Option.{slice_get_within}
use Rattle.ms_cone.specs.declared.links.Link.{Link}
use Rattle.ms_cone.proofs.Following.{follows_last, follows_link, follows_links}
use Rattle.ms_cone.proofs.search.Search.follow.Goals as goal

pub loop-rest-init : goal.loop-rest-init
loop-rest-init c = record {
  within = c.chain-rest.ensures.within;
  found = c.chain-rest.ensures.found;
  follows = follows_last c.args.links.now c.args.self.now c.args.atom c.chain-rest.result.last c.chain-rest.ensures;
}

pub arrive-requires-clause-place : goal.arrive-requires-clause-place
arrive-requires-clause-place c =
    slice_get_within c.loop-rest.self.members c.args.place c.args.atom (c.loop-rest.invariant.follows.members.kept c.args.place c.args.atom c.requires.member)

pub loop-rest-preserved : goal.loop-rest-preserved
loop-rest-preserved c =
    let links = c.args.links.now in
    let mid = c.loop-rest.self in
    let rest = c.loop-rest.rest in
    let link = c.link-link.result in
    let some = c.loop-rest-test.true in
    let inside = c.loop-rest.invariant.within in
    let before = c.link-link.ensures.before in
    let less = before.within in
    let from : link.from ≡ c.args.atom = ap (λ (l : Link). l.from) c.link-link.ensures.at ∙ c.loop-rest.invariant.found (rest - 1) link (omega (arith, some)) in
    record {
      within = omega (arith, less, inside);
      found = λ k d is. before.found k d is ∙ from;
      follows = follows_link links c.args.self.now mid c.arrive.new.self c.args.atom rest link some inside c.link-link.ensures.at from before c.loop-rest.invariant.follows
          (c.in_ok-arrive.ensures c.args.atom (c.loop-rest.invariant.follows.members.kept c.args.place c.args.atom c.requires.member));
    }

pub returns : goal.returns
returns c =
    let test = c.loop-rest-test.false in
    follows_links c.args.links.now c.args.self.now c.loop-rest.self c.args.atom c.loop-rest.rest (omega (arith, test)) c.loop-rest.invariant.follows
