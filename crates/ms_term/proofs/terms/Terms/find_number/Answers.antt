use Rattle.std.proofs.Common.{subst, refl, to_z, of_z, w64}
use Rattle.ms_term.specs.declared.wanted.Wanted.TheVariants.{Number}
use Rattle.std.specs.Prelude.{MatchOption}
use Rattle.ms_tree.specs.Tree.{number}
use Rattle.std.proofs.Math.Facts.{to_z-of_z}
use Rattle.ms_term.specs.Tables.{trees}
use Rattle.ms_term.specs.Terms.{HasNo, IsNameOf}
use Rattle.ms_term.proofs.Finding.{looked_up}
use Rattle.ms_term.proofs.terms.Terms.find_number.Goals as goal

pub returns : goal.returns
returns c =
    let n = c.args.n in
    let table = c.self.invariant.table in
    let found = looked_up c.self.inside.words c.self.inside.table.nodes.keys table (Number (to_z w64 (of_z w64 c.args.n))) (record { word = tt; below = tt; size = refl }) c.find.result c.find.ensures.place c.find.ensures.found in
    rw (← c.self.view_is) (subst (λ z. MatchOption c.find.result (HasNo (trees c.self.inside.words c.self.inside.table.nodes.keys) (number z)) (IsNameOf (trees c.self.inside.words c.self.inside.table.nodes.keys) (number z))) (to_z-of_z c.ranges.n) found)
