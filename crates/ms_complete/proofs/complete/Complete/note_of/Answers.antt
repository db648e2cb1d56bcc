use Rattle.std.proofs.Common.{List, ℕ, ap, sym, subst}
use Rattle.std.specs.Prelude.{slice_get, IsSomeAnd}
use Rattle.std.specs.List.{All, Contains}
use Rattle.std.proofs.lemmas.Result.{IfOk-weaker}
use Rattle.ms_join.specs.Things.Thing.{atom, body}
use Rattle.ms_complete.specs.declared.key.ThingKey.TheVariants.{Atom, Body as BodyKey}
use Rattle.ms_complete.specs.Keys.{plain}
use Rattle.ms_complete.specs.Numbering.{Numbering, AreDeclared}
use Rattle.ms_complete.specs.Notes.{Tells, TellsAtom, TellsBody}
use Rattle.ms_complete.proofs.Lists.{some_at}
use Rattle.ms_complete.proofs.BodyLaws.{positive_declared, negated_declared}
use Rattle.ms_complete.proofs.NoteLaws.{thing_at, told_at}
use Rattle.ms_complete.proofs.complete.Complete.note_of.Goals as goal

pub atom_note-requires-clause-declared : goal.atom_note-requires-clause-declared
atom_note-requires-clause-declared c =
    let things = c.args.self.now.things in
    let at = thing_at c.self.inside.keys.keys c.as_slice.result.now things c.args.number c.index-as_slice-number.result (Atom c.in-Atom.a) c.as_slice.ensures.keys
    (ap (λ (n : Numbering). n.things) c.self.view_is) c.requires.within c.index-as_slice-number.is c.in-Atom.is in
    some_at things c.args.number (atom c.in-Atom.a) at

pub body_note-requires-clause-positive : goal.body_note-requires-clause-positive
body_note-requires-clause-positive c =
    let things = c.args.self.now.things in
    let are : AreDeclared things = subst (λ (n : Numbering). AreDeclared n.things) c.self.view_is c.self.invariant in
    let at = thing_at c.self.inside.keys.keys c.as_slice.result.now things c.args.number c.index-as_slice-number.result (BodyKey c.in-Body.pos c.in-Body.neg) c.as_slice.ensures.keys
    (ap (λ (n : Numbering). n.things) c.self.view_is) c.requires.within c.index-as_slice-number.is c.in-Body.is in
    subst (λ (ps : List ℕ). All (λ a. Contains things (atom a)) ps) (sym c.as_slice-in-Body.ensures) (positive_declared things (plain c.in-Body.pos c.in-Body.neg) c.args.number are at)

pub body_note-requires-clause-negated : goal.body_note-requires-clause-negated
body_note-requires-clause-negated c =
    let things = c.args.self.now.things in
    let are : AreDeclared things = subst (λ (n : Numbering). AreDeclared n.things) c.self.view_is c.self.invariant in
    let at = thing_at c.self.inside.keys.keys c.as_slice.result.now things c.args.number c.index-as_slice-number.result (BodyKey c.in-Body.pos c.in-Body.neg) c.as_slice.ensures.keys
    (ap (λ (n : Numbering). n.things) c.self.view_is) c.requires.within c.index-as_slice-number.is c.in-Body.is in
    subst (λ (ps : List ℕ). All (λ a. Contains things (atom a)) ps) (sym c.as_slice-in-Body-2.ensures) (negated_declared things (plain c.in-Body.pos c.in-Body.neg) c.args.number are at)

pub returns-in-Atom : goal.returns-in-Atom
returns-in-Atom c =
    let things = c.args.self.now.things in
    let at = thing_at c.self.inside.keys.keys c.as_slice.result.now things c.args.number c.index-as_slice-number.result (Atom c.in-Atom.a) c.as_slice.ensures.keys
    (ap (λ (n : Numbering). n.things) c.self.view_is) c.requires.within c.index-as_slice-number.is c.in-Atom.is in
    IfOk-weaker c.atom_note.result (TellsAtom c.args.self.now c.args.terms.now c.in-Atom.a) (λ note. IsSomeAnd (slice_get things c.args.number) (λ t. Tells c.args.self.now c.args.terms.now t note))
    (λ note told. told_at things c.args.number (atom c.in-Atom.a) (λ t. Tells c.args.self.now c.args.terms.now t note) at told) c.atom_note.ensures

pub returns-in-Body : goal.returns-in-Body
returns-in-Body c =
    let things = c.args.self.now.things in
    let at = thing_at c.self.inside.keys.keys c.as_slice.result.now things c.args.number c.index-as_slice-number.result (BodyKey c.in-Body.pos c.in-Body.neg) c.as_slice.ensures.keys
    (ap (λ (n : Numbering). n.things) c.self.view_is) c.requires.within c.index-as_slice-number.is c.in-Body.is in
    IfOk-weaker c.body_note.result (TellsBody things (plain c.as_slice-in-Body.result.now c.as_slice-in-Body-2.result.now))
    (λ note. IsSomeAnd (slice_get things c.args.number) (λ t. Tells c.args.self.now c.args.terms.now t note))
    (λ note told. told_at things c.args.number (body (plain c.in-Body.pos c.in-Body.neg)) (λ t. Tells c.args.self.now c.args.terms.now t note) at
    (subst (λ (ps : List ℕ). TellsBody things (plain ps c.in-Body.neg) note) c.as_slice-in-Body.ensures
    (subst (λ (ns : List ℕ). TellsBody things (plain c.as_slice-in-Body.result.now ns) note) c.as_slice-in-Body-2.ensures told))) c.body_note.ensures
