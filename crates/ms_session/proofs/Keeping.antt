-- What stays where a table keeps its names.
use Rattle.std.proofs.Common.{◌≡◌, ℕ, ◌<◌, ◌≤◌, List, [], ◌∷◌, map, length, take, pos, All, refl, ap, ◌∙◌, arith}
use Rattle.std.proofs.lemmas.List.Elements.{All-head, All-tail, All-weaker}
use Rattle.std.proofs.lemmas.List.{ext_get_or, get_or-take, length-take-le}
use Rattle.ms_tree.specs.Tree.{Tree, number}
use Rattle.ms_term.specs.Terms.{term_at}
use Rattle.ms_core.specs.Texts.{Texts}
use Rattle.ms_join.specs.Modules.{Join}
use Rattle.ms_solver.specs.States.{kept_of}
use Rattle.ms_value.specs.Naming.{Keeps}
use Rattle.ms_machine.specs.Machine.{State}
use Rattle.ms_session.specs.Fitting.{IsSound, Watcher, state_at}

pub names_kept : (old new : List Tree) (base : List ℕ) → Keeps old new → All (λ t. t < length old) base → map (term_at new) base ≡ map (term_at old) base
names_kept old new [] k h = refl
names_kept old new (t ∷ ts) k h =
    ap (λ u. u ∷ map (term_at new) ts) (k.kept t (All-head (λ t. t < length old) t ts h))
    ∙ ap (λ us. term_at old t ∷ us) (names_kept old new ts k (All-tail (λ t. t < length old) t ts h))

pub named_kept : (old new : List Tree) (base : List ℕ) → Keeps old new → All (λ t. t < length old) base → All (λ t. t < length new) base
named_kept old new base k h =
    let longer : length old ≤ length new = k.longer in
    All-weaker (λ t. t < length old) (λ t. t < length new) (λ t below. omega arith) base h

pub sound_kept : (old new : List Tree) (base : List ℕ) (join : Join) (solver : Watcher) → Keeps old new → IsSound old base join solver → IsSound new base join solver
sound_kept old new base join solver k s = record {
  named = named_kept old new base k s.named;
  counted = s.counted;
  few = s.few;
  fit = s.fit;
  names = s.names;
}

state_with : Texts → Join → Watcher → List Tree → State
state_with texts join solver names = record { texts = texts; names = names; join = join; things = solver.knows.numbering.things; kept = kept_of solver.knows }

pub state_kept : (old new : List Tree) (texts : Texts) (base : List ℕ) (join : Join) (solver : Watcher) → Keeps old new → All (λ t. t < length old) base
    → state_at new texts base join solver ≡ state_at old texts base join solver
unfolding state_with
state_kept old new texts base join solver k h = ap (state_with texts join solver) (names_kept old new base k h)

-- the table up to where it was
pub table_back : (old new : List Tree) → Keeps old new → take (length old) new ≡ old
table_back old new k =
    let longer : length old ≤ length new = k.longer in
    let long : length (take (length old) new) ≡ length old = length-take-le (length old) new longer in
    ext_get_or (number (pos 0)) (take (length old) new) old long (λ i within.
    let below : i < length old = omega (arith, within, long) in
    get_or-take (length old) new i (number (pos 0)) below ∙ k.kept i below)
