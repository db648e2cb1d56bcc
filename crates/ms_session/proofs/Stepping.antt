-- Grounding calls and joining their module is a step of the machine.
use Rattle.std.proofs.Common.{◌≡◌, ℕ, ◌+◌, ◌<◌, ◌≤◌, ◌++◌, List, [], map, take, length, All, Result, Ok, Err, refl, sym, ap, subst, ◌∙◌, arith}
use Rattle.std.specs.Prelude.{IfOk}
use Rattle.std.proofs.lemmas.List.{length-append, length-map, map-append}
use Rattle.std.proofs.Math.Seq.{take-append_seam}
use Rattle.ms_base.specs.Limits.{most_things}
use Rattle.ms_tree.specs.Tree.{Tree}
use Rattle.ms_term.specs.Terms.{term_at}
use Rattle.ms_core.specs.declared.rule.CoreRule.{CoreRule}
use Rattle.ms_core.specs.Texts.{Texts}
use Rattle.ms_value.specs.Naming.{Keeps}
use Rattle.ms_call.specs.declared.command.Call.{Call}
use Rattle.ms_call.specs.declared.command.Command.TheVariants.{Ground}
use Rattle.ms_join.specs.declared.ground_module.GroundModule.{GroundModule}
use Rattle.ms_join.specs.Modules.{Join, IsWellFormed}
use Rattle.ms_lits.specs.declared.note.Note.{Note}
use Rattle.ms_solver.specs.States.{kept_of}
use Rattle.ms_ctxground.specs.Grounds.{IsGround, IsLater, IsRefused as TooLargeFor, HasAggregates}
use Rattle.ms_machine.specs.declared.reply.Reply.{Reply}
use Rattle.ms_machine.specs.declared.reply.Reply.TheVariants.{Added, Grounded, Assigned, Released, NoEffect, Solved, Refused}
use Rattle.ms_machine.specs.declared.reply.Refusal.{Refusal}
use Rattle.ms_machine.specs.declared.reply.Refusal.TheVariants.{Command, Unfinished, Syntax, Const, Later, TooLarge, TooMany, Redefined, CrossLoop, RecursiveAggregate}
use Rattle.ms_copies.specs.Simplifying.{ArePlain}
use Rattle.ms_solving.specs.Grounding.{core_of_calls, Grounds}
use Rattle.ms_machine.specs.Logging.{LogsThings}
use Rattle.ms_machine.specs.Machine.{Answers, Logs, State}
use Rattle.ms_value.proofs.Tables.{keeps_same}
use Rattle.ms_machine.specs.Replies.{refused, said_by}
use Rattle.ms_session.specs.declared.open_session.Open.{Open}
use Rattle.ms_session.specs.Fitting.{IsSound, Watcher, state_at}
use Rattle.ms_session.specs.Kept.{IsNamed}
use Rattle.ms_session.specs.Opened.{IsReady, IsStep, state_in}
use Rattle.ms_session.specs.Joining.{DeclaresAs, IsGrownBase, IsGrownOver, JoinsAs, RefusesAs, StaysWhereRefused}
use Rattle.ms_session.proofs.Keeping.{names_kept, state_kept, sound_kept, table_back}
use Rattle.ms_session.proofs.Refusing.{few_atoms}

-- what two clauses of a result give
pub both_weaker : {X E : Type 0} (r : Result X E) (P Q R : X → Type 0) → ((x : X) → P x → Q x → R x) → IfOk r P → IfOk r Q → IfOk r R
both_weaker (Ok x) P Q R f p q = f x p q
both_weaker (Err e) P Q R f p q = tt

-- the terms of the grown base
pub names_grown : (rules : List CoreRule) (old new : List Tree) (base grown : List ℕ) (m : GroundModule) → IsGround rules old new base grown m → All (λ t. t < length old) base
    → map (term_at new) grown ≡ map (term_at old) base ++ map (term_at new) m.names
names_grown rules old new base grown m g named =
    ap (map (term_at new)) g.grown
    ∙ map-append (term_at new) base m.names
    ∙ ap (λ ts. ts ++ map (term_at new) m.names) (names_kept old new base g.keeps named)

grounds : (rules : List CoreRule) (old new : List Tree) (base grown : List ℕ) (m : GroundModule) → IsGround rules old new base grown m
    → Grounds (map (term_at old) base) rules (map (term_at new) m.names) m
grounds rules old new base grown m g = record { plain = g.is.plain; fits = g.fits; is_module = g.is }

-- the base goes back to what it was
base_back : (rules : List CoreRule) (old new : List Tree) (base grown after : List ℕ) (m : GroundModule) → IsGround rules old new base grown m
    → after ≡ take (length base) grown → after ≡ base
base_back rules old new base grown after m g is =
    is ∙ ap (take (length base)) g.grown ∙ take-append_seam base m.names

-- nothing changed but the table
same_state : (old new : List Tree) (texts : Texts) (base after : List ℕ) (join next : Join) (solver now : Watcher) → Keeps old new → All (λ t. t < length old) base
    → after ≡ base → next ≡ join → now ≡ solver → state_at new texts after next now ≡ state_at old texts base join solver
same_state old new texts base after join next solver now k named same_base same_join same_solver =
    ap (λ b. state_at new texts b next now) same_base
    ∙ ap (λ j. state_at new texts base j now) same_join
    ∙ ap (λ (n : Watcher). state_at new texts base join n) same_solver
    ∙ state_kept old new texts base join solver k named

refused_as : (texts : Texts) (calls : List Call) (old new : List Tree) (base grown after : List ℕ) (join next : Join) (solver now : Watcher) (m : GroundModule) (refusal : Refusal)
    → All (λ t. t < length old) base → IsGround (core_of_calls texts calls) old new base grown m
    → RefusesAs (map (term_at old) base ++ map (term_at new) m.names) join m refusal
    → state_at new texts after next now ≡ state_at old texts base join solver
    → Answers (state_at old texts base join solver) (Ground calls) (refused refusal) (state_at new texts after next now)
refused_as texts calls old new base grown after join next solver now m TooMany named g why same =
    (record { names = map (term_at new) m.names; ground_module = m; grounds = grounds (core_of_calls texts calls) old new base grown m g; why = why }, same)
refused_as texts calls old new base grown after join next solver now m (Redefined atom) named g why same =
    (record { names = map (term_at new) m.names; ground_module = m; grounds = grounds (core_of_calls texts calls) old new base grown m g; why = why }, same)
refused_as texts calls old new base grown after join next solver now m (CrossLoop new_head other) named g why same =
    (record { names = map (term_at new) m.names; ground_module = m; grounds = grounds (core_of_calls texts calls) old new base grown m g; why = why }, same)
refused_as texts calls old new base grown after join next solver now m (RecursiveAggregate atom) named g why same =
    (record { names = map (term_at new) m.names; ground_module = m; grounds = grounds (core_of_calls texts calls) old new base grown m g; why = why }, same)
refused_as texts calls old new base grown after join next solver now m Command named g why same = elim why [ ]
refused_as texts calls old new base grown after join next solver now m Unfinished named g why same = elim why [ ]
refused_as texts calls old new base grown after join next solver now m (Syntax at) named g why same = elim why [ ]
refused_as texts calls old new base grown after join next solver now m (Const at) named g why same = elim why [ ]
refused_as texts calls old new base grown after join next solver now m Later named g why same = elim why [ ]
refused_as texts calls old new base grown after join next solver now m TooLarge named g why same = elim why [ ]

module_steps : (texts : Texts) (calls : List Call) (old new : List Tree) (base grown after : List ℕ) (join next : Join) (solver now : Watcher) (notes : List Note) (m : GroundModule) (mark : ℕ)
    (reply : Reply)
    → IsSound old base join solver → mark ≡ length base → IsGround (core_of_calls texts calls) old new base grown m
    → JoinsAs new mark m grown join after next reply → DeclaresAs new grown next solver now notes reply
    → Answers (state_at old texts base join solver) (Ground calls) (said_by new reply) (state_at new texts after next now)
module_steps texts calls old new base grown after join next solver now notes m mark (Grounded atoms rules) s at g h d = record {
  names = map (term_at new) m.names;
  ground_module = m;
  grounds = grounds (core_of_calls texts calls) old new base grown m g;
  composable = h.0;
  atoms_are = h.1 ∙ sym (length-map m.names (term_at new));
  rules_are = h.2;
  texts = refl;
  longer = ap (map (term_at new)) h.3 ∙ names_grown (core_of_calls texts calls) old new base grown m g s.named;
  joined = h.4;
}
module_steps texts calls old new base grown after join next solver now notes m mark (Refused refusal) s at g h d =
    refused_as texts calls old new base grown after join next solver now m refusal s.named g
    (subst (λ (names : List Tree). RefusesAs names join m refusal) (names_grown (core_of_calls texts calls) old new base grown m g s.named) h.0)
    (same_state old new texts base after join next solver now g.keeps s.named
    (base_back (core_of_calls texts calls) old new base grown after m g (h.1 ∙ ap (λ k. take k grown) at)) h.2 d.1)
module_steps texts calls old new base grown after join next solver now notes m mark (Added count) s at g h d = elim h [ ]
module_steps texts calls old new base grown after join next solver now notes m mark Assigned s at g h d = elim h [ ]
module_steps texts calls old new base grown after join next solver now notes m mark Released s at g h d = elim h [ ]
module_steps texts calls old new base grown after join next solver now notes m mark NoEffect s at g h d = elim h [ ]
module_steps texts calls old new base grown after join next solver now notes m mark (Solved ending count limit shown) s at g h d = elim h [ ]

-- the lines of the log declare what is new
module_logs : (texts : Texts) (calls : List Call) (old new : List Tree) (base grown after : List ℕ) (join next : Join) (solver now : Watcher) (notes : List Note) (m : GroundModule) (mark : ℕ)
    (reply : Reply)
    → JoinsAs new mark m grown join after next reply → DeclaresAs new grown next solver now notes reply
    → Logs (state_at old texts base join solver) (Ground calls) (said_by new reply) notes (state_at new texts after next now)
module_logs texts calls old new base grown after join next solver now notes m mark (Grounded atoms rules) h d =
    (subst (λ (b : List ℕ). LogsThings next (map (term_at new) b) solver.knows.numbering.things notes now.knows.numbering.things) (sym h.3) d.logs, d.kept)
module_logs texts calls old new base grown after join next solver now notes m mark (Refused refusal) h d =
    (d.0, ap (λ (n : Watcher). n.knows.numbering.things) d.1, ap (λ (n : Watcher). kept_of n.knows) d.1)
module_logs texts calls old new base grown after join next solver now notes m mark (Added count) h d = elim h [ ]
module_logs texts calls old new base grown after join next solver now notes m mark Assigned h d = elim h [ ]
module_logs texts calls old new base grown after join next solver now notes m mark Released h d = elim h [ ]
module_logs texts calls old new base grown after join next solver now notes m mark NoEffect h d = elim h [ ]
module_logs texts calls old new base grown after join next solver now notes m mark (Solved ending count limit shown) h d = elim h [ ]

module_sound : (rules : List CoreRule) (old new : List Tree) (base grown after : List ℕ) (join next : Join) (solver now : Watcher) (notes : List Note) (m : GroundModule) (mark : ℕ) (reply : Reply)
    → IsSound old base join solver → mark ≡ length base → IsGround rules old new base grown m
    → JoinsAs new mark m grown join after next reply → DeclaresAs new grown next solver now notes reply
    → IsSound new after next now
module_sound rules old new base grown after join next solver now notes m mark (Grounded atoms count) s at g h d =
    let same : after ≡ grown = h.3 in
    let atoms_are : next.atoms ≡ join.atoms + m.fresh = h.4.atoms in
    let few : join.atoms + m.fresh ≤ most_things = few_atoms join m h.0 in
    let counted : length base ≡ join.atoms = s.counted in
    let fresh : m.fresh ≡ length m.names = g.well_formed.fresh in
    let long : length grown ≡ length base + length m.names = ap length g.grown ∙ length-append base m.names in
    subst (λ (b : List ℕ). IsSound new b next now) (sym same) (record {
      named = g.base.named;
      counted = omega arith;
      few = omega arith;
      fit = d.fit;
      names = d.names;
    })
module_sound rules old new base grown after join next solver now notes m mark (Refused refusal) s at g h d =
    let same : after ≡ base = base_back rules old new base grown after m g (h.1 ∙ ap (λ k. take k grown) at) in
    subst (λ (b : List ℕ). IsSound new b next now) (sym same)
    (subst (λ (j : Join). IsSound new base j now) (sym h.2)
    (subst (λ (n : Watcher). IsSound new base join n) (sym d.1) (sound_kept old new base join solver g.keeps s)))
module_sound rules old new base grown after join next solver now notes m mark (Added count) s at g h d = elim h [ ]
module_sound rules old new base grown after join next solver now notes m mark Assigned s at g h d = elim h [ ]
module_sound rules old new base grown after join next solver now notes m mark Released s at g h d = elim h [ ]
module_sound rules old new base grown after join next solver now notes m mark NoEffect s at g h d = elim h [ ]
module_sound rules old new base grown after join next solver now notes m mark (Solved ending count limit shown) s at g h d = elim h [ ]

-- an aggregate is where not all rules are plain
not_plain : (rules : List CoreRule) → HasAggregates rules → ¬ ArePlain rules
not_plain rules h plain = h.4 (subst (λ (rule : CoreRule). rule.aggs ≡ []) h.3 (plain h.0 h.1 h.2))

-- the base that grounding left is that of the join and the module's atoms
pub grown_base : (rules : List CoreRule) (old new : List Tree) (base grown : List ℕ) (join : Join) (solver : Watcher) (m : GroundModule) (mark : ℕ)
    → IsSound old base join solver → mark ≡ length base → IsGround rules old new base grown m → IsGrownBase new mark grown join m
grown_base rules old new base grown join solver m mark s at g =
    let counted : length base ≡ join.atoms = s.counted in
    let fresh : m.fresh ≡ length m.names = g.well_formed.fresh in
    let long : length grown ≡ length base + length m.names = ap length g.grown ∙ length-append base m.names in
    record {
      mark_is = at ∙ counted;
      well_formed = subst (λ (n : ℕ). IsWellFormed n m) counted g.well_formed;
      named = g.base.named;
      counted = omega arith;
    }

-- the things are those of the join before
pub grown_over : (rules : List CoreRule) (old new : List Tree) (base grown : List ℕ) (join : Join) (solver : Watcher) (m : GroundModule)
    → IsSound old base join solver → IsGround rules old new base grown m → IsGrownOver join solver grown m
grown_over rules old new base grown join solver m s g = record {
  fit = s.fit;
  grown = g.grown ∙ ap (λ (b : List ℕ). b ++ m.names) (sym s.names);
}

later_step : (texts : Texts) (calls : List Call) (old new : List Tree) (base after : List ℕ) (join : Join) (solver : Watcher) → All (λ t. t < length old) base
    → IsLater (core_of_calls texts calls) old new base after → Answers (state_at old texts base join solver) (Ground calls) (refused Later) (state_at new texts after join solver)
later_step texts calls old new base after join solver named l =
    (not_plain (core_of_calls texts calls) l.aggregates, same_state old new texts base after join join solver solver l.keeps named l.same refl refl)

large_step : (texts : Texts) (calls : List Call) (old new : List Tree) (base after : List ℕ) (join : Join) (solver : Watcher) → All (λ t. t < length old) base
    → TooLargeFor (core_of_calls texts calls) old new base after → Answers (state_at old texts base join solver) (Ground calls) (refused TooLarge) (state_at new texts after join solver)
large_step texts calls old new base after join solver named r =
    (r.plain, r.large, same_state old new texts base after join join solver solver r.keeps named r.same refl refl)

-- a refusal leaves the base, the join and the solver
pub module_stays : (rules : List CoreRule) (old now : Open) (terms : List Tree) (grown : List ℕ) (m : GroundModule) (mark : ℕ) (reply : Reply)
    → mark ≡ length old.base → IsGround rules old.terms terms old.base grown m → JoinsAs terms mark m grown old.join now.base now.join reply
    → DeclaresAs terms grown now.join old.solver now.solver now.notes reply → StaysWhereRefused old now reply
module_stays rules old now terms grown m mark (Refused refusal) at g h d =
    (base_back rules old.terms terms old.base grown now.base m g (h.1 ∙ ap (λ k. take k grown) at), h.2, d.1, d.0)
module_stays rules old now terms grown m mark (Grounded atoms count) at g h d = tt
module_stays rules old now terms grown m mark (Added count) at g h d = elim h [ ]
module_stays rules old now terms grown m mark Assigned at g h d = elim h [ ]
module_stays rules old now terms grown m mark Released at g h d = elim h [ ]
module_stays rules old now terms grown m mark NoEffect at g h d = elim h [ ]
module_stays rules old now terms grown m mark (Solved ending count limit shown) at g h d = elim h [ ]

-- the reply to a grounding has no names
module_named : (size : ℕ) (table : List Tree) (mark : ℕ) (m : GroundModule) (grown after : List ℕ) (join next : Join) (reply : Reply) → JoinsAs table mark m grown join after next reply → IsNamed size reply
module_named size table mark m grown after join next (Grounded atoms rules) h = tt
module_named size table mark m grown after join next (Refused refusal) h = tt
module_named size table mark m grown after join next (Added count) h = elim h [ ]
module_named size table mark m grown after join next Assigned h = elim h [ ]
module_named size table mark m grown after join next Released h = elim h [ ]
module_named size table mark m grown after join next NoEffect h = elim h [ ]
module_named size table mark m grown after join next (Solved ending count limit shown) h = elim h [ ]

module _ (calls : List Call) (old : Open) (ready : IsReady old) where
  -- joining the module or refusing it is a step of the open session
  pub joining_step : (terms : List Tree) (grown after : List ℕ) (next : Join) (now : Watcher) (notes : List Note) (m : GroundModule) (mark : ℕ) (reply : Reply) → mark ≡ length old.base
      → IsGround (core_of_calls old.parts calls) old.terms terms old.base grown m → JoinsAs terms mark m grown old.join after next reply → DeclaresAs terms grown next old.solver now notes reply
      → IsStep old (Ground calls) (record old { terms = terms; base = after; join = next; solver = now; notes = notes }) reply
  joining_step terms grown after next now notes m mark reply at g h d = record {
    answers = module_steps old.parts calls old.terms terms old.base grown after old.join next old.solver now notes m mark reply ready.whole at g h d;
    logs = module_logs old.parts calls old.terms terms old.base grown after old.join next old.solver now notes m mark reply h d;
    whole = module_sound (core_of_calls old.parts calls) old.terms terms old.base grown after old.join next old.solver now notes m mark reply ready.whole at g h d;
    named = module_named (length terms) terms mark m grown after old.join next reply h;
    keeps = g.keeps;
  }

  -- where the base stays and the table keeps its names, what was whole is
  kept_whole : (terms : List Tree) (after : List ℕ) → Keeps old.terms terms → after ≡ old.base → IsSound terms after old.join old.solver
  kept_whole terms after k same = subst (λ (b : List ℕ). IsSound terms b old.join old.solver) (sym same) (sound_kept old.terms terms old.base old.join old.solver k ready.whole)

  -- so is that there is none
  pub later : (terms : List Tree) (after : List ℕ) → IsLater (core_of_calls old.parts calls) old.terms terms old.base after
      → IsStep old (Ground calls) (record old { terms = terms; base = after }) (Refused Later)
  later terms after l = record {
    answers = later_step old.parts calls old.terms terms old.base after old.join old.solver ready.whole.named l;
    logs = (ready.silent, refl, refl);
    whole = kept_whole terms after l.keeps l.same;
    named = tt;
    keeps = l.keeps;
  }

  pub large : (terms : List Tree) (after : List ℕ) → TooLargeFor (core_of_calls old.parts calls) old.terms terms old.base after
      → IsStep old (Ground calls) (record old { terms = terms; base = after }) (Refused TooLarge)
  large terms after r = record {
    answers = large_step old.parts calls old.terms terms old.base after old.join old.solver ready.whole.named r;
    logs = (ready.silent, refl, refl);
    whole = kept_whole terms after r.keeps r.same;
    named = tt;
    keeps = r.keeps;
  }

  -- where nothing but the table changed, and the table goes back, nothing changed
  pub going_back : (mid : Open) (cut : List Tree) (refusal : Refusal) → mid.parts ≡ old.parts → StaysWhereRefused old mid (Refused refusal) → cut ≡ take (length old.terms) mid.terms
      → IsStep old (Ground calls) mid (Refused refusal) → IsStep old (Ground calls) (record mid { terms = cut }) (Refused refusal)
  going_back mid cut refusal texts stays is h =
      let back : cut ≡ old.terms = is ∙ table_back old.terms mid.terms h.keeps in
      let silent : mid.notes ≡ old.notes = stays.3 ∙ sym ready.silent in
      let same : record mid { terms = cut } ≡ old = λ i. record { parts = texts i; terms = back i; base = stays.0 i; join = stays.1 i; solver = stays.2 i; notes = silent i } in
      let state : state_in mid ≡ state_in old =
      ap (λ (ts : Texts). state_at mid.terms ts mid.base mid.join mid.solver) texts
      ∙ same_state old.terms mid.terms old.parts old.base mid.base old.join mid.join old.solver mid.solver h.keeps ready.whole.named stays.0 stays.1 stays.2 in
      subst (λ (o : Open). IsStep old (Ground calls) o (Refused refusal)) (sym same) (record {
        answers = subst (λ (s : State). Answers (state_in old) (Ground calls) (refused refusal) s) state h.answers;
        logs = (ready.silent, refl, refl);
        whole = ready.whole;
        named = tt;
        keeps = keeps_same old.terms;
      })
