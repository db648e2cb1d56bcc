-- A session is sealed where a call finds no memory.
use Rattle.std.proofs.Common.{◌≡◌, ◌∙◌, ℕ, Bool, false, [], refl, sym, ap, subst, Option, Result, Ok, Err}
use Rattle.std.specs.Prelude.{IfOk, is_err}
use Rattle.ms_base.specs.declared.memory.OutOfMemory.{OutOfMemory}
use Rattle.ms_call.specs.declared.command.Command.{Command}
use Rattle.ms_tree.specs.Tree.{Tree}
use Rattle.ms_machine.specs.declared.reply.Reply.{Reply}
use Rattle.ms_solver.specs.States.{kept_of}
use Rattle.ms_session.specs.declared.open_session.Open.{Open}
use Rattle.ms_session.specs.Kept.{Kept, IsDone, IsFound, IsNumberOf, state_of}
use Rattle.ms_session.specs.Opened.{IsReady, IsStep, IsWhole, names_of}

-- what a session with this open one keeps
abbrev pub kept_by : Bool → Open → Kept
kept_by sealed o = record { sealed = sealed; table = o.terms; texts = o.parts; base = o.base; join = o.join; things = o.solver.knows.numbering.things; kept = kept_of o.solver.knows; notes = o.notes }

step_done : (sealed now : Bool) (old new : Open) (command : Command) (r : Result Reply OutOfMemory) → sealed ≡ false → now ≡ is_err r
    → IfOk r (IsStep old command new) → IfOk r (IsDone (kept_by sealed old) command (kept_by now new))
step_done sealed now old new command (Ok reply) was is h = record {
  was_open = was;
  is_open = is;
  step = record { answers = h.answers; logs = h.logs };
  named = h.named;
  keeps = h.keeps;
}
step_done sealed now old new command (Err e) was is h = tt

-- what was kept before a command began
begun : (old mid new : Open) (command : Command) (r : Result Reply OutOfMemory) → mid ≡ record old { notes = [] } → IfOk r (IsStep mid command new) → IfOk r (IsStep old command new)
begun old mid new command (Ok reply) begins h =
    let step : IsStep (record old { notes = [] }) command new reply = subst (λ (o : Open). IsStep o command new reply) begins h in
    record { answers = step.answers; logs = step.logs; whole = step.whole; named = step.named; keeps = step.keeps }
begun old mid new command (Err e) begins h = tt

-- a step of the open session, once the command has begun, is one of the session
pub done : (sealed now : Bool) (old mid new : Open) (command : Command) (r given : Result Reply OutOfMemory) → r ≡ given → sealed ≡ false → now ≡ is_err given → mid ≡ record old { notes = [] }
    → IfOk given (IsStep mid command new) → IfOk r (IsDone (kept_by sealed old) command (kept_by now new))
done sealed now old mid new command r given same was is begins h =
    subst (λ (x : Result Reply OutOfMemory). IfOk x (IsDone (kept_by sealed old) command (kept_by now new))) (sym same)
    (step_done sealed now old new command given was is (begun old mid new command given begins h))

-- what is whole is ready once a command has begun
pub ready : (old mid : Open) → mid ≡ record old { notes = [] } → IsWhole old → IsReady mid
ready old mid begins whole = subst IsReady (sym begins) (record { whole = whole; silent = refl })

number_found : (now : Bool) (old : Kept) (t : Tree) (r : Result (Option ℕ) OutOfMemory) → old.sealed ≡ false → now ≡ is_err r
    → IfOk r (IsNumberOf (state_of old).names t) → IfOk r (IsFound old t (record old { sealed = now }))
number_found now old t (Ok found) was is h = record { was_open = was; same = ap (λ (b : Bool). record old { sealed = b }) (is ∙ sym was); found = h }
number_found now old t (Err e) was is h = tt

-- what finding an atom says of a session
pub found_by : (sealed now : Bool) (o : Open) (t : Tree) (r given : Result (Option ℕ) OutOfMemory) → r ≡ given → sealed ≡ false → now ≡ is_err given
    → IfOk given (IsNumberOf (names_of o) t) → IfOk r (IsFound (kept_by sealed o) t (kept_by now o))
found_by sealed now o t r given same was is h =
    subst (λ (x : Result (Option ℕ) OutOfMemory). IfOk x (IsFound (kept_by sealed o) t (kept_by now o))) (sym same)
    (number_found now (kept_by sealed o) t given was is h)
