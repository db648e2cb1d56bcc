-- The replies, and their texts.
use Rattle.std.specs.Prelude.{ℕ, Bool, true, false, List, [], ◌∷◌, ◌++◌, map, codes}
use Rattle.std.specs.List.{flat_map, list_any}
use Rattle.std.specs.Fmt.{decimal}
use Rattle.ms_tree.specs.Tree.{Tree}
use Rattle.ms_term.specs.Terms.{term_at}
pub use Rattle.ms_solving.specs.Lines.{line, answer_line}
use Rattle.ms_lits.specs.declared.note.Note.{Note}
use Rattle.ms_lits.specs.declared.note.Ending.{Ending}
use Rattle.ms_lits.specs.declared.note.Ending.TheVariants.{Complete, StillOpen, Cut}
use Rattle.ms_machine.specs.declared.reply.Reply.{Reply as kept_reply}
use Rattle.ms_machine.specs.declared.reply.Reply.TheVariants.{Added, Grounded, Assigned, Released, NoEffect, Solved, Refused}
use Rattle.ms_machine.specs.declared.reply.Refusal.{Refusal}
use Rattle.ms_machine.specs.declared.reply.Refusal.TheVariants.{Command, Unfinished, Syntax, Const, Later, TooLarge, TooMany, Redefined, CrossLoop, RecursiveAggregate}

-- A reply. A listing has the terms of the shown atoms of each answer set.
pub data Reply : Type 0 where
  added : ℕ → Reply
  grounded : ℕ → ℕ → Reply
  assigned : Reply
  released : Reply
  no_effect : Reply
  solved : Ending → ℕ → ℕ → List (List Tree) → Reply
  refused : Refusal → Reply

-- What a command is answered: a reply, and lines of the log.
pub record Output : Type 0 where
  pub reply : Reply
  pub log : List Note

-- the listing that a reply tells
abbrev pub listing_of : Reply → List (List Tree)
listing_of (added count) = []
listing_of (grounded atoms rules) = []
listing_of assigned = []
listing_of released = []
listing_of no_effect = []
listing_of (solved ending count limit listing) = listing
listing_of (refused refusal) = []

-- the reply whose atoms are kept by their names, where these are the terms of the table
abbrev pub said_by : List Tree → kept_reply → Reply
said_by table (Added count) = added count
said_by table (Grounded atoms rules) = grounded atoms rules
said_by table Assigned = assigned
said_by table Released = released
said_by table NoEffect = no_effect
said_by table (Solved ending count limit shown) = solved ending count limit (map (map (term_at table)) shown)
said_by table (Refused refusal) = refused refusal

-- how a solve ended, by the number of its answers
abbrev pub ending_text : Ending → ℕ → ℕ → List ℕ
ending_text Complete count limit = codes "complete " ++ decimal count
ending_text StillOpen count limit = codes "open " ++ decimal count
ending_text Cut count limit = codes "cut " ++ decimal count ++ codes " limit=" ++ decimal limit

abbrev pub refusal_line : Refusal → List ℕ
refusal_line Command = line (codes "refused command")
refusal_line Unfinished = line (codes "refused unfinished")
refusal_line (Syntax at) = line (codes "refused syntax " ++ decimal at)
refusal_line (Const at) = line (codes "refused const " ++ decimal at)
refusal_line Later = line (codes "refused later")
refusal_line TooLarge = line (codes "refused too-large")
refusal_line TooMany = line (codes "refused too-many")
refusal_line (Redefined atom) = line (codes "refused redefined " ++ atom)
refusal_line (CrossLoop new_head old) = line (codes "refused loop " ++ new_head ++ 32 ∷ old)
refusal_line (RecursiveAggregate atom) = line (codes "refused aggregate " ++ atom)

abbrev pub reply_text : Reply → List ℕ
reply_text (added count) = line (codes "added " ++ decimal count)
reply_text (grounded atoms rules) = line (codes "grounded atoms=" ++ decimal atoms ++ codes " rules=" ++ decimal rules)
reply_text assigned = line (codes "assigned")
reply_text released = line (codes "released")
reply_text no_effect = line (codes "no effect")
reply_text (solved ending count limit listing) = flat_map answer_line listing ++ line (ending_text ending count limit)
reply_text (refused refusal) = refusal_line refusal

-- what is written for outputs, one after another
abbrev pub replies_text : List Output → List ℕ
replies_text outputs = flat_map (λ o. reply_text o.reply) outputs

abbrev pub is_refused : Reply → Bool
is_refused (added count) = false
is_refused (grounded atoms rules) = false
is_refused assigned = false
is_refused released = false
is_refused no_effect = false
is_refused (solved ending count limit listing) = false
is_refused (refused refusal) = true

-- one of the outputs is a refusal
abbrev pub any_refused : List Output → Bool
any_refused outputs = list_any (λ o. is_refused o.reply) outputs
