-- A worked row: the log of the two rules that make a from the absence of b and b from that of a. The things are the
-- atoms a and b, the body that lacks b and the body that lacks a. The solve lists both answer sets.
use Rattle.std.proofs.Common.{ℕ, ◌≡◌, ◌∙◌, ◌<◌, ◌⊎◌, Bool, true, false, List, [], ◌∷◌, inl, inr, sym, ap, refl, arith}
use Rattle.std.specs.Prelude.{All, Contains, IsTrue, nat_eq, ◌||◌}
use Rattle.std.proofs.lemmas.Bool.{false≢true}
use Rattle.std.proofs.lemmas.List.Elements.{All-contains, All-from_recursion}
use Rattle.ms_lits.specs.declared.lit.Lit.{Lit}
use Rattle.ms_lits.specs.declared.note.Note.{Note}
use Rattle.ms_lits.specs.declared.note.Note.TheVariants.{Atom, Body, Start, Theory, Kept, Temporary, Answer, Finish}
use Rattle.ms_lits.specs.declared.note.Ending.TheVariants.{Complete, Cut}
use Rattle.ms_lits.specs.Literals.{Nogood, Forces, IsContained, IsRefuted, IsWhole}
use Rattle.ms_lawful.specs.Problems.{Problem, HasNogood, IsAdmitted, holds_under}
use Rattle.ms_lawful.specs.Lines.{InFullStore, IsAnswerLine, IsKeptLine, IsOwnLine, Stands, of_answer, of_completion, of_theory, kept_before, kept_now, standing, stored, temporary}
use Rattle.ms_lawful.specs.Parts.{AreDeclarations, IsDeclaredAs, IsSolvePart, IsText, kept_list, may_be_literal}
use Rattle.ms_lawful.proofs.Lists.{Contains-cons, Contains-cons_cases, Contains-here, Contains-none}

abbrev pos : ℕ → Lit
pos thing = record { var = thing; truth = true }

abbrev neg : ℕ → Lit
neg thing = record { var = thing; truth = false }

abbrev pair : Lit → Lit → Nogood
pair first second = first ∷ second ∷ []

-- two for each body, one for each atom, one for each rule
abbrev completion : List Nogood
completion =
    pair (neg 1) (neg 2) ∷ pair (pos 1) (pos 2) ∷ pair (neg 0) (neg 3) ∷ pair (pos 0) (pos 3)
    ∷ pair (pos 0) (neg 2) ∷ pair (pos 1) (neg 3)
    ∷ pair (neg 0) (pos 2) ∷ pair (neg 1) (pos 3) ∷ []

-- No theory gives anything; one literal makes the rest known.
abbrev problem : Problem
problem = record {
  Base = λ nogood. Contains completion nogood;
  Gives = λ nogood. ⊥;
  Member = λ atoms. (atoms ≡ 0 ∷ []) ⊎ (atoms ≡ 1 ∷ []);
  things = 4;
  atoms = 0 ∷ 1 ∷ [];
  kept = [];
  impossible = false;
  start = [];
  asked = 3;
  limit = 1;
}

all_one : (P : Lit → Type 0) (lit : Lit) → P lit → All P (lit ∷ [])
all_one P lit one = All-from_recursion P (lit ∷ []) (one, tt)

all_two : (P : Lit → Type 0) (first second : Lit) → P first → P second → All P (pair first second)
all_two P first second one two = All-from_recursion P (pair first second) (one, (two, tt))

-- something that holds of each completion nogood
each_completion : (P : Nogood → Type 0) → P (pair (neg 1) (neg 2)) → P (pair (pos 1) (pos 2)) → P (pair (neg 0) (neg 3)) → P (pair (pos 0) (pos 3)) → P (pair (pos 0) (neg 2)) → P (pair (pos 1) (neg 3)) → P (pair (neg 0) (pos 2)) → P (pair (neg 1) (pos 3)) → (nogood : Nogood) → Contains completion nogood → P nogood
each_completion P a b c d e f g h nogood among = All-contains P completion nogood (All-from_recursion P completion (a, (b, (c, (d, (e, (f, (g, (h, tt))))))))) among

-- what holds where a does, and where b does
abbrev with_a : ℕ → Bool
with_a thing = nat_eq thing 0 || nat_eq thing 2

abbrev with_b : ℕ → Bool
with_b thing = nat_eq thing 1 || nat_eq thing 3

admits_a : IsAdmitted problem with_a
admits_a = record {
  completed = λ nogood base. each_completion (λ n. ¬ HasNogood with_a n)
      (λ has. false≢true (has 1 (pos 0) (omega arith))) (λ has. false≢true (has 0 (pos 0) (omega arith)))
      (λ has. false≢true (has 0 (pos 0) (omega arith))) (λ has. false≢true (has 1 (pos 0) (omega arith)))
      (λ has. false≢true (has 1 (pos 0) (omega arith))) (λ has. false≢true (has 0 (pos 0) (omega arith)))
      (λ has. false≢true (has 0 (pos 0) (omega arith))) (λ has. false≢true (has 1 (pos 0) (omega arith)))
      nogood base;
  accepted = λ nogood given. absurd given;
}

admits_b : IsAdmitted problem with_b
admits_b = record {
  completed = λ nogood base. each_completion (λ n. ¬ HasNogood with_b n)
      (λ has. false≢true (has 0 (pos 0) (omega arith))) (λ has. false≢true (has 1 (pos 0) (omega arith)))
      (λ has. false≢true (has 1 (pos 0) (omega arith))) (λ has. false≢true (has 0 (pos 0) (omega arith)))
      (λ has. false≢true (has 0 (pos 0) (omega arith))) (λ has. false≢true (has 1 (pos 0) (omega arith)))
      (λ has. false≢true (has 1 (pos 0) (omega arith))) (λ has. false≢true (has 0 (pos 0) (omega arith)))
      nogood base;
  accepted = λ nogood given. absurd given;
}

-- A nogood of two literals forces the opposite of one where the other holds.
forces_second : (set : Lit → Bool) (first second : Lit) → IsTrue (set first) → Forces set (pair first second) second
forces_second set first second holds = record {
  contained = Contains-cons first second (second ∷ []) (Contains-here second second [] refl);
  others = all_two (λ other. (other ≡ second) ⊎ IsTrue (set other)) first second (inr holds) (inl refl);
}

forces_first : (set : Lit → Bool) (first second : Lit) → IsTrue (set second) → Forces set (pair first second) first
forces_first set first second holds = record {
  contained = Contains-here first first (second ∷ []) refl;
  others = all_two (λ other. (other ≡ first) ⊎ IsTrue (set other)) first second (inl refl) (inr holds);
}

-- A line with one answer: deciding a makes everything known.
abbrev lines_a : List Note
lines_a = Answer (0 ∷ []) ∷ []

in_base : (lines : List Note) (nogood : Nogood) → Contains completion nogood → InFullStore problem lines nogood
in_base lines nogood base = standing (stored (of_completion base))

refuted_a : IsRefuted (InFullStore problem lines_a) (pos 0 ∷ [])
refuted_a set whole closed =
    let a : IsTrue (set (pos 0)) = whole 0 (pos 0) (omega arith) in
    let no_body : IsTrue (set (neg 3)) = closed (pair (pos 0) (pos 3)) (in_base lines_a _ (3, omega arith, refl)) (pos 3) (forces_second set (pos 0) (pos 3) a) in
    let no_b : IsTrue (set (neg 1)) = closed (pair (pos 1) (neg 3)) (in_base lines_a _ (5, omega arith, refl)) (pos 1) (forces_first set (pos 1) (neg 3) no_body) in
    inl (record {
      nogood = pair (pos 0) (neg 1);
      among = of_answer (record { truth = with_a; answered = Contains-here (Answer (0 ∷ [])) (Answer (0 ∷ [])) [] refl; signs = refl });
      whole = all_two (λ lit. IsTrue (set lit)) (pos 0) (neg 1) a no_b;
    })

-- literals that a line doesn't have
not_within : (first second : Lit) → (0 ≡ second.var → ⊥) → ¬ IsContained (pos 0 ∷ []) (pair first second)
not_within first second differs contained =
    elim (Contains-cons_cases (pos 0) second [] (contained 1 first (omega arith))) [
      | inl same ↦ differs (ap (λ (l : Lit). l.var) same)
      | inr none ↦ Contains-none second none
    ]

other_note : (note : Note) (lines : List Note) (wanted : Note) → (note ≡ wanted → ⊥) → (Contains lines wanted → ⊥) → Contains (note ∷ lines) wanted → ⊥
other_note note lines wanted differs rest among = elim (Contains-cons_cases note wanted lines among) [ inl same ↦ differs same | inr later ↦ rest later ]

fresh_a : (small : Nogood) → Stands problem lines_a small → ¬ IsContained (pos 0 ∷ []) small
fresh_a small (stored (of_completion base)) =
    each_completion (λ n. ¬ IsContained (pos 0 ∷ []) n)
    (not_within (neg 1) (neg 2) (λ e. absurd (omega arith))) (not_within (pos 1) (pos 2) (λ e. absurd (omega arith)))
    (not_within (neg 0) (neg 3) (λ e. absurd (omega arith))) (not_within (pos 0) (pos 3) (λ e. absurd (omega arith)))
    (not_within (pos 0) (neg 2) (λ e. absurd (omega arith))) (not_within (pos 1) (neg 3) (λ e. absurd (omega arith)))
    (not_within (neg 0) (pos 2) (λ e. absurd (omega arith))) (not_within (neg 1) (pos 3) (λ e. absurd (omega arith)))
    small base
fresh_a small (stored (kept_before among)) = absurd (Contains-none small among)
fresh_a small (stored (of_theory among)) = absurd (other_note (Answer (0 ∷ [])) [] (Theory small) (λ e. cc) (Contains-none (Theory small)) among)
fresh_a small (stored (kept_now among)) = absurd (other_note (Answer (0 ∷ [])) [] (Kept small) (λ e. cc) (Contains-none (Kept small)) among)
fresh_a small (temporary among) = absurd (other_note (Answer (0 ∷ [])) [] (Temporary small) (λ e. cc) (Contains-none (Temporary small)) among)

own_a : IsOwnLine problem lines_a (0 ∷ []) (pos 0 ∷ [])
own_a = record {
  fresh = record {
    ordered = record {
      within = all_one (λ (lit : Lit). lit.var < 4) (pos 0) (omega arith);
      rising = λ i j d less within. absurd (omega arith);
    };
    contains_none = fresh_a;
  };
  refuted = refuted_a;
  truth = with_a;
  admitted = admits_a;
  answers = refl;
  contained = all_one (λ lit. IsTrue (holds_under with_a lit)) (pos 0) refl;
}

-- Then nothing is left to decide: the empty nogood is the second answer's own.
abbrev lines_b : List Note
lines_b = Answer (0 ∷ []) ∷ Temporary (pos 0 ∷ []) ∷ Answer (1 ∷ []) ∷ []

refuted_b : IsRefuted (InFullStore problem lines_b) []
refuted_b set whole closed =
    let no_a : IsTrue (set (neg 0)) = closed (pos 0 ∷ []) (standing (temporary (1, omega arith, refl))) (pos 0)
    (record { contained = Contains-here (pos 0) (pos 0) [] refl; others = all_one (λ other. (other ≡ pos 0) ⊎ IsTrue (set other)) (pos 0) (inl refl) }) in
    let body : IsTrue (set (pos 3)) = closed (pair (neg 0) (neg 3)) (in_base lines_b _ (2, omega arith, refl)) (neg 3) (forces_second set (neg 0) (neg 3) no_a) in
    let b : IsTrue (set (pos 1)) = closed (pair (neg 1) (pos 3)) (in_base lines_b _ (7, omega arith, refl)) (neg 1) (forces_first set (neg 1) (pos 3) body) in
    inl (record {
      nogood = pair (neg 0) (pos 1);
      among = of_answer (record { truth = with_b; answered = (2, omega arith, refl); signs = refl });
      whole = all_two (λ lit. IsTrue (set lit)) (neg 0) (pos 1) no_a b;
    })

empty_within : (first : Lit) (rest : Nogood) → ¬ IsContained [] (first ∷ rest)
empty_within first rest contained = Contains-none first (contained 0 first (omega arith))

-- among the three lines before it
among_b : (P : Note → Type 0) (wanted : Note) → P (Answer (0 ∷ [])) → P (Temporary (pos 0 ∷ [])) → P (Answer (1 ∷ [])) → Contains lines_b wanted → P wanted
among_b P wanted first second third among = All-contains P lines_b wanted (All-from_recursion P lines_b (first, (second, (third, tt)))) among

-- the nogood of a line has a literal
abbrev HasLiteral : Note → Type 0
HasLiteral (Theory nogood) = ¬ IsContained [] nogood
HasLiteral (Kept nogood) = ¬ IsContained [] nogood
HasLiteral (Temporary nogood) = ¬ IsContained [] nogood
HasLiteral note = Unit {0}

fresh_b : (small : Nogood) → Stands problem lines_b small → ¬ IsContained [] small
fresh_b small (stored (of_completion base)) =
    each_completion (λ n. ¬ IsContained [] n)
    (empty_within (neg 1) (neg 2 ∷ [])) (empty_within (pos 1) (pos 2 ∷ []))
    (empty_within (neg 0) (neg 3 ∷ [])) (empty_within (pos 0) (pos 3 ∷ []))
    (empty_within (pos 0) (neg 2 ∷ [])) (empty_within (pos 1) (neg 3 ∷ []))
    (empty_within (neg 0) (pos 2 ∷ [])) (empty_within (neg 1) (pos 3 ∷ []))
    small base
fresh_b small (stored (kept_before among)) = absurd (Contains-none small among)
fresh_b small (stored (of_theory among)) = among_b HasLiteral (Theory small) tt (empty_within (pos 0) []) tt among
fresh_b small (stored (kept_now among)) = among_b HasLiteral (Kept small) tt (empty_within (pos 0) []) tt among
fresh_b small (temporary among) = among_b HasLiteral (Temporary small) tt (empty_within (pos 0) []) tt among

own_b : IsOwnLine problem lines_b (1 ∷ []) []
own_b = record {
  fresh = record {
    ordered = record { within = λ k d h. absurd (omega arith); rising = λ i j d less within. absurd (omega arith) };
    contains_none = fresh_b;
  };
  refuted = refuted_b;
  truth = with_b;
  admitted = admits_b;
  answers = refl;
  contained = λ k d h. absurd (omega arith);
}

line_a : IsAnswerLine problem [] (0 ∷ [])
line_a = record { truth = with_a; answers = refl; member = inl refl; differs = Contains-none (Answer (0 ∷ [])) }

line_b : IsAnswerLine problem (Answer (0 ∷ []) ∷ Temporary (pos 0 ∷ []) ∷ []) (1 ∷ [])
line_b = record {
  truth = with_b;
  answers = refl;
  member = inr refl;
  differs = other_note (Answer (0 ∷ [])) (Temporary (pos 0 ∷ []) ∷ []) (Answer (1 ∷ [])) (λ e. cc)
      (other_note (Temporary (pos 0 ∷ [])) [] (Answer (1 ∷ [])) (λ e. cc) (Contains-none (Answer (1 ∷ []))));
}

abbrev lines : List Note
lines = Answer (0 ∷ []) ∷ Temporary (pos 0 ∷ []) ∷ Answer (1 ∷ []) ∷ Temporary [] ∷ []

-- The whole part of the solve is lawful.
two_answers : IsSolvePart problem Complete (99 ∷ []) (Start false [] ∷ Answer (0 ∷ []) ∷ Temporary (pos 0 ∷ []) ∷ Answer (1 ∷ []) ∷ Temporary [] ∷ Finish (99 ∷ []) ∷ [])
two_answers = record {
  ordered = λ i j d less within. absurd (omega arith);
  lines = lines;
  whole = refl;
  lawful = (line_a, (own_a, (line_b, (own_b, tt))));
  ends = record {
    nothing_owed = refl;
    within = omega arith;
    reason = (
      omega arith,
      inr (λ set whole closed. inl (record {
        nogood = [];
        among = standing (temporary (3, omega arith, refl));
        whole = λ k d h. absurd (omega arith);
      })),
    );
  };
}

text_of : (byte : ℕ) → (byte ≡ 10 → ⊥) → IsText (byte ∷ [])
text_of byte differs = record {
  some = λ e. cc;
  one_line = All-from_recursion (λ (b : ℕ). b ≡ 10 → ⊥) (byte ∷ []) (differs, tt);
}

abbrev first_byte : Note → ℕ
first_byte (Atom (byte ∷ bytes)) = byte
first_byte note = 0

abbrev first_var : Note → ℕ
first_var (Body (lit ∷ lits)) = lit.var
first_var note = 0

-- The declarations of that program: the atoms by their texts, and the two bodies.
declared_row : AreDeclarations [] (Atom (97 ∷ []) ∷ Atom (98 ∷ []) ∷ Body (neg 1 ∷ []) ∷ Body (neg 0 ∷ []) ∷ [])
declared_row = (
  text_of 97 (λ e. absurd (omega arith)),
  Contains-none (Atom (97 ∷ [])),
  (
    text_of 98 (λ e. absurd (omega arith)),
    other_note (Atom (97 ∷ [])) [] (Atom (98 ∷ [])) (λ e. let bytes : 97 ≡ 98 = ap first_byte e in absurd (omega arith)) (Contains-none (Atom (98 ∷ []))),
    (
      ((λ i j d less within. absurd (omega arith)), All-from_recursion (λ lit. IsDeclaredAs may_be_literal (Atom (97 ∷ []) ∷ Atom (98 ∷ []) ∷ []) lit.var) (neg 1 ∷ []) (refl, tt)),
      other_note (Atom (97 ∷ [])) (Atom (98 ∷ []) ∷ []) (Body (neg 1 ∷ [])) (λ e. cc) (other_note (Atom (98 ∷ [])) [] (Body (neg 1 ∷ [])) (λ e. cc) (Contains-none (Body (neg 1 ∷ [])))),
      (
        ((λ i j d less within. absurd (omega arith)), All-from_recursion (λ lit. IsDeclaredAs may_be_literal (Atom (97 ∷ []) ∷ Atom (98 ∷ []) ∷ Body (neg 1 ∷ []) ∷ []) lit.var) (neg 0 ∷ []) (refl, tt)),
        other_note (Atom (97 ∷ [])) (Atom (98 ∷ []) ∷ Body (neg 1 ∷ []) ∷ []) (Body (neg 0 ∷ [])) (λ e. cc)
            (other_note (Atom (98 ∷ [])) (Body (neg 1 ∷ []) ∷ []) (Body (neg 0 ∷ [])) (λ e. cc)
            (other_note (Body (neg 1 ∷ [])) [] (Body (neg 0 ∷ [])) (λ e. let vars : 1 ≡ 0 = ap first_var e in absurd (omega arith)) (Contains-none (Body (neg 0 ∷ []))))),
        tt,
      ),
    ),
  ),
)

-- A program without answer sets, whose two atoms exclude each other in each way, and a solve of limit 1: one nogood is
-- learned and kept, and the solve is cut. The next one begins with it and is complete.
abbrev excluded : List Nogood
excluded = pair (pos 0) (pos 1) ∷ pair (pos 0) (neg 1) ∷ pair (neg 0) (pos 1) ∷ pair (neg 0) (neg 1) ∷ []

abbrev tied : List Nogood → Problem
tied kept = record {
  Base = λ nogood. Contains excluded nogood;
  Gives = λ nogood. ⊥;
  Member = λ atoms. ⊥;
  things = 2;
  atoms = 0 ∷ 1 ∷ [];
  kept = kept;
  impossible = false;
  start = [];
  asked = 1;
  limit = 1;
}

each_excluded : (P : Nogood → Type 0) → P (pair (pos 0) (pos 1)) → P (pair (pos 0) (neg 1)) → P (pair (neg 0) (pos 1)) → P (pair (neg 0) (neg 1)) → (nogood : Nogood) → Stands (tied []) [] nogood → P nogood
each_excluded P a b c d nogood (stored (of_completion among)) = All-contains P excluded nogood (All-from_recursion P excluded (a, (b, (c, (d, tt))))) among
each_excluded P a b c d nogood (stored (kept_before among)) = absurd (Contains-none nogood among)
each_excluded P a b c d nogood (stored (of_theory among)) = absurd (Contains-none (Theory nogood) among)
each_excluded P a b c d nogood (stored (kept_now among)) = absurd (Contains-none (Kept nogood) among)
each_excluded P a b c d nogood (temporary among) = absurd (Contains-none (Temporary nogood) among)

-- no literal
abbrev nothing : Lit → Bool
nothing lit = false

-- of nothing a nogood of two things forces nothing
forces_none : (first second : Lit) → (first.var ≡ second.var → ⊥) → (lit : Lit) → Forces nothing (pair first second) lit → ⊥
forces_none first second differ lit forced = elim (forced.others 0 first (omega arith)) [
  | inl one ↦ elim (forced.others 1 first (omega arith)) [
    | inl two ↦ differ (ap (λ (l : Lit). l.var) (one ∙ sym two))
    | inr holds ↦ false≢true holds
  ]
  | inr holds ↦ false≢true holds
]

kept_row : IsKeptLine (tied []) [] (pos 0 ∷ [])
kept_row = record {
  fresh = record {
    ordered = record {
      within = all_one (λ (lit : Lit). lit.var < 2) (pos 0) (omega arith);
      rising = λ i j d less within. absurd (omega arith);
    };
    contains_none = each_excluded (λ n. ¬ IsContained (pos 0 ∷ []) n)
        (not_within (pos 0) (pos 1) (λ e. absurd (omega arith))) (not_within (pos 0) (neg 1) (λ e. absurd (omega arith)))
        (not_within (neg 0) (pos 1) (λ e. absurd (omega arith))) (not_within (neg 0) (neg 1) (λ e. absurd (omega arith)));
  };
  refuted = λ set whole closed.
      let a : IsTrue (set (pos 0)) = whole 0 (pos 0) (omega arith) in
      let no_b : IsTrue (set (neg 1)) = closed (pair (pos 0) (pos 1)) (of_completion (0, omega arith, refl)) (pos 1) (forces_second set (pos 0) (pos 1) a) in
      inl (record { nogood = pair (pos 0) (neg 1); among = of_completion (1, omega arith, refl); whole = all_two (λ lit. IsTrue (set lit)) (pos 0) (neg 1) a no_b });
  is_new = record {
    lit = pos 0;
    contained = Contains-here (pos 0) (pos 0) [] refl;
    set = nothing;
    others = all_one (λ other. (other ≡ pos 0) ⊎ IsTrue (nothing other)) (pos 0) (inl refl);
    closed = λ nogood among lit forced. absurd (each_excluded (λ n. (l : Lit) → Forces nothing n l → ⊥)
        (forces_none (pos 0) (pos 1) (λ e. absurd (omega arith))) (forces_none (pos 0) (neg 1) (λ e. absurd (omega arith)))
        (forces_none (neg 0) (pos 1) (λ e. absurd (omega arith))) (forces_none (neg 0) (neg 1) (λ e. absurd (omega arith))) nogood among lit forced);
    none_whole = λ has. each_excluded (λ n. ¬ IsWhole nothing n)
        (λ whole. false≢true (whole 0 (pos 0) (omega arith))) (λ whole. false≢true (whole 0 (pos 0) (omega arith)))
        (λ whole. false≢true (whole 0 (pos 0) (omega arith))) (λ whole. false≢true (whole 0 (pos 0) (omega arith))) has.nogood has.among has.whole;
    one_sign = λ both. false≢true both.holds;
    lacks = refl;
  };
}

cut_row : IsSolvePart (tied []) Cut (99 ∷ []) (Start false [] ∷ Kept (pos 0 ∷ []) ∷ Finish (99 ∷ []) ∷ [])
cut_row = record {
  ordered = λ i j d less within. absurd (omega arith);
  lines = Kept (pos 0 ∷ []) ∷ [];
  whole = refl;
  lawful = (kept_row, tt);
  ends = record { nothing_owed = refl; within = omega arith; reason = (omega arith, refl) };
}

-- the next solve begins with what this one kept
kept_next : kept_list (Start false [] ∷ Kept (pos 0 ∷ []) ∷ Finish (99 ∷ []) ∷ []) ≡ (pos 0 ∷ []) ∷ []
kept_next = refl

complete_row : IsSolvePart (tied ((pos 0 ∷ []) ∷ [])) Complete (99 ∷ []) (Start false [] ∷ Finish (99 ∷ []) ∷ [])
complete_row = record {
  ordered = λ i j d less within. absurd (omega arith);
  lines = [];
  whole = refl;
  lawful = tt;
  ends = record {
    nothing_owed = refl;
    within = omega arith;
    reason = (
      omega arith,
      inr (λ set whole closed.
          let no_a : IsTrue (set (neg 0)) = closed (pos 0 ∷ []) (standing (stored (kept_before (0, omega arith, refl)))) (pos 0)
          (record { contained = Contains-here (pos 0) (pos 0) [] refl; others = all_one (λ other. (other ≡ pos 0) ⊎ IsTrue (set other)) (pos 0) (inl refl) }) in
          let no_b : IsTrue (set (neg 1)) = closed (pair (neg 0) (pos 1)) (standing (stored (of_completion (2, omega arith, refl)))) (pos 1) (forces_second set (neg 0) (pos 1) no_a) in
          inl (record { nogood = pair (neg 0) (neg 1); among = standing (stored (of_completion (3, omega arith, refl))); whole = all_two (λ lit. IsTrue (set lit)) (neg 0) (neg 1) no_a no_b })),
    );
  };
}
