-- Each turn of a walk leaves the same choices and takes one turn.
use Rattle.std.proofs.Common.{◌≡◌, ℕ, suc, ◌+◌, ◌<◌, ◌≤◌, inl, inr, ℤ, pos, ◌+ℤ◌, ◌≤ℤ◌, ◌<ℤ◌, Bool, true, false, List, [], ◌∷◌, ◌++◌, map, length, drop, get_or, refl, sym, ap, ◌∙◌, subst, arith, length-append, drop-cons}
use Rattle.std.proofs.Math.ListN.{drop_of_length-le}
use Rattle.std.proofs.lemmas.Int.{ints}
use Rattle.std.proofs.lemmas.List.Sums.{sum_by-cons}
use Rattle.ms_core.specs.declared.rule.Range.{Range}
use Rattle.ms_copies.specs.Evaluating.{Chosen}
use Rattle.ms_copies.specs.InOrder.{integers, integers_within, choices}
use Rattle.ms_copies.proofs.Integers.{integers_more, integers_none}
use Rattle.ms_value.specs.declared.place.Place.{Place}
use Rattle.ms_value.specs.declared.place.Turn.{Turn}
use Rattle.ms_value.specs.declared.place.Turn.TheVariants.{Moved, Found, Ended}
use Rattle.ms_value.specs.Walking.{choices_with, around, turns, turns_with, turns_around, below_of, turns_below, left_at, turns_at, IsPlace, HasMoved, HasFound, HasEnded, Enters, StepsOn, GivesUp, IsAtEnd, Leaves, IsTurn}
use Rattle.ms_value.proofs.Around.{Fits, HasRoom, around_push, around_first, turns_push, turns_less}

-- what is left at a place, by its parts
pub left_is : (ranges : List Range) (p : Place) (cs : Chosen) (hs : List ℤ) (f : Bool) → p.chosen.items ≡ cs → p.highs.items ≡ hs → p.is_fresh ≡ f → left_at ranges p ≡ around ranges [] cs hs (below_of f ranges cs)
left_is ranges p cs hs f a b e =
    ap (λ c. around ranges [] c p.highs.items (below_of p.is_fresh ranges c)) a
    ∙ ap (λ h. around ranges [] cs h (below_of p.is_fresh ranges cs)) b
    ∙ ap (λ g. around ranges [] cs hs (below_of g ranges cs)) e

pub turns_is : (ranges : List Range) (p : Place) (cs : Chosen) (hs : List ℤ) (f : Bool) → p.chosen.items ≡ cs → p.highs.items ≡ hs → p.is_fresh ≡ f → turns_at ranges p ≡ turns_around ranges [] cs hs (turns_below f ranges cs)
turns_is ranges p cs hs f a b e =
    ap (λ c. turns_around ranges [] c p.highs.items (turns_below p.is_fresh ranges c)) a
    ∙ ap (λ h. turns_around ranges [] cs h (turns_below p.is_fresh ranges cs)) b
    ∙ ap (λ g. turns_around ranges [] cs hs (turns_below g ranges cs)) e

longer : (cs : Chosen) (n : ℤ) → length (cs ++ n ∷ []) ≡ suc (length cs)
longer cs n = omega (arith, length-append cs (n ∷ []))

whole_choices : (range : Range) (rs : List Range) (cs : Chosen) → choices (range ∷ rs) cs ≡ choices_with rs cs (integers_within cs range)
unfolding choices
whole_choices range rs cs = refl

whole_turns : (range : Range) (rs : List Range) (cs : Chosen) → turns (range ∷ rs) cs ≡ 1 + turns_with rs cs (integers_within cs range)
unfolding turns
whole_turns range rs cs = refl

first_choices : (rs : List Range) (cs : Chosen) (low high : ℤ) → low ≤ℤ high → choices_with rs cs (integers low high) ≡ map (λ c. low ∷ c) (choices rs (cs ++ low ∷ [])) ++ choices_with rs cs (integers (low +ℤ pos 1) high)
first_choices rs cs low high le = ap (choices_with rs cs) (integers_more low high le)

first_turns : (rs : List Range) (cs : Chosen) (low high : ℤ) → low ≤ℤ high → turns_with rs cs (integers low high) ≡ (1 + turns rs (cs ++ low ∷ [])) + turns_with rs cs (integers (low +ℤ pos 1) high)
first_turns rs cs low high le =
    ap (turns_with rs cs) (integers_more low high le) ∙ sum_by-cons (λ n. 1 + turns rs (cs ++ n ∷ [])) low (integers (low +ℤ pos 1) high)

-- below a place where one more integer is chosen
below_next : (ranges : List Range) (cs : Chosen) (n : ℤ) → below_of true ranges (cs ++ n ∷ []) ≡ choices (drop (suc (length cs)) ranges) (cs ++ n ∷ [])
below_next ranges cs n = ap (λ k. choices (drop k ranges) (cs ++ n ∷ [])) (longer cs n)

turns_next : (ranges : List Range) (cs : Chosen) (n : ℤ) → turns_below true ranges (cs ++ n ∷ []) ≡ turns (drop (suc (length cs)) ranges) (cs ++ n ∷ [])
turns_next ranges cs n = ap (λ k. turns (drop k ranges) (cs ++ n ∷ [])) (longer cs n)

-- where the integer n and all after it up to an upper end are left for the next range
pub left_with : (ranges : List Range) (cs : Chosen) (hs : List ℤ) (n high : ℤ) → HasRoom ranges cs hs → n ≤ℤ high
    → around ranges [] (cs ++ n ∷ []) (hs ++ high ∷ []) (below_of true ranges (cs ++ n ∷ [])) ≡ around ranges [] cs hs (choices_with (drop (suc (length cs)) ranges) cs (integers n high))
left_with ranges cs hs n high room le =
    around_push ranges [] cs hs n high (below_of true ranges (cs ++ n ∷ [])) room
    ∙ ap (λ b. around ranges [] cs hs (map (λ c. n ∷ c) b ++ choices_with (drop (suc (length cs)) ranges) cs (integers (n +ℤ pos 1) high))) (below_next ranges cs n)
    ∙ ap (around ranges [] cs hs) (sym (first_choices (drop (suc (length cs)) ranges) cs n high le))

room_fits : (ranges : List Range) (cs : Chosen) (hs : List ℤ) → HasRoom ranges cs hs → Fits ranges cs hs
room_fits ranges cs hs room = record { ends = room.ends; within = let w : length cs < length ranges = room.within in omega arith }

pub turns_left : (ranges : List Range) (cs : Chosen) (hs : List ℤ) (n high : ℤ) (more : ℕ) → HasRoom ranges cs hs → n ≤ℤ high → more ≡ 1 + turns_with (drop (suc (length cs)) ranges) cs (integers n high)
    → turns_around ranges [] (cs ++ n ∷ []) (hs ++ high ∷ []) (turns_below true ranges (cs ++ n ∷ [])) < turns_around ranges [] cs hs more
turns_left ranges cs hs n high more room le is =
    let rs = drop (suc (length cs)) ranges in
    let after = turns_with rs cs (integers (n +ℤ pos 1) high) in
    let here = turns rs (cs ++ n ∷ []) in
    let new : turns_around ranges [] (cs ++ n ∷ []) (hs ++ high ∷ []) (turns_below true ranges (cs ++ n ∷ [])) ≡ turns_around ranges [] cs hs (here + (1 + after)) =
    turns_push ranges [] cs hs n high (turns_below true ranges (cs ++ n ∷ [])) room
    ∙ ap (λ t. turns_around ranges [] cs hs (t + (1 + after))) (turns_next ranges cs n) in
    let first : turns_with rs cs (integers n high) ≡ (1 + here) + after = first_turns rs cs n high le in
    let fewer : here + (1 + after) < more = omega arith in
    let less : turns_around ranges [] cs hs (here + (1 + after)) < turns_around ranges [] cs hs more = turns_less ranges [] cs hs (here + (1 + after)) more (room_fits ranges cs hs room) fewer in
    omega arith

grown : (ranges : List Range) (cs : Chosen) (hs : List ℤ) (n high : ℤ) (new : Place) → HasRoom ranges cs hs → new.chosen.items ≡ cs ++ n ∷ [] → new.highs.items ≡ hs ++ high ∷ [] → IsPlace ranges new
grown ranges cs hs n high new room a b =
    let chosen : length new.chosen.items ≡ suc (length cs) = ap length a ∙ longer cs n in
    let highs : length new.highs.items ≡ suc (length hs) = ap length b ∙ longer hs high in
    let ends : length cs ≡ length hs = room.ends in
    let within : length cs < length ranges = room.within in
    record { ends = omega arith; within = omega arith }

-- a range is chosen for, or has no integer
pub moved_in : (ranges : List Range) (old new : Place) (range : Range) → IsPlace ranges old → old.is_fresh ≡ true → length old.chosen.items < length ranges → range ≡ get_or ranges (length old.chosen.items) range
    → Enters range old new → HasMoved ranges old new
moved_in ranges old new range p fresh inside is (inl (low, high, e)) =
    let cs = old.chosen.items in
    let hs = old.highs.items in
    let rs = drop (suc (length cs)) ranges in
    let room : HasRoom ranges cs hs = record { ends = p.ends; within = inside } in
    let cut : drop (length cs) ranges ≡ range ∷ rs = drop-cons ranges (length cs) range inside ∙ ap (λ q. q ∷ rs) (sym is) in
    let more : turns (drop (length cs) ranges) cs ≡ 1 + turns_with rs cs (integers low high) =
    ap (λ qs. turns qs cs) cut ∙ whole_turns range rs cs ∙ ap (λ ns. 1 + turns_with rs cs ns) e.between in
    let now_fresh : new.is_fresh ≡ true = e.chooses.fresh ∙ fresh in
    let less = turns_left ranges cs hs low high (turns (drop (length cs) ranges) cs) room e.not_greater more in
    let now = turns_is ranges new (cs ++ low ∷ []) (hs ++ high ∷ []) true e.chooses.chosen e.chooses.highs now_fresh in
    let was = turns_is ranges old cs hs true refl refl fresh in
    record {
      place = grown ranges cs hs low high new room e.chooses.chosen e.chooses.highs;
      same = left_is ranges new (cs ++ low ∷ []) (hs ++ high ∷ []) true e.chooses.chosen e.chooses.highs now_fresh
          ∙ left_with ranges cs hs low high room e.not_greater
          ∙ ap (around ranges [] cs hs) (sym (ap (λ qs. choices qs cs) cut ∙ whole_choices range rs cs ∙ ap (choices_with rs cs) e.between))
          ∙ sym (left_is ranges old cs hs true refl refl fresh);
      fewer = subst (λ (k : ℕ). k < turns_at ranges old) (sym now) (subst (λ (k : ℕ). turns_around ranges [] (cs ++ low ∷ []) (hs ++ high ∷ []) (turns_below true ranges (cs ++ low ∷ [])) < k) (sym was) less);
    }
moved_in ranges old new range p fresh inside is (inr e) =
    let cs = old.chosen.items in
    let hs = old.highs.items in
    let rs = drop (suc (length cs)) ranges in
    let fits : Fits ranges cs hs = record { ends = p.ends; within = p.within } in
    let cut : drop (length cs) ranges ≡ range ∷ rs = drop-cons ranges (length cs) range inside ∙ ap (λ q. q ∷ rs) (sym is) in
    let more : turns (drop (length cs) ranges) cs ≡ 1 + turns_with rs cs (integers_within cs range) = ap (λ qs. turns qs cs) cut ∙ whole_turns range rs cs in
    let some : 0 < turns (drop (length cs) ranges) cs = omega arith in
    let less = turns_less ranges [] cs hs 0 (turns (drop (length cs) ranges) cs) fits some in
    let now = turns_is ranges new cs hs false e.chosen e.highs e.spent in
    let was = turns_is ranges old cs hs true refl refl fresh in
    record {
      place = record { ends = ap length e.chosen ∙ p.ends ∙ sym (ap length e.highs); within = subst (λ (k : ℕ). k ≤ length ranges) (sym (ap length e.chosen)) p.within };
      same = left_is ranges new cs hs false e.chosen e.highs e.spent
          ∙ ap (around ranges [] cs hs) (sym (ap (λ qs. choices qs cs) cut ∙ whole_choices range rs cs ∙ ap (choices_with rs cs) e.none))
          ∙ sym (left_is ranges old cs hs true refl refl fresh);
      fewer = subst (λ (k : ℕ). k < turns_at ranges old) (sym now) (subst (λ (k : ℕ). turns_around ranges [] cs hs 0 < k) (sym was) less);
    }

-- an integer more, for the last range
pub stepped_on : (ranges : List Range) (old new : Place) (first highs : List ℤ) (last high : ℤ) → IsPlace ranges old → old.is_fresh ≡ false → StepsOn old new first highs last high → HasMoved ranges old new
stepped_on ranges old new first highs last high p spent e =
    let rs = drop (suc (length first)) ranges in
    let chosen : length old.chosen.items ≡ suc (length first) = ap length e.was ∙ longer first last in
    let ends : length old.highs.items ≡ suc (length highs) = ap length e.was_high ∙ longer highs high in
    let same_ends : length old.chosen.items ≡ length old.highs.items = p.ends in
    let within : length old.chosen.items ≤ length ranges = p.within in
    let room : HasRoom ranges first highs = record { ends = omega arith; within = omega arith } in
    let less_high : last <ℤ high = e.less in
    let le : (last +ℤ pos 1) ≤ℤ high = omega (arith, ints) in
    let rest = 1 + turns_with rs first (integers (last +ℤ pos 1) high) in
    let none : 0 + rest ≡ rest = omega arith in
    let less = turns_left ranges first highs (last +ℤ pos 1) high rest room le refl in
    let now = turns_is ranges new (first ++ (last +ℤ pos 1) ∷ []) (highs ++ high ∷ []) true e.chosen e.still_high e.fresh in
    let was = turns_is ranges old (first ++ last ∷ []) (highs ++ high ∷ []) false e.was e.was_high spent
    ∙ turns_push ranges [] first highs last high 0 room ∙ ap (turns_around ranges [] first highs) none in
    record {
      place = grown ranges first highs (last +ℤ pos 1) high new room e.chosen e.still_high;
      same = left_is ranges new (first ++ (last +ℤ pos 1) ∷ []) (highs ++ high ∷ []) true e.chosen e.still_high e.fresh
          ∙ left_with ranges first highs (last +ℤ pos 1) high room le
          ∙ sym (left_is ranges old (first ++ last ∷ []) (highs ++ high ∷ []) false e.was e.was_high spent ∙ around_push ranges [] first highs last high [] room);
      fewer = subst (λ (k : ℕ). k < turns_at ranges old) (sym now) (subst (λ (k : ℕ). turns_around ranges [] (first ++ (last +ℤ pos 1) ∷ []) (highs ++ high ∷ []) (turns_below true ranges (first ++ (last +ℤ pos 1) ∷ [])) < k) (sym was) less);
    }

-- the last range is given up
pub gave_up : (ranges : List Range) (old new : Place) (last high : ℤ) → IsPlace ranges old → old.is_fresh ≡ false → GivesUp old new last high → HasMoved ranges old new
gave_up ranges old new last high p spent e =
    let cs = new.chosen.items in
    let hs = new.highs.items in
    let rs = drop (suc (length cs)) ranges in
    let chosen : length old.chosen.items ≡ suc (length cs) = ap length e.was ∙ longer cs last in
    let ends : length old.highs.items ≡ suc (length hs) = ap length e.was_high ∙ longer hs high in
    let same_ends : length old.chosen.items ≡ length old.highs.items = p.ends in
    let within : length old.chosen.items ≤ length ranges = p.within in
    let room : HasRoom ranges cs hs = record { ends = omega arith; within = omega arith } in
    let fits : Fits ranges cs hs = room_fits ranges cs hs room in
    let not_less : high ≤ℤ last = e.not_less in
    let past : high <ℤ (last +ℤ pos 1) = omega (arith, ints) in
    let now_spent : new.is_fresh ≡ false = e.spent ∙ spent in
    let rest = 1 + turns_with rs cs (integers (last +ℤ pos 1) high) in
    let some : 0 < 0 + rest = omega arith in
    let less = turns_less ranges [] cs hs 0 (0 + rest) fits some in
    let now = turns_is ranges new cs hs false refl refl now_spent in
    let was = turns_is ranges old (cs ++ last ∷ []) (hs ++ high ∷ []) false e.was e.was_high spent ∙ turns_push ranges [] cs hs last high 0 room in
    record {
      place = record { ends = fits.ends; within = fits.within };
      same = left_is ranges new cs hs false refl refl now_spent
          ∙ sym (left_is ranges old (cs ++ last ∷ []) (hs ++ high ∷ []) false e.was e.was_high spent
          ∙ around_push ranges [] cs hs last high [] room
          ∙ ap (λ ns. around ranges [] cs hs (choices_with rs cs ns)) (integers_none (last +ℤ pos 1) high past));
      fewer = subst (λ (k : ℕ). k < turns_at ranges old) (sym now) (subst (λ (k : ℕ). turns_around ranges [] cs hs 0 < k) (sym was) less);
    }

nothing_chosen : (ranges : List Range) (hs : List ℤ) → around ranges [] [] hs [] ≡ []
unfolding around
nothing_chosen ranges hs = refl

no_integers : (xs : List ℤ) → length xs ≤ 0 → xs ≡ []
no_integers [] h = refl
no_integers (x ∷ xs) h = absurd (omega arith)

-- no range is left
pub at_end : (ranges : List Range) (old new : Place) → IsPlace ranges old → old.is_fresh ≡ false → IsAtEnd old new → HasEnded ranges old new
at_end ranges old new p spent e =
    let same_ends : length old.chosen.items ≡ length old.highs.items = p.ends in
    let none : length old.chosen.items ≡ 0 = elim e.was [ inl a ↦ ap length a | inr b ↦ p.ends ∙ ap length b ] in
    let chosen : length new.chosen.items ≤ length old.chosen.items = e.chosen in
    let highs : length new.highs.items ≤ length old.highs.items = e.highs in
    let before : old.chosen.items ≡ [] = no_integers old.chosen.items (omega arith) in
    let after : new.chosen.items ≡ [] = no_integers new.chosen.items (omega arith) in
    record {
      place = record { ends = omega arith; within = omega arith };
      none = left_is ranges old [] old.highs.items false before refl spent ∙ nothing_chosen ranges old.highs.items;
      still_none = left_is ranges new [] new.highs.items false after refl (e.spent ∙ spent) ∙ nothing_chosen ranges new.highs.items;
    }

no_ranges : (cs : Chosen) → choices [] cs ≡ [] ∷ []
unfolding choices
no_ranges cs = refl

-- all ranges are chosen for
pub found : (ranges : List Range) (old new : Place) → IsPlace ranges old → old.is_fresh ≡ true → length ranges ≤ length old.chosen.items
    → new.chosen.items ≡ old.chosen.items → new.highs.items ≡ old.highs.items → new.is_fresh ≡ false → HasFound ranges old new
found ranges old new p fresh all chosen highs spent =
    let cs = old.chosen.items in
    let hs = old.highs.items in
    let fits : Fits ranges cs hs = record { ends = p.ends; within = p.within } in
    let below : choices (drop (length cs) ranges) cs ≡ [] ∷ [] = ap (λ qs. choices qs cs) (drop_of_length-le ranges all) ∙ no_ranges cs in
    record {
      place = record { ends = ap length chosen ∙ p.ends ∙ sym (ap length highs); within = subst (λ (k : ℕ). k ≤ length ranges) (sym (ap length chosen)) p.within };
      first = left_is ranges old cs hs true refl refl fresh
          ∙ ap (around ranges [] cs hs) below
          ∙ around_first ranges [] cs hs [] fits
          ∙ ap (λ c. c ∷ around ranges [] cs hs []) (sym chosen)
          ∙ ap (λ l. new.chosen.items ∷ l) (sym (left_is ranges new cs hs false chosen highs spent));
    }

pub left_turn : (ranges : List Range) (old new : Place) (t : Turn) → IsPlace ranges old → old.is_fresh ≡ false → Leaves old new t → IsTurn ranges old new t
left_turn ranges old new Moved p spent (inl (first, highs, last, high, e)) = stepped_on ranges old new first highs last high p spent e
left_turn ranges old new Moved p spent (inr (last, high, e)) = gave_up ranges old new last high p spent e
left_turn ranges old new Found p spent e = absurd e
left_turn ranges old new Ended p spent e = at_end ranges old new p spent e

nothing_walked : (ranges : List Range) → around ranges [] [] [] (choices ranges []) ≡ choices ranges []
unfolding around
nothing_walked ranges = refl

-- before the first turn
pub at_start : (ranges : List Range) (p : Place) → p.chosen.items ≡ [] → p.highs.items ≡ [] → p.is_fresh ≡ true → left_at ranges p ≡ choices ranges []
at_start ranges p a b e = left_is ranges p [] [] true a b e ∙ nothing_walked ranges
