-- How long a name is: its underscores, and what follows them.
use Rattle.std.proofs.Common.{◌≡◌, ℕ, suc, ◌+◌, ◌-◌, Bool, true, false, cond, eqb, List, [], ◌∷◌, length, take, drop, Option, Some, None, refl, sym, ap, ◌∙◌, arith, zero-add, one-add}
use Rattle.std.specs.List.{prefix_len}
use Rattle.std.specs.Option.{option_map}
use Rattle.std.proofs.lemmas.List.{take_rest}
use Rattle.ms_text.specs.Tokens.{is_lower, name_len}
use Rattle.ms_lex.specs.Names.{is_underscore, bare_len}

-- the length of a name, by its number of underscores and the length of what follows them
abbrev pub whole_len : ℕ → Option ℕ → Option ℕ
whole_len n o = option_map (λ m. n + m) o

one_underscore_more : (n : ℕ) (o : Option ℕ) → option_map suc (whole_len n o) ≡ whole_len (suc n) o
one_underscore_more n None = refl
one_underscore_more n (Some m) = ap Some (omega arith)

no_underscore : (n : ℕ) (t : Bool) → cond t (Some n) None ≡ whole_len 0 (cond t (Some n) None)
no_underscore n true = ap Some (sym (zero-add n))
no_underscore n false = refl

name_len-cons : (b : ℕ) (bs : List ℕ) → name_len bs ≡ whole_len (prefix_len is_underscore bs) (bare_len (drop (prefix_len is_underscore bs) bs))
    → (t : Bool) → eqb b 95 ≡ t → name_len (b ∷ bs) ≡ whole_len (prefix_len is_underscore (b ∷ bs)) (bare_len (drop (prefix_len is_underscore (b ∷ bs)) (b ∷ bs)))
name_len-cons b bs h true e = rw (e, one-add) (ap (option_map suc) h ∙ one_underscore_more _ _)
name_len-cons b bs h false e = rw e (no_underscore _ (is_lower b))

pub name_len-split : (text : List ℕ) → name_len text ≡ whole_len (prefix_len is_underscore text) (bare_len (drop (prefix_len is_underscore text) text))
name_len-split [] = refl
name_len-split (b ∷ bs) = name_len-cons b bs (name_len-split bs) (eqb b 95) refl

pub name_len-at : (text : List ℕ) (n : ℕ) (o : Option ℕ) → n ≡ prefix_len is_underscore text → o ≡ bare_len (take (length text - n) (drop n text)) → whole_len n o ≡ name_len text
name_len-at text n o e h = rw (h, take_rest text n, e) (sym (name_len-split text))
