-- The definitions at worked examples.
use Rattle.std.specs.Prelude.{◌≡◌, refl, [], ◌∷◌, ◌++◌, Ok, Err, codes}
use Rattle.ms_text.specs.declared.token.TokenKind.TheVariants.{Name, Not, Number, Text, Dot, DotDot, If, Equal, LessGreater}
use Rattle.ms_text.specs.Tokens.{tokens_of, tokens_from, text_len}

two_tokens : tokens_of (codes "not% x" ++ 10 ∷ codes " :-") ≡ Ok (record { kind = Not; start = 0; end = 3; line = 1 } ∷ record { kind = If; start = 8; end = 10; line = 2 } ∷ [])
unfolding tokens_from
two_tokens = refl

bad_byte : tokens_of (codes "a$b") ≡ Err (record { at = 1; line = 1 })
unfolding tokens_from
bad_byte = refl

only_underscores : tokens_of (codes "a __") ≡ Err (record { at = 2; line = 1 })
unfolding tokens_from
only_underscores = refl

numbers : tokens_of (codes "007 0x") ≡ Ok (record { kind = Number; start = 0; end = 1; line = 1 } ∷ record { kind = Number; start = 1; end = 2; line = 1 } ∷ record { kind = Number; start = 2; end = 3; line = 1 } ∷ record { kind = Number; start = 4; end = 5; line = 1 } ∷ record { kind = Name; start = 5; end = 6; line = 1 } ∷ [])
unfolding tokens_from
numbers = refl

greatest : tokens_of (codes "9223372036854775808") ≡ Ok (record { kind = Number; start = 0; end = 19; line = 1 } ∷ [])
unfolding tokens_from
greatest = refl

too_great : tokens_of (codes "- 9223372036854775809") ≡ Err (record { at = 2; line = 1 })
unfolding tokens_from
too_great = refl

unfinished_string : tokens_of (codes "a. " ++ 34 ∷ codes "x") ≡ Err (record { at = 3; line = 1 })
unfolding tokens_from text_len
unfinished_string = refl

string_with_escapes : tokens_of (34 ∷ 92 ∷ 34 ∷ 92 ∷ 92 ∷ 34 ∷ codes "<>=") ≡ Ok (record { kind = Text; start = 0; end = 6; line = 1 } ∷ record { kind = LessGreater; start = 6; end = 8; line = 1 } ∷ record { kind = Equal; start = 8; end = 9; line = 1 } ∷ [])
unfolding tokens_from text_len
string_with_escapes = refl

directives : tokens_of (codes "#count{#countx") ≡ Err (record { at = 7; line = 1 })
unfolding tokens_from
directives = refl

dots : tokens_of (codes "1...") ≡ Ok (record { kind = Number; start = 0; end = 1; line = 1 } ∷ record { kind = DotDot; start = 1; end = 3; line = 1 } ∷ record { kind = Dot; start = 3; end = 4; line = 1 } ∷ [])
unfolding tokens_from
dots = refl
