-- The definitions at worked examples.
use Rattle.std.specs.Prelude.{◌≡◌, refl, true, false, [], ◌∷◌, ◌++◌, Some, None, codes}
use Rattle.ms_call.specs.Lines.{ends_text}
use Rattle.ms_call.specs.Items.{lines_in, text_says}

-- a last line without a line end is a line where the bytes have ended
to_the_end : lines_in true (codes "a" ++ 10 ∷ 10 ∷ codes "bc") ≡ codes "a" ∷ [] ∷ codes "bc" ∷ []
unfolding lines_in
to_the_end = refl

whole_lines : lines_in false (codes "a" ++ 10 ∷ 10 ∷ codes "bc") ≡ codes "a" ∷ [] ∷ []
unfolding lines_in
whole_lines = refl

-- `@end` between blanks, and a line that only begins so
end_of_text : ends_text (32 ∷ 9 ∷ codes "@end " ++ 13 ∷ []) ≡ true
end_of_text = refl

no_end_of_text : ends_text (codes "@end x") ≡ false
no_end_of_text = refl

-- a line of a text stands in it with its line end
one_more_line : text_says false (codes "a." ++ 10 ∷ []) (codes " b.") ≡ (None, Some (codes "a." ++ 10 ∷ codes " b." ++ 10 ∷ []))
one_more_line = refl
