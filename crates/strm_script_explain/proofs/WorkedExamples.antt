-- Words that are nearly the same, the text of a mark, and the limits of a script, computed.
use Rattle.std.proofs.Common.{◌≡◌, true, false, nat_lt, [], ◌∷◌, ◌++◌, length, codes, refl}
use Rattle.strm_script_parse.specs.Plan.{Streams}
use Rattle.strm_script_parse.specs.Reading.{has_room}
use Rattle.strm_script_explain.specs.Near.{is_meant}
use Rattle.strm_script_explain.specs.Printing.{hidden, line_text, mark_text}
use Rattle.strm_script_explain.specs.declared.wording.TheConstants.{MOST_STREAMS}

two_letters_change_places : is_meant (codes "wirte") (codes "write") ≡ true
two_letters_change_places = refl

a_letter_is_missing : is_meant (codes "wite") (codes "write") ≡ true
a_letter_is_missing = refl

a_letter_is_too_many : is_meant (codes "writes") (codes "write") ≡ true
a_letter_is_too_many = refl

another_letter : is_meant (codes "wrote") (codes "write") ≡ true
another_letter = refl

capitals : is_meant (codes "WRITE") (codes "write") ≡ true
capitals = refl

two_edits : is_meant (codes "wrotes") (codes "write") ≡ false
two_edits = refl

one_letter_for_another : is_meant (codes "x") (codes "r") ≡ false
one_letter_for_another = refl

a_tab_is_a_blank : line_text (codes "read" ++ 9 ∷ codes "s:a" ++ 7 ∷ []) 0 ≡ codes "  read s:a?" ++ 10 ∷ []
a_tab_is_a_blank = refl

under_the_second_field : mark_text 5 3 ≡ codes "       ^^^" ++ 10 ∷ []
under_the_second_field = refl

at_the_end_of_the_line : mark_text 8 0 ≡ codes "          ^" ++ 10 ∷ []
at_the_end_of_the_line = refl

-- of a long line the bytes round the mark are shown, and at its end the last ones
in_the_middle : hidden 1000 500 ≡ 464
in_the_middle = refl

at_the_end : hidden 1000 990 ≡ 928
at_the_end = refl

-- there is room for a stream as long as there are fewer than the most
most_streams : (streams : Streams) → has_room streams ≡ nat_lt (length streams) MOST_STREAMS
most_streams streams = refl
