-- How a text is broken into lines of at most so many characters.
use Rattle.std.specs.Prelude.{ℕ, ◌+◌, ◌-◌, ◌==◌, zero, suc, nat_le, Bool, true, false, not, List, [], ◌∷◌, length, take, drop, if◌then◌else◌}
use Rattle.std.specs.List.{prefix_len, suffix_len}

-- A blank is U+0020.
abbrev pub is_blank : ℕ → Bool
is_blank c = c == 0x20

-- Whether a character is a blank, or whether it isn't.
abbrev pub is_blank_or_not : Bool → ℕ → Bool
is_blank_or_not true c = is_blank c
is_blank_or_not false c = not (is_blank c)

-- Where the blanks begin that end the first n characters, or where the characters begin that are none.
abbrev pub end_without : Bool → ℕ → List ℕ → ℕ
end_without blanks n text = n - suffix_len (is_blank_or_not blanks) (take n text)

-- Where a line ends that a blank breaks, given where the last word begins that isn't whole on it. If that begins the line, it is cut.
abbrev pub end_before_word : ℕ → List ℕ → ℕ → ℕ
end_before_word columns text zero = columns
end_before_word columns text (suc n) = end_without true (suc n) text

-- How many characters the first line of a text has: all, if they fit. Otherwise the line is broken at the last blanks that begin
-- on it or right after it. If there are none, its word is cut after a whole line.
unfoldable pub line_end : ℕ → List ℕ → ℕ
line_end columns text =
    if nat_le (length text) columns then length text
    else end_before_word columns text (end_without false (columns + 1) text)

-- Where the next line begins: after the blanks at which the line was broken.
unfoldable pub next_line : ℕ → List ℕ → ℕ
next_line columns text = line_end columns text + prefix_len is_blank (drop (line_end columns text) text)

-- The lines of what is left of a text: none if nothing is. There are at most `most`; a text has no more lines than characters.
abbrev pub lines_within : ℕ → ℕ → List ℕ → List (List ℕ)
lines_within most columns [] = []
lines_within zero columns (c ∷ cs) = []
lines_within (suc most) columns (c ∷ cs) =
    take (line_end columns (c ∷ cs)) (c ∷ cs) ∷ lines_within most columns (drop (next_line columns (c ∷ cs)) (c ∷ cs))

-- The lines of a text; the empty text is one empty line.
unfoldable pub wrap : ℕ → List ℕ → List (List ℕ)
wrap columns text = take (line_end columns text) text ∷ lines_within (length text) columns (drop (next_line columns text) text)
