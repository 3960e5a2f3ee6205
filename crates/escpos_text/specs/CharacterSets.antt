-- The international character sets: twelve bytes of ASCII, which each of the sets 0 to 17 exchanges. (Reference: ESC R.)
use Rattle.std.specs.Prelude.{ℕ, List, [], ◌∷◌, codes, slice_index_or}

-- The twelve bytes.
unfoldable pub exchanged_bytes : List ℕ
exchanged_bytes = codes "#$@[\\]^`{|}~"

-- The characters of these bytes in each set.
unfoldable pub character_sets : List (List ℕ)
character_sets =
    codes "#$@[\\]^`{|}~"  -- 0, USA
    ∷ codes "#$à°ç§^`éùè¨"  -- 1, France
    ∷ codes "#$§ÄÖÜ^`äöüß"  -- 2, Germany
    ∷ codes "£$@[\\]^`{|}~"  -- 3, UK
    ∷ codes "#$@ÆØÅ^`æøå~"  -- 4, Denmark I
    ∷ codes "#¤ÉÄÖÅÜéäöåü"  -- 5, Sweden
    ∷ codes "#$@°\\é^ùàòèì"  -- 6, Italy
    ∷ codes "₧$@¡Ñ¿^`¨ñ}~"  -- 7, Spain I
    ∷ codes "#$@[¥]^`{|}~"  -- 8, Japan
    ∷ codes "#¤ÉÆØÅÜéæøåü"  -- 9, Norway
    ∷ codes "#$ÉÆØÅÜéæøåü"  -- 10, Denmark II
    ∷ codes "#$á¡Ñ¿é`íñóú"  -- 11, Spain II
    ∷ codes "#$á¡Ñ¿éüíñóú"  -- 12, Latin America
    ∷ codes "#$@[₩]^`{|}~"  -- 13, Korea
    ∷ codes "#$ŽŠĐĆČžšđćč"  -- 14, Slovenia and Croatia
    ∷ codes "#¥@[\\]^`{|}~"  -- 15, China
    ∷ codes "#₫@[\\]^`{|}~"  -- 16, Vietnam
    ∷ codes "#$@[\\]^`{|}~"  -- 17, Arabia
    ∷ []

-- The characters of these bytes in the set of a number. A set above 17 has none.
unfoldable pub characters_in : ℕ → List ℕ
characters_in set = slice_index_or character_sets set []
