-- A content with a check digit that is added to it.
use Rattle.std.proofs.Common.{◌≡◌, ℕ, List, [], ◌++◌, sym, append-nil}
use Rattle.std.specs.Prelude.{Option, None, Some}
use Rattle.std.proofs.lemmas.Grind.{flat_map-append}
use Rattle.escpos_barcode.specs.Drawn.{with_added}
use Rattle.escpos_picture.specs.Characters.{byte_text}
use Rattle.escpos_picture.specs.Rows.{characters_text}

pub added_text : (content : List ℕ) (added : Option ℕ) → characters_text 0 0 (with_added content added) ≡ characters_text 0 0 content ++ characters_text 0 0 (with_added [] added)
added_text content None = sym (append-nil (characters_text 0 0 content))
added_text content (Some n) = flat_map-append (byte_text 0 0) content (with_added [] (Some n))
