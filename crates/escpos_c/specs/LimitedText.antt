-- What the contracts say of a text with a limit.
use Rattle.std.specs.Prelude.{ℕ, Bool, List}
use Rattle.escpos_c.specs.declared.limited_text.LimitedText.{LimitedText}

-- the bytes put so far
abbrev pub text_of : LimitedText → List ℕ
text_of sink = sink.text.items

-- a byte was one too many
abbrev pub is_too_long : LimitedText → Bool
is_too_long sink = sink.too_long
