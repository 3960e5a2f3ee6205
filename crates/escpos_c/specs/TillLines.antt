-- The line of text that an entry of a till's ledger is kept as: a word, a blank, and fields in hexadecimal.
use Rattle.std.specs.Prelude.{ℕ, Bool, ◌&&◌, nat_le, nat_lt, ◌==◌, ◌<◌, ◌^◌, if◌then◌else◌, Option, None, Some, Result, Ok, Err, List, [], ◌∷◌, ◌++◌, length, take, drop, codes, IfSome, IsTrue}
use Rattle.std.specs.List.{list_all}
use Rattle.std.specs.Int.{w16, w32, w64, from_be_bytes, to_be_bytes}
use Rattle.hex.specs.declared.error.FromHexError.{FromHexError}
use Rattle.hex.specs.Hex.{decode_of, encode_lower, IsBytes}
use Rattle.escpos_command.specs.declared.bytes.TheConstants.{LF}
use Rattle.escpos_command.specs.LineWidths.{is_line_width}
use Rattle.escpos_text.specs.Replacements.{is_replacement}
use Rattle.escpos_till.specs.declared.entry.Entry.{Entry}
use Rattle.escpos_till.specs.declared.entry.Entry.TheVariants as entry
use Rattle.escpos_till.specs.declared.key.TheConstants.{KEY_CHARACTERS}
use Rattle.escpos_till.specs.Contents.{content_with}
use Rattle.escpos_till.specs.Keys.{IsKey, is_key_character}

-- ## The line of an entry

abbrev pub queued_word : List ℕ
queued_word = codes "queued "

abbrev pub tried_word : List ℕ
tried_word = codes "tried "

abbrev pub recorded_word : List ℕ
recorded_word = codes "recorded "

abbrev pub raised_word : List ℕ
raised_word = codes "raised "

abbrev pub cancelled_word : List ℕ
cancelled_word = codes "cancelled "

abbrev pub key_word : List ℕ
key_word = codes "key "

abbrev pub renewed_word : List ℕ
renewed_word = codes "renewed "

abbrev pub earlier_word : List ℕ
earlier_word = codes "earlier "

abbrev pub word : Entry → List ℕ
word (entry.Queued content) = queued_word
word (entry.Tried number next) = tried_word
word (entry.Recorded number heard) = recorded_word
word (entry.Raised next heard) = raised_word
word (entry.Cancelled number) = cancelled_word
word (entry.Key key) = key_word
word (entry.Renewed last heard) = renewed_word
word (entry.Earlier number key) = earlier_word

-- The replacement of a receipt's options, and 0 where there is none.
abbrev pub replacement_byte : Option ℕ → ℕ
replacement_byte None = 0
replacement_byte (Some code) = code

-- The bytes of the fields: the width of a line in two and the replacement in one, then the receipt's text; the receipt's number in
-- eight, the next mark number in four; what is heard of marks in four; the key; the last number of an older ledger in four.
abbrev pub fields : Entry → List ℕ
fields (entry.Queued content) = to_be_bytes w16 content.options.width ++ replacement_byte content.options.replacement ∷ content.text
fields (entry.Tried number next) = to_be_bytes w64 number ++ to_be_bytes w32 next
fields (entry.Recorded number heard) = to_be_bytes w64 number ++ to_be_bytes w32 heard
fields (entry.Raised next heard) = to_be_bytes w32 next ++ to_be_bytes w32 heard
fields (entry.Cancelled number) = to_be_bytes w64 number
fields (entry.Key key) = key
fields (entry.Renewed last heard) = to_be_bytes w32 last ++ to_be_bytes w32 heard
fields (entry.Earlier number key) = to_be_bytes w64 number ++ key

-- The line of an entry, without its end.
abbrev pub line_of : Entry → List ℕ
line_of e = word e ++ encode_lower (fields e)

-- The same with its end.
abbrev pub ended_line : Entry → List ℕ
ended_line e = line_of e ++ LF ∷ []

-- ## The entry of a line

-- What stands after this word.
abbrev pub after : List ℕ → List ℕ → Option (List ℕ)
after [] line = Some line
after (b ∷ word) [] = None
after (b ∷ word) (c ∷ line) = if b == c then after word line else None

abbrev pub if_ok : Result (List ℕ) FromHexError → Option (List ℕ)
if_ok (Ok bytes) = Some bytes
if_ok (Err why) = None

-- The bytes that these digits stand for.
abbrev pub bytes_in : List ℕ → Option (List ℕ)
bytes_in digits = if_ok (decode_of digits)

abbrev pub width_in : List ℕ → Option ℕ
width_in bytes = if length bytes == 2 then (if is_line_width (from_be_bytes w16 bytes) then Some (from_be_bytes w16 bytes) else None) else None

abbrev pub replacement_in : ℕ → Option (Option ℕ)
replacement_in byte = if byte == 0 then Some None else if is_replacement byte then Some (Some byte) else None

abbrev pub number_in : List ℕ → Option ℕ
number_in bytes = if length bytes == 8 then (if from_be_bytes w64 bytes == 0 then None else Some (from_be_bytes w64 bytes)) else None

abbrev pub mark_in : List ℕ → Option ℕ
mark_in bytes = if length bytes == 4 then Some (from_be_bytes w32 bytes) else None

abbrev pub queued_of : Option ℕ → Option (Option ℕ) → List ℕ → Option Entry
queued_of (Some width) (Some replacement) text = Some (entry.Queued (content_with (record { width = width; replacement = replacement }) text))
queued_of _ _ text = None

abbrev pub queued_in : List ℕ → Option Entry
queued_in (a ∷ b ∷ c ∷ text) = queued_of (width_in (a ∷ b ∷ [])) (replacement_in c) text
queued_in _ = None

abbrev pub tried_of : Option ℕ → Option ℕ → Option Entry
tried_of (Some number) (Some next) = Some (entry.Tried number next)
tried_of _ _ = None

abbrev pub tried_in : List ℕ → Option Entry
tried_in bytes = tried_of (number_in (take 8 bytes)) (mark_in (drop 8 bytes))

-- What is heard of marks; 0 where nothing is said, as in lines of before.
abbrev pub heard_in : List ℕ → Option ℕ
heard_in bytes = if length bytes == 0 then Some 0 else mark_in bytes

abbrev pub recorded_of : Option ℕ → Option ℕ → Option Entry
recorded_of (Some number) (Some heard) = Some (entry.Recorded number heard)
recorded_of _ _ = None

abbrev pub recorded_in : List ℕ → Option Entry
recorded_in bytes = recorded_of (number_in (take 8 bytes)) (heard_in (drop 8 bytes))

abbrev pub raised_of : Option ℕ → Option ℕ → Option Entry
raised_of (Some next) (Some heard) = Some (entry.Raised next heard)
raised_of _ _ = None

abbrev pub raised_in : List ℕ → Option Entry
raised_in bytes = raised_of (mark_in (take 4 bytes)) (heard_in (drop 4 bytes))

abbrev pub cancelled_of : Option ℕ → Option Entry
cancelled_of None = None
cancelled_of (Some number) = Some (entry.Cancelled number)

-- These bytes are a receipt's key.
abbrev pub is_key : List ℕ → Bool
is_key bytes = nat_lt 0 (length bytes) && nat_le (length bytes) KEY_CHARACTERS && list_all is_key_character bytes

abbrev pub key_in : List ℕ → Option Entry
key_in bytes = if is_key bytes then Some (entry.Key bytes) else None

abbrev pub renewed_of : Option ℕ → Option ℕ → Option Entry
renewed_of (Some last) (Some heard) = Some (entry.Renewed last heard)
renewed_of _ _ = None

abbrev pub renewed_in : List ℕ → Option Entry
renewed_in bytes = renewed_of (mark_in (take 4 bytes)) (mark_in (drop 4 bytes))

abbrev pub earlier_of : Option ℕ → List ℕ → Option Entry
earlier_of None key = None
earlier_of (Some number) key = if is_key key then Some (entry.Earlier number key) else None

abbrev pub earlier_in : List ℕ → Option Entry
earlier_in bytes = earlier_of (number_in (take 8 bytes)) (drop 8 bytes)

abbrev pub kind_in : (List ℕ → Option Entry) → Option (List ℕ) → Option Entry
kind_in read None = None
kind_in read (Some bytes) = read bytes

-- The digits that stand after one of the words; the first word that fits counts.
abbrev pub digits_in : Option (List ℕ) → Option (List ℕ) → Option (List ℕ) → Option (List ℕ) → Option (List ℕ) → Option (List ℕ) → Option (List ℕ) → Option (List ℕ) → Option Entry
digits_in (Some digits) _ _ _ _ _ _ _ = kind_in queued_in (bytes_in digits)
digits_in None (Some digits) _ _ _ _ _ _ = kind_in tried_in (bytes_in digits)
digits_in None None (Some digits) _ _ _ _ _ = kind_in recorded_in (bytes_in digits)
digits_in None None None (Some digits) _ _ _ _ = kind_in raised_in (bytes_in digits)
digits_in None None None None (Some digits) _ _ _ = kind_in (λ bytes. cancelled_of (number_in bytes)) (bytes_in digits)
digits_in None None None None None (Some digits) _ _ = kind_in key_in (bytes_in digits)
digits_in None None None None None None (Some digits) _ = kind_in renewed_in (bytes_in digits)
digits_in None None None None None None None (Some digits) = kind_in earlier_in (bytes_in digits)
digits_in None None None None None None None None = None

-- The entry that a line, without its end, is.
abbrev pub entry_in : List ℕ → Option Entry
entry_in line =
    digits_in (after queued_word line) (after tried_word line) (after recorded_word line) (after raised_word line) (after cancelled_word line) (after key_word line)
    (after renewed_word line) (after earlier_word line)

-- ## Entries that there are

-- The entry is one that the types have: receipt numbers begin at 1, numbers have 64 bits and mark numbers 32, the text is bytes,
-- and a key is one.
abbrev pub IsReal : Entry → Type 0
IsReal (entry.Queued content) =
    IsTrue (is_line_width content.options.width) × IfSome content.options.replacement (λ code. IsTrue (is_replacement code)) × IsBytes content.text
IsReal (entry.Tried number next) = (0 < number) × (number < 2 ^ 64) × (next < 2 ^ 32)
IsReal (entry.Recorded number heard) = (0 < number) × (number < 2 ^ 64) × (heard < 2 ^ 32)
IsReal (entry.Raised next heard) = (next < 2 ^ 32) × (heard < 2 ^ 32)
IsReal (entry.Cancelled number) = (0 < number) × (number < 2 ^ 64)
IsReal (entry.Key key) = IsKey key × IsBytes key
IsReal (entry.Renewed last heard) = (last < 2 ^ 32) × (heard < 2 ^ 32)
IsReal (entry.Earlier number key) = (0 < number) × (number < 2 ^ 64) × IsKey key × IsBytes key
