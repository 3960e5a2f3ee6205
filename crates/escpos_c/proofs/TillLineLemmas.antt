-- The line of an entry gives the entry back.
use Rattle.std.proofs.Common.{◌≡◌, ◌∙◌, ◌∷◌, ◌++◌, ℕ, ◌<◌, ◌^◌, List, [], Some, None, refl, sym, ap, arith, zero, suc, length}
use Rattle.std.specs.Prelude.{Bool, Option, IfSome, IsTrue, if◌then◌else◌, ◌==◌, ◌&&◌, nat_le, nat_lt, true, false}
use Rattle.std.specs.Int.{w16, w32, w64, bytes_high_first, byte_at, to_be_bytes}
use Rattle.std.proofs.lemmas.Nat.{from_be_bytes-to_be_bytes_2, from_be_bytes-to_be_bytes_4, from_be_bytes-to_be_bytes_8}
use Rattle.std.specs.List.{AllPass, list_all}
use Rattle.hex.specs.Hex.{encode_lower, is_hex_digit, IsBytes}
use Rattle.hex.proofs.HexLemmas.{decode_of-encode_lower, decode_of-ok}
use Rattle.escpos_command.specs.declared.bytes.TheConstants.{LF}
use Rattle.escpos_command.specs.LineWidths.{is_line_width}
use Rattle.escpos_text.specs.Replacements.{is_replacement}
use Rattle.escpos_till.specs.declared.entry.Entry.{Entry}
use Rattle.escpos_till.specs.declared.entry.Entry.TheVariants as entry
use Rattle.escpos_till.specs.declared.key.TheConstants.{KEY_CHARACTERS}
use Rattle.escpos_till.specs.Keys.{IsKey, is_key_character}
use Rattle.std.proofs.lemmas.List.Sums.{AllPass-from_list_all, list_all-from_AllPass}
use Rattle.escpos_c.specs.TillLines.{IsReal, bytes_in, cancelled_of, earlier_in, earlier_of, entry_in, fields, heard_in, if_ok, is_key, key_in, kind_in, line_of, mark_in, number_in, queued_in, queued_of, raised_in, raised_of, recorded_in, recorded_of, renewed_in, renewed_of, replacement_byte, replacement_in, tried_in, tried_of, width_in, word}

-- ## The fields are bytes

one_more : (x : ℕ) (xs : List ℕ) → x < 256 → IsBytes xs → IsBytes (x ∷ xs)
one_more x xs h hs zero = h
one_more x xs h hs (suc i) = hs i

none_more : IsBytes []
none_more i = omega arith

byte_small : (i n : ℕ) → byte_at i n < 256
byte_small zero n = omega arith
byte_small (suc i) n = omega arith

high_bytes : (k n : ℕ) (more : List ℕ) → IsBytes more → IsBytes (bytes_high_first k n ++ more)
high_bytes zero n more h = h
high_bytes (suc k) n more h = one_more (byte_at k n) (bytes_high_first k n ++ more) (byte_small k n) (high_bytes k n more h)

code_small : (replacement : Option ℕ) → IfSome replacement (λ code. IsTrue (is_replacement code)) → replacement_byte replacement < 256
code_small None h = omega arith
code_small (Some code) h = grind (arith, h)

-- ## Each field

width_back : (w : ℕ) → IsTrue (is_line_width w) → width_in (to_be_bytes w16 w) ≡ Some w
width_back w h =
    let small : w < 2 ^ 16 = grind (arith, h) in
    ap (λ n. if is_line_width n then Some n else None) (from_be_bytes-to_be_bytes_2 w small) ∙ ap (λ b. if b then Some w else None) h

replacement_back : (r : Option ℕ) → IfSome r (λ code. IsTrue (is_replacement code)) → replacement_in (replacement_byte r) ≡ Some r
replacement_back None h = refl
replacement_back (Some code) h =
    let not_zero : (code == 0) ≡ false = grind (arith, h) in
    ap (λ b. if b then Some None else if is_replacement code then Some (Some code) else None) not_zero ∙ ap (λ b. if b then Some (Some code) else None) h

number_back : (n : ℕ) → 0 < n → n < 2 ^ 64 → number_in (to_be_bytes w64 n) ≡ Some n
number_back n some h =
    let not_zero : (n == 0) ≡ false = grind (arith, some) in
    ap (λ m. if m == 0 then None else Some m) (from_be_bytes-to_be_bytes_8 n h) ∙ ap (λ b. if b then None else Some n) not_zero

mark_back : (n : ℕ) → n < 2 ^ 32 → mark_in (to_be_bytes w32 n) ≡ Some n
mark_back n h = ap Some (from_be_bytes-to_be_bytes_4 n h)

three : (a b c : Bool) → a ≡ true → b ≡ true → c ≡ true → (a && b && c) ≡ true
three a b c p q r = ap (λ x. x && b && c) p ∙ ap (λ x. true && x && c) q ∙ ap (λ x. true && true && x) r

first_of : (a b c : Bool) → (a && b && c) ≡ true → (a ≡ true) × (b ≡ true) × (c ≡ true)
first_of true true true h = (refl, refl, refl)
first_of true true false h = absurd (let bad : false ≡ true = h in cc)
first_of true false c h = absurd (let bad : false ≡ true = h in cc)
first_of false b c h = absurd (let bad : false ≡ true = h in cc)

pub is_key_so : (key : List ℕ) → IsKey key → is_key key ≡ true
is_key_so key h =
    three (nat_lt 0 (length key)) (nat_le (length key) KEY_CHARACTERS) (list_all is_key_character key) (grind (arith, h.some)) (grind (arith, h.short)) (list_all-from_AllPass is_key_character key h.plain)

pub key_so : (key : List ℕ) → is_key key ≡ true → IsKey key
key_so key h =
    let parts = first_of (nat_lt 0 (length key)) (nat_le (length key) KEY_CHARACTERS) (list_all is_key_character key) h in
    record { some = grind (arith, parts.0); short = grind (arith, parts.1); plain = AllPass-from_list_all is_key_character key parts.2 }

key_back : (key : List ℕ) → IsKey key → key_in key ≡ Some (entry.Key key)
key_back key h = ap (λ b. if b then Some (entry.Key key) else None) (is_key_so key h)

by_test : (key : List ℕ) (b : Bool) → is_key key ≡ b → (IsKey key → ⊥) → key_in key ≡ None
by_test key true is none = absurd (none (key_so key is))
by_test key false is none = ap (λ b. if b then Some (entry.Key key) else None) is

-- A key is read where there is one.
pub key_found : (key : List ℕ) (k : List ℕ) → IsKey key × (k ≡ key) → Some (entry.Key k) ≡ key_in key
key_found key k (is, same) = ap (λ x. Some (entry.Key x)) same ∙ sym (key_back key is)

pub no_key_found : (key : List ℕ) → (IsKey key → ⊥) → None ≡ key_in key
no_key_found key none = sym (by_test key (is_key key) refl none)

-- A key of a receipt of an older ledger.
pub earlier_found : (number : ℕ) (key : List ℕ) (k : List ℕ) → IsKey key × (k ≡ key) → Some (entry.Earlier number k) ≡ earlier_of (Some number) key
earlier_found number key k (is, same) =
    ap (λ x. Some (entry.Earlier number x)) same ∙ sym (ap (λ b. if b then Some (entry.Earlier number key) else None) (is_key_so key is))

no_earlier : (number : ℕ) (key : List ℕ) (b : Bool) → is_key key ≡ b → (IsKey key → ⊥) → earlier_of (Some number) key ≡ None
no_earlier number key true is none = absurd (none (key_so key is))
no_earlier number key false is none = ap (λ b. if b then Some (entry.Earlier number key) else None) is

pub no_earlier_found : (number : ℕ) (key : List ℕ) → (IsKey key → ⊥) → None ≡ earlier_of (Some number) key
no_earlier_found number key none = sym (no_earlier number key (is_key key) refl none)

-- ## The line

bytes_back : (bytes : List ℕ) → IsBytes bytes → bytes_in (encode_lower bytes) ≡ Some bytes
bytes_back bytes h = ap if_ok (decode_of-encode_lower bytes h)

pub fields_are_bytes : (e : Entry) → IsReal e → IsBytes (fields e)
fields_are_bytes (entry.Queued content) real =
    let replacement = content.options.replacement in
    high_bytes 2 content.options.width (replacement_byte replacement ∷ content.text)
    (one_more (replacement_byte replacement) content.text (code_small replacement real.1) real.2)
fields_are_bytes (entry.Tried number next) real = high_bytes 8 number (to_be_bytes w32 next) (high_bytes 4 next [] none_more)
fields_are_bytes (entry.Recorded number heard) real = high_bytes 8 number (to_be_bytes w32 heard) (high_bytes 4 heard [] none_more)
fields_are_bytes (entry.Raised next heard) real = high_bytes 4 next (to_be_bytes w32 heard) (high_bytes 4 heard [] none_more)
fields_are_bytes (entry.Cancelled number) real = high_bytes 8 number [] none_more
fields_are_bytes (entry.Key key) real = real.1
fields_are_bytes (entry.Renewed last heard) real = high_bytes 4 last (to_be_bytes w32 heard) (high_bytes 4 heard [] none_more)
fields_are_bytes (entry.Earlier number key) real = high_bytes 8 number key real.3

pub read_back : (e : Entry) → IsReal e → entry_in (line_of e) ≡ Some e
read_back (entry.Queued content) real =
    let width = content.options.width in let replacement = content.options.replacement in let e = entry.Queued content in
    ap (kind_in queued_in) (bytes_back (fields e) (fields_are_bytes e real))
    ∙ ap (λ o. queued_of o (replacement_in (replacement_byte replacement)) content.text) (width_back width real.0)
    ∙ ap (λ o. queued_of (Some width) o content.text) (replacement_back replacement real.1)
read_back (entry.Tried number next) real =
    let e = entry.Tried number next in
    ap (kind_in tried_in) (bytes_back (fields e) (fields_are_bytes e real))
    ∙ ap (λ o. tried_of o (mark_in (to_be_bytes w32 next))) (number_back number real.0 real.1)
    ∙ ap (tried_of (Some number)) (mark_back next real.2)
read_back (entry.Recorded number heard) real =
    let e = entry.Recorded number heard in
    ap (kind_in recorded_in) (bytes_back (fields e) (fields_are_bytes e real))
    ∙ ap (λ o. recorded_of o (heard_in (to_be_bytes w32 heard))) (number_back number real.0 real.1)
    ∙ ap (recorded_of (Some number)) (mark_back heard real.2)
read_back (entry.Raised next heard) real =
    let e = entry.Raised next heard in
    ap (kind_in raised_in) (bytes_back (fields e) (fields_are_bytes e real))
    ∙ ap (λ o. raised_of o (heard_in (to_be_bytes w32 heard))) (mark_back next real.0)
    ∙ ap (raised_of (Some next)) (mark_back heard real.1)
read_back (entry.Cancelled number) real =
    let e = entry.Cancelled number in
    ap (kind_in (λ bytes. cancelled_of (number_in bytes))) (bytes_back (fields e) (fields_are_bytes e real)) ∙ ap cancelled_of (number_back number real.0 real.1)
read_back (entry.Key key) real =
    let e = entry.Key key in
    ap (kind_in key_in) (bytes_back (fields e) (fields_are_bytes e real)) ∙ key_back key real.0
read_back (entry.Renewed last heard) real =
    let e = entry.Renewed last heard in
    ap (kind_in renewed_in) (bytes_back (fields e) (fields_are_bytes e real))
    ∙ ap (λ o. renewed_of o (mark_in (to_be_bytes w32 heard))) (mark_back last real.0)
    ∙ ap (renewed_of (Some last)) (mark_back heard real.1)
read_back (entry.Earlier number key) real =
    let e = entry.Earlier number key in
    ap (kind_in earlier_in) (bytes_back (fields e) (fields_are_bytes e real))
    ∙ ap (λ o. earlier_of o key) (number_back number real.0 real.1) ∙ sym (earlier_found number key key (real.2, refl))

-- ## No LF

abbrev pub no_lf : List ℕ → Bool
no_lf [] = true
no_lf (c ∷ text) = if c == LF then false else no_lf text

neither : (b s : Bool) → (if b then false else s) ≡ true → (b ≡ false) × (s ≡ true)
neither true s h = absurd (cc h)
neither false s h = (refl, h)

pub first_of_no_lf : (c : ℕ) (text : List ℕ) → no_lf (c ∷ text) ≡ true → ((c == LF) ≡ false) × (no_lf text ≡ true)
first_of_no_lf c text h = neither (c == LF) (no_lf text) h

one_more_no_lf : (c : ℕ) (text : List ℕ) → (c == LF) ≡ false → no_lf text ≡ true → no_lf (c ∷ text) ≡ true
one_more_no_lf c text other h = ap (λ b. if b then false else no_lf text) other ∙ h

both_no_lf : (text more : List ℕ) → no_lf text ≡ true → no_lf more ≡ true → no_lf (text ++ more) ≡ true
both_no_lf [] more h k = k
both_no_lf (c ∷ text) more h k =
    let parts = first_of_no_lf c text h in one_more_no_lf c (text ++ more) parts.0 (both_no_lf text more parts.1 k)

digit_no_lf : (c : ℕ) → is_hex_digit c ≡ true → (c == LF) ≡ false
digit_no_lf c h = grind (arith, h)

digits_no_lf : (text : List ℕ) → AllPass is_hex_digit text → no_lf text ≡ true
digits_no_lf [] h = refl
digits_no_lf (c ∷ text) h =
    one_more_no_lf c text (digit_no_lf c (h 0 0 (omega arith))) (digits_no_lf text (λ k d inside. h (suc k) d (omega (arith, inside))))

word_no_lf : (e : Entry) → no_lf (word e) ≡ true
word_no_lf (entry.Queued content) = refl
word_no_lf (entry.Tried number next) = refl
word_no_lf (entry.Recorded number heard) = refl
word_no_lf (entry.Raised next heard) = refl
word_no_lf (entry.Cancelled number) = refl
word_no_lf (entry.Key key) = refl
word_no_lf (entry.Renewed last heard) = refl
word_no_lf (entry.Earlier number key) = refl

-- The line of an entry has no LF but its end.
pub line_no_lf : (e : Entry) → IsReal e → no_lf (line_of e) ≡ true
line_no_lf e real =
    let bytes = fields e in
    both_no_lf (word e) (encode_lower bytes) (word_no_lf e)
    (digits_no_lf (encode_lower bytes) (decode_of-ok (encode_lower bytes) bytes (decode_of-encode_lower bytes (fields_are_bytes e real))).1)
