-- A plain text is written as it is.
use Rattle.std.proofs.Common.{◌≡◌, ℕ, suc, ◌<◌, ◌≤◌, Bool, true, not, ◌&&◌, ◌==◌, nat_le, nat_lt, lt-ltb, cond, List, [], ◌∷◌, ◌++◌, length, get_or, map, refl, sym, ap, subst, ◌∙◌, arith, eqb-true, eq-eqb, leb-true, Option, Some, None, Ok, position, inl, inr}
use Rattle.std.specs.Prelude.{All, slice_get, is_none, ok_or, chars, option_map}
use Rattle.std.specs.List.{list_all}
use Rattle.std.proofs.lemmas.Bool.{and_parts, or_cases, or_left, cases_Bool, cond-true, cond-false, not-false}
use Rattle.std.proofs.lemmas.Bool.Decides.{nat_tests}
use Rattle.std.proofs.lemmas.Option.{slice_get-get_or}
use Rattle.std.proofs.lemmas.List.Elements.{All-from_get_or}
use Rattle.std.proofs.lemmas.List.Quantifiers.{position-Some}
use Rattle.std.proofs.lemmas.Str.{chars-IsAscii}
use Rattle.std.proofs.lemmas.Str.Ascii.{IsAscii-from_all}
use Rattle.unicode_normalization.specs.Forms.{nfc, Nfc}
use Rattle.unicode_normalization.proofs.FormsLemmas.{normalize-ascii}
use Rattle.escpos_command.specs.declared.command.Command.TheVariants as kind
use Rattle.escpos_command.specs.declared.setting.SettingKind.TheVariants as sets
use Rattle.escpos_command.specs.CommandTable.{spell, set_to}
use Rattle.escpos_text.specs.declared.encoding.Encoding.{Encoding}
use Rattle.escpos_text.specs.declared.encoding.TextFault.TheVariants.{NoCharacter}
use Rattle.escpos_text.specs.declared.placing.Place.{Place}
use Rattle.escpos_text.specs.CharacterSets.{exchanged_bytes, characters_in}
use Rattle.escpos_text.specs.Reading.{reads, reads_at, reads_high, reads_low, byte_for}
use Rattle.escpos_text.specs.PlainTexts.{is_printed, is_unexchanged, is_ascii, is_plain}
use Rattle.escpos_text.specs.Writing.{placed, place_in, commands_for, written, WritesOne}
use Rattle.escpos_text.proofs.CharacterSets.{set_0-ascii, set_17-ascii}
use Rattle.escpos_text.proofs.LowBytes.{own-lowest}
use Rattle.escpos_text.proofs.LowestBytes.{lowest-low, byte_for-from_lowest}
use Rattle.escpos_text.proofs.FirstAnswers.{reach-first, place-own, placed-other}
use Rattle.escpos_text.proofs.Places.{place_fails}
use Rattle.escpos_text.proofs.SoFar.{prepend, written-cons}

record IsPrinted (b : ℕ) : Type 0 where
  from : 0x20 ≤ b
  to : b ≤ 0x7E
  test : is_printed b ≡ true

printed-bounds : (b : ℕ) → is_printed b ≡ true → IsPrinted b
printed-bounds b h = let parts = and_parts (nat_le 0x20 b) (nat_le b 0x7E) h in record { from = leb-true _ _ parts.0; to = leb-true _ _ parts.1; test = h }

plain-printed : (set b : ℕ) → is_plain set b ≡ true → IsPrinted b
unfolding is_plain
plain-printed set b h =
    elim (cases_Bool (is_ascii set)) [
      | inl ascii ↦ printed-bounds b (sym (cond-true (is_ascii set) (is_printed b) (is_unexchanged b) ascii) ∙ h)
      | inr other ↦ printed-bounds b (and_parts (is_printed b) _ (sym (cond-false (is_ascii set) (is_printed b) (is_unexchanged b) other) ∙ h)).0
    ]

-- A byte that no set exchanges reads as itself.
none_of : (o : Option ℕ) → is_none o ≡ true → o ≡ None
none_of None h = refl
none_of (Some x) h = cc

unexchanged-reads : (set b : ℕ) → is_unexchanged b ≡ true → reads_low set b ≡ Some b
unfolding reads_low
unexchanged-reads set b h =
    let parts = and_parts (is_printed b) (is_none (position (λ x. x == b) exchanged_bytes)) h in
    ap (λ o. reads_at o set b) (none_of _ parts.1) ∙ cond-true _ _ _ parts.0

-- A set that is ASCII reads each byte as itself.
ascii-characters : (set : ℕ) → is_ascii set ≡ true → characters_in set ≡ exchanged_bytes
ascii-characters set h =
    elim (or_cases (set == 0) (set == 17) h) [
      | inl first ↦ ap characters_in (eqb-true set 0 first) ∙ set_0-ascii
      | inr last ↦ ap characters_in (eqb-true set 17 last) ∙ set_17-ascii
    ]

ascii-reads : (set b : ℕ) → is_ascii set ≡ true → is_printed b ≡ true → reads_low set b ≡ Some b
unfolding reads_low
ascii-reads set b ascii h = go (position (λ x. x == b) exchanged_bytes) refl where
  go : (o : Option ℕ) → position (λ x. x == b) exchanged_bytes ≡ o → reads_at o set b ≡ Some b
  go None e = cond-true _ _ _ h
  go (Some place) e =
      let facts = position-Some (λ x. x == b) exchanged_bytes place 0 e in
      ap (λ cs. slice_get cs place) (ascii-characters set ascii) ∙ slice_get-get_or exchanged_bytes place 0 facts.0 ∙ ap Some (eqb-true _ _ facts.1)

printed-test : (b : ℕ) → 0x20 ≤ b → b ≤ 0x7E → is_printed b ≡ true
printed-test b from to = grind (arith, nat_tests)

pub ascii-read : (table b : ℕ) → 0x20 ≤ b → b ≤ 0x7E → reads 0 table b ≡ Some b
unfolding reads
ascii-read table b from to =
    cond-true (nat_lt b 0x80) (reads_low 0 b) (reads_high table b) (lt-ltb b 0x80 (omega arith)) ∙ ascii-reads 0 b refl (printed-test b from to)

plain-reads : (set b : ℕ) → is_plain set b ≡ true → reads_low set b ≡ Some b
unfolding is_plain
plain-reads set b h =
    elim (cases_Bool (is_ascii set)) [
      | inl ascii ↦ ascii-reads set b ascii (sym (cond-true (is_ascii set) (is_printed b) (is_unexchanged b) ascii) ∙ h)
      | inr other ↦ unexchanged-reads set b (sym (cond-false (is_ascii set) (is_printed b) (is_unexchanged b) other) ∙ h)
    ]

-- So it is the lowest byte that does, in every table.
pub plain-byte : (set table b : ℕ) → is_plain set b ≡ true → byte_for set table b ≡ Some b
plain-byte set table b h =
    let p = plain-printed set b h in
    let below : b < 0x80 = let to = p.to in omega arith in
    sym (byte_for-from_lowest set table b (Some b) (lowest-low set table b b (own-lowest set b below (plain-reads set b h))))

pub plain-placed : (e : Encoding) (b : ℕ) → is_plain e.set b ≡ true → placed e b ≡ Ok (record { table = e.table; byte = b })
plain-placed e b h =
    let p = plain-printed e.set b h in
    let here : Place = record { table = e.table; byte = b } in
    let stands : place_in e.set b e.table ≡ Some here = ap (option_map (λ byte. record { table = e.table; byte = byte })) (plain-byte e.set e.table b h) in
    placed-other e b p.from ∙ ap (λ o. ok_or o (NoCharacter b)) (place-own e b here (reach-first e b here stands))

pub no_table : (table byte : ℕ) → commands_for table (record { table = table; byte = byte }) ≡ kind.Char byte ∷ []
no_table table byte = ap (λ t. cond t [] (set_to sets.Table table ∷ []) ++ kind.Char byte ∷ []) (eq-eqb table table refl)

plain-written : (e : Encoding) (bs : List ℕ) → list_all (is_plain e.set) bs ≡ true → written e bs ≡ Ok (map (λ b. kind.Char b) bs)
unfolding written
plain-written e [] h = refl
plain-written e (b ∷ bs) h =
    let parts = and_parts (is_plain e.set b) (list_all (is_plain e.set) bs) h in
    written-cons e b bs (record { table = e.table; byte = b }) (plain-placed e b parts.0)
    ∙ ap (λ cs. prepend cs (written e bs)) (no_table e.table b)
    ∙ ap (prepend (kind.Char b ∷ [])) (plain-written e bs parts.1)

-- No place fails the test.
all_pass : (test : ℕ → Bool) (xs : List ℕ) → position (λ x. not (test x)) xs ≡ None → (i : ℕ) → i < length xs → test (get_or xs i 0) ≡ true
all_pass test xs h i lt = not-false _ (place_fails (λ x. not (test x)) xs i h lt)

list_all_pass : (test : ℕ → Bool) (xs : List ℕ) → ((i : ℕ) → i < length xs → test (get_or xs i 0) ≡ true) → list_all test xs ≡ true
list_all_pass test [] h = refl
list_all_pass test (x ∷ xs) h = ap (λ t. t && list_all test xs) (h 0 (omega arith)) ∙ list_all_pass test xs (λ i lt. h (suc i) (omega arith))

pub plain-text : (e : Encoding) (set : ℕ) (text : List ℕ) → position (λ b. not (is_plain set b)) text ≡ None → e.set ≡ set → written e (nfc (chars text)) ≡ Ok (map (λ b. kind.Char b) text)
plain-text e set text h same =
    let pass = all_pass (is_plain set) text h in
    let ascii : All (λ b. b < 128) text = All-from_get_or (λ b. b < 128) text 0 (λ i lt. let to = (plain-printed set (get_or text i 0) (pass i lt)).to in omega arith) in
    let own : chars text ≡ text = chars-IsAscii text (IsAscii-from_all text ascii) in
    ap (λ cs. written e (nfc cs)) own
    ∙ ap (written e) (normalize-ascii Nfc text ascii)
    ∙ plain-written e text (subst (λ s. list_all (is_plain s) text ≡ true) (sym same) (list_all_pass (is_plain set) text pass))

-- A character of ASCII in set 0 is put as its byte.
surely-plain : (set c : ℕ) → (set == 0 && is_printed c) ≡ true → is_plain set c ≡ true
unfolding is_plain
surely-plain set c h =
    let parts = and_parts (set == 0) (is_printed c) h in
    let ascii : is_ascii set ≡ true = or_left (set == 0) (set == 17) parts.0 in
    cond-true (is_ascii set) (is_printed c) (is_unexchanged c) ascii ∙ parts.1

pub put-plain : (e : Encoding) (c : ℕ) (bytes more : List ℕ) → (e.set == 0 && is_printed c) ≡ true → more ≡ bytes ++ c ∷ [] → WritesOne e c bytes more e
put-plain e c bytes more h put = record {
  place = record { table = e.table; byte = c };
  stands = plain-placed e c (surely-plain e.set c h);
  are_spelled = put ∙ ap (λ commands. bytes ++ spell commands) (sym (no_table e.table c));
  in_force = refl;
}
