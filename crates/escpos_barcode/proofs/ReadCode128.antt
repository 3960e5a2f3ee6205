-- CODE128 is read back.
use Rattle.std.proofs.Common.{◌≡◌, ℕ, ◌+◌, ◌-◌, ◌<◌, inl, inr, List, [], ◌∷◌, ◌++◌, length, refl, sym, ap, ◌∙◌, arith, true, false, Bool, Option, Some, None, append_assoc, subst}
use Rattle.std.specs.Prelude.{◌==◌, ◌&&◌, nat_le, nat_lt, flat_map, if◌then◌else◌}
use Rattle.std.specs.List.{list_all, list_any}
use Rattle.std.proofs.lemmas.Bool.{and_parts, and_from, eqb-true, eq-eqb, lt-ltb, le-ltb, ltb-true, ltb-false, leb-true}
use Rattle.std.proofs.lemmas.Bool.Decides.{eqb_tells}
use Rattle.escpos_barcode.specs.declared.code128.CodeSet.{CodeSet}
use Rattle.escpos_barcode.specs.declared.code128.CodeSet.TheVariants.{A, B, C}
use Rattle.escpos_barcode.specs.declared.code128.Character.{Character}
use Rattle.escpos_barcode.specs.declared.code128.Character.TheVariants.{Byte, Function1, Function2, Function3, Function4, Shift, Code}
use Rattle.escpos_barcode.specs.Chains.{given, joined}
use Rattle.escpos_barcode.specs.Code128.{escaped, characters_after, characters, is_byte, is_shift, set_after, shifted, byte_value, code_value, value_in, value_shifted, values_after, start_value, started, code128_values, check_value}
use Rattle.escpos_barcode.specs.Elements.{code128_elements, code128}
use Rattle.escpos_barcode.specs.Reader.{symbols, last_off, read_start, read_control, read_value, read_values, spelled, all_spelled, read_content, read_checked, read_128}
use Rattle.escpos_barcode.specs.Tables.{row, has_row, code128_rows, code128_table}
use Rattle.escpos_barcode.proofs.Lookups.{some_if, if_some, given_some, joined_some, if_there, is_readable, symbols_of_rows, row_has, has_numbered, all_by, all_append, rows_to_end}
use Rattle.escpos_barcode.proofs.ReadSpaced.{last_of}

code128_readable : is_readable code128_table code128_table ≡ true
unfolding code128_rows code128_table
code128_readable = refl

code128_six : list_all (λ r. length r.1 == 6) code128_table ≡ true
unfolding code128_rows code128_table
code128_six = refl

code128_has : (v : ℕ) → v < 107 → has_row code128_table v ≡ true
unfolding code128_rows code128_table
code128_has v h = has_numbered code128_rows 0 v (omega arith) (omega arith)

-- ## The content and its characters

-- What a brace and the byte after it say is spelled by them.
one_escape : (b n : ℕ) (x c : Character) → ((b == n) ≡ true) × (x ≡ c) → spelled x ≡ 0x7B ∷ n ∷ [] → spelled c ≡ 0x7B ∷ b ∷ []
one_escape b n x c h e = ap spelled (sym h.1) ∙ e ∙ ap (λ m. 0x7B ∷ m ∷ []) (sym (eqb-true b n h.0))

escape_spelled : (b : ℕ) (c : Character) → escaped b ≡ Some c → spelled c ≡ 0x7B ∷ b ∷ []
escape_spelled b c e0 = elim (if_some (b == 0x7B) (Byte 0x7B) c _ e0) [
  | inl h ↦ one_escape b 0x7B (Byte 0x7B) c h refl
  | inr e1 ↦
      elim (if_some (b == 0x53) Shift c _ e1.1) [
        | inl h ↦ one_escape b 0x53 Shift c h refl
        | inr e2 ↦
            elim (if_some (b == 0x31) Function1 c _ e2.1) [
              | inl h ↦ one_escape b 0x31 Function1 c h refl
              | inr e3 ↦
                  elim (if_some (b == 0x32) Function2 c _ e3.1) [
                    | inl h ↦ one_escape b 0x32 Function2 c h refl
                    | inr e4 ↦
                        elim (if_some (b == 0x33) Function3 c _ e4.1) [
                          | inl h ↦ one_escape b 0x33 Function3 c h refl
                          | inr e5 ↦
                              elim (if_some (b == 0x34) Function4 c _ e5.1) [
                                | inl h ↦ one_escape b 0x34 Function4 c h refl
                                | inr e6 ↦
                                    elim (if_some (b == 0x41) (Code A) c _ e6.1) [
                                      | inl h ↦ one_escape b 0x41 (Code A) c h refl
                                      | inr e7 ↦
                                          elim (if_some (b == 0x42) (Code B) c _ e7.1) [
                                            | inl h ↦ one_escape b 0x42 (Code B) c h refl
                                            | inr e8 ↦
                                                elim (if_some (b == 0x43) (Code C) c None e8.1) [ inl h ↦ one_escape b 0x43 (Code C) c h refl | inr e9 ↦ let none = e9.1 in absurd cc ]
                                          ]
                                    ]
                              ]
                        ]
                  ]
            ]
      ]
]

-- What the characters of these bytes spell: the bytes, with the brace before them if they follow one.
abbrev after_brace : Bool → List ℕ → List ℕ
after_brace true bs = 0x7B ∷ bs
after_brace false bs = bs

characters_spelled : (brace : Bool) (bs : List ℕ) (cs : List Character) → characters_after brace bs ≡ Some cs → flat_map spelled cs ≡ after_brace brace bs
characters_spelled false [] cs e = let nothing : [] ≡ cs = cc in ap (flat_map spelled) (sym nothing)
characters_spelled true [] cs e = absurd cc
characters_spelled false (b ∷ bs) cs e = elim (eqb_tells b 0x7B) [
  | inl t ↦
      let rest = ap (λ (v : Bool). if v then characters_after true bs else joined (Byte b ∷ []) (characters_after false bs)) (sym t.0) ∙ e in
      characters_spelled true bs cs rest ∙ ap (λ x. x ∷ bs) (sym t.1)
  | inr t ↦
      let rest = joined_some (Byte b ∷ []) cs (characters_after false bs) (ap (λ (v : Bool). if v then characters_after true bs else joined (Byte b ∷ []) (characters_after false bs)) (sym t.0) ∙ e) in
      ap (flat_map spelled) (sym rest.2) ∙ ap (λ (v : Bool). (if v then 0x7B ∷ 0x7B ∷ [] else b ∷ []) ++ flat_map spelled rest.0) t.0
      ∙ ap (λ xs. b ∷ xs) (characters_spelled false bs rest.0 rest.1)
]
characters_spelled true (b ∷ bs) cs e =
    let first = given_some (escaped b) (λ c. joined (c ∷ []) (characters_after false bs)) cs e in
    let rest = joined_some (first.0 ∷ []) cs (characters_after false bs) first.2 in
    ap (flat_map spelled) (sym rest.2) ∙ ap (λ xs. xs ++ flat_map spelled rest.0) (escape_spelled b first.0 first.1)
    ∙ ap (λ xs. 0x7B ∷ b ∷ xs) (characters_spelled false bs rest.0 rest.1)

-- ## Characters and their values

record IsRead (set : CodeSet) (c : Character) (v : ℕ) : Type 0 where
  small : v < 103
  back : read_value set v ≡ Some c

byte_read : (set : CodeSet) (b v : ℕ) → byte_value set b ≡ Some v → IsRead set (Byte b) v
byte_read A b v e = elim (if_some (nat_lt b 0x20) (b + 64) v (if nat_lt b 0x60 then Some (b - 32) else None) e) [
  | inl h ↦
      let low = ltb-true b 0x20 h.0 in
      let is = h.1 in
      let number : v - 64 ≡ b = omega arith in
      record {
        small = omega arith;
        back =
            ap (λ (t : Bool). if t then Some (Byte (v + 32)) else if nat_lt v 96 then Some (Byte (v - 64)) else read_control A v) (le-ltb v 64 (omega arith))
            ∙ ap (λ (t : Bool). if t then Some (Byte (v - 64)) else read_control A v) (lt-ltb v 96 (omega arith)) ∙ ap (λ n. Some (Byte n)) number;
      }
  | inr rest ↦
      let h = some_if (nat_lt b 0x60) (b - 32) v rest.1 in
      let high = ltb-true b 0x60 h.0 in
      let is = h.1 in
      let low = ltb-false b 0x20 rest.0 in
      let number : v + 32 ≡ b = omega arith in
      record {
        small = omega arith;
        back = ap (λ (t : Bool). if t then Some (Byte (v + 32)) else if nat_lt v 96 then Some (Byte (v - 64)) else read_control A v) (lt-ltb v 64 (omega arith)) ∙ ap (λ n. Some (Byte n)) number;
      }
]
byte_read B b v e =
    let h = some_if (nat_le 0x20 b && nat_lt b 0x80) (b - 32) v e in
    let range = and_parts (nat_le 0x20 b) (nat_lt b 0x80) h.0 in
    let low = leb-true 0x20 b range.0 in
    let high = ltb-true b 0x80 range.1 in
    let is = h.1 in
    let number : v + 32 ≡ b = omega arith in
    record { small = omega arith; back = ap (λ (t : Bool). if t then Some (Byte (v + 32)) else read_control B v) (lt-ltb v 96 (omega arith)) ∙ ap (λ n. Some (Byte n)) number }
byte_read C b v e =
    let h = some_if (nat_lt b 100) b v e in
    let low = ltb-true b 100 h.0 in
    let is = h.1 in
    record { small = omega arith; back = ap (λ (t : Bool). if t then Some (Byte v) else read_control C v) (lt-ltb v 100 (omega arith)) ∙ ap (λ n. Some (Byte n)) (sym is) }

-- A character whose value is a number
with_value : (set : CodeSet) (c : Character) (n v : ℕ) → n < 103 → read_value set n ≡ Some c → Some n ≡ Some v → IsRead set c v
with_value set c n v h k e = let is : n ≡ v = cc in subst (λ m. IsRead set c m) is (record { small = h; back = k })

code_read : (set next : CodeSet) (v : ℕ) → code_value set next ≡ Some v → IsRead set (Code next) v
code_read A A v e = absurd cc
code_read A B v e = with_value A (Code B) 100 v (omega arith) refl e
code_read A C v e = with_value A (Code C) 99 v (omega arith) refl e
code_read B A v e = with_value B (Code A) 101 v (omega arith) refl e
code_read B B v e = absurd cc
code_read B C v e = with_value B (Code C) 99 v (omega arith) refl e
code_read C A v e = with_value C (Code A) 101 v (omega arith) refl e
code_read C B v e = with_value C (Code B) 100 v (omega arith) refl e
code_read C C v e = absurd cc

value_read : (set : CodeSet) (c : Character) (v : ℕ) → value_in set c ≡ Some v → IsRead set c v
value_read set (Byte b) v e = byte_read set b v e
value_read set (Code next) v e = code_read set next v e
value_read A Function1 v e = with_value A Function1 102 v (omega arith) refl e
value_read B Function1 v e = with_value B Function1 102 v (omega arith) refl e
value_read C Function1 v e = with_value C Function1 102 v (omega arith) refl e
value_read A Function2 v e = with_value A Function2 97 v (omega arith) refl e
value_read B Function2 v e = with_value B Function2 97 v (omega arith) refl e
value_read C Function2 v e = absurd cc
value_read A Function3 v e = with_value A Function3 96 v (omega arith) refl e
value_read B Function3 v e = with_value B Function3 96 v (omega arith) refl e
value_read C Function3 v e = absurd cc
value_read A Function4 v e = with_value A Function4 101 v (omega arith) refl e
value_read B Function4 v e = with_value B Function4 100 v (omega arith) refl e
value_read C Function4 v e = absurd cc
value_read A Shift v e = with_value A Shift 98 v (omega arith) refl e
value_read B Shift v e = with_value B Shift 98 v (omega arith) refl e
value_read C Shift v e = absurd cc

record AreRead (set : CodeSet) (after_shift : Bool) (cs : List Character) (vs : List ℕ) : Type 0 where
  small : list_all (λ v. nat_lt v 103) vs ≡ true
  back : read_values set after_shift vs ≡ Some cs

values_read : (set : CodeSet) (after_shift : Bool) (cs : List Character) (vs : List ℕ) → values_after set after_shift cs ≡ Some vs → AreRead set after_shift cs vs
values_read set false [] vs e = let nothing : [] ≡ vs = cc in subst (λ ws. AreRead set false [] ws) nothing (record { small = refl; back = refl })
values_read set true [] vs e = absurd cc
values_read set false (c ∷ cs) vs e =
    let first = given_some (value_in set c) (λ v. joined (v ∷ []) (values_after (set_after set c) (is_shift c) cs)) vs e in
    let rest = joined_some (first.0 ∷ []) vs (values_after (set_after set c) (is_shift c) cs) first.2 in
    let here = value_read set c first.0 first.1 in
    let more = values_read (set_after set c) (is_shift c) cs rest.0 rest.1 in
    subst (λ ws. AreRead set false (c ∷ cs) ws) rest.2 (record {
      small = and_from (nat_lt first.0 103) (list_all (λ v. nat_lt v 103) rest.0) (lt-ltb first.0 103 here.small) more.small;
      back =
          ap (λ o. given o (λ d. joined (d ∷ []) (read_values (set_after set d) (is_shift d) rest.0))) here.back
          ∙ ap (λ o. joined (c ∷ []) o) more.back;
    })
values_read set true (c ∷ cs) vs e =
    let first = given_some (value_shifted set c) (λ v. joined (v ∷ []) (values_after set false cs)) vs e in
    let rest = joined_some (first.0 ∷ []) vs (values_after set false cs) first.2 in
    let byte = if_there (is_byte c) (value_in (shifted set) c) first.0 first.1 in
    let here = value_read (shifted set) c first.0 byte.1 in
    let more = values_read set false cs rest.0 rest.1 in
    subst (λ ws. AreRead set true (c ∷ cs) ws) rest.2 (record {
      small = and_from (nat_lt first.0 103) (list_all (λ v. nat_lt v 103) rest.0) (lt-ltb first.0 103 here.small) more.small;
      back =
          ap (λ o. given o (λ d. if is_byte d then joined (d ∷ []) (read_values set false rest.0) else None)) here.back
          ∙ ap (λ (t : Bool). if t then joined (c ∷ []) (read_values set false rest.0) else None) byte.0
          ∙ ap (λ o. joined (c ∷ []) o) more.back;
    })

-- ## The start

pub record IsStarted (cs : List Character) (all : List ℕ) : Type 0 where
  pub set : CodeSet
  pub more : List Character
  pub values : List ℕ
  pub cs_are : cs ≡ Code set ∷ more
  pub all_are : start_value set ∷ values ≡ all
  pub rest : values_after set false more ≡ Some values

pub started_read : (cs : List Character) (all : List ℕ) → started cs ≡ Some all → IsStarted cs all
started_read [] all e = absurd cc
started_read (Byte b ∷ cs) all e = absurd cc
started_read (Function1 ∷ cs) all e = absurd cc
started_read (Function2 ∷ cs) all e = absurd cc
started_read (Function3 ∷ cs) all e = absurd cc
started_read (Function4 ∷ cs) all e = absurd cc
started_read (Shift ∷ cs) all e = absurd cc
started_read (Code set ∷ cs) all e =
    let told = if_there (list_any is_byte cs) (joined (start_value set ∷ []) (values_after set false cs)) all e in
    let rest = joined_some (start_value set ∷ []) all (values_after set false cs) told.1 in
    record { set = set; more = cs; values = rest.0; cs_are = refl; all_are = rest.2; rest = rest.1 }

start_read : (set : CodeSet) → (read_start (start_value set) ≡ Some set) × (start_value set < 107)
start_read A = (refl, omega arith)
start_read B = (refl, omega arith)
start_read C = (refl, omega arith)

check_small : (all : List ℕ) → check_value all < 107
check_small [] = omega arith
check_small (start ∷ vs) = omega arith

-- ## The whole

checked_read : (say : List Character → Option (List ℕ)) (all : List ℕ) → read_checked say (all ++ check_value all ∷ 106 ∷ []) ≡ read_content say all
checked_read say all =
    ap (read_checked say) (sym (append_assoc all (check_value all ∷ []) (106 ∷ [])))
    ∙ ap (λ o. given o (λ stop. if stop.1 == 106
    then given (last_off stop.0) (λ check. if check.1 == check_value check.0 then read_content say check.0 else None) else None)) (last_of (all ++ check_value all ∷ []) 106)
    ∙ ap (λ o. given o (λ check. if check.1 == check_value check.0 then read_content say check.0 else None)) (last_of all (check_value all))
    ∙ ap (λ (t : Bool). if t then read_content say all else None) (eq-eqb (check_value all) (check_value all) refl)

elements_read : (say : List Character → Option (List ℕ)) (all : List ℕ) → list_all (has_row code128_table) all ≡ true → read_128 say (code128_elements all) ≡ read_content say all
elements_read say all h =
    let ends = and_from (has_row code128_table (check_value all)) (list_all (has_row code128_table) (106 ∷ [])) (code128_has (check_value all) (check_small all))
    (and_from (has_row code128_table 106) true (code128_has 106 (omega arith)) refl) in
    let have = all_append (has_row code128_table) all (check_value all ∷ 106 ∷ []) h ends in
    let six = all_by (has_row code128_table) (λ v. length (row code128_table v) == 6) (all ++ check_value all ∷ 106 ∷ []) (λ v. row_has (λ r. length r == 6) code128_table v code128_six) have in
    ap (λ o. given o (λ rows. given (symbols code128_table rows) (read_checked say))) (rows_to_end (row code128_table) 6 (all ++ check_value all ∷ 106 ∷ []) (2 ∷ []) (omega arith) six)
    ∙ ap (λ o. given o (read_checked say)) (symbols_of_rows code128_table code128_table (all ++ check_value all ∷ 106 ∷ []) code128_readable have)
    ∙ checked_read say all

-- The characters that are drawn are read.
pub started_said : (say : List Character → Option (List ℕ)) (said : List Character) (values : List ℕ) → started said ≡ Some values → read_128 say (code128_elements values) ≡ say said
started_said say said values e =
    let begun = started_read said values e in
    let found = values_read begun.set false begun.more begun.values begun.rest in
    let start = start_read begun.set in
    let few = all_by (λ v. nat_lt v 103) (has_row code128_table) begun.values (λ v h. let small = ltb-true v 103 h in code128_has v (omega arith)) found.small in
    let have = and_from (has_row code128_table (start_value begun.set)) (list_all (has_row code128_table) begun.values) (code128_has (start_value begun.set) start.1) few in
    ap (λ all. read_128 say (code128_elements all)) (sym begun.all_are)
    ∙ elements_read say (start_value begun.set ∷ begun.values) have
    ∙ ap (λ o. given o (λ set. given (read_values set false begun.values) (λ cs. say (Code set ∷ cs)))) start.0
    ∙ ap (λ o. given o (λ cs. say (Code begun.set ∷ cs))) found.back
    ∙ ap say (sym begun.cs_are)

pub code128_read : (content es : List ℕ) → code128 content ≡ Some es → read_128 all_spelled es ≡ Some content
code128_read content es e =
    let spelling = given_some (code128_values content) (λ values. Some (code128_elements values)) es e in
    let said = given_some (characters content) started spelling.0 spelling.1 in
    let drawn : code128_elements spelling.0 ≡ es = cc in
    ap (read_128 all_spelled) (sym drawn) ∙ started_said all_spelled said.0 spelling.0 said.2
    ∙ ap (λ bs. Some bs) (characters_spelled false content said.0 said.1)
