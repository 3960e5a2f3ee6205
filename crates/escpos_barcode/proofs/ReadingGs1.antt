-- Steps of the loops over the bytes, the parts and the characters of GS1-128.
use Rattle.std.proofs.Common.{◌≡◌, ◌≢◌, ℕ, List, [], ◌∷◌, ◌++◌, sym, ap, ◌∙◌, append_assoc, Some, None, true, false, Bool}
use Rattle.std.specs.Prelude.{if◌then◌else◌}
use Rattle.std.proofs.lemmas.Bool.{eq-eqb, ne_eqb}
use Rattle.escpos_barcode.specs.declared.code128.CodeSet.{CodeSet}
use Rattle.escpos_barcode.specs.declared.code128.CodeSet.TheVariants.{C}
use Rattle.escpos_barcode.specs.declared.code128.Character.{Character}
use Rattle.escpos_barcode.specs.declared.gs1.Part.{Part}
use Rattle.escpos_barcode.specs.Chains.{given, joined}
use Rattle.escpos_barcode.specs.Gs1.{plain_part, escaped_part, parts_after, checked_part, checked_after, begins_with_digits, awaited, pair, to_pairs, single, after_single, with_sets}
use Rattle.escpos_barcode.proofs.Reading128.{joined_joined}

pub escaped_next : (parts : List Part) (b : ℕ) (bs : List ℕ) (p : Part) → escaped_part b ≡ Some p →
    joined parts (parts_after true (b ∷ bs)) ≡ joined (parts ++ p ∷ []) (parts_after false bs)
escaped_next parts b bs p e =
    ap (λ o. joined parts (given o (λ q. joined (q ∷ []) (parts_after false bs)))) e ∙ joined_joined parts (p ∷ []) (parts_after false bs)

pub brace_next : (parts : List Part) (b : ℕ) (bs : List ℕ) → b ≡ 0x7B → joined parts (parts_after false (b ∷ bs)) ≡ joined parts (parts_after true bs)
brace_next parts b bs e =
    ap (λ (t : Bool). joined parts (if t then parts_after true bs else given (plain_part b) (λ q. joined (q ∷ []) (parts_after false bs)))) (eq-eqb b 0x7B e)

pub plain_next : (parts : List Part) (b : ℕ) (bs : List ℕ) (p : Part) → b ≢ 0x7B → plain_part b ≡ Some p →
    joined parts (parts_after false (b ∷ bs)) ≡ joined (parts ++ p ∷ []) (parts_after false bs)
plain_next parts b bs p n e =
    ap (λ (t : Bool). joined parts (if t then parts_after true bs else given (plain_part b) (λ q. joined (q ∷ []) (parts_after false bs)))) (ne_eqb b 0x7B n)
    ∙ ap (λ o. joined parts (given o (λ q. joined (q ∷ []) (parts_after false bs)))) e ∙ joined_joined parts (p ∷ []) (parts_after false bs)

pub checked_next : (before : List Part) (p q : Part) (ps : List Part) → checked_part before p ≡ Some q → checked_after before (p ∷ ps) ≡ checked_after (before ++ q ∷ []) ps
checked_next before p q ps e = ap (λ o. given o (λ r. checked_after (before ++ r ∷ []) ps)) e

pub pair_next : (found : List Character) (set : CodeSet) (first c : Character) (cs : List Character) →
    found ++ with_sets set (Some first) (c ∷ cs) ≡ (found ++ pair first c ∷ []) ++ with_sets set None cs
pair_next found set first c cs = sym (append_assoc found (pair first c ∷ []) (with_sets set None cs))

pub pairs_begin : (found : List Character) (set : CodeSet) (c : Character) (cs : List Character) → begins_with_digits (awaited set) (c ∷ cs) ≡ true →
    found ++ with_sets set None (c ∷ cs) ≡ (found ++ to_pairs set) ++ with_sets C (Some c) cs
pairs_begin found set c cs e =
    ap (λ (t : Bool). found ++ (if t then to_pairs set ++ with_sets C (Some c) cs else single set c ++ with_sets (after_single set c) None cs)) e
    ∙ sym (append_assoc found (to_pairs set) (with_sets C (Some c) cs))

pub single_next : (found : List Character) (set : CodeSet) (c : Character) (cs : List Character) → begins_with_digits (awaited set) (c ∷ cs) ≡ false →
    found ++ with_sets set None (c ∷ cs) ≡ (found ++ single set c) ++ with_sets (after_single set c) None cs
single_next found set c cs e =
    ap (λ (t : Bool). found ++ (if t then to_pairs set ++ with_sets C (Some c) cs else single set c ++ with_sets (after_single set c) None cs)) e
    ∙ sym (append_assoc found (single set c) (with_sets (after_single set c) None cs))
