-- Steps of the loops over the bytes and the characters of CODE128.
use Rattle.std.proofs.Common.{◌≡◌, ◌≢◌, ℕ, List, [], ◌∷◌, ◌++◌, refl, sym, ap, ◌∙◌, append_assoc, Option, Some, None, true, false}
use Rattle.std.specs.Prelude.{if◌then◌else◌}
use Rattle.std.proofs.lemmas.Bool.{eq-eqb, ne_eqb}
use Rattle.escpos_barcode.specs.declared.code128.CodeSet.{CodeSet}
use Rattle.escpos_barcode.specs.declared.code128.Character.{Character}
use Rattle.escpos_barcode.specs.declared.code128.Character.TheVariants.{Byte}
use Rattle.escpos_barcode.specs.Chains.{given, joined}
use Rattle.escpos_barcode.specs.Code128.{escaped, characters_after, value_in, value_shifted, values_after, set_after, is_shift}

pub joined_joined : {A : Type 0} (xs ys : List A) (o : Option (List A)) → joined xs (joined ys o) ≡ joined (xs ++ ys) o
joined_joined xs ys None = refl
joined_joined xs ys (Some zs) = ap (λ w. Some w) (sym (append_assoc xs ys zs))

pub escape_next : (found : List Character) (b : ℕ) (bs : List ℕ) (c : Character) → escaped b ≡ Some c →
    joined found (characters_after true (b ∷ bs)) ≡ joined (found ++ c ∷ []) (characters_after false bs)
escape_next found b bs c e =
    ap (λ o. joined found (given o (λ d. joined (d ∷ []) (characters_after false bs)))) e ∙ joined_joined found (c ∷ []) (characters_after false bs)

pub brace_next : (found : List Character) (b : ℕ) (bs : List ℕ) → b ≡ 0x7B → joined found (characters_after false (b ∷ bs)) ≡ joined found (characters_after true bs)
brace_next found b bs e =
    ap (λ t. joined found (if t then characters_after true bs else joined (Byte b ∷ []) (characters_after false bs))) (eq-eqb b 0x7B e)

pub byte_next : (found : List Character) (b : ℕ) (bs : List ℕ) → b ≢ 0x7B →
    joined found (characters_after false (b ∷ bs)) ≡ joined (found ++ Byte b ∷ []) (characters_after false bs)
byte_next found b bs e =
    ap (λ t. joined found (if t then characters_after true bs else joined (Byte b ∷ []) (characters_after false bs))) (ne_eqb b 0x7B e)
    ∙ joined_joined found (Byte b ∷ []) (characters_after false bs)

pub value_next : (values : List ℕ) (set : CodeSet) (c : Character) (cs : List Character) (v : ℕ) → value_in set c ≡ Some v →
    joined values (values_after set false (c ∷ cs)) ≡ joined (values ++ v ∷ []) (values_after (set_after set c) (is_shift c) cs)
value_next values set c cs v e =
    ap (λ o. joined values (given o (λ w. joined (w ∷ []) (values_after (set_after set c) (is_shift c) cs)))) e
    ∙ joined_joined values (v ∷ []) (values_after (set_after set c) (is_shift c) cs)

pub shifted_next : (values : List ℕ) (set : CodeSet) (c : Character) (cs : List Character) (v : ℕ) → value_shifted set c ≡ Some v →
    joined values (values_after set true (c ∷ cs)) ≡ joined (values ++ v ∷ []) (values_after set false cs)
shifted_next values set c cs v e =
    ap (λ o. joined values (given o (λ w. joined (w ∷ []) (values_after set false cs)))) e ∙ joined_joined values (v ∷ []) (values_after set false cs)
