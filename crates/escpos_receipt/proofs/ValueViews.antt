-- Values of JSON beside the lists and maps that hold them.
use Rattle.std.proofs.Common.{◌≡◌, ◌≢◌, ℕ, suc, Bool, true, false, List, [], ◌∷◌, length, Some, None, String, Global, refl, sym, ◌∙◌, ap, cond, arith, string_bytes}
use Rattle.std.proofs.lemmas.Bool.Decides.{nat_tests}
use Rattle.std.specs.Prelude.{◌==◌, slice_get}
use Rattle.serde_json.specs.Data.{Data, null, boolean, number, string, array, object, Items, Members}
use Rattle.serde_json.specs.Events.{members_len}
use Rattle.serde_json.specs.Find.{as_array, as_object, get}
use Rattle.serde_json.specs.View.{view, items_view, members_view}
use Rattle.serde_json.specs.declared.value.Value.{Value}
use Rattle.escpos_receipt.specs.Entries.{field, only_member, size_in, two_values}

abbrev Entry : Type 0
Entry = String Global × Value

pub array_of : (d : Data) (ds : Items) → Some ds ≡ as_array d → d ≡ array ds
array_of null ds e = cc
array_of (boolean b) ds e = cc
array_of (number n) ds e = cc
array_of (string s) ds e = cc
array_of (array es) ds e = cc
array_of (object ms) ds e = cc

pub object_of : (d : Data) (ms : Members) → Some ms ≡ as_object d → d ≡ object ms
object_of null ms e = cc
object_of (boolean b) ms e = cc
object_of (number n) ms e = cc
object_of (string s) ms e = cc
object_of (array ds) ms e = cc
object_of (object ns) ms e = cc

-- ## Sizes

size_of_list : (vs : List Value) → length vs ≢ 2 → size_in (array (items_view vs)) ≡ None
size_of_list [] h = refl
size_of_list (v ∷ []) h = refl
size_of_list (v ∷ w ∷ []) h = absurd (h refl)
size_of_list (v ∷ w ∷ x ∷ vs) h = refl

pub no_size : (d : Data) (vs : List Value) → Some (items_view vs) ≡ as_array d → length vs ≢ 2 → None ≡ size_in d
no_size d vs e h = sym (ap size_in (array_of d (items_view vs) e) ∙ size_of_list vs h)

two_of_list : (vs : List Value) → length vs ≢ 2 → two_values (array (items_view vs)) ≡ None
two_of_list [] h = refl
two_of_list (v ∷ []) h = refl
two_of_list (v ∷ w ∷ []) h = absurd (h refl)
two_of_list (v ∷ w ∷ x ∷ vs) h = refl

pub no_two : (d : Data) (vs : List Value) → Some (items_view vs) ≡ as_array d → length vs ≢ 2 → None ≡ two_values d
no_two d vs e h = sym (ap two_values (array_of d (items_view vs) e) ∙ two_of_list vs h)

-- ## Members

members_many : (es : List Entry) → members_len (members_view es) ≡ length es
members_many [] = refl
members_many (e ∷ es) = ap (λ n. suc n) (members_many es)

no_only_of : (es : List Entry) → length es ≢ 1 → only_member (object (members_view es)) ≡ None
no_only_of [] h = refl
no_only_of (e ∷ []) h = absurd (h refl)
no_only_of (e ∷ f ∷ es) h = refl

pub no_only : (d : Data) (es : List Entry) → Some (members_view es) ≡ as_object d → length es ≢ 1 → None ≡ only_member d
no_only d es e h = sym (ap only_member (object_of d (members_view es) e) ∙ no_only_of es h)

only_of : (es : List Entry) (k : String Global) (v : Value) → length es ≡ 1 → slice_get es 0 ≡ Some (k, v)
    → only_member (object (members_view es)) ≡ Some (string_bytes k, view v)
only_of [] k v h at = cc
only_of (e ∷ []) k v h at =
    let same : e ≡ (k, v) = cc in
    ap (λ p. Some (string_bytes p.0, view p.1)) same
only_of (e ∷ f ∷ es) k v h at = absurd (omega arith)

pub only : (d : Data) (es : List Entry) (k : String Global) (v : Value) → Some (members_view es) ≡ as_object d → length es ≡ 1
    → slice_get es 0 ≡ Some (k, v) → Some (string_bytes k, view v) ≡ only_member d
only d es k v e h at = sym (ap only_member (object_of d (members_view es) e) ∙ only_of es k v h at)

-- ## Fields

by_count : (ms : Members) (count : ℕ) (name : List ℕ) (b : Bool) → (members_len ms == count) ≡ b → field count name (object ms) ≡ cond b (get name (object ms)) None
by_count ms count name b h = ap (λ t. cond t (get name (object ms)) None) h

is_equal : (m n : ℕ) → m ≡ n → (m == n) ≡ true
is_equal m n e = grind (arith, nat_tests)

is_unequal : (m n : ℕ) → m ≢ n → (m == n) ≡ false
is_unequal m n h = grind (arith, nat_tests)

pub field_of : (d : Data) (es : List Entry) (count : ℕ) (name : List ℕ) → Some (members_view es) ≡ as_object d → length es ≡ count
    → field count name d ≡ get name d
field_of d es count name e h =
    let is = object_of d (members_view es) e in
    ap (field count name) is ∙ by_count (members_view es) count name true (is_equal _ count (members_many es ∙ h)) ∙ ap (get name) (sym is)

pub field_none : (d : Data) (es : List Entry) (count : ℕ) (name : List ℕ) → Some (members_view es) ≡ as_object d → length es ≢ count
    → field count name d ≡ None
field_none d es count name e h =
    ap (field count name) (object_of d (members_view es) e)
    ∙ by_count (members_view es) count name false (is_unequal _ count (λ same. h (sym (members_many es) ∙ same)))
