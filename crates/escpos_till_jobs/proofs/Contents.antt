-- The contents that were taken, entry by entry.
use Rattle.std.proofs.Common.{ℕ, zero, suc, ◌≡◌, ◌≢◌, ◌+◌, ◌<◌, ◌≤◌, None, Some, List, [], ◌∷◌, ◌++◌, length, get_or, take, refl, sym, ◌∙◌, ap, length-append, arith}
use Rattle.std.specs.Prelude.{slice_get}
use Rattle.std.proofs.Math.Seq.{take-suc}
use Rattle.std.proofs.lemmas.List.Elements.{filter_map-append}
use Rattle.std.proofs.lemmas.Option.{same_Some}
use Rattle.escpos_till.specs.declared.entry.Content.{Content}
use Rattle.escpos_till.specs.declared.entry.Entry.{Entry}
use Rattle.escpos_till.specs.declared.entry.Entry.TheVariants.{Queued, Tried, Recorded, Raised, Cancelled, Key, Renewed, Earlier}
use Rattle.escpos_till.specs.Entries.{content_of, contents}

-- A content stands at the place that as many have as stand before its entry.
pub at_place : (es : List Entry) (i : ℕ) (content : Content) → slice_get es i ≡ Some (Queued content) → slice_get (contents es) (length (contents (take i es))) ≡ Some content
at_place [] i content is = absurd cc
at_place (e ∷ es) zero content is = ap (λ (x : Entry). slice_get (contents (x ∷ es)) 0) (same_Some e (Queued content) is)
at_place (Queued other ∷ es) (suc i) content is = at_place es i content is
at_place (Tried number next ∷ es) (suc i) content is = at_place es i content is
at_place (Recorded number h ∷ es) (suc i) content is = at_place es i content is
at_place (Raised next h ∷ es) (suc i) content is = at_place es i content is
at_place (Cancelled number ∷ es) (suc i) content is = at_place es i content is
at_place (Key key ∷ es) (suc i) content is = at_place es i content is
at_place (Renewed last h ∷ es) (suc i) content is = at_place es i content is
at_place (Earlier number key ∷ es) (suc i) content is = at_place es i content is

-- One entry more has its own contents.
pub one_entry_more : (es : List Entry) (i : ℕ) (e : Entry) → i < length es → e ≡ get_or es i e → length (contents (take (i + 1) es)) ≡ length (contents (take i es)) + length (contents (e ∷ []))
one_entry_more es i e inside is =
    let on : i + 1 ≡ suc i = omega arith in
    let longer : take (i + 1) es ≡ take i es ++ e ∷ [] = ap (λ n. take n es) on ∙ take-suc es i e inside ∙ ap (λ (x : Entry). take i es ++ x ∷ []) (sym is) in
    ap (λ l. length (contents l)) longer ∙ ap length (filter_map-append content_of (take i es) (e ∷ [])) ∙ length-append (contents (take i es)) (contents (e ∷ []))

-- An entry by which no receipt is taken has no content, and one by which a receipt is taken has one.
pub no_content : (e : Entry) → content_of e ≡ None → length (contents (e ∷ [])) ≡ 0
no_content (Queued content) none = absurd cc
no_content (Tried number next) none = refl
no_content (Recorded number h) none = refl
no_content (Raised next h) none = refl
no_content (Cancelled number) none = refl
no_content (Key key) none = refl
no_content (Renewed last h) none = refl
no_content (Earlier number key) none = refl

pub is_queued : (e : Entry) (content : Content) → content_of e ≡ Some content → e ≡ Queued content
is_queued (Queued other) content is = ap Queued (same_Some other content is)
is_queued (Tried number next) content is = absurd cc
is_queued (Recorded number h) content is = absurd cc
is_queued (Raised next h) content is = absurd cc
is_queued (Cancelled number) content is = absurd cc
is_queued (Key key) content is = absurd cc
is_queued (Renewed last h) content is = absurd cc
is_queued (Earlier number key) content is = absurd cc

pub one_content : (e : Entry) (content : Content) → content_of e ≡ Some content → length (contents (e ∷ [])) ≡ 1
one_content e content is = ap (λ (x : Entry). length (contents (x ∷ []))) (is_queued e content is)

pub one_further : (m n : ℕ) → m ≤ n → m ≢ n → m + 1 ≤ n
one_further m n below other = grind arith
