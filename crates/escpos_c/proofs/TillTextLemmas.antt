-- Texts of lines: one more line, one reading, and the lines of a ledger's entries.
use Rattle.std.proofs.Common.{◌≡◌, ◌≢◌, ◌∙◌, ◌<◌, ◌≤◌, ◌+◌, ◌∷◌, ◌++◌, ℕ, zero, suc, List, [], Some, inl, inr, length, take, drop, refl, sym, ap, subst, arith, append_assoc}
use Rattle.std.specs.Prelude.{Option, None, All, ◌==◌, true, false}
use Rattle.std.proofs.lemmas.Bool.{cases_lt}
use Rattle.std.proofs.lemmas.List.{append-nil, take-append-drop}
use Rattle.std.proofs.Math.Seq.{drop-append-add, take-append_seam}
use Rattle.memchr.specs.Find.{IsFirstByte, Passes, is_byte}
use Rattle.escpos_command.specs.declared.bytes.TheConstants.{LF}
use Rattle.escpos_till.specs.declared.entry.Entry.{Entry}
use Rattle.escpos_till.specs.Entries.{IsLedger}
use Rattle.escpos_c.specs.TillLines.{IsReal, entry_in, line_of}
use Rattle.escpos_c.specs.TillTexts.{BeginsWith, IsDamagedAt, IsNoLine, Says, lines_of}
use Rattle.escpos_c.proofs.TillLineLemmas.{first_of_no_lf, line_no_lf, no_lf, read_back}

pub says_more : (text : List ℕ) (entries : List Entry) (more : List ℕ) (e : Entry) (rest : List ℕ)
    → Says text entries more → BeginsWith more e rest → Says text (entries ++ e ∷ []) rest
says_more text [] more e rest says begins = (rest, subst (λ t. BeginsWith t e rest) (sym says) begins, refl)
says_more text (first ∷ entries) more e rest says begins = (says.0, says.1, says_more says.0 entries more e rest says.2 begins)

-- ## Ledgers

-- No entries are a ledger.
pub empty_ledger : IsLedger []
empty_ledger [] e following is = cc
empty_ledger (x ∷ before) e following is = cc

-- What is no ledger has an entry.
pub has_entry : (entries : List Entry) → (IsLedger entries → ⊥) → 0 < length entries
has_entry [] h = absurd (h empty_ledger)
has_entry (x ∷ entries) h = omega arith

-- The first entries of a ledger are one.
first_ledger : (entries more : List Entry) → IsLedger (entries ++ more) → IsLedger entries
first_ledger entries more h before e following is =
    h before e (following ++ more) (ap (λ l. l ++ more) is ∙ append_assoc before (e ∷ following) more)

taken_ledger : (n : ℕ) (entries : List Entry) → IsLedger entries → IsLedger (take n entries)
taken_ledger n entries h = first_ledger (take n entries) (drop n entries) (subst IsLedger (sym (take-append-drop n entries)) h)

-- ## One reading

-- No place comes before the first.
not_before : (text : List ℕ) (m n : ℕ) → IsFirstByte (is_byte LF) text (Some m) → IsFirstByte (is_byte LF) text (Some n) → m < n → ⊥
not_before text m n a b less = b.0.before m (omega arith) less a.1

one_first : (text : List ℕ) (m n : ℕ) → IsFirstByte (is_byte LF) text (Some m) → IsFirstByte (is_byte LF) text (Some n) → m ≡ n
one_first text m n a b = elim (cases_lt m n) [
  | inl less ↦ absurd (not_before text m n a b less)
  | inr least ↦ elim (cases_lt n m) [
    | inl less ↦ absurd (not_before text n m b a less)
    | inr most ↦ omega (arith, least, most)
  ]
]

-- Where the first line is none of an entry, the text begins with no line of one.
pub stopped_at : (text : List ℕ) (end : ℕ) → IsFirstByte (is_byte LF) text (Some end) → entry_in (take end text) ≡ None → IsNoLine text
stopped_at text end first none other also = subst (λ k. entry_in (take k text) ≡ None) (one_first text end other first also) none

abbrev value_or : Entry → Option Entry → Entry
value_or d None = d
value_or d (Some e) = e

one_beginning : (text : List ℕ) (d e : Entry) (rest more : List ℕ) → BeginsWith text d rest → BeginsWith text e more → (d ≡ e) × (rest ≡ more)
one_beginning text d e rest more a b =
    let same = one_first text a.0 b.0 a.1 b.1 in (
      ap (value_or d) (sym a.2 ∙ ap (λ n. entry_in (take n text)) same ∙ b.2),
      a.3 ∙ ap (λ n. drop (n + 1) text) same ∙ sym b.3,
    )

nothing_begins : (e : Entry) (rest : List ℕ) → BeginsWith [] e rest → ⊥
nothing_begins e rest begins = absurd (omega (arith, begins.1.0.high))

-- Where a whole text says some entries, those that it begins with are the first of them.
begins_same : (others entries : List Entry) (text rest : List ℕ) → Says text entries [] → Says text others rest
    → (more : List Entry) × (entries ≡ others ++ more) × Says rest more []
begins_same [] entries text rest whole says = (entries, refl, subst (λ t. Says t entries []) says whole)
begins_same (o ∷ others) [] text rest whole says = absurd (nothing_begins o says.0 (subst (λ t. BeginsWith t o says.0) whole says.1))
begins_same (o ∷ others) (e ∷ entries) text rest whole says =
    let same = one_beginning text e o whole.0 says.0 whole.1 says.1 in
    let later = begins_same others entries says.0 rest (subst (λ t. Says t entries []) same.1 whole.2) says.2 in
    (later.0, ap (λ x. x ∷ entries) same.0 ∙ ap (λ xs. o ∷ xs) later.1, later.2)

none_left : (more : List Entry) → Says [] more [] → more ≡ []
none_left [] h = refl
none_left (m ∷ more) h = absurd (nothing_begins m h.0 h.1)

pub one_reading : (text : List ℕ) (entries others : List Entry) → Says text entries [] → Says text others [] → entries ≡ others
one_reading text entries others whole says =
    let later = begins_same others entries text [] whole says in
    later.1 ∙ ap (λ more. others ++ more) (none_left later.0 later.2) ∙ append-nil others

-- ## The lines of entries

later_first : (c : ℕ) (text : List ℕ) (k : ℕ) → (c == LF) ≡ false → IsFirstByte (is_byte LF) text (Some k) → IsFirstByte (is_byte LF) (c ∷ text) (Some (suc k))
later_first c text k other first = (record { low = omega arith; high = omega (arith, first.0.high); before = before }, first.1)
  where
    before : (j : ℕ) → 0 ≤ j → j < suc k → Passes (is_byte LF) (c ∷ text) j → ⊥
    before zero low less is = absurd (cc (sym other ∙ is))
    before (suc j) low less is = first.0.before j (omega arith) (omega (arith, less)) is

end_first : (line rest : List ℕ) → no_lf line ≡ true → IsFirstByte (is_byte LF) (line ++ LF ∷ rest) (Some (length line))
end_first [] rest h = (record { low = omega arith; high = omega arith; before = λ k low less is. absurd (omega (arith, less)) }, refl)
end_first (c ∷ line) rest h =
    let parts = first_of_no_lf c line h in later_first c (line ++ LF ∷ rest) (length line) parts.0 (end_first line rest parts.1)

begins : (line rest : List ℕ) (e : Entry) → no_lf line ≡ true → entry_in line ≡ Some e → BeginsWith (line ++ LF ∷ rest) e rest
begins line rest e h is =
    (length line, end_first line rest h, ap entry_in (take-append_seam line (LF ∷ rest)) ∙ is, sym (drop-append-add line (LF ∷ rest) 1))

pub given_back : (entries : List Entry) → All IsReal entries → Says (lines_of entries) entries []
given_back [] real = refl
given_back (e ∷ entries) real =
    let is_real : IsReal e = real 0 e (omega arith) in let rest = lines_of entries in (
      rest,
      subst (λ t. BeginsWith t e rest) (sym (append_assoc (line_of e) (LF ∷ []) rest)) (begins (line_of e) rest e (line_no_lf e is_real) (read_back e is_real)),
      given_back entries (λ k d inside. real (suc k) d (omega (arith, inside))),
    )

line_left : (more : List Entry) (rest : List ℕ) → Says rest more [] → rest ≢ [] → IsNoLine rest → ⊥
line_left [] rest says some none = some says
line_left (m ∷ more) rest says some none = let it = says.1 in absurd (cc (sym it.2 ∙ none it.0 it.1))

pub never_at_fault : (entries : List Entry) (at : ℕ) → All IsReal entries → IsLedger entries → IsDamagedAt (lines_of entries) at → ⊥
never_at_fault entries at real ledger damaged =
    let same = begins_same damaged.entries entries (lines_of entries) damaged.rest (given_back entries real) damaged.says in
    elim damaged.fault [
      | inl fault ↦ line_left same.0 damaged.rest same.2 fault.2 fault.3
      | inr fault ↦ fault.2 (taken_ledger (at + 1) damaged.entries (first_ledger damaged.entries same.0 (subst IsLedger same.1 ledger)))
    ]
