-- Each byte list is read as tokens, or refused.
use Rattle.std.proofs.Common.{zero, suc, ◌≡◌, ◌≢◌, ◌⊎◌, inl, inr, ℕ, ◌+◌, ◌<◌, List, [], ◌∷◌, ◌++◌, length, drop, map, sym, ◌∙◌, ap, subst, arith, append_assoc, append-nil, length-append, length-take}
use Rattle.std.specs.Prelude.{slice_index}
use Rattle.std.specs.List.{AllByRecursion}
use Rattle.std.proofs.lemmas.Bool.{cases_lt}
use Rattle.std.proofs.lemmas.Grind.{flat_map-append}
use Rattle.std.proofs.Math.Seq.{take-append_seam, get_or-append_seam}
use Rattle.escpos_command.specs.declared.command.Command.{Command}
use Rattle.escpos_command.specs.declared.fault.FaultReason.{FaultReason}
use Rattle.escpos_command.specs.Grammar.{FaultAt, Viable}
use Rattle.escpos_command.proofs.Readings.{Outcome, outcome, read, refused}
use Rattle.escpos_passed.specs.Table.{table, IsPassed}
use Rattle.escpos_passed.specs.Tokens.{Token, taken, passed, IsToken, bytes_of, spell_tokens, part, ReadsTokens, FaultAfter}
use Rattle.escpos_passed.specs.Laws.{IsReadAll, IsRefusedAll}
use Rattle.escpos_passed.proofs.Decided.{Known, passed_over, a_part, unknown, known}
use Rattle.escpos_passed.proofs.TokenLaws.{none_left, around, as_tokens, tokens_of, same_bytes, no_passed_empty}

-- ## Tokens before others

pub all_tokens : (ts us : List Token) → AllByRecursion IsToken ts → AllByRecursion IsToken us → AllByRecursion IsToken (ts ++ us)
all_tokens [] us h k = k
all_tokens (t ∷ ts) us h k = (h.0, all_tokens ts us h.1 k)

pub spell_both : (ts us : List Token) (x : List ℕ) → spell_tokens ts ++ (spell_tokens us ++ x) ≡ spell_tokens (ts ++ us) ++ x
spell_both ts us x = sym (append_assoc (spell_tokens ts) (spell_tokens us) x) ∙ ap (λ v. v ++ x) (sym (flat_map-append bytes_of ts us))

-- Tokens before bytes that are read.
pub read_after : (bs left : List ℕ) (ts us : List Token) (rest : List ℕ) → AllByRecursion IsToken ts → bs ≡ spell_tokens ts ++ left → ReadsTokens left us rest → ReadsTokens bs (ts ++ us) rest
read_after bs left ts us rest h e r = record {
  tokens = all_tokens ts us h r.tokens;
  whole = e ∙ ap (λ v. spell_tokens ts ++ v) r.whole ∙ spell_both ts us rest;
  rest_is = r.rest_is;
}

-- Tokens before bytes with a fault.
pub fault_after : (bs left : List ℕ) (ts us : List Token) (k : ℕ) (why : FaultReason) → AllByRecursion IsToken ts → bs ≡ spell_tokens ts ++ left → FaultAfter left us k why
    → FaultAfter bs (ts ++ us) (length (spell_tokens ts) + k) why
fault_after bs left ts us k why h e f = record {
  left = f.left;
  rest = f.rest;
  after = f.after;
  tokens = all_tokens ts us h f.tokens;
  whole = e ∙ ap (λ v. spell_tokens ts ++ v) f.whole ∙ spell_both ts us f.left;
  fault = f.fault;
  place =
      let long = ap length (flat_map-append bytes_of ts us) ∙ length-append (spell_tokens ts) (spell_tokens us) in
      let place = f.place in omega arith;
  not_passed = f.not_passed;
  no_part = f.no_part;
}

-- ## A fault of the command table

-- The bytes from the first one of the command on in which the refused byte stands.
left_of : (bs : List ℕ) (rest : List ℕ) (k : ℕ) → List ℕ
left_of bs rest k = rest ++ slice_index bs k ∷ drop (k + 1) bs

left_there : (bs : List ℕ) (cs : List Command) (rest : List ℕ) (k : ℕ) (why : FaultReason) → FaultAt bs cs rest k why → bs ≡ spell_tokens (map taken cs) ++ left_of bs rest k
unfolding left_of
left_there bs cs rest k why f =
    around bs k f.place ∙ ap (λ v. v ++ slice_index bs k ∷ drop (k + 1) bs) (f.before.whole ∙ ap (λ v. v ++ rest) (sym (same_bytes cs)))
    ∙ append_assoc (spell_tokens (map taken cs)) rest (slice_index bs k ∷ drop (k + 1) bs)

fault_there : (bs : List ℕ) (cs : List Command) (rest : List ℕ) (k : ℕ) (why : FaultReason) → FaultAt bs cs rest k why → FaultAt (left_of bs rest k) [] rest (length rest) why
unfolding left_of
fault_there bs cs rest k why f =
    let b = slice_index bs k in
    let others = drop (k + 1) bs in
    record {
      place = let long = length-append rest (b ∷ others) in omega arith;
      before = record { commands = tt; whole = take-append_seam rest (b ∷ others); rest_is = f.before.rest_is };
      refused = subst (λ x. Viable (rest ++ x ∷ []) → ⊥) (sym (get_or-append_seam rest b others 0)) f.refused;
      reason = f.reason;
    }

not_empty : (bs rest : List ℕ) (k : ℕ) → left_of bs rest k ≢ []
unfolding left_of
not_empty bs rest k e = let long = ap length e in let sum = length-append rest (slice_index bs k ∷ drop (k + 1) bs) in omega arith

place_there : (bs : List ℕ) (cs : List Command) (rest : List ℕ) (k : ℕ) (why : FaultReason) → FaultAt bs cs rest k why → k ≡ length (spell_tokens (map taken cs)) + length rest
place_there bs cs rest k why f =
    let p = f.place in
    let short = length-take k bs in
    let whole = ap length (f.before.whole ∙ ap (λ v. v ++ rest) (sym (same_bytes cs))) ∙ length-append (spell_tokens (map taken cs)) rest in
    omega arith

-- ## All bytes

abbrev Ends : List ℕ → Type 0
Ends bs = IsReadAll bs ⊎ IsRefusedAll bs

after_tokens : (bs left : List ℕ) (ts : List Token) → AllByRecursion IsToken ts → bs ≡ spell_tokens ts ++ left → Ends left → Ends bs
after_tokens bs left ts h e (inl r) = inl (ts ++ r.0, r.1, read_after bs left ts r.0 r.1 h e r.2)
after_tokens bs left ts h e (inr f) = inr (ts ++ f.0, length (spell_tokens ts) + f.1, f.2, fault_after bs left ts f.0 f.1 f.2 h e f.3)

some_there : (bs more : List ℕ) → IsPassed bs → length bs ≡ 0 → ⊥
some_there bs more p e = no_passed_empty bs [] p (sym (append-nil bs ∙ none_left bs e))

shorter_rest : (bs front some more : List ℕ) → bs ≡ front ++ (some ++ more) → (length some ≡ 0 → ⊥) → length more < length bs
shorter_rest bs front some more e h =
    let long = ap length e ∙ length-append front (some ++ more) in
    let last = length-append some more in
    elim (cases_lt 0 (length some)) [ inl there ↦ omega arith | inr none ↦ absurd (h (omega (arith, none))) ]

at_fault : (bs : List ℕ) (cs : List Command) (rest : List ℕ) (k : ℕ) (why : FaultReason) → FaultAt bs cs rest k why → ((more : List ℕ) → length more < length bs → Ends more)
    → Known (length table) (left_of bs rest k) → Ends bs
at_fault bs cs rest k why f others (passed_over some more e p) =
    let ts = map taken cs ++ passed p.0 some ∷ [] in
    let left = left_there bs cs rest k why f in
    let whole : bs ≡ spell_tokens ts ++ more =
    left ∙ ap (λ v. spell_tokens (map taken cs) ++ v) (e ∙ ap (λ v. v ++ more) (sym (append-nil some))) ∙ spell_both (map taken cs) (passed p.0 some ∷ []) more in
    after_tokens bs more ts (all_tokens (map taken cs) (passed p.0 some ∷ []) (tokens_of cs f.before.commands) ((p.1, p.2), tt)) whole
    (others more (shorter_rest bs (spell_tokens (map taken cs)) some more (left ∙ ap (λ v. spell_tokens (map taken cs) ++ v) e) (some_there some more p)))
at_fault bs cs rest k why f others (a_part p) =
    inl (map taken cs, left_of bs rest k, record { tokens = tokens_of cs f.before.commands; whole = left_there bs cs rest k why f; rest_is = part p })
at_fault bs cs rest k why f others (unknown none) = inr (
  map taken cs,
  k,
  why,
  record {
    left = left_of bs rest k;
    rest = rest;
    after = length rest;
    tokens = tokens_of cs f.before.commands;
    whole = left_there bs cs rest k why f;
    fault = fault_there bs cs rest k why f;
    place = place_there bs cs rest k why f;
    not_passed = λ some more e p. (none p.0 p.1).not_passed some more e p.2;
    no_part = λ p. (none p.0 p.1).no_part p.2;
  },
)

ends_by : (bs : List ℕ) → Outcome bs → ((more : List ℕ) → length more < length bs → Ends more) → Ends bs
ends_by bs (read cs rest r) others = inl (map taken cs, rest, as_tokens bs cs rest r)
ends_by bs (refused cs rest k why f) others = at_fault bs cs rest k why f others (known (left_of bs rest k) (not_empty bs rest k))

ends_below : (n : ℕ) (bs : List ℕ) → length bs < n → Ends bs
ends_below zero bs h = absurd (omega (arith, h))
ends_below (suc n) bs h = ends_by bs (outcome bs) (λ more less. ends_below n more (omega (arith, h, less)))

pub ends : (bs : List ℕ) → Ends bs
ends bs = ends_below (suc (length bs)) bs (omega arith)
