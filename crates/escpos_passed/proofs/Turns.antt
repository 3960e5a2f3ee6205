-- The loop over a stream, a turn each.
use Rattle.std.proofs.Common.{◌≡◌, ◌⊎◌, inl, inr, ℕ, ◌+◌, ◌-◌, ◌<◌, ◌≤◌, Bool, true, false, List, [], ◌∷◌, ◌++◌, length, take, drop, map, refl, sym, ◌∙◌, ap, subst, arith, add-one, drop-cons, append_assoc, append-nil, length-append, length-take, length-drop}
use Rattle.std.specs.Prelude.{IsTrue, slice_index}
use Rattle.std.specs.List.{AllPass, AllByRecursion}
use Rattle.std.proofs.lemmas.Grind.{flat_map-append}
use Rattle.std.proofs.lemmas.Bool.{cases_lt}
use Rattle.std.proofs.lemmas.List.{map-append, take-append-drop, take-append-le, take-take, take_more, take_rest}
use Rattle.std.proofs.lemmas.List.Elements.{All-take}
use Rattle.std.proofs.Math.ListN.{drop_of_length-le}
use Rattle.std.proofs.Math.Seq.{take-suc, take-add, take-append_seam, drop-append_seam}
use Rattle.escpos_command.specs.declared.command.Command.{Command}
use Rattle.escpos_command.specs.declared.command.Command.TheVariants.{Char}
use Rattle.escpos_command.specs.declared.fault.FaultReason.{FaultReason}
use Rattle.escpos_command.specs.CommandTable.{IsCommand, Spells, row}
use Rattle.escpos_command.specs.Grammar.{Half, Reads, FaultAt}
use Rattle.escpos_command.specs.Parameters.{is_character}
use Rattle.escpos_command.proofs.Readings.{all_append, reads_half, reads_nothing}
use Rattle.escpos_command.proofs.Texts.{text_read}
use Rattle.escpos_passed.specs.declared.table.Prefix.{Prefix}
use Rattle.escpos_passed.specs.declared.table.Prefix.TheVariants as prefix
use Rattle.escpos_passed.specs.Table.{table, row_at, row_prefix, prefix_bytes, IsPassed, IsPassedBy, IsPart}
use Rattle.escpos_passed.specs.Finding.{IsNone}
use Rattle.escpos_passed.specs.Reading.{text_tokens, IsAllTaken, EndsWith}
use Rattle.escpos_passed.specs.Tokens.{Token, taken, passed, IsToken, bytes_of, spell_tokens, passed_count, IsRest, nothing, half, part, ReadsWith, FaultWith}
use Rattle.escpos_passed.proofs.Outcomes.{all_tokens}
use Rattle.escpos_passed.proofs.TokenLaws.{tokens_of, same_bytes, silent_rest}

-- The bytes so far are those of tokens and the start of a command, and the tokens were taken; the start of that command stands at this
-- place.
pub record Turn (pass : Bool) (accepted : List Token → Type 0) (bytes rest : List ℕ) (start count : ℕ) : Type 0 where
  pub tokens : List Token
  pub all : AllByRecursion IsToken tokens
  pub whole : bytes ≡ spell_tokens tokens ++ rest
  pub rest_is : (rest ≡ []) ⊎ Half rest
  pub all_accepted : accepted tokens
  pub placed : start ≡ length (spell_tokens tokens)
  pub counted : count ≡ passed_count tokens
  pub plain : pass ≡ false → (cs : List Command) × AllByRecursion IsCommand cs × (tokens ≡ map taken cs)

-- ## Bytes of the stream

pub at_place : (bytes : List ℕ) (at : ℕ) → at < length bytes → take at bytes ++ slice_index bytes at ∷ [] ≡ take (at + 1) bytes
at_place bytes at h = sym (rw (add-one, take-suc bytes at 0) refl)

around_place : (bytes : List ℕ) (at : ℕ) → at < length bytes → slice_index bytes at ∷ drop (at + 1) bytes ≡ drop at bytes
around_place bytes at h = sym (rw (add-one) (drop-cons bytes at 0 h))

pub short_of : (bytes : List ℕ) (at : ℕ) → at ≤ length bytes → length (take at bytes) ≡ at
short_of bytes at h = omega (arith, length-take at bytes)

pub rest_length : (bytes : List ℕ) (at n : ℕ) → at ≤ length bytes → n ≤ length (take (length bytes - at) (drop at bytes)) → at + n ≤ length bytes
rest_length bytes at n inside h = let short = length-take (length bytes - at) (drop at bytes) in let rest = length-drop at bytes in omega arith

drop_end : (bytes : List ℕ) (at : ℕ) → length bytes ≡ at → drop at bytes ≡ []
drop_end bytes at e = let past : length bytes ≤ at = omega (arith, e) in drop_of_length-le bytes past

prefix_some : (p : Prefix) → 1 ≤ length (prefix_bytes p)
prefix_some (prefix.One a) = omega arith
prefix_some (prefix.Two a b) = omega arith
prefix_some (prefix.Three a b c) = omega arith
prefix_some (prefix.With a b n) = omega arith

some_bytes : (i : ℕ) (bs : List ℕ) → IsPassedBy (row_at table i) bs → 1 ≤ length bs
some_bytes i bs p = omega (arith, ap length p.begins ∙ length-append (row_prefix (row_at table i)) p.rest, prefix_some (row_at table i).prefix)

-- ## What a turn leaves

rest_of_half : (rest : List ℕ) → (rest ≡ []) ⊎ Half rest → IsRest rest
rest_of_half rest (inl e) = nothing e
rest_of_half rest (inr h) = half h

-- Tokens and the start of a command, as a reading.
reads_with : (pass : Bool) (bytes : List ℕ) (ts : List Token) (rest : List ℕ) → AllByRecursion IsToken ts → bytes ≡ spell_tokens ts ++ rest → (rest ≡ []) ⊎ Half rest
    → (pass ≡ false → (cs : List Command) × AllByRecursion IsCommand cs × (ts ≡ map taken cs)) → ReadsWith pass bytes ts rest
reads_with false bytes ts rest all e r plain =
    let p = plain refl in
    (p.0, p.2, record { commands = p.1; whole = e ∙ ap (λ v. spell_tokens v ++ rest) p.2 ∙ ap (λ v. v ++ rest) (same_bytes p.0); rest_is = r })
reads_with true bytes ts rest all e r plain = record { tokens = all; whole = e; rest_is = rest_of_half rest r }

pub turn_reads : (pass : Bool) (accepted : List Token → Type 0) (bytes rest : List ℕ) (start count : ℕ) (t : Turn pass accepted bytes rest start count) → ReadsWith pass bytes t.tokens rest
turn_reads pass accepted bytes rest start count t = reads_with pass bytes t.tokens rest t.all t.whole t.rest_is t.plain

pub all_taken : (pass : Bool) (accepted : List Token → Type 0) (bytes rest : List ℕ) (at start count : ℕ) → at ≤ length bytes → length bytes ≤ at
    → Turn pass accepted (take at bytes) rest start count → IsAllTaken pass accepted bytes (record { passed = count; half = length bytes - start })
all_taken pass accepted bytes rest at start count inside over t =
    let whole : take at bytes ≡ bytes = sym (append-nil (take at bytes)) ∙ ap (λ v. take at bytes ++ v) (sym (drop_end bytes at (omega (arith, inside, over)))) ∙ take-append-drop at bytes in
    let long = ap length t.whole ∙ length-append (spell_tokens t.tokens) rest in (
      t.tokens,
      rest,
      subst (λ v. ReadsWith pass v t.tokens rest) whole (turn_reads pass accepted (take at bytes) rest start count t),
      t.all_accepted,
      t.counted,
      omega (arith, t.placed, long, ap length whole),
    )

-- ## How many are passed over

pub count_taken : (ts : List Token) (c : Command) → passed_count (ts ++ taken c ∷ []) ≡ passed_count ts
count_taken [] c = refl
count_taken (taken d ∷ ts) c = count_taken ts c
count_taken (passed i bs ∷ ts) c = ap (λ n. n + 1) (count_taken ts c)

count_none : (text : List ℕ) → passed_count (text_tokens text) ≡ 0
count_none [] = refl
count_none (b ∷ text) = count_none text

pub count_text : (ts : List Token) (text : List ℕ) → passed_count (ts ++ text_tokens text) ≡ passed_count ts
count_text [] text = count_none text
count_text (taken d ∷ ts) text = count_text ts text
count_text (passed i bs ∷ ts) text = ap (λ n. n + 1) (count_text ts text)

pub count_passed : (ts : List Token) (i : ℕ) (bs : List ℕ) → passed_count (ts ++ passed i bs ∷ []) ≡ passed_count ts + 1
count_passed [] i bs = refl
count_passed (taken d ∷ ts) i bs = count_passed ts i bs
count_passed (passed j run ∷ ts) i bs = ap (λ n. n + 1) (count_passed ts i bs)

-- Each of them takes a byte.
count_small : (ts : List Token) → AllByRecursion IsToken ts → passed_count ts ≤ length (spell_tokens ts)
count_small [] h = omega arith
count_small (taken d ∷ ts) h = omega (arith, count_small ts h.1, length-append (row d) (spell_tokens ts))
count_small (passed i bs ∷ ts) h = omega (arith, count_small ts h.1, length-append bs (spell_tokens ts), some_bytes i bs h.0.1)

pub turn_small : (pass : Bool) (accepted : List Token → Type 0) (bytes rest : List ℕ) (at start count : ℕ) → at ≤ length bytes
    → Turn pass accepted (take at bytes) rest start count → count ≤ at
turn_small pass accepted bytes rest at start count inside t =
    let long = ap length t.whole ∙ length-append (spell_tokens t.tokens) rest in
    omega (arith, t.counted, long, short_of bytes at inside, count_small t.tokens t.all)

-- ## The byte goes on, or ends a command

pub turn_more : (pass : Bool) (accepted : List Token → Type 0) (bytes rest after : List ℕ) (at start count : ℕ) → at < length bytes → Turn pass accepted (take at bytes) rest start count
    → Half (rest ++ slice_index bytes at ∷ []) → after ≡ rest ++ slice_index bytes at ∷ [] → Turn pass accepted (take (at + 1) bytes) after start count
turn_more pass accepted bytes rest after at start count h t begun e = record {
  tokens = t.tokens;
  all = t.all;
  whole =
      sym (at_place bytes at h) ∙ ap (λ v. v ++ slice_index bytes at ∷ []) t.whole ∙ append_assoc (spell_tokens t.tokens) rest (slice_index bytes at ∷ [])
      ∙ ap (λ v. spell_tokens t.tokens ++ v) (sym e);
  rest_is = inr (subst Half (sym e) begun);
  all_accepted = t.all_accepted;
  placed = t.placed;
  counted = t.counted;
  plain = t.plain;
}

reads_alone : (rest : List ℕ) → (rest ≡ []) ⊎ Half rest → Reads rest [] rest
reads_alone rest (inl e) = subst (λ v. Reads v [] v) (sym e) reads_nothing
reads_alone rest (inr h) = reads_half rest h

pub turn_run : (pass : Bool) (accepted : List Token → Type 0) (bytes rest after : List ℕ) (at n most start count : ℕ) → at + n ≤ length bytes → n ≤ most
    → Turn pass accepted (take at bytes) rest start count → after ≡ rest ++ take n (take most (drop at bytes))
    → ((a : List ℕ) (cs : List Command) → Reads a cs rest → Reads (a ++ take n (take most (drop at bytes))) cs after)
    → Turn pass accepted (take (at + n) bytes) after start count
turn_run pass accepted bytes rest after at n most start count inside few t e on = record {
  tokens = t.tokens;
  all = t.all;
  whole =
      take-add at n bytes ∙ ap (λ v. take at bytes ++ v) (sym (take-take n most (drop at bytes) few)) ∙ ap (λ v. v ++ take n (take most (drop at bytes))) t.whole
      ∙ append_assoc (spell_tokens t.tokens) rest (take n (take most (drop at bytes))) ∙ ap (λ v. spell_tokens t.tokens ++ v) (sym e);
  rest_is = (on rest [] (reads_alone rest t.rest_is)).rest_is;
  all_accepted = t.all_accepted;
  placed = t.placed;
  counted = t.counted;
  plain = t.plain;
}

-- One more token.
pub longer : (ts : List Token) (u : Token) → spell_tokens (ts ++ u ∷ []) ≡ spell_tokens ts ++ bytes_of u
longer ts u = flat_map-append bytes_of ts (u ∷ []) ∙ ap (λ v. spell_tokens ts ++ v) (append-nil (bytes_of u))

pub plain_more : (pass : Bool) (ts : List Token) (cs : List Command) → AllByRecursion IsCommand cs → (pass ≡ false → (ds : List Command) × AllByRecursion IsCommand ds × (ts ≡ map taken ds))
    → pass ≡ false → (ds : List Command) × AllByRecursion IsCommand ds × (ts ++ map taken cs ≡ map taken ds)
plain_more pass ts cs all plain e =
    let p = plain e in (p.0 ++ cs, all_append p.0 cs p.1 all, ap (λ v. v ++ map taken cs) p.2 ∙ sym (map-append taken p.0 cs))

abbrev pub turn_done : (pass : Bool) (accepted next : List Token → Type 0) (bytes rest after : List ℕ) (at start count then_start : ℕ) (c : Command) → at < length bytes
    → Turn pass accepted (take at bytes) rest start count → Spells c (rest ++ slice_index bytes at ∷ []) → after ≡ []
    → ((ts : List Token) → start ≡ length (spell_tokens ts) → accepted ts → next (ts ++ taken c ∷ [])) → then_start ≡ at + 1
    → Turn pass next (take (at + 1) bytes) after then_start count
turn_done pass accepted next bytes rest after at start count then_start c h t s e take_it place =
    let ts = t.tokens in
    let whole : take (at + 1) bytes ≡ spell_tokens (ts ++ taken c ∷ []) =
    sym (at_place bytes at h) ∙ ap (λ v. v ++ slice_index bytes at ∷ []) t.whole ∙ append_assoc (spell_tokens ts) rest (slice_index bytes at ∷ [])
    ∙ ap (λ v. spell_tokens ts ++ v) s.in_table ∙ sym (longer ts (taken c)) in
    let long = ap length whole in
    record {
      tokens = ts ++ taken c ∷ [];
      all = all_tokens ts (taken c ∷ []) t.all (s.in_range, tt);
      whole = whole ∙ sym (append-nil (spell_tokens (ts ++ taken c ∷ []))) ∙ ap (λ v. spell_tokens (ts ++ taken c ∷ []) ++ v) (sym e);
      rest_is = inl e;
      all_accepted = take_it ts t.placed t.all_accepted;
      placed = omega (arith, place, long, short_of bytes (at + 1) (omega (arith, h)));
      counted = t.counted ∙ sym (count_taken ts c);
      plain = plain_more pass ts (c ∷ []) (s.in_range, tt) t.plain;
    }

-- The command isn't taken.
pub turn_refused : (pass : Bool) (accepted : List Token → Type 0) (bytes rest : List ℕ) (at start count : ℕ) (c : Command) → at < length bytes → Turn pass accepted (take at bytes) rest start count
    → Spells c (rest ++ slice_index bytes at ∷ []) → EndsWith pass (taken c) accepted (take (at + 1) bytes)
turn_refused pass accepted bytes rest at start count c h t s =
    let done = turn_done pass accepted (λ ts. Unit {0}) bytes rest [] at start count (at + 1) c h t s refl (λ ts placed taken. tt) refl in
    (t.tokens, turn_reads pass (λ ts. Unit {0}) (take (at + 1) bytes) [] (at + 1) count done, t.all_accepted)

-- ## A setting

abbrev pub turn_setting : (pass : Bool) (accepted next : List Token → Type 0) (bytes rest : List ℕ) (at n most start count then_start : ℕ) (c : Command) → at + n ≤ length bytes → n ≤ most
    → rest ≡ [] → Turn pass accepted (take at bytes) rest start count → Spells c (take n (take most (drop at bytes)))
    → ((ts : List Token) → start ≡ length (spell_tokens ts) → accepted ts → next (ts ++ taken c ∷ [])) → then_start ≡ at + n
    → Turn pass next (take (at + n) bytes) rest then_start count
turn_setting pass accepted next bytes rest at n most start count then_start c inside few none t s take_it place =
    let ts = t.tokens in
    let whole : take (at + n) bytes ≡ spell_tokens (ts ++ taken c ∷ []) =
    take-add at n bytes ∙ ap (λ v. take at bytes ++ v) (sym (take-take n most (drop at bytes) few) ∙ s.in_table)
    ∙ ap (λ v. v ++ row c) (t.whole ∙ ap (λ v. spell_tokens ts ++ v) none ∙ append-nil (spell_tokens ts)) ∙ sym (longer ts (taken c)) in
    let long = ap length whole in
    record {
      tokens = ts ++ taken c ∷ [];
      all = all_tokens ts (taken c ∷ []) t.all (s.in_range, tt);
      whole = whole ∙ sym (append-nil (spell_tokens (ts ++ taken c ∷ []))) ∙ ap (λ v. spell_tokens (ts ++ taken c ∷ []) ++ v) (sym none);
      rest_is = inl none;
      all_accepted = take_it ts t.placed t.all_accepted;
      placed = omega (arith, place, long, short_of bytes (at + n) inside);
      counted = t.counted ∙ sym (count_taken ts c);
      plain = plain_more pass ts (c ∷ []) (s.in_range, tt) t.plain;
    }

-- It isn't taken.
pub turn_setting_refused : (pass : Bool) (accepted : List Token → Type 0) (bytes rest : List ℕ) (at n most start count : ℕ) (c : Command) → at + n ≤ length bytes → n ≤ most
    → rest ≡ [] → Turn pass accepted (take at bytes) rest start count → Spells c (take n (take most (drop at bytes))) → EndsWith pass (taken c) accepted (take (at + n) bytes)
turn_setting_refused pass accepted bytes rest at n most start count c inside few none t s =
    let done = turn_setting pass accepted (λ ts. Unit {0}) bytes rest at n most start count (at + n) c inside few none t s (λ ts placed taken. tt) refl in
    (t.tokens, subst (λ v. ReadsWith pass (take (at + n) bytes) (t.tokens ++ taken c ∷ []) v) none (turn_reads pass (λ ts. Unit {0}) (take (at + n) bytes) rest (at + n) count done), t.all_accepted)

-- ## Characters

pub same_text : (text : List ℕ) → spell_tokens (text_tokens text) ≡ text
same_text [] = refl
same_text (b ∷ text) = ap (λ v. b ∷ v) (same_text text)

pub commands_of_text : (text : List ℕ) → AllPass is_character text → AllByRecursion IsCommand (map Char text)
commands_of_text text printing = (text_read [] text [] printing reads_nothing).commands

-- The tokens of the next characters follow those of the characters before them.
pub text_more : (ts : List Token) (text : List ℕ) (at n most : ℕ) → n ≤ most
    → (ts ++ text_tokens (take at text)) ++ text_tokens (take n (take most (drop at text))) ≡ ts ++ text_tokens (take (at + n) text)
text_more ts text at n most few =
    append_assoc ts (text_tokens (take at text)) (text_tokens (take n (take most (drop at text))))
    ∙ ap (λ v. ts ++ (text_tokens (take at text) ++ text_tokens v)) (take-take n most (drop at text) few)
    ∙ ap (λ us. ts ++ us) (sym (map-append taken (map Char (take at text)) (map Char (take n (drop at text)))) ∙ ap (map taken) (sym (map-append Char (take at text) (take n (drop at text)))) ∙ ap text_tokens (sym (take-add at n text)))

-- Each of them takes one byte.
pub text_place : (ts : List Token) (text : List ℕ) (at place : ℕ) → at ≤ length text → place ≡ length (spell_tokens ts)
    → place + at ≡ length (spell_tokens (ts ++ text_tokens (take at text)))
text_place ts text at place inside e =
    let split = ap length (flat_map-append bytes_of ts (text_tokens (take at text)) ∙ ap (λ v. spell_tokens ts ++ v) (same_text (take at text))) ∙ length-append (spell_tokens ts) (take at text) in
    omega (arith, e, split, length-take at text)

abbrev pub turn_text : (pass : Bool) (accepted next : List Token → Type 0) (bytes rest : List ℕ) (at n most m start count then_start : ℕ) → at + n ≤ length bytes → n ≤ most → m ≡ n
    → AllPass is_character (take n (take most (drop at bytes))) → rest ≡ [] → Turn pass accepted (take at bytes) rest start count
    → ((ts : List Token) → start ≡ length (spell_tokens ts) → accepted ts → next (ts ++ text_tokens (take m (drop at bytes)))) → then_start ≡ at + n
    → Turn pass next (take (at + n) bytes) rest then_start count
turn_text pass accepted next bytes rest at n most m start count then_start inside few is printing none t take_it place =
    let ts = t.tokens in
    let text = take m (drop at bytes) in
    let same : take n (take most (drop at bytes)) ≡ text = take-take n most (drop at bytes) few ∙ ap (λ k. take k (drop at bytes)) (sym is) in
    let commands = commands_of_text text (subst (AllPass is_character) same printing) in
    let whole : take (at + n) bytes ≡ spell_tokens (ts ++ text_tokens text) =
    take-add at n bytes ∙ ap (λ k. take at bytes ++ take k (drop at bytes)) (sym is)
    ∙ ap (λ v. v ++ text) (t.whole ∙ ap (λ v. spell_tokens ts ++ v) none ∙ append-nil (spell_tokens ts))
    ∙ ap (λ v. spell_tokens ts ++ v) (sym (same_text text)) ∙ sym (flat_map-append bytes_of ts (text_tokens text)) in
    let long = ap length whole in
    record {
      tokens = ts ++ text_tokens text;
      all = all_tokens ts (text_tokens text) t.all (tokens_of (map Char text) commands);
      whole = whole ∙ sym (append-nil (spell_tokens (ts ++ text_tokens text))) ∙ ap (λ v. spell_tokens (ts ++ text_tokens text) ++ v) (sym none);
      rest_is = inl none;
      all_accepted = take_it ts t.placed t.all_accepted;
      placed = omega (arith, place, long, short_of bytes (at + n) inside);
      counted = t.counted ∙ sym (count_text ts text);
      plain = plain_more pass ts (map Char text) commands t.plain;
    }

-- The one after k of them isn't taken.
pub turn_text_refused : (pass : Bool) (accepted : List Token → Type 0) (bytes rest : List ℕ) (at n most m k start count : ℕ) → at + n ≤ length bytes → n ≤ most → m ≡ n → k < n
    → AllPass is_character (take n (take most (drop at bytes))) → rest ≡ [] → (t : Turn pass accepted (take at bytes) rest start count)
    → ReadsWith pass (take (at + (k + 1)) bytes) ((t.tokens ++ text_tokens (take k (take m (drop at bytes)))) ++ taken (Char (slice_index (drop at bytes) k)) ∷ []) []
turn_text_refused pass accepted bytes rest at n most m k start count inside few is within printing none t =
    let front = drop at bytes in
    let same : take (k + 1) (take n (take most front)) ≡ take (k + 1) front = ap (take (k + 1)) (take-take n most front few) ∙ take-take (k + 1) n front (omega (arith, within)) in
    let more : AllPass is_character (take (k + 1) (take most front)) = subst (AllPass is_character) (same ∙ sym (take-take (k + 1) most front (omega (arith, within, few)))) (All-take (λ x. IsTrue (is_character x)) (k + 1) (take n (take most front)) printing) in
    let there : k < length front = omega (arith, length-drop at bytes, inside, within) in
    let done = turn_text pass accepted (λ ts. Unit {0}) bytes rest at (k + 1) most (k + 1) start count (at + (k + 1)) (omega (arith, inside, within)) (omega (arith, within, few)) refl more none t (λ ts placed taken. tt) refl in
    let kept : take k (take m front) ≡ take k front = take-take k m front (omega (arith, is, within)) in
    let tokens : t.tokens ++ text_tokens (take (k + 1) front) ≡ (t.tokens ++ text_tokens (take k (take m front))) ++ taken (Char (slice_index front k)) ∷ []
    = ap (λ v. t.tokens ++ text_tokens v) (take_more front k 0 there)
    ∙ ap (λ v. t.tokens ++ map taken v) (map-append Char (take k front) (slice_index front k ∷ []))
    ∙ ap (λ v. t.tokens ++ v) (map-append taken (map Char (take k front)) (Char (slice_index front k) ∷ []))
    ∙ sym (append_assoc t.tokens (text_tokens (take k front)) (taken (Char (slice_index front k)) ∷ []))
    ∙ ap (λ v. (t.tokens ++ text_tokens v) ++ taken (Char (slice_index front k)) ∷ []) (sym kept) in
    subst (λ v. ReadsWith pass (take (at + (k + 1)) bytes) v []) tokens
    (subst (λ v. ReadsWith pass (take (at + (k + 1)) bytes) (t.tokens ++ text_tokens (take (k + 1) front)) v) none (turn_reads pass (λ ts. Unit {0}) (take (at + (k + 1)) bytes) rest (at + (k + 1)) count done))

-- ## A byte that the command table refuses

-- The bytes from the start of the refused command on.
pub left_there : (pass : Bool) (accepted : List Token → Type 0) (bytes rest : List ℕ) (at start count : ℕ) → at < length bytes → (t : Turn pass accepted (take at bytes) rest start count)
    → bytes ≡ spell_tokens t.tokens ++ (rest ++ slice_index bytes at ∷ drop (at + 1) bytes)
left_there pass accepted bytes rest at start count h t =
    sym (take-append-drop at bytes) ∙ ap (λ v. v ++ drop at bytes) t.whole ∙ append_assoc (spell_tokens t.tokens) rest (drop at bytes)
    ∙ ap (λ v. spell_tokens t.tokens ++ (rest ++ v)) (sym (around_place bytes at h))

left_dropped : (pass : Bool) (accepted : List Token → Type 0) (bytes rest : List ℕ) (at start count : ℕ) → at < length bytes → (t : Turn pass accepted (take at bytes) rest start count)
    → drop start bytes ≡ rest ++ slice_index bytes at ∷ drop (at + 1) bytes
left_dropped pass accepted bytes rest at start count h t =
    ap (λ n. drop n bytes) t.placed ∙ ap (drop (length (spell_tokens t.tokens))) (left_there pass accepted bytes rest at start count h t)
    ∙ drop-append_seam (spell_tokens t.tokens) (rest ++ slice_index bytes at ∷ drop (at + 1) bytes)

pub front_taken : (pass : Bool) (accepted : List Token → Type 0) (bytes rest : List ℕ) (at start count : ℕ) → at < length bytes → (t : Turn pass accepted (take at bytes) rest start count)
    → take start bytes ≡ spell_tokens t.tokens
front_taken pass accepted bytes rest at start count h t =
    ap (λ n. take n bytes) t.placed ∙ ap (take (length (spell_tokens t.tokens))) (left_there pass accepted bytes rest at start count h t)
    ∙ take-append_seam (spell_tokens t.tokens) (rest ++ slice_index bytes at ∷ drop (at + 1) bytes)

pub place_of : (pass : Bool) (accepted : List Token → Type 0) (bytes rest : List ℕ) (at start count : ℕ) → at < length bytes → (t : Turn pass accepted (take at bytes) rest start count) → at ≡ start + length rest
place_of pass accepted bytes rest at start count h t =
    let long = ap length t.whole ∙ length-append (spell_tokens t.tokens) rest in omega (arith, long, t.placed, short_of bytes at (omega (arith, h)))

-- No command is passed over: the fault is the stream's.
pub turn_fault : (pass : Bool) (accepted : List Token → Type 0) (bytes rest : List ℕ) (at start count : ℕ) (why : FaultReason) → pass ≡ false → at < length bytes → (t : Turn pass accepted (take at bytes) rest start count)
    → ((a more : List ℕ) (cs : List Command) → Reads a cs rest → FaultAt (a ++ slice_index bytes at ∷ more) cs rest (length a) why) → FaultWith pass bytes t.tokens at why
turn_fault false accepted bytes rest at start count why e h t refused =
    let p = t.plain refl in
    let read : Reads (take at bytes) p.0 rest = record {
      commands = p.1;
      whole = t.whole ∙ ap (λ v. spell_tokens v ++ rest) p.2 ∙ ap (λ v. v ++ rest) (same_bytes p.0);
      rest_is = t.rest_is;
    } in
    let whole : take at bytes ++ slice_index bytes at ∷ drop (at + 1) bytes ≡ bytes = ap (λ v. take at bytes ++ v) (around_place bytes at h) ∙ take-append-drop at bytes in (
      p.0,
      rest,
      p.2,
      subst (λ n. FaultAt bytes p.0 rest n why) (short_of bytes at (omega (arith, h)))
          (subst (λ v. FaultAt v p.0 rest (length (take at bytes)) why) whole (refused (take at bytes) (drop (at + 1) bytes) p.0 read)),
    )
turn_fault true accepted bytes rest at start count why e h t refused = absurd cc

-- Nor does the refused one begin one that would be.
pub turn_nothing : (pass : Bool) (accepted : List Token → Type 0) (bytes rest : List ℕ) (at start count most : ℕ) (why : FaultReason) → pass ≡ true → at < length bytes → most ≡ length bytes - start
    → (t : Turn pass accepted (take at bytes) rest start count)
    → ((a more : List ℕ) (cs : List Command) → Reads a cs rest → FaultAt (a ++ slice_index bytes at ∷ more) cs rest (length a) why)
    → ((i : ℕ) → i < length table → IsNone (row_at table i) (take most (drop start bytes))) → FaultWith pass bytes t.tokens at why
turn_nothing false accepted bytes rest at start count most why e h m t refused none = absurd cc
turn_nothing true accepted bytes rest at start count most why e h m t refused none =
    let left = rest ++ slice_index bytes at ∷ drop (at + 1) bytes in
    let dropped = left_dropped true accepted bytes rest at start count h t in
    let same : take most (drop start bytes) ≡ left = ap (λ n. take n (drop start bytes)) m ∙ take_rest bytes start ∙ dropped in
    let none_there : (i : ℕ) → i < length table → IsNone (row_at table i) left = λ i k. subst (IsNone (row_at table i)) same (none i k) in
    record {
      left = left;
      rest = rest;
      after = length rest;
      tokens = t.all;
      whole = left_there true accepted bytes rest at start count h t;
      fault = refused rest (drop (at + 1) bytes) [] (reads_alone rest t.rest_is);
      place = place_of true accepted bytes rest at start count h t ∙ ap (λ n. n + length rest) t.placed;
      not_passed = λ some more f p. (none_there p.0 p.1).not_passed some more f p.2;
      no_part = λ p. (none_there p.0 p.1).no_part p.2;
    }

-- It is the start of one, and the stream ends within it.
pub turn_part : (pass : Bool) (accepted : List Token → Type 0) (bytes rest : List ℕ) (at start count most : ℕ) → pass ≡ true → at < length bytes → most ≡ length bytes - start
    → Turn pass accepted (take at bytes) rest start count → IsPart (take most (drop start bytes)) → IsAllTaken pass accepted bytes (record { passed = count; half = length bytes - start })
turn_part false accepted bytes rest at start count most e h m t p = absurd cc
turn_part true accepted bytes rest at start count most e h m t p =
    let same : take most (drop start bytes) ≡ drop start bytes = ap (λ n. take n (drop start bytes)) m ∙ take_rest bytes start in (
      t.tokens,
      drop start bytes,
      record {
        tokens = t.all;
        whole = left_there true accepted bytes rest at start count h t ∙ ap (λ v. spell_tokens t.tokens ++ v) (sym (left_dropped true accepted bytes rest at start count h t));
        rest_is = part (subst IsPart same p);
      },
      t.all_accepted,
      t.counted,
      sym (length-drop start bytes),
    )

-- It goes further than the refused byte: the start of a command holds no such command.
pub turn_further : (pass : Bool) (accepted : List Token → Type 0) (bytes rest : List ℕ) (at start count n : ℕ) → at < length bytes → Turn pass accepted (take at bytes) rest start count
    → IsPassed (take n (drop start bytes)) → at < start + n
turn_further pass accepted bytes rest at start count n h t p =
    let dropped = left_dropped pass accepted bytes rest at start count h t in
    let place = place_of pass accepted bytes rest at start count h t in
    elim (cases_lt (length rest) n) [
      | inl more ↦ omega (arith, place, more)
      | inr few ↦
          let same : take n (drop start bytes) ≡ take n rest = ap (take n) dropped ∙ take-append-le n rest (slice_index bytes at ∷ drop (at + 1) bytes) few in
          absurd (let there = subst IsPassed same p in silent_rest rest (rest_of_half rest t.rest_is) (passed there.0 (take n rest)) (drop n rest) (there.1, there.2) (sym (take-append-drop n rest)))
    ]

-- It is one.
abbrev pub turn_passed : (pass : Bool) (accepted next : List Token → Type 0) (bytes rest after run : List ℕ) (at start count n i : ℕ) → pass ≡ true → at < length bytes → start + n ≤ length bytes
    → (t : Turn pass accepted (take at bytes) rest start count) → run ≡ take n (drop start bytes) → i < length table → IsPassedBy (row_at table i) run → after ≡ []
    → ((ts : List Token) → start ≡ length (spell_tokens ts) → accepted ts → next (ts ++ passed i run ∷ []))
    → Turn pass next (take (start + n) bytes) after (start + n) (count + 1)
turn_passed false accepted next bytes rest after run at start count n i e h inside t is k p none pass_it = absurd cc
turn_passed true accepted next bytes rest after run at start count n i e h inside t is k p none pass_it =
    let ts = t.tokens in
    let whole : take (start + n) bytes ≡ spell_tokens (ts ++ passed i run ∷ []) =
    take-add start n bytes ∙ ap (λ v. v ++ take n (drop start bytes)) (front_taken true accepted bytes rest at start count h t)
    ∙ ap (λ v. spell_tokens ts ++ v) (sym is) ∙ sym (longer ts (passed i run)) in
    let long = ap length whole in
    record {
      tokens = ts ++ passed i run ∷ [];
      all = all_tokens ts (passed i run ∷ []) t.all ((k, p), tt);
      whole = whole ∙ sym (append-nil (spell_tokens (ts ++ passed i run ∷ []))) ∙ ap (λ v. spell_tokens (ts ++ passed i run ∷ []) ++ v) (sym none);
      rest_is = inl none;
      all_accepted = pass_it ts t.placed t.all_accepted;
      placed = omega (arith, long, short_of bytes (start + n) inside);
      counted = ap (λ k. k + 1) t.counted ∙ sym (count_passed ts i run);
      plain = λ f. absurd cc;
    }

-- It isn't passed over by the consumer.
pub turn_not_passed : (pass : Bool) (accepted : List Token → Type 0) (bytes rest run : List ℕ) (at start count n i : ℕ) → pass ≡ true → at < length bytes → start + n ≤ length bytes
    → Turn pass accepted (take at bytes) rest start count → run ≡ take n (drop start bytes) → i < length table → IsPassedBy (row_at table i) run → EndsWith pass (passed i run) accepted (take (start + n) bytes)
turn_not_passed false accepted bytes rest run at start count n i e h inside t is k p = absurd cc
turn_not_passed true accepted bytes rest run at start count n i e h inside t is k p =
    let done = turn_passed true accepted (λ ts. Unit {0}) bytes rest [] run at start count n i e h inside t is k p refl (λ ts placed taken. tt) in
    (t.tokens, turn_reads true (λ ts. Unit {0}) (take (start + n) bytes) [] (start + n) (count + 1) done, t.all_accepted)
