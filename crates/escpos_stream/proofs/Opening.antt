-- One ESC @ more at the beginning of a stream changes nothing but the places.
use Rattle.std.proofs.Common.{◌≡◌, ℕ, ◌+◌, Bool, true, false, not, inl, List, [], ◌∷◌, ◌++◌, filter, length, map, refl, sym, ◌∙◌, ap, arith}
use Rattle.std.proofs.lemmas.List.{map-append}
use Rattle.escpos_command.specs.declared.bytes.TheConstants.{ESC}
use Rattle.escpos_command.specs.declared.command.Command.{Command}
use Rattle.escpos_command.specs.declared.command.Command.TheVariants as kind
use Rattle.escpos_command.specs.CommandTable.{row}
use Rattle.escpos_command.specs.Grammar.{Reads}
use Rattle.escpos_command.specs.Settings.{is_init}
use Rattle.escpos_stream.specs.Streams.{AreInits, Keeps, Placed, StreamGives, commands_of, is_question, placed_from, without_questions}

abbrev further : ℕ → Placed → Placed
further k p = record { place = p.place + k; command = p.command }

placed_further : (n k : ℕ) (cs : List Command) → placed_from (n + k) cs ≡ map (further k) (placed_from n cs)
placed_further n k [] = refl
placed_further n k (c ∷ cs) =
    let e : n + k + length (row c) ≡ n + length (row c) + k = omega arith in
    ap (λ v. record { place = n + k; command = c } ∷ v) (ap (λ m. placed_from m cs) e ∙ placed_further (n + length (row c)) k cs)

abbrev asks_nothing : Placed → Bool
asks_nothing p = not (is_question p.command)

filter_further_by : (k : ℕ) (p : Placed) (ps : List Placed) (b : Bool) → asks_nothing p ≡ b → filter asks_nothing (map (further k) ps) ≡ map (further k) (filter asks_nothing ps)
    → filter asks_nothing (map (further k) (p ∷ ps)) ≡ map (further k) (filter asks_nothing (p ∷ ps))
filter_further_by k p ps true is more = rw (is) (ap (λ v. further k p ∷ v) more)
filter_further_by k p ps false is more = rw (is) more

filter_further : (k : ℕ) (ps : List Placed) → filter asks_nothing (map (further k) ps) ≡ map (further k) (filter asks_nothing ps)
filter_further k [] = refl
filter_further k (p ∷ ps) = filter_further_by k p ps (asks_nothing p) refl (filter_further k ps)

inits_further : (k : ℕ) (ps : List Placed) → AreInits ps → AreInits (map (further k) ps)
inits_further k [] all = tt
inits_further k (p ∷ ps) all = (all.0, inits_further k ps all.1)

commands_further : (k : ℕ) (ps : List Placed) → commands_of (map (further k) ps) ≡ commands_of ps
commands_further k [] = refl
commands_further k (p ∷ ps) = ap (λ v. p.command ∷ v) (commands_further k ps)

first_further : (k : ℕ) (kept : List Placed) → ((p : Placed) (more : List Placed) → kept ≡ p ∷ more → is_init p.command ≡ false)
    → (p : Placed) (more : List Placed) → map (further k) kept ≡ p ∷ more → is_init p.command ≡ false
first_further k [] first p more e = absurd cc
first_further k (q ∷ kept) first p more e = let same : further k q ≡ p = cc in ap (λ x. is_init x.command) (sym same) ∙ first q kept refl

last_further : (k : ℕ) (kept : List Placed) → ((before : List Placed) (p : Placed) → kept ≡ before ++ p ∷ [] → is_init p.command ≡ false)
    → (before : List Placed) (p : Placed) → map (further k) kept ≡ before ++ p ∷ [] → is_init p.command ≡ false
last_further k [] last [] p e = absurd cc
last_further k [] last (b ∷ before) p e = absurd cc
last_further k (q ∷ []) last [] p e = let same : further k q ≡ p = cc in ap (λ x. is_init x.command) (sym same) ∙ last [] q refl
last_further k (q ∷ r ∷ kept) last [] p e = absurd cc
last_further k (q ∷ kept) last (b ∷ before) p e =
    let more : map (further k) kept ≡ before ++ p ∷ [] = cc in
    last_further k kept (λ earlier x is. last (q ∷ earlier) x (ap (λ v. q ∷ v) is)) before p more

keeps_further : (cs : List Command) (kept : List Placed) → Keeps cs kept → Keeps (kind.Init ∷ cs) (map (further 2) kept)
keeps_further cs kept k =
    let moved : filter asks_nothing (placed_from 2 cs) ≡ map (further 2) (without_questions cs) =
    ap (filter asks_nothing) (placed_further 0 2 cs) ∙ filter_further 2 (placed_from 0 cs) in
    let parts : map (further 2) (without_questions cs) ≡ map (further 2) k.opening ++ map (further 2) kept ++ map (further 2) k.closing =
    ap (map (further 2)) k.split ∙ map-append (further 2) (k.opening ++ kept) k.closing ∙ ap (λ v. v ++ map (further 2) k.closing) (map-append (further 2) k.opening kept) in
    record {
      opening = record { place = 0; command = kind.Init } ∷ map (further 2) k.opening;
      closing = map (further 2) k.closing;
      split = ap (λ v. record { place = 0; command = kind.Init } ∷ v) (moved ∙ parts);
      opens = (refl, inits_further 2 k.opening k.opens);
      closes = inits_further 2 k.closing k.closes;
      first = first_further 2 kept k.first;
      last = last_further 2 kept k.last;
    }

reads_further : (bytes : List ℕ) (cs : List Command) → Reads bytes cs [] → Reads (ESC ∷ 0x40 ∷ bytes) (kind.Init ∷ cs) []
reads_further bytes cs r = record { commands = (refl, r.commands); whole = ap (λ v. ESC ∷ 0x40 ∷ v) r.whole; rest_is = inl refl }

pub gives_further : (bytes : List ℕ) (commands : List Command) → StreamGives bytes commands → StreamGives (ESC ∷ 0x40 ∷ bytes) commands
gives_further bytes commands (kept, (cs, r, k), is) =
    (map (further 2) kept, (kind.Init ∷ cs, reads_further bytes cs r, keeps_further cs kept k), is ∙ sym (commands_further 2 kept))
