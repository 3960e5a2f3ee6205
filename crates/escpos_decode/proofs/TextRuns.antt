-- Characters of a piece, side by side.
use Rattle.std.proofs.Common.{◌≡◌, ℕ, ◌+◌, ◌<◌, ◌≤◌, subst, List, [], ◌∷◌, ◌++◌, length, map, take, drop, sym, ◌∙◌, ap, append_assoc, append-nil, arith, length-append, length-take}
use Rattle.std.specs.Prelude.{IsTrue, slice_index}
use Rattle.std.specs.List.{AllPass}
use Rattle.std.proofs.lemmas.Grind.{flat_map-append}
use Rattle.std.proofs.lemmas.List.{map-append, take-take, take_more}
use Rattle.std.proofs.lemmas.List.Elements.{All-take}
use Rattle.std.proofs.Math.Seq.{take-add}
use Rattle.escpos_command.specs.declared.command.Command.{Command}
use Rattle.escpos_command.specs.declared.command.Command.TheVariants.{Char}
use Rattle.escpos_command.specs.CommandTable.{row, spell}
use Rattle.escpos_command.specs.Grammar.{Reads}
use Rattle.escpos_command.specs.Parameters.{is_character}
use Rattle.escpos_command.proofs.Texts.{spelled, text_read}
use Rattle.escpos_decode.proofs.Streams.{Turn}

-- The commands of the next characters follow those of the characters before them.
pub text_more : (cs : List Command) (text : List ℕ) (at n most : ℕ) → n ≤ most
    → (cs ++ map Char (take at text)) ++ map Char (take n (take most (drop at text))) ≡ cs ++ map Char (take (at + n) text)
text_more cs text at n most few =
    append_assoc cs (map Char (take at text)) (map Char (take n (take most (drop at text))))
    ∙ ap (λ bs. cs ++ (map Char (take at text) ++ map Char bs)) (take-take n most (drop at text) few)
    ∙ ap (λ ds. cs ++ ds) (sym (map-append Char (take at text) (take n (drop at text))) ∙ ap (map Char) (sym (take-add at n text)))

-- Each of them takes one byte.
pub text_place : (cs : List Command) (text : List ℕ) (at place : ℕ) → at ≤ length text → place ≡ length (spell cs)
    → place + at ≡ length (spell (cs ++ map Char (take at text)))
text_place cs text at place inside e =
    let split = ap length (flat_map-append row cs (map Char (take at text))) in
    let front = ap length (spelled (take at text)) in
    omega (arith, e, split, front, length-append (spell cs) (spell (map Char (take at text))), length-take at text)

-- As many of them as are taken are read, and leave the decoder between commands.
pub text_on : (bytes half : List ℕ) (most : ℕ) → AllPass is_character (take most bytes) → half ≡ []
    → (n : ℕ) (a : List ℕ) (cs : List Command) → n ≤ most → Reads a cs half → Reads (a ++ take n bytes) (cs ++ map Char (take n bytes)) half
text_on bytes half most printing none n a cs few read =
    let passes = subst (AllPass is_character) (take-take n most bytes few) (All-take (λ x. IsTrue (is_character x)) n (take most bytes) printing) in
    subst (Reads (a ++ take n bytes) (cs ++ map Char (take n bytes))) (sym none) (text_read a (take n bytes) cs passes (subst (Reads a cs) none read))

-- ## The loop over a piece

text_after : (a piece : List ℕ) (at n : ℕ) → (a ++ take at piece) ++ take n (drop at piece) ≡ a ++ take (at + n) piece
text_after a piece at n = append_assoc a (take at piece) (take n (drop at piece)) ∙ ap (λ v. a ++ v) (sym (take-add at n piece))

-- They are read, and taken.
pub turn_text : (accepted next : List Command → Type 0) (a piece half : List ℕ) (at n most m start then_start : ℕ) → at + n ≤ length piece → n ≤ most → m ≡ n
    → AllPass is_character (take n (take most (drop at piece))) → half ≡ [] → Turn accepted (a ++ take at piece) half start
    → ((cs : List Command) → start ≡ length (spell cs) → accepted cs → next (cs ++ map Char (take m (drop at piece))))
    → then_start ≡ length a + (at + n) → Turn next (a ++ take (at + n) piece) half then_start
turn_text accepted next a piece half at n most m start then_start inside few is printing none t take_it e =
    let text = take m (drop at piece) in
    let same : take n (take most (drop at piece)) ≡ text = take-take n most (drop at piece) few ∙ ap (λ k. take k (drop at piece)) (sym is) in
    let read = text_read (a ++ take at piece) text t.commands (subst (AllPass is_character) same printing) (subst (Reads (a ++ take at piece) t.commands) none t.read) in
    let bytes : (a ++ take at piece) ++ text ≡ a ++ take (at + n) piece = ap (λ k. (a ++ take at piece) ++ take k (drop at piece)) is ∙ text_after a piece at n in
    let long = ap length read.whole ∙ ap length (append-nil (spell (t.commands ++ map Char text))) in
    record {
      commands = t.commands ++ map Char text;
      read = subst (Reads (a ++ take (at + n) piece) (t.commands ++ map Char text)) (sym none) (subst (λ bs. Reads bs (t.commands ++ map Char text) []) bytes read);
      all_accepted = take_it t.commands t.placed t.all_accepted;
      placed = omega (arith, e, long, ap length bytes, length-append a (take (at + n) piece), length-take (at + n) piece);
    }

-- The one after k of them isn't taken.
pub turn_text_refused : (accepted : List Command → Type 0) (a piece half : List ℕ) (at n most m k start : ℕ) → n ≤ most → m ≡ n → k < n → k < length (drop at piece)
    → AllPass is_character (take n (take most (drop at piece))) → half ≡ [] → (t : Turn accepted (a ++ take at piece) half start)
    → Reads (a ++ take (at + (k + 1)) piece) ((t.commands ++ map Char (take k (take m (drop at piece)))) ++ Char (slice_index (drop at piece) k) ∷ []) []
turn_text_refused accepted a piece half at n most m k start few is within there printing none t =
    let rest = drop at piece in
    let same : take (k + 1) (take n (take most rest)) ≡ take (k + 1) rest = ap (take (k + 1)) (take-take n most rest few) ∙ take-take (k + 1) n rest (omega (arith, within)) in
    let read = text_read (a ++ take at piece) (take (k + 1) rest) t.commands (subst (AllPass is_character) same (All-take (λ x. IsTrue (is_character x)) (k + 1) (take n (take most rest)) printing))
    (subst (Reads (a ++ take at piece) t.commands) none t.read) in
    let front : take k (take m rest) ≡ take k rest = take-take k m rest (omega (arith, is, within)) in
    let commands : t.commands ++ map Char (take (k + 1) rest) ≡ (t.commands ++ map Char (take k (take m rest))) ++ Char (slice_index rest k) ∷ []
    = ap (λ bs. t.commands ++ map Char bs) (take_more rest k 0 there) ∙ ap (λ ds. t.commands ++ ds) (map-append Char (take k rest) (slice_index rest k ∷ []))
    ∙ sym (append_assoc t.commands (map Char (take k rest)) (Char (slice_index rest k) ∷ [])) ∙ ap (λ bs. (t.commands ++ map Char bs) ++ Char (slice_index rest k) ∷ []) (sym front) in
    subst (λ cs. Reads (a ++ take (at + (k + 1)) piece) cs []) commands (subst (λ bs. Reads bs (t.commands ++ map Char (take (k + 1) rest)) []) (text_after a piece at (k + 1)) read)
