-- The bytes of a stream as they come in pieces.
use Rattle.std.proofs.Common.{◌≡◌, ℕ, ◌+◌, ◌<◌, ◌≤◌, List, [], ◌∷◌, ◌++◌, length, take, drop, refl, sym, ◌∙◌, ap, subst, append_assoc, append-nil, arith, length-append, add-one, drop-cons, length-take, length-drop, ◌-◌}
use Rattle.std.specs.Prelude.{slice_index}
use Rattle.std.proofs.lemmas.List.{take-append-drop, take-take}
use Rattle.std.proofs.Math.Seq.{take-suc, take-add}
use Rattle.escpos_command.specs.declared.command.Command.{Command}
use Rattle.escpos_command.specs.declared.fault.FaultReason.{FaultReason}
use Rattle.escpos_command.specs.CommandTable.{spell}
use Rattle.escpos_command.specs.Grammar.{Reads, FaultAt}

-- ## The bytes of a piece that follows the bytes a

piece_more : (a piece : List ℕ) (at : ℕ) → at < length piece → (a ++ take at piece) ++ slice_index piece at ∷ [] ≡ a ++ take (at + 1) piece
piece_more a piece at h = append_assoc a (take at piece) (slice_index piece at ∷ []) ∙ ap (λ v. a ++ v) (sym (rw (add-one, take-suc piece at 0) refl))

piece_around : (a piece : List ℕ) (at : ℕ) → at < length piece → (a ++ take at piece) ++ slice_index piece at ∷ drop (at + 1) piece ≡ a ++ piece
piece_around a piece at h =
    append_assoc a (take at piece) (slice_index piece at ∷ drop (at + 1) piece)
    ∙ ap (λ v. a ++ v) (ap (λ v. take at piece ++ v) (sym (rw (add-one) (drop-cons piece at 0 h))) ∙ take-append-drop at piece)

front_and_run : (a piece : List ℕ) (at n most : ℕ) → at + n ≤ length piece → n ≤ most → (a ++ take at piece) ++ take n (take most (drop at piece)) ≡ a ++ take (at + n) piece
front_and_run a piece at n most h few =
    append_assoc a (take at piece) (take n (take most (drop at piece)))
    ∙ ap (λ v. a ++ (take at piece ++ v)) (take-take n most (drop at piece) few)
    ∙ ap (λ v. a ++ v) (sym (take-add at n piece))

length-before : (a piece : List ℕ) (at : ℕ) → at < length piece → length (a ++ take at piece) ≡ length a + at
length-before a piece at h = omega (arith, length-append a (take at piece), length-take at piece)

pub length-rest : (piece : List ℕ) (at n : ℕ) → at ≤ length piece → n ≤ length (take (length piece - at) (drop at piece)) → at + n ≤ length piece
length-rest piece at n inside h = let short = length-take (length piece - at) (drop at piece) in let rest = length-drop at piece in omega arith

-- ## The loop over a piece

-- The bytes so far are read, and their commands taken; the half command starts at this place.
pub record Turn (accepted : List Command → Type 0) (bytes half : List ℕ) (start : ℕ) : Type 0 where
  pub commands : List Command
  pub read : Reads bytes commands half
  pub all_accepted : accepted commands
  pub placed : start ≡ length (spell commands)

-- The byte continues a command.
pub turn_more : (accepted : List Command → Type 0) (a piece half after : List ℕ) (at start then_start : ℕ) → at < length piece
    → Turn accepted (a ++ take at piece) half start
    → ((b : List ℕ) (cs : List Command) → Reads b cs half → Reads (b ++ slice_index piece at ∷ []) cs after) → then_start ≡ start
    → Turn accepted (a ++ take (at + 1) piece) after then_start
turn_more accepted a piece half after at start then_start h t on e = record {
  commands = t.commands;
  read = subst (λ bs. Reads bs t.commands after) (piece_more a piece at h) (on (a ++ take at piece) t.commands t.read);
  all_accepted = t.all_accepted;
  placed = e ∙ t.placed;
}

-- More bytes of the piece continue it.
pub turn_run : (accepted : List Command → Type 0) (a piece half after : List ℕ) (at n most start : ℕ) → at + n ≤ length piece → n ≤ most
    → Turn accepted (a ++ take at piece) half start
    → ((b : List ℕ) (cs : List Command) → Reads b cs half → Reads (b ++ take n (take most (drop at piece))) cs after)
    → Turn accepted (a ++ take (at + n) piece) after start
turn_run accepted a piece half after at n most start h few t on =
    let run : (a ++ take at piece) ++ take n (take most (drop at piece)) ≡ a ++ take (at + n) piece = front_and_run a piece at n most h few in
    record {
      commands = t.commands;
      read = subst (λ bs. Reads bs t.commands after) run (on (a ++ take at piece) t.commands t.read);
      all_accepted = t.all_accepted;
      placed = t.placed;
    }

-- The byte ends a command.
pub turn_done : (accepted next : List Command → Type 0) (a piece half after : List ℕ) (at start then_start : ℕ) (c : Command) → at < length piece
    → Turn accepted (a ++ take at piece) half start → ((cs : List Command) → accepted cs → start ≡ length (spell cs) → next (cs ++ c ∷ []))
    → ((b : List ℕ) (cs : List Command) → Reads b cs half → Reads (b ++ slice_index piece at ∷ []) (cs ++ c ∷ []) after)
    → after ≡ [] → then_start ≡ length a + at + 1 → Turn next (a ++ take (at + 1) piece) after then_start
turn_done accepted next a piece half after at start then_start c h t take_it on none e =
    let read = subst (λ bs. Reads bs (t.commands ++ c ∷ []) after) (piece_more a piece at h) (on (a ++ take at piece) t.commands t.read) in
    let long = ap length read.whole ∙ ap (λ v. length (spell (t.commands ++ c ∷ []) ++ v)) none ∙ ap length (append-nil (spell (t.commands ++ c ∷ []))) in
    record {
      commands = t.commands ++ c ∷ [];
      read = read;
      all_accepted = take_it t.commands t.all_accepted t.placed;
      placed = omega (arith, e, long, length-append a (take (at + 1) piece), length-take (at + 1) piece);
    }

-- The byte is refused.
pub turn_fault : (accepted : List Command → Type 0) (a piece half after : List ℕ) (at start : ℕ) (why : FaultReason) → at < length piece
    → Turn accepted (a ++ take at piece) half start
    → ((b more : List ℕ) (cs : List Command) → Reads b cs half → FaultAt (b ++ slice_index piece at ∷ more) cs half (length b) why)
    → after ≡ [] → (cs : List Command) × (rest : List ℕ) × FaultAt (a ++ piece) cs rest (length a + at) why × accepted cs × (after ≡ [])
turn_fault accepted a piece half after at start why h t refused none =
    let found = refused (a ++ take at piece) (drop (at + 1) piece) t.commands t.read in (
      t.commands,
      half,
      subst (λ n. FaultAt (a ++ piece) t.commands half n why) (length-before a piece at h)
          (subst (λ xs. FaultAt xs t.commands half (length (a ++ take at piece)) why) (piece_around a piece at h) found),
      t.all_accepted,
      none,
    )

-- The byte ends a command, which isn't taken.
pub turn_refused : (accepted : List Command → Type 0) (a piece half after : List ℕ) (at start : ℕ) (c : Command) → at < length piece
    → Turn accepted (a ++ take at piece) half start
    → ((b : List ℕ) (cs : List Command) → Reads b cs half → Reads (b ++ slice_index piece at ∷ []) (cs ++ c ∷ []) after)
    → after ≡ [] → (cs : List Command) × Reads (a ++ take (at + 1) piece) (cs ++ c ∷ []) [] × accepted cs
turn_refused accepted a piece half after at start c h t on none = (
  t.commands,
  subst (λ v. Reads (a ++ take (at + 1) piece) (t.commands ++ c ∷ []) v) none
      (subst (λ bs. Reads bs (t.commands ++ c ∷ []) after) (piece_more a piece at h) (on (a ++ take at piece) t.commands t.read)),
  t.all_accepted,
)
