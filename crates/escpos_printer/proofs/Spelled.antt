-- Whole commands that are fed to a printer with no half command, where nothing stands in their way.
use Rattle.std.proofs.Common.{◌≡◌, ◌⊎◌, ◌<◌, ◌+◌, inl, inr, ℕ, List, [], ◌∷◌, ◌++◌, true, false, length, take, drop, refl, sym, ◌∙◌, ap, subst, append_assoc, append-nil, length-append, take-append-drop, arith, IsTrue}
use Rattle.std.specs.Prelude.{slice_index}
use Rattle.std.specs.List.{AllByRecursion}
use Rattle.std.proofs.lemmas.List.{take_all, drop_more}
use Rattle.std.proofs.lemmas.Grind.{flat_map-append}
use Rattle.escpos_command.specs.declared.answer.Answer.{Answer}
use Rattle.escpos_command.specs.declared.command.Command.{Command}
use Rattle.escpos_command.specs.declared.fault.FaultReason.{FaultReason}
use Rattle.escpos_command.specs.CommandTable.{AreCommands, Spells, spell}
use Rattle.escpos_command.specs.Grammar.{FaultAt, Reads}
use Rattle.escpos_command.specs.Laws.{IsRead, IsRefused}
use Rattle.escpos_printer.specs.declared.printer.FeedStop.{FeedStop}
use Rattle.escpos_printer.specs.declared.printer.FeedStop.TheVariants as stop
use Rattle.escpos_printer.specs.Feeds.{Feeds, HasCause, IsAnswered, IsLeft, PassesOffline, PrinterView, Took, is_status}
use Rattle.escpos_printer.specs.Blocks.{most_waiting, others, with_one_block}
use Rattle.escpos_printer.proofs.OneBlock.{others-append, same_others}
use Rattle.escpos_printer.specs.ReadyFor.{IsReadyFor}
use Rattle.escpos_printer.specs.Replies.{is_offline, replies, reply}

-- What the grammar's laws say.
pub record Grammar : Type 0 where
  pub cut : (a b : List ℕ) (all some : List Command) (r : List ℕ) → Reads (a ++ b) all [] → Reads a some r
      → (others : List Command) × (all ≡ some ++ others) × Reads (r ++ b) others []
  pub one_reading : (bs : List ℕ) (cs ds : List Command) (x y : List ℕ) → Reads bs cs x → Reads bs ds y → (cs ≡ ds) × (x ≡ y)
  pub first_fault : (a more : List ℕ) (cs : List Command) (r : List ℕ) (k : ℕ) (why : FaultReason) → FaultAt a cs r k why → FaultAt (a ++ more) cs r k why
  pub not_both : (bs : List ℕ) → IsRead bs → IsRefused bs → ⊥

read_whole : (cs : List Command) → AreCommands cs → Reads (spell cs) cs []
read_whole cs h = record { commands = h; whole = sym (append-nil (spell cs)); rest_is = inl refl }

one_read : (bs : List ℕ) (c : Command) → Spells c bs → Reads bs (c ∷ []) []
one_read bs c s = record { commands = (s.in_range, tt); whole = s.in_table ∙ sym (append-nil (spell (c ∷ [])) ∙ append-nil _); rest_is = inl refl }

later_all : {X : Type 0} (P : X → Type 0) (some others : List X) → AllByRecursion P (some ++ others) → AllByRecursion P others
later_all P [] others h = h
later_all P (x ∷ some) others h = later_all P some others h.1

-- ## All of it

taken_is : (why : FeedStop) (taken q : PrinterView) → why ≡ stop.All → IsLeft why taken q → q ≡ taken
taken_is why taken q e left = let same : IsLeft stop.All taken q = subst (λ w. IsLeft w taken q) e left in same

all_taken : Grammar → (p q : PrinterView) (cs : List Command) (k : ℕ) (why : FeedStop) → IsReadyFor p cs → why ≡ stop.All → k ≡ length (spell cs) → Feeds p (spell cs) k why q
    → Took p (spell cs) cs q × (q.half ≡ [])
all_taken g p q cs k why ready all whole f =
    let bytes : take k (spell cs) ≡ spell cs = take_all k (spell cs) (omega (arith, whole)) in
    let took : Took p (spell cs) f.commands q = subst (λ v. Took p (spell cs) f.commands v) (sym (taken_is why f.taken q all f.leaves)) (subst (λ bs. Took p bs f.commands f.taken) bytes f.took) in
    let read : Reads (spell cs) f.commands q.half = subst (λ h. Reads (h ++ spell cs) f.commands q.half) ready.none took.ran.reads in
    let one = g.one_reading (spell cs) f.commands cs q.half [] read (read_whole cs ready.commands) in
    (subst (λ ds. Took p (spell cs) ds q) one.0 took, one.1)

-- ## No cause but memory

-- What is left to be read at a byte that isn't taken: the commands that were taken are the first ones, and the others begin with
-- the half command, this byte and those after it.
pub record Stuck (p : PrinterView) (cs : List Command) (half : List ℕ) (byte : ℕ) (some : List Command) : Type 0 where
  pub others : List Command
  pub more : List ℕ
  pub split : cs ≡ some ++ others
  pub reads : Reads ((half ++ byte ∷ []) ++ more) others []

stuck : Grammar → (p q : PrinterView) (cs : List Command) (k : ℕ) (why : FeedStop) → IsReadyFor p cs → k < length (spell cs) → (f : Feeds p (spell cs) k why q)
    → Stuck p cs f.taken.half (slice_index (spell cs) k) f.commands
stuck g p q cs k why ready within f =
    let bytes = spell cs in
    let read : Reads (take k bytes) f.commands f.taken.half = subst (λ h. Reads (h ++ take k bytes) f.commands f.taken.half) ready.none f.took.ran.reads in
    let whole : Reads (take k bytes ++ drop k bytes) cs [] = subst (λ bs. Reads bs cs []) (sym (take-append-drop k bytes)) (read_whole cs ready.commands) in
    let rest = g.cut (take k bytes) (drop k bytes) cs f.commands f.taken.half whole read in
    record {
      others = rest.0;
      more = drop (k + 1) bytes;
      split = rest.1;
      reads = subst (λ bs. Reads bs rest.0 []) (ap (λ v. f.taken.half ++ v) (drop_more bytes k 0 within) ∙ sym (append_assoc f.taken.half (slice_index bytes k ∷ []) (drop (k + 1) bytes))) rest.2;
    }

-- The command that a byte would complete is the first of the others.
first_other : Grammar → (p : PrinterView) (cs : List Command) (half : List ℕ) (byte : ℕ) (some : List Command) (c : Command) → (s : Stuck p cs half byte some)
    → Spells c (half ++ byte ∷ []) → (later : List Command) × (cs ≡ some ++ (c ∷ later))
first_other g p cs half byte some c s spelled =
    let rest = g.cut (half ++ byte ∷ []) s.more s.others (c ∷ []) [] s.reads (one_read (half ++ byte ∷ []) c spelled) in
    (rest.0, s.split ∙ ap (λ v. some ++ v) rest.1)

no_fault : Grammar → (p : PrinterView) (cs : List Command) (half : List ℕ) (byte : ℕ) (some : List Command) (why : FaultReason) → Stuck p cs half byte some
    → FaultAt (half ++ byte ∷ []) [] half (length half) why → ⊥
no_fault g p cs half byte some why s fault =
    g.not_both ((half ++ byte ∷ []) ++ s.more) (s.others, [], s.reads) ([], half, length half, why, g.first_fault (half ++ byte ∷ []) s.more [] half (length half) why fault)

not_offline : Grammar → (p : PrinterView) (cs : List Command) (half : List ℕ) (byte : ℕ) (some : List Command) (c : Command) → IsReadyFor p cs → Stuck p cs half byte some
    → Spells c (half ++ byte ∷ []) → IsTrue (is_offline p.condition) → is_status c ≡ false → ⊥
not_offline g p cs half byte some c ready s spelled offline other =
    let split = first_other g p cs half byte some c s spelled in
    let passes = later_all (PassesOffline p.condition) some (c ∷ split.0) (subst (AllByRecursion (PassesOffline p.condition)) split.1 ready.passes) in
    let bad : true ≡ false = sym (passes.0 offline) ∙ other in absurd cc

not_full : Grammar → (p : PrinterView) (cs : List Command) (half : List ℕ) (byte : ℕ) (some : List Command) (c : Command) (waiting : List Answer) → IsReadyFor p cs
    → Stuck p cs half byte some → waiting ≡ with_one_block (p.waiting ++ replies p.condition some) → Spells c (half ++ byte ∷ []) → IsAnswered p.condition c → length (others waiting) ≡ most_waiting → ⊥
not_full g p cs half byte some c waiting ready s waits spelled answered full =
    let split = first_other g p cs half byte some c s spelled in
    let d = p.condition in
    let all : others (replies d cs) ≡ others (replies d some) ++ others (replies d (c ∷ split.0)) =
    ap (λ v. others (replies d v)) split.1 ∙ ap others (flat_map-append (reply d) some (c ∷ split.0)) ∙ others-append (replies d some) (replies d (c ∷ split.0)) in
    let one : others (replies d (c ∷ split.0)) ≡ others (replies d (c ∷ [])) ++ others (replies d split.0) =
    ap others (flat_map-append (reply d) (c ∷ []) split.0) ∙ others-append (replies d (c ∷ [])) (replies d split.0) in
    let now : others waiting ≡ others p.waiting ++ others (replies d some) =
    ap others waits ∙ same_others (p.waiting ++ replies d some) ∙ others-append p.waiting (replies d some) in
    let wanted = others-append p.waiting (replies d cs) in
    absurd (omega (arith, ready.room, full, answered, ap length now, ap length wanted, ap length all, ap length one, length-append (others p.waiting) (others (replies d cs)), length-append (others p.waiting) (others (replies d some)), length-append (others (replies d some)) (others (replies d (c ∷ split.0))), length-append (others (replies d (c ∷ []))) (others (replies d split.0))))

no_cause : Grammar → (p q : PrinterView) (cs : List Command) (k : ℕ) (why given : FeedStop) → IsReadyFor p cs → k < length (spell cs) → (f : Feeds p (spell cs) k given q)
    → HasCause why f.taken (slice_index (spell cs) k) → why ≡ stop.Memory
no_cause g p q cs k stop.All given ready within f cause = absurd cause
no_cause g p q cs k stop.Memory given ready within f cause = refl
no_cause g p q cs k (stop.Fault at why) given ready within f cause =
    absurd (no_fault g p cs f.taken.half (slice_index (spell cs) k) f.commands why (stuck g p q cs k given ready within f) cause)
no_cause g p q cs k stop.Offline given ready within f (c, spelled, offline, other) =
    absurd (not_offline g p cs f.taken.half (slice_index (spell cs) k) f.commands c ready (stuck g p q cs k given ready within f) spelled
    (subst (λ d. IsTrue (is_offline d)) f.took.ran.condition offline) other)
no_cause g p q cs k stop.AnswersFull given ready within f (c, spelled, passes, answered, full) =
    absurd (not_full g p cs f.taken.half (slice_index (spell cs) k) f.commands c f.taken.waiting ready (stuck g p q cs k given ready within f) f.took.answers spelled
    (subst (λ d. IsAnswered d c) f.took.ran.condition answered) full)

pub spelled_stream : Grammar → (p q : PrinterView) (cs : List Command) (k : ℕ) (why : FeedStop) → IsReadyFor p cs → Feeds p (spell cs) k why q
    → (why ≡ stop.Memory) ⊎ ((why ≡ stop.All) × (k ≡ length (spell cs)) × Took p (spell cs) cs q × (q.half ≡ []))
spelled_stream g p q cs k why ready f = elim f.cause [
  | inl (all, whole) ↦ let taken = all_taken g p q cs k why ready all whole f in inr (all, whole, taken.0, taken.1)
  | inr (within, cause) ↦ inl (no_cause g p q cs k why why ready within f cause)
]
