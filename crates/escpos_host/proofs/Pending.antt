-- What is left of parts: as the bytes of the first of them and those of the others, after bytes are copied out, and with
-- more receipts.
use Rattle.std.proofs.Common.{◌≡◌, ◌≢◌, ◌<◌, ◌≤◌, ◌+◌, ◌-◌, ℕ, List, [], ◌∷◌, ◌++◌, length, take, drop, get_or, refl, sym, ◌∙◌, ap, subst, arith, add-one, append-nil, append_assoc, length-append, length-take, length-drop, drop-cons}
use Rattle.std.specs.List.{flat_map, AllByRecursion}
use Rattle.std.proofs.lemmas.Grind.{flat_map-append, common_steps}
use Rattle.std.proofs.lemmas.List.{drop-append-le, drop-drop, get_or_append_left, take_all, drop_all, take-append-le}
use Rattle.std.proofs.Math.Seq.{take-add, take-append_seam, drop-append_seam}
use Rattle.escpos_command.specs.declared.command.Command.{Command}
use Rattle.escpos_command.specs.declared.command.Command.TheVariants as kind
use Rattle.escpos_command.specs.CommandTable.{row, spell}
use Rattle.escpos_command.specs.Copied.{Copied}
use Rattle.escpos_host.specs.declared.outbox.OutPart.{OutPart}
use Rattle.escpos_host.specs.declared.outbox.OutPart.TheVariants as part
use Rattle.escpos_host.specs.Machine.{ask_reports}
use Rattle.escpos_host.specs.Out.{Pending, part_commands, unsent, IsPlaced, IsInFirst, Within, CopiedOut}

-- ## The first part and the others

-- The commands that follow the one at this place of the first part.
abbrev pub after : List (List Command) → OutPart → List OutPart → ℕ → List Command
after receipts p ps item = drop (item + 1) (part_commands receipts p) ++ flat_map (part_commands receipts) ps

pub first_split : (receipts : List (List Command)) (p : OutPart) (ps : List OutPart) (item : ℕ) → item < length (part_commands receipts p)
    → drop item (flat_map (part_commands receipts) (p ∷ ps)) ≡ get_or (part_commands receipts p) item kind.Init ∷ after receipts p ps item
first_split receipts p ps item h =
    let cs = part_commands receipts p in
    let others = flat_map (part_commands receipts) ps in
    let few : item ≤ length cs = omega arith in
    drop-append-le item cs others few ∙ ap (λ v. v ++ others) (drop-cons cs item kind.Init h ∙ ap (λ n. get_or cs item kind.Init ∷ drop n cs) (sym (add-one item)))

-- What is left, where the next byte is one of the first part's.
pub left_split : (receipts : List (List Command)) (p : OutPart) (ps : List OutPart) (item from : ℕ) → IsInFirst receipts (p ∷ ps) item from
    → drop from (spell (drop item (flat_map (part_commands receipts) (p ∷ ps))))
    ≡ drop from (row (get_or (part_commands receipts p) item kind.Init)) ++ spell (after receipts p ps item)
left_split receipts p ps item from h =
    let c = get_or (part_commands receipts p) item kind.Init in
    let few : from ≤ length (row c) = omega arith in
    ap (λ cs. drop from (spell cs)) (first_split receipts p ps item h.0) ∙ drop-append-le from (row c) (spell (after receipts p ps item)) few

-- No more is out than there was: commands of the parts, and bytes of the commands that are left.
pub item_few : (receipts : List (List Command)) (ps : List OutPart) (item from : ℕ) → IsInFirst receipts ps item from
    → item ≤ length (flat_map (part_commands receipts) ps)
item_few receipts [] item from h = omega arith
item_few receipts (p ∷ ps) item from h = omega (arith, length-append (part_commands receipts p) (flat_map (part_commands receipts) ps))

pub from_few : (receipts : List (List Command)) (ps : List OutPart) (item from : ℕ) → IsInFirst receipts ps item from
    → from ≤ length (spell (drop item (flat_map (part_commands receipts) ps)))
from_few receipts [] item from h = omega arith
from_few receipts (p ∷ ps) item from h =
    let c = get_or (part_commands receipts p) item kind.Init in
    omega (arith, h.1, ap (λ cs. length (spell cs)) (first_split receipts p ps item h.0), length-append (row c) (spell (after receipts p ps item)))

-- A part is added.
pub appended : (receipts : List (List Command)) (ps : List OutPart) (item from : ℕ) (p : OutPart) → IsInFirst receipts ps item from
    → drop from (spell (drop item (flat_map (part_commands receipts) (ps ++ p ∷ []))))
    ≡ drop from (spell (drop item (flat_map (part_commands receipts) ps))) ++ spell (part_commands receipts p)
appended receipts ps item from p h =
    let f = part_commands receipts in
    let whole : flat_map f (ps ++ p ∷ []) ≡ flat_map f ps ++ f p = flat_map-append f ps (p ∷ []) ∙ ap (λ v. flat_map f ps ++ v) (append-nil (f p)) in
    ap (λ cs. drop from (spell (drop item cs))) whole
    ∙ ap (λ cs. drop from (spell cs)) (drop-append-le item (flat_map f ps) (f p) (item_few receipts ps item from h))
    ∙ ap (drop from) (flat_map-append row (drop item (flat_map f ps)) (f p))
    ∙ drop-append-le from (spell (drop item (flat_map f ps))) (spell (f p)) (from_few receipts ps item from h)

-- Where there is no part, nothing is left.
pub nothing_left : (receipts : List (List Command)) (ps : List OutPart) (item from : ℕ) → IsInFirst receipts ps item from → length ps ≡ 0
    → drop from (spell (drop item (flat_map (part_commands receipts) ps))) ≡ []
nothing_left receipts [] item from h e = grind (arith, common_steps)
nothing_left receipts (p ∷ ps) item from h e = absurd (omega arith)

-- Where nothing is left, there is no part.
pub no_part : (receipts : List (List Command)) (ps : List OutPart) (item from : ℕ) → IsInFirst receipts ps item from
    → drop from (spell (drop item (flat_map (part_commands receipts) ps))) ≡ [] → length ps ≡ 0
no_part receipts [] item from h e = refl
no_part receipts (p ∷ ps) item from h e =
    let c = get_or (part_commands receipts p) item kind.Init in
    absurd (omega (arith, h.1, ap length (sym (left_split receipts p ps item from h) ∙ e), length-append (drop from (row c)) (spell (after receipts p ps item)), length-drop from (row c)))

-- ## Bytes that are taken out

-- What was copied from the first command is a prefix of all that was left.
copied_front : (old new bytes rest : List ℕ) (from count : ℕ) → from ≤ length bytes → Copied old new bytes from count
    → (count ≤ length old) × (count ≤ length (drop from bytes ++ rest)) × (new ≡ take count (drop from bytes ++ rest) ++ drop count old)
copied_front old new bytes rest from count h copied =
    let few : count ≤ length (drop from bytes) = omega (arith, copied.counted, length-drop from bytes) in (
      omega (arith, copied.counted),
      omega (arith, few, length-append (drop from bytes) rest),
      copied.copied ∙ ap (λ v. v ++ drop count old) (sym (take-append-le count (drop from bytes) rest few)),
    )

-- The first part.
first_of : (ps : List OutPart) (p : OutPart) → ps ≢ [] → p ≡ get_or ps 0 p → ps ≡ p ∷ drop 1 ps
first_of [] p some e = absurd (some refl)
first_of (q ∷ ps) p some e = ap (λ x. x ∷ ps) (sym e)

-- No spelling is empty.
row_nonempty : (c : Command) → 0 < length (row c)
row_nonempty c = grind (arith, common_steps)

-- Of each part there is a first byte.
starts : (receipts : List (List Command)) (ps : List OutPart) → IsInFirst receipts ps 0 0
starts receipts [] = (refl, refl)
starts receipts (part.Mark id ∷ ps) = (omega arith, row_nonempty (kind.Mark id))
starts receipts (part.Opening id ∷ ps) = (omega arith, row_nonempty ask_reports)
starts receipts (part.Ask n ∷ ps) = (omega arith, row_nonempty (kind.Status n))
starts receipts (part.AskReports ∷ ps) = (omega arith, row_nonempty ask_reports)
starts receipts (part.Receipt place closing ∷ ps) = (omega arith, row_nonempty kind.Init)

-- This many bytes of the next command, which is one of part `p`, are copied.
pub record Copying (receipts : List (List Command)) (o : Pending) (p : OutPart) (old new : List ℕ) (count : ℕ) : Type 0 where
  pub within : Within receipts o
  pub some : o.parts ≢ []
  pub first : p ≡ get_or o.parts 0 p
  pub copied : Copied old new (row (get_or (part_commands receipts p) o.item kind.Init)) o.from count

-- The same, where what is pending is known by an equal record.
pub copying : (receipts : List (List Command)) (o before : Pending) (p : OutPart) (old new : List ℕ) (count : ℕ) → o ≡ before → Within receipts before → before.parts ≢ []
    → p ≡ get_or o.parts 0 p → Copied old new (row (get_or (part_commands receipts p) o.item kind.Init)) o.from count → Copying receipts o p old new count
copying receipts o before p old new count same within some first copied = record {
  within = subst (λ q. Within receipts q) (sym same) within;
  some = λ none. some (ap (λ q. q.parts) (sym same) ∙ none);
  first = first;
  copied = copied;
}

parts_split : (receipts : List (List Command)) (o : Pending) (p : OutPart) (old new : List ℕ) (count : ℕ) → Copying receipts o p old new count → o.parts ≡ p ∷ drop 1 o.parts
parts_split receipts o p old new count h = first_of o.parts p h.some h.first

in_split : (receipts : List (List Command)) (o : Pending) (p : OutPart) (old new : List ℕ) (count : ℕ) → Copying receipts o p old new count
    → IsInFirst receipts (p ∷ drop 1 o.parts) o.item o.from
in_split receipts o p old new count h = subst (λ ps. IsInFirst receipts ps o.item o.from) (parts_split receipts o p old new count h) h.within.in_first

bytes_split : (receipts : List (List Command)) (o : Pending) (p : OutPart) (old new : List ℕ) (count : ℕ) → Copying receipts o p old new count
    → unsent receipts o ≡ drop o.from (row (get_or (part_commands receipts p) o.item kind.Init)) ++ spell (after receipts p (drop 1 o.parts) o.item)
bytes_split receipts o p old new count h =
    ap (λ ps. drop o.from (spell (drop o.item (flat_map (part_commands receipts) ps)))) (parts_split receipts o p old new count h)
    ∙ left_split receipts p (drop 1 o.parts) o.item o.from (in_split receipts o p old new count h)

-- The bytes are taken where the rest of that command and what follows it are what is left next.
copied_out : (receipts : List (List Command)) (o : Pending) (p : OutPart) (old new : List ℕ) (count : ℕ) (next : Pending) → Copying receipts o p old new count
    → unsent receipts next ≡ drop count (drop o.from (row (get_or (part_commands receipts p) o.item kind.Init)) ++ spell (after receipts p (drop 1 o.parts) o.item))
    → Within receipts next → CopiedOut receipts o next old new count
copied_out receipts o p old new count next h others within =
    let bytes = row (get_or (part_commands receipts p) o.item kind.Init) in
    let inside = in_split receipts o p old new count h in
    let few : o.from ≤ length bytes = omega (arith, inside.1) in
    let split = bytes_split receipts o p old new count h in
    let front = copied_front old new bytes (spell (after receipts p (drop 1 o.parts) o.item)) o.from count few h.copied in
    record {
      fits = front.0;
      enough = omega (arith, front.1, ap length split);
      copied = front.2 ∙ ap (λ v. take count v ++ drop count old) (sym split);
      others = others ∙ ap (drop count) (sym split);
      within = within;
    }

-- All of the first bytes are taken out.
all_dropped : (bytes rest : List ℕ) (from count : ℕ) → from + count ≡ length bytes → drop count (drop from bytes ++ rest) ≡ rest
all_dropped bytes rest from count h =
    let long : count ≡ length (drop from bytes) = omega (arith, length-drop from bytes) in
    ap (λ n. drop n (drop from bytes ++ rest)) long ∙ drop-append_seam (drop from bytes) rest

-- Bytes of the command are left.
pub in_command : (receipts : List (List Command)) (o : Pending) (p : OutPart) (old new : List ℕ) (count : ℕ) → Copying receipts o p old new count
    → o.from + count ≢ length (row (get_or (part_commands receipts p) o.item kind.Init))
    → CopiedOut receipts o (record { parts = o.parts; item = o.item; from = o.from + count }) old new count
in_command receipts o p old new count h more =
    let bytes = row (get_or (part_commands receipts p) o.item kind.Init) in
    let rest = spell (after receipts p (drop 1 o.parts) o.item) in
    let split = parts_split receipts o p old new count h in
    let before = in_split receipts o p old new count h in
    let few : count ≤ length (drop o.from bytes) = omega (arith, h.copied.counted, length-drop o.from bytes) in
    let inside : IsInFirst receipts (p ∷ drop 1 o.parts) o.item (o.from + count) = (before.0, omega (arith, before.1, few, length-drop o.from bytes)) in
    copied_out receipts o p old new count (record { parts = o.parts; item = o.item; from = o.from + count }) h
    (ap (λ ps. drop (o.from + count) (spell (drop o.item (flat_map (part_commands receipts) ps)))) split
    ∙ left_split receipts p (drop 1 o.parts) o.item (o.from + count) inside ∙ sym (drop-append-le count (drop o.from bytes) rest few ∙ ap (λ v. v ++ rest) (drop-drop count o.from bytes)))
    (record { placed = h.within.placed; in_first = subst (λ ps. IsInFirst receipts ps o.item (o.from + count)) (sym split) inside })

-- The command is out, and others of the part are left.
pub to_next_command : (receipts : List (List Command)) (o : Pending) (p : OutPart) (old new : List ℕ) (count : ℕ) → Copying receipts o p old new count
    → o.from + count ≡ length (row (get_or (part_commands receipts p) o.item kind.Init)) → o.item + 1 ≢ length (part_commands receipts p)
    → CopiedOut receipts o (record { parts = o.parts; item = o.item + 1; from = 0 }) old new count
to_next_command receipts o p old new count h end more =
    let cs = part_commands receipts p in
    let split = parts_split receipts o p old new count h in
    let before = in_split receipts o p old new count h in
    let few : o.item + 1 ≤ length cs = omega (arith, before.0) in
    let inside : IsInFirst receipts (p ∷ drop 1 o.parts) (o.item + 1) 0 = (omega (arith, few), row_nonempty (get_or cs (o.item + 1) kind.Init)) in
    copied_out receipts o p old new count (record { parts = o.parts; item = o.item + 1; from = 0 }) h
    (ap (λ ps. spell (drop (o.item + 1) (flat_map (part_commands receipts) ps))) split
    ∙ ap spell (drop-append-le (o.item + 1) cs (flat_map (part_commands receipts) (drop 1 o.parts)) few)
    ∙ sym (all_dropped (row (get_or cs o.item kind.Init)) (spell (after receipts p (drop 1 o.parts) o.item)) o.from count end))
    (record { placed = h.within.placed; in_first = subst (λ ps. IsInFirst receipts ps (o.item + 1) 0) (sym split) inside })

-- The part is out.
pub to_next_part : (receipts : List (List Command)) (o : Pending) (p : OutPart) (old new : List ℕ) (count : ℕ) → Copying receipts o p old new count
    → o.from + count ≡ length (row (get_or (part_commands receipts p) o.item kind.Init)) → o.item + 1 ≡ length (part_commands receipts p)
    → CopiedOut receipts o (record { parts = drop 1 o.parts; item = 0; from = 0 }) old new count
to_next_part receipts o p old new count h end last =
    let cs = part_commands receipts p in
    let others = flat_map (part_commands receipts) (drop 1 o.parts) in
    let placed : AllByRecursion (IsPlaced receipts) (p ∷ drop 1 o.parts) =
    subst (AllByRecursion (IsPlaced receipts)) (parts_split receipts o p old new count h) h.within.placed in
    copied_out receipts o p old new count (record { parts = drop 1 o.parts; item = 0; from = 0 }) h
    (ap (λ v. spell (v ++ others)) (sym (drop_all (o.item + 1) cs (omega (arith, last))))
    ∙ sym (all_dropped (row (get_or cs o.item kind.Init)) (spell (after receipts p (drop 1 o.parts) o.item)) o.from count end))
    (record { placed = placed.1; in_first = starts receipts (drop 1 o.parts) })

-- Bytes are taken out after others, into the rest of the buffer.
pub more_taken : (receipts : List (List Command)) (o m n : Pending) (old mid fresh : List ℕ) (filled count : ℕ) → CopiedOut receipts o m old mid filled
    → CopiedOut receipts m n (take (length mid - filled) (drop filled mid)) fresh count
    → CopiedOut receipts o n old (take filled mid ++ (fresh ++ drop (length mid - filled) (drop filled mid))) (filled + count)
more_taken receipts o m n old mid fresh filled count h more =
    let bytes = unsent receipts o in
    let front = take filled bytes in
    let others = drop filled bytes in
    let long : length front ≡ filled = omega (arith, h.enough, length-take filled bytes) in
    let same : length mid ≡ length old = omega (arith, h.fits, ap length h.copied, length-append front (drop filled old), long, length-drop filled old) in
    let kept : take filled mid ≡ front = ap (take filled) h.copied ∙ ap (λ n. take n (front ++ drop filled old)) (sym long) ∙ take-append_seam front (drop filled old) in
    let free : drop filled mid ≡ drop filled old =
    ap (drop filled) h.copied ∙ ap (λ n. drop n (front ++ drop filled old)) (sym long) ∙ drop-append_seam front (drop filled old) in
    let room = length mid - filled in
    let all : take room (drop filled mid) ≡ drop filled old = take_all room (drop filled mid) (omega (arith, length-drop filled mid)) ∙ free in
    let none : drop room (drop filled mid) ≡ [] = drop_all room (drop filled mid) (omega (arith, length-drop filled mid)) in
    let few : length (take room (drop filled mid)) ≡ length old - filled = ap length all ∙ length-drop filled old in
    let copied : fresh ≡ take count others ++ drop (filled + count) old =
    more.copied ∙ ap (λ v. take count v ++ drop count (take room (drop filled mid))) h.others ∙ ap (λ v. take count others ++ v) (ap (drop count) all ∙ drop-drop count filled old) in
    record {
      fits = omega (arith, h.fits, more.fits, few);
      enough = omega (arith, h.enough, more.enough, ap length h.others, length-drop filled bytes);
      copied =
          ap (λ v. take filled mid ++ (fresh ++ v)) none ∙ ap (λ v. take filled mid ++ v) (append-nil fresh ∙ copied)
          ∙ ap (λ v. v ++ (take count others ++ drop (filled + count) old)) kept ∙ sym (append_assoc front (take count others) (drop (filled + count) old))
          ∙ ap (λ v. v ++ drop (filled + count) old) (sym (take-add filled count bytes));
      others = more.others ∙ ap (drop count) h.others ∙ drop-drop count filled bytes;
      within = more.within;
    }

-- ## More receipts

-- More receipts after these change no part of these.
same_part : (receipts more : List (List Command)) (p : OutPart) → IsPlaced receipts p → part_commands (receipts ++ more) p ≡ part_commands receipts p
same_part receipts more (part.Mark id) h = refl
same_part receipts more (part.Opening id) h = refl
same_part receipts more (part.Ask n) h = refl
same_part receipts more part.AskReports h = refl
same_part receipts more (part.Receipt place closing) h =
    ap (λ cs. kind.Init ∷ (cs ++ kind.Mark closing ∷ [])) (get_or_append_left receipts more [] place h)

same_parts : (receipts more : List (List Command)) (ps : List OutPart) → AllByRecursion (IsPlaced receipts) ps
    → flat_map (part_commands (receipts ++ more)) ps ≡ flat_map (part_commands receipts) ps
same_parts receipts more [] h = refl
same_parts receipts more (p ∷ ps) h = ap (λ cs. cs ++ flat_map (part_commands (receipts ++ more)) ps) (same_part receipts more p h.0) ∙ ap (λ cs. part_commands receipts p ++ cs) (same_parts receipts more ps h.1)

still_placed : (receipts more : List (List Command)) (p : OutPart) → IsPlaced receipts p → IsPlaced (receipts ++ more) p
still_placed receipts more (part.Mark id) h = tt
still_placed receipts more (part.Opening id) h = tt
still_placed receipts more (part.Ask n) h = tt
still_placed receipts more part.AskReports h = tt
still_placed receipts more (part.Receipt place closing) h = omega (arith, length-append receipts more)

all_placed : (receipts more : List (List Command)) (ps : List OutPart) → AllByRecursion (IsPlaced receipts) ps → AllByRecursion (IsPlaced (receipts ++ more)) ps
all_placed receipts more [] h = h
all_placed receipts more (p ∷ ps) h = (still_placed receipts more p h.0, all_placed receipts more ps h.1)

still_in_first : (receipts more : List (List Command)) (ps : List OutPart) (item from : ℕ) → AllByRecursion (IsPlaced receipts) ps
    → IsInFirst receipts ps item from → IsInFirst (receipts ++ more) ps item from
still_in_first receipts more [] item from placed h = h
still_in_first receipts more (p ∷ ps) item from placed h =
    subst (λ cs. (item < length cs) × (from < length (row (get_or cs item kind.Init)))) (sym (same_part receipts more p placed.0)) h

-- Receipts that come after those of the parts change nothing of what is left.
pub more_receipts : (receipts more : List (List Command)) (o : Pending) → Within receipts o → (unsent (receipts ++ more) o ≡ unsent receipts o) × Within (receipts ++ more) o
more_receipts receipts more o h = (
  ap (λ cs. drop o.from (spell (drop o.item cs))) (same_parts receipts more o.parts h.placed),
  record { placed = all_placed receipts more o.parts h.placed; in_first = still_in_first receipts more o.parts o.item o.from h.placed h.in_first },
)
