-- A link, piece by piece: what ran, and which answers went out.
use Rattle.std.proofs.Common.{◌≡◌, ◌≢◌, ◌<◌, ◌≤◌, ◌+◌, ◌-◌, ◌⊎◌, inl, inr, ℕ, List, [], ◌∷◌, ◌++◌, length, take, drop, refl, sym, ◌∙◌, ap, subst, append_assoc, append-nil, length-append, length-take, length-drop, arith, Option, Some, None, zero, suc}
use Rattle.std.specs.Prelude.{slice_index}
use Rattle.std.proofs.Math.Seq.{take-add, take-length, take-append-add, get_or-append_seam}
use Rattle.std.proofs.lemmas.List.{take-take, get_or-drop, get_or-take, get_or-append-add, take-append-le}
use Rattle.std.proofs.lemmas.Grind.{flat_map-append}
use Rattle.std.specs.Io.KnownBytes.{Consumes}
use Rattle.std.proofs.KnownBytes.{Appends-nil, Consumes-nil, Consumes-trans}
use Rattle.escpos_command.specs.declared.answer.Answer.{Answer}
use Rattle.escpos_command.specs.declared.command.Command.{Command}
use Rattle.escpos_command.specs.declared.fault.FaultReason.{FaultReason}
use Rattle.escpos_paper.specs.Page.{Sheet}
use Rattle.escpos_printer.specs.declared.condition.Condition.{Condition}
use Rattle.escpos_command.specs.Grammar.{Viable, Half, Reads, FaultAt}
use Rattle.escpos_printer.specs.declared.printer.FeedStop.{FeedStop}
use Rattle.escpos_printer.specs.declared.printer.FeedStop.TheVariants as stop
use Rattle.escpos_printer.specs.declared.serve.LinkEnd.{LinkEnd}
use Rattle.escpos_printer.specs.declared.serve.LinkEnd.TheVariants.{Ended, TooLong, Fault, Offline, ReadFault, WriteFault, Memory}
use Rattle.escpos_printer.specs.declared.serve.Carried.{Carried}
use Rattle.escpos_printer.specs.Blocks.{MayWait, PutInParts, others, with_one_block}
use Rattle.escpos_printer.specs.Replies.{reply, replies}
use Rattle.escpos_printer.proofs.OneBlock.{none_more, one_part, parts_on}
use Rattle.escpos_printer.specs.Feeds.{PrinterView, Ran, Took, Feeds, HasCause, IsLeft, left_half}
use Rattle.escpos_printer.specs.Serves.{Sent, sent, AllOut, CutOff, AnswersGo, EndsBy, IsLeftBy, IsCarried, Serves, link}
use Rattle.escpos_printer.specs.ServeSteps.{IsWithinPiece, end_of}
use Rattle.escpos_printer.proofs.Taking.{JoinLaw, ran_on, ran_none}
use Rattle.escpos_printer.proofs.AnswerBytes.{all_on, cut_on}

-- The same printer with these answers waiting.
abbrev pub waits : PrinterView → List Answer → PrinterView
waits p answers = record { sheet = p.sheet; half = p.half; waiting = answers; condition = p.condition; automatic = p.automatic }

-- These bytes ran, and all answers to them and before them went out.
pub record Passed (p : PrinterView) (bytes : List ℕ) (a b : Option (List ℕ)) (written : ℕ) (q : PrinterView) : Type 0 where
  pub commands : List Command
  pub ran : Ran p bytes commands q
  pub answers : List Answer
  pub parts : PutInParts (p.waiting ++ replies p.condition commands) answers
  pub out : AllOut (sent a b) answers written q.waiting

pub passed_none : (p : PrinterView) (a : Option (List ℕ)) → (p.half ≡ []) ⊎ Half p.half → p.waiting ≡ [] → Passed p [] a a 0 p
passed_none p a left none =
    record {
      commands = [];
      ran = ran_none p left;
      answers = [];
      parts = record { parts = []; whole = append-nil p.waiting ∙ none; put = refl };
      out = record { out = Appends-nil a; count = refl; none = none };
    }

ran_waits : (p q : PrinterView) (bytes : List ℕ) (cs : List Command) (answers : List Answer) → Ran p bytes cs q → Ran p bytes cs (waits q answers)
ran_waits p q bytes cs answers r = record { reads = r.reads; page = r.page; condition = r.condition; automatic = r.automatic; passes = r.passes }

-- More bytes were taken, from a printer in which no answer waited: the answers to them.
new_answers : (p m t : PrinterView) (x y : List ℕ) (cs ds : List Command) → Ran p x cs m → m.waiting ≡ [] → Took m y ds t → t.waiting ≡ with_one_block (replies p.condition ds)
new_answers p m t x y cs ds r none k =
    k.answers ∙ ap (λ v. with_one_block (v ++ replies m.condition ds)) none ∙ ap (λ v. with_one_block (replies v ds)) r.condition

joined_answers : (p : PrinterView) (cs ds : List Command) → (p.waiting ++ replies p.condition cs) ++ replies p.condition ds ≡ p.waiting ++ replies p.condition (cs ++ ds)
joined_answers p cs ds =
    append_assoc p.waiting (replies p.condition cs) (replies p.condition ds) ∙ ap (λ v. p.waiting ++ v) (sym (flat_map-append (reply p.condition) cs ds))

-- The answers to more commands, in further parts.
joined_parts : (p : PrinterView) (cs ds : List Command) (some more : List Answer) → PutInParts (p.waiting ++ replies p.condition cs) some → PutInParts (replies p.condition ds) more
    → PutInParts (p.waiting ++ replies p.condition (cs ++ ds)) (some ++ more)
joined_parts p cs ds some more h k =
    subst (λ v. PutInParts v (some ++ more)) (joined_answers p cs ds) (parts_on (p.waiting ++ replies p.condition cs) (replies p.condition ds) some more h k)

pub passed_on : JoinLaw → (p m t : PrinterView) (x y : List ℕ) (a b c : Option (List ℕ)) (n k : ℕ) (w : List Answer) (ds : List Command) → Passed p x a b n m → Took m y ds t
    → AllOut (sent b c) t.waiting k w → Passed p (x ++ y) a c (n + k) (waits t w)
passed_on join p m t x y a b c n k w ds o took out = record {
  commands = o.commands ++ ds;
  ran = ran_waits p t (x ++ y) (o.commands ++ ds) w (ran_on join p m t x y o.commands ds o.ran took.ran);
  answers = o.answers ++ with_one_block (replies p.condition ds);
  parts = joined_parts p o.commands ds o.answers (with_one_block (replies p.condition ds)) o.parts (one_part (replies p.condition ds));
  out = all_on a b c o.answers (with_one_block (replies p.condition ds)) m.waiting w n k o.out
      (subst (λ v. AllOut (sent b c) v k w) (new_answers p m t x y o.commands ds o.ran o.out.none took) out);
}

-- The same where the sink failed.
pub record Broke (p : PrinterView) (bytes : List ℕ) (a b : Option (List ℕ)) (written : ℕ) (q : PrinterView) : Type 0 where
  pub commands : List Command
  pub ran : Ran p bytes commands q
  pub answers : List Answer
  pub parts : PutInParts (p.waiting ++ replies p.condition commands) answers
  pub out : CutOff (sent a b) answers written q.waiting

pub broke_on : JoinLaw → (p m t : PrinterView) (x y : List ℕ) (a b c : Option (List ℕ)) (n k : ℕ) (w : List Answer) (ds : List Command) → Passed p x a b n m → Took m y ds t
    → CutOff (sent b c) t.waiting k w → Broke p (x ++ y) a c (n + k) (waits t w)
broke_on join p m t x y a b c n k w ds o took out = record {
  commands = o.commands ++ ds;
  ran = ran_waits p t (x ++ y) (o.commands ++ ds) w (ran_on join p m t x y o.commands ds o.ran took.ran);
  answers = o.answers ++ with_one_block (replies p.condition ds);
  parts = joined_parts p o.commands ds o.answers (with_one_block (replies p.condition ds)) o.parts (one_part (replies p.condition ds));
  out = cut_on a b c o.answers (with_one_block (replies p.condition ds)) m.waiting w n k o.out
      (subst (λ v. CutOff (sent b c) v k w) (new_answers p m t x y o.commands ds o.ran o.out.none took) out);
}

-- ## A piece of a piece

-- Feeding what is left of a piece after its first c bytes, by places of the whole piece.
pub record FedAt (m : PrinterView) (piece : List ℕ) (c k : ℕ) (why : FeedStop) (q : PrinterView) : Type 0 where
  pub commands : List Command
  pub taken : PrinterView
  pub within : c + k ≤ length piece
  pub took : Took m (take k (drop c piece)) commands taken
  pub cause : ((why ≡ stop.All) × (c + k ≡ length piece)) ⊎ ((c + k < length piece) × HasCause why taken (slice_index piece (c + k)))
  pub leaves : IsLeft why taken q

pub fed_at : (m q : PrinterView) (piece : List ℕ) (c k : ℕ) (why : FeedStop) → c ≤ length piece → Feeds m (take (length piece - c) (drop c piece)) k why q → FedAt m piece c k why q
fed_at m q piece c k why h f =
    let rest = take (length piece - c) (drop c piece) in
    let count : length rest ≡ length piece - c = let p = length-take (length piece - c) (drop c piece) in let r = length-drop c piece in omega arith in
    let short = f.within in
    let few : k ≤ length piece - c = omega (arith, short, count) in
    record {
      commands = f.commands;
      taken = f.taken;
      within = omega (arith, few, h);
      took = subst (λ v. Took m v f.commands f.taken) (take-take k (length piece - c) (drop c piece) few) f.took;
      cause = elim f.cause [
        | inl all ↦ inl (all.0, let e = all.1 in omega (arith, e, count, h))
        | inr byte ↦
            let inside : k < length piece - c = let b = byte.0 in omega (arith, b, count) in
            inr (
              omega (arith, inside, h),
              subst (λ v. HasCause why f.taken v) (get_or-take (length piece - c) (drop c piece) k 0 inside ∙ get_or-drop c piece k 0) byte.1,
            )
      ];
      leaves = f.leaves;
    }

-- Where no answer waited, answers that are too many come only after some bytes.
pub some_taken : (m q : PrinterView) (piece : List ℕ) (c k : ℕ)
    → ((bs : List ℕ) (cs ds : List Command) (x y : List ℕ) → Reads bs cs x → Reads bs ds y → (cs ≡ ds) × (x ≡ y))
    → (m.half ≡ []) ⊎ Half m.half → m.waiting ≡ [] → FedAt m piece c k stop.AnswersFull q → 0 < k
some_taken m q piece c zero one left none f =
    let same = (one (m.half ++ []) f.commands [] f.taken.half m.half f.took.ran.reads (record { commands = tt; whole = append-nil m.half; rest_is = left })).0 in
    let nothing : f.taken.waiting ≡ [] =
    f.took.answers ∙ ap (λ v. with_one_block (m.waiting ++ replies m.condition v)) same ∙ ap with_one_block (append-nil m.waiting ∙ none) in
    elim f.cause [
      | inl all ↦ let e = all.0 in absurd cc
      | inr byte ↦ let full = byte.1.4 in let empty = ap (λ v. length (others v)) nothing in absurd (omega (arith, full, empty))
    ]
some_taken m q piece c (suc k) one left none f = omega arith

-- ## What is left of the printer

same_view : (r : PrinterView) (s : Sheet) (h : List ℕ) (c : Condition) (n : ℕ) → r.sheet ≡ s → r.half ≡ h → r.condition ≡ c → r.automatic ≡ n
    → r ≡ record { sheet = s; half = h; waiting = r.waiting; condition = c; automatic = n }
same_view r s h c n e f g k =
    ap (λ v. record { sheet = v; half = r.half; waiting = r.waiting; condition = r.condition; automatic = r.automatic }) e
    ∙ ap (λ v. record { sheet = s; half = v; waiting = r.waiting; condition = r.condition; automatic = r.automatic }) f
    ∙ ap (λ v. record { sheet = s; half = h; waiting = r.waiting; condition = v; automatic = r.automatic }) g
    ∙ ap (λ v. record { sheet = s; half = h; waiting = r.waiting; condition = c; automatic = v }) k

-- The printer after its answers went out, or some of them.
pub record Answered (q r : PrinterView) : Type 0 where
  pub sheet : r.sheet ≡ q.sheet
  pub half : r.half ≡ q.half
  pub condition : r.condition ≡ q.condition
  pub automatic : r.automatic ≡ q.automatic

after_stop : (t q r : PrinterView) (why : FeedStop) → IsLeft why t q → Answered q r
    → r ≡ record { sheet = t.sheet; half = left_half why t.half; waiting = r.waiting; condition = t.condition; automatic = t.automatic }
after_stop t q r why left same =
    same_view r t.sheet (left_half why t.half) t.condition t.automatic
    (same.sheet ∙ ap (λ (v : PrinterView). v.sheet) left)
    (same.half ∙ ap (λ (v : PrinterView). v.half) left)
    (same.condition ∙ ap (λ (v : PrinterView). v.condition) left)
    (same.automatic ∙ ap (λ (v : PrinterView). v.automatic) left)

whole_front : (piece : List ℕ) (c k : ℕ) → take c piece ++ take k (drop c piece) ≡ take (c + k) piece
whole_front piece c k = sym (take-add c k piece)

-- ## Feeding goes on, or the link ends

-- Answers that were too many went out, and feeding goes on.
pub go_on : JoinLaw → (p m q r : PrinterView) (piece : List ℕ) (a b e : Option (List ℕ)) (c k n count : ℕ) → Passed p (take c piece) a b n m
    → FedAt m piece c k stop.AnswersFull q → AllOut (sent b e) q.waiting count r.waiting → Answered q r → Passed p (take (c + k) piece) a e (n + count) r
go_on join p m q r piece a b e c k n count o f out same =
    let w = ap (λ (v : PrinterView). v.waiting) f.leaves in
    let on = passed_on join p m f.taken (take c piece) (take k (drop c piece)) a b e n count r.waiting f.commands o f.took (subst (λ v. AllOut (sent b e) v count r.waiting) w out) in
    subst (λ v. Passed p v a e (n + count) r) (whole_front piece c k)
    (subst (λ v. Passed p (take c piece ++ take k (drop c piece)) a e (n + count) v) (sym (after_stop f.taken q r stop.AnswersFull f.leaves same)) on)

ends_by : (t : PrinterView) (piece : List ℕ) (at : ℕ) (why : FeedStop) (w : List Answer) → why ≢ stop.AnswersFull → w ≡ []
    → ((why ≡ stop.All) × (at ≡ length piece)) ⊎ ((at < length piece) × HasCause why t (slice_index piece at)) → EndsBy (end_of why) (waits t w) piece at
ends_by t piece at stop.All w ne none (inl all) = all.1
ends_by t piece at stop.All w ne none (inr byte) = absurd byte.1
ends_by t piece at stop.AnswersFull w ne none cause = absurd (ne refl)
ends_by t piece at (stop.Fault place why) w ne none (inl all) = let e = all.0 in absurd cc
ends_by t piece at (stop.Fault place why) w ne none (inr byte) = byte
ends_by t piece at stop.Offline w ne none (inl all) = let e = all.0 in absurd cc
ends_by t piece at stop.Offline w ne none (inr byte) = byte
ends_by t piece at stop.Memory w ne none (inl all) = let e = all.0 in absurd cc
ends_by t piece at stop.Memory w ne none (inr byte) =
    (byte.0, (byte.1.0, λ c s. ((byte.1.1 c s).0, λ answered. let e = ap (λ v. length (others v)) none in omega (arith, e)), byte.1.2))

answers_go : (why : FeedStop) (s : Sent) (answers : List Answer) (written : ℕ) (w : List Answer) → AllOut s answers written w → AnswersGo (end_of why) s answers written w
answers_go stop.All s answers written w o = o
answers_go stop.AnswersFull s answers written w o = o
answers_go (stop.Fault place why) s answers written w o = o
answers_go stop.Offline s answers written w o = o
answers_go stop.Memory s answers written w o = o

left_by : (t r : PrinterView) (piece : List ℕ) (at : ℕ) (why : FeedStop)
    → r ≡ record { sheet = t.sheet; half = left_half why t.half; waiting = r.waiting; condition = t.condition; automatic = t.automatic } → IsLeftBy (end_of why) (waits t r.waiting) piece at r
left_by t r piece at stop.All e = e
left_by t r piece at stop.AnswersFull e = e
left_by t r piece at (stop.Fault place why) e = e
left_by t r piece at stop.Offline e = e
left_by t r piece at stop.Memory e = e

pub carried : JoinLaw → (p m q r : PrinterView) (piece : List ℕ) (a b e : Option (List ℕ)) (c k n count : ℕ) (why : FeedStop) → why ≢ stop.AnswersFull → Passed p (take c piece) a b n m
    → FedAt m piece c k why q → AllOut (sent b e) q.waiting count r.waiting → Answered q r
    → IsCarried p piece (sent a e) (record { consumed = c + k; written = n + count; end = end_of why }) r
carried join p m q r piece a b e c k n count why ne o f out same =
    let w = ap (λ (v : PrinterView). v.waiting) f.leaves in
    let on = passed_on join p m f.taken (take c piece) (take k (drop c piece)) a b e n count r.waiting f.commands o f.took (subst (λ v. AllOut (sent b e) v count r.waiting) w out) in
    record {
      commands = on.commands;
      taken = waits f.taken r.waiting;
      within = f.within;
      ran = subst (λ v. Ran p v on.commands (waits f.taken r.waiting)) (whole_front piece c k) on.ran;
      out = on.answers;
      parts = on.parts;
      answers = answers_go why (sent a e) on.answers (n + count) r.waiting on.out;
      cause = ends_by f.taken piece (c + k) why r.waiting ne out.none f.cause;
      leaves = left_by f.taken r piece (c + k) why (after_stop f.taken q r why f.leaves same);
    }

-- No command continues with a byte that is a fault.
refused : (half : List ℕ) (b : ℕ) (why : FaultReason) → FaultAt (half ++ b ∷ []) [] half (length half) why → Viable (half ++ b ∷ []) → ⊥
refused half b why f v = f.refused (subst (λ x. Viable (half ++ x ∷ [])) (sym (get_or-append_seam half b [] 0)) v)

left_broken : (t r : PrinterView) (piece : List ℕ) (at : ℕ) (why : FeedStop)
    → ((why ≡ stop.All) × (at ≡ length piece)) ⊎ ((at < length piece) × HasCause why t (slice_index piece at))
    → r ≡ record { sheet = t.sheet; half = left_half why t.half; waiting = r.waiting; condition = t.condition; automatic = t.automatic } → IsLeftBy (Some WriteFault) (waits t r.waiting) piece at r
left_broken t r piece at stop.All cause e = inl e
left_broken t r piece at stop.AnswersFull cause e = inl e
left_broken t r piece at (stop.Fault place why) (inl all) e = let h = all.0 in absurd cc
left_broken t r piece at (stop.Fault place why) (inr byte) e = inr (e, byte.0, refused t.half (slice_index piece at) why byte.1)
left_broken t r piece at stop.Offline cause e = inl e
left_broken t r piece at stop.Memory cause e = inl e

pub broken : JoinLaw → (p m q r : PrinterView) (piece : List ℕ) (a b e : Option (List ℕ)) (c k n count : ℕ) (why : FeedStop) → Passed p (take c piece) a b n m
    → FedAt m piece c k why q → CutOff (sent b e) q.waiting count r.waiting → Answered q r
    → IsCarried p piece (sent a e) (record { consumed = c + k; written = n + count; end = Some WriteFault }) r
broken join p m q r piece a b e c k n count why o f out same =
    let w = ap (λ (v : PrinterView). v.waiting) f.leaves in
    let on = broke_on join p m f.taken (take c piece) (take k (drop c piece)) a b e n count r.waiting f.commands o f.took (subst (λ v. CutOff (sent b e) v count r.waiting) w out) in
    record {
      commands = on.commands;
      taken = waits f.taken r.waiting;
      within = f.within;
      ran = subst (λ v. Ran p v on.commands (waits f.taken r.waiting)) (whole_front piece c k) on.ran;
      out = on.answers;
      parts = on.parts;
      answers = on.out;
      cause = tt;
      leaves = left_broken f.taken r piece (c + k) why f.cause (after_stop f.taken q r why f.leaves same);
    }

-- Feeding by itself never ends in the writer's failure.
pub no_write_fault : (why : FeedStop) → end_of why ≡ Some WriteFault → ⊥
no_write_fault stop.All e = absurd cc
no_write_fault stop.AnswersFull e = absurd cc
no_write_fault (stop.Fault place why) e = absurd cc
no_write_fault stop.Offline e = absurd cc
no_write_fault stop.Memory e = absurd cc

-- ## A piece after pieces

-- What is carried after bytes that passed.
answers_on : (end : Option LinkEnd) (a b c : Option (List ℕ)) (some more gone : List Answer) (n k : ℕ) (w : List Answer) → AllOut (sent a b) some n gone
    → AnswersGo end (sent b c) more k w → AnswersGo end (sent a c) (some ++ more) (n + k) w
answers_on (Some WriteFault) a b c some more gone n k w o h = cut_on a b c some more gone w n k o h
answers_on None a b c some more gone n k w o h = all_on a b c some more gone w n k o h
answers_on (Some Ended) a b c some more gone n k w o h = all_on a b c some more gone w n k o h
answers_on (Some TooLong) a b c some more gone n k w o h = all_on a b c some more gone w n k o h
answers_on (Some ReadFault) a b c some more gone n k w o h = all_on a b c some more gone w n k o h
answers_on (Some (Fault why)) a b c some more gone n k w o h = all_on a b c some more gone w n k o h
answers_on (Some Offline) a b c some more gone n k w o h = all_on a b c some more gone w n k o h
answers_on (Some Memory) a b c some more gone n k w o h = all_on a b c some more gone w n k o h

-- No answer waited when more commands came.
parts_after : (p m : PrinterView) (ds : List Command) (more : List Answer) → m.waiting ≡ [] → m.condition ≡ p.condition
    → PutInParts (m.waiting ++ replies m.condition ds) more → PutInParts (replies p.condition ds) more
parts_after p m ds more none same h =
    subst (λ v. PutInParts v more) (ap (λ v. v ++ replies m.condition ds) none ∙ ap (λ v. replies v ds) same) h

longer : (x y : List ℕ) (k : ℕ) → k < length y → length x + k < length (x ++ y)
longer x y k h = let e = length-append x y in omega (arith, e, h)

same_length : (x y : List ℕ) (k : ℕ) → k ≡ length y → length x + k ≡ length (x ++ y)
same_length x y k h = ap (λ v. length x + v) h ∙ sym (length-append x y)

byte_on : (x y : List ℕ) (k : ℕ) → slice_index y k ≡ slice_index (x ++ y) (length x + k)
byte_on x y k = sym (get_or-append-add x y k 0)

cause_on : (end : Option LinkEnd) (t : PrinterView) (x y : List ℕ) (k : ℕ) → EndsBy end t y k → EndsBy end t (x ++ y) (length x + k)
cause_on None t x y k h = same_length x y k h
cause_on (Some Ended) t x y k h = same_length x y k h
cause_on (Some TooLong) t x y k h = same_length x y k h
cause_on (Some ReadFault) t x y k h = same_length x y k h
cause_on (Some WriteFault) t x y k h = tt
cause_on (Some (Fault why)) t x y k h = (longer x y k h.0, subst (λ b. HasCause (stop.Fault k why) t b) (byte_on x y k) h.1)
cause_on (Some Offline) t x y k h = (longer x y k h.0, subst (λ b. HasCause stop.Offline t b) (byte_on x y k) h.1)
cause_on (Some Memory) t x y k h = (longer x y k h.0, subst (λ b. HasCause stop.Memory t b) (byte_on x y k) h.1)

left_on : (end : Option LinkEnd) (t r : PrinterView) (x y : List ℕ) (k : ℕ) → IsLeftBy end t y k r → IsLeftBy end t (x ++ y) (length x + k) r
left_on None t r x y k h = h
left_on (Some Ended) t r x y k h = h
left_on (Some TooLong) t r x y k h = h
left_on (Some ReadFault) t r x y k h = h
left_on (Some WriteFault) t r x y k (inl h) = inl h
left_on (Some WriteFault) t r x y k (inr h) = inr (h.0, longer x y k h.1, subst (λ b. Viable (t.half ++ b ∷ []) → ⊥) (byte_on x y k) h.2)
left_on (Some (Fault why)) t r x y k h = h
left_on (Some Offline) t r x y k h = h
left_on (Some Memory) t r x y k h = h

pub carries_on : JoinLaw → (p m q : PrinterView) (x y : List ℕ) (a b c : Option (List ℕ)) (n : ℕ) (more : Carried) → Passed p x a b n m → IsCarried m y (sent b c) more q
    → IsCarried p (x ++ y) (sent a c) (record { consumed = length x + more.consumed; written = n + more.written; end = more.end }) q
carries_on join p m q x y a b c n more o h = record {
  commands = o.commands ++ h.commands;
  taken = h.taken;
  within = let e = length-append x y in let few = h.within in omega (arith, e, few);
  ran = subst (λ v. Ran p v (o.commands ++ h.commands) h.taken) (sym (take-append-add x y more.consumed))
      (ran_on join p m h.taken x (take more.consumed y) o.commands h.commands o.ran h.ran);
  out = o.answers ++ h.out;
  parts = joined_parts p o.commands h.commands o.answers h.out o.parts (parts_after p m h.commands h.out o.out.none o.ran.condition h.parts);
  answers = answers_on more.end a b c o.answers h.out m.waiting n more.written h.taken.waiting o.out h.answers;
  cause = cause_on more.end h.taken x y more.consumed h.cause;
  leaves = left_on more.end h.taken q x y more.consumed h.leaves;
}

pub passed_of : (p q : PrinterView) (bytes : List ℕ) (a b : Option (List ℕ)) (c n : ℕ) → IsCarried p bytes (sent a b) (record { consumed = c; written = n; end = None }) q → Passed p bytes a b n q
passed_of p q bytes a b c n h = record {
  commands = h.commands;
  ran = subst (λ v. Ran p bytes h.commands v) (sym h.leaves) (subst (λ v. Ran p v h.commands h.taken) (ap (λ k. take k bytes) h.cause ∙ take-length bytes) h.ran);
  answers = h.out;
  parts = h.parts;
  out = subst (λ (v : PrinterView). AllOut (sent a b) h.out n v.waiting) (sym h.leaves) h.answers;
}

-- The bytes have ended, or no more are read.
pub record IsClean (end : LinkEnd) : Type 0 where
  pub answers : (s : Sent) (answers : List Answer) (written : ℕ) (w : List Answer) → AllOut s answers written w → AnswersGo (Some end) s answers written w
  pub cause : (t : PrinterView) (bytes : List ℕ) (k : ℕ) → k ≡ length bytes → EndsBy (Some end) t bytes k
  pub leaves : (t : PrinterView) (bytes : List ℕ) (k : ℕ) → IsLeftBy (Some end) t bytes k t

pub clean_ended : IsClean Ended
clean_ended = record { answers = λ s xs n w h. h; cause = λ t bytes k h. h; leaves = λ t bytes k. refl }

pub clean_too_long : IsClean TooLong
clean_too_long = record { answers = λ s xs n w h. h; cause = λ t bytes k h. h; leaves = λ t bytes k. refl }

pub clean_read_fault : IsClean ReadFault
clean_read_fault = record { answers = λ s xs n w h. h; cause = λ t bytes k h. h; leaves = λ t bytes k. refl }

pub carries_end : (p q : PrinterView) (bytes : List ℕ) (a b : Option (List ℕ)) (c n : ℕ) (end : LinkEnd) → IsClean end → Passed p bytes a b n q → c ≡ length bytes
    → IsCarried p bytes (sent a b) (record { consumed = c; written = n; end = Some end }) q
carries_end p q bytes a b c n end clean o e = record {
  commands = o.commands;
  taken = q;
  within = omega (arith, e);
  ran = subst (λ v. Ran p v o.commands q) (sym (ap (λ k. take k bytes) e ∙ take-length bytes)) o.ran;
  out = o.answers;
  parts = o.parts;
  answers = clean.answers (sent a b) o.answers n q.waiting o.out;
  cause = clean.cause q bytes c e;
  leaves = clean.leaves q bytes c;
}

-- ## A link

-- The bytes that were read so far passed.
pub record Reading (p : PrinterView) (r0 r a b : Option (List ℕ)) (read written : ℕ) (q : PrinterView) : Type 0 where
  pub bytes : List ℕ
  pub came : Consumes r0 r bytes
  pub count : read ≡ length bytes
  pub passed : Passed p bytes a b written q

-- Answers that may wait are a part.
waiting_part : (xs : List Answer) → MayWait xs → PutInParts (xs ++ []) xs
waiting_part xs h = subst (λ v. PutInParts (xs ++ []) v) (sym (none_more xs h)) (one_part (xs ++ []))

-- No byte was read yet, and the answers that waited went out.
pub reading_none : (p q : PrinterView) (r a b : Option (List ℕ)) (n : ℕ) → (p.half ≡ []) ⊎ Half p.half → MayWait p.waiting → AllOut (sent a b) p.waiting n q.waiting
    → Answered p q → Reading p r r a b 0 n q
reading_none p q r a b n left room out same = record {
  bytes = [];
  came = Consumes-nil r;
  count = refl;
  passed = record {
    commands = [];
    ran = subst (λ v. Ran p [] [] v) (sym (same_view q p.sheet p.half p.condition p.automatic same.sheet same.half same.condition same.automatic)) (ran_waits p p [] [] q.waiting (ran_none p left));
    answers = p.waiting;
    parts = waiting_part p.waiting room;
    out = out;
  };
}

-- A piece was read and carried, and reading goes on.
pub reading_on : JoinLaw → (p m q : PrinterView) (y : List ℕ) (r0 r r1 a b c : Option (List ℕ)) (read n k : ℕ) (more : Carried) → Reading p r0 r a b read n m → Consumes r r1 y
    → k ≡ length y → IsCarried m y (sent b c) more q → more.end ≡ None → Reading p r0 r1 a c (read + k) (n + more.written) q
reading_on join p m q y r0 r r1 a b c read n k more h came e carries none = record {
  bytes = h.bytes ++ y;
  came = Consumes-trans r0 r r1 h.bytes y h.came came;
  count = let f = h.count in let g = length-append h.bytes y in omega (arith, e, f, g);
  passed =
      passed_of p q (h.bytes ++ y) a c (length h.bytes + more.consumed) (n + more.written)
      (subst (λ v. IsCarried p (h.bytes ++ y) (sent a c) (record { consumed = length h.bytes + more.consumed; written = n + more.written; end = v }) q) none
      (carries_on join p m q h.bytes y a b c n more h.passed carries));
}

-- A piece was read, and the link ended in it.
pub serves_piece : JoinLaw → (p m q : PrinterView) (y : List ℕ) (r0 r r1 a b c : Option (List ℕ)) (most read n k : ℕ) (more : Carried) (end : LinkEnd) → Reading p r0 r a b read n m → Consumes r r1 y
    → k ≡ length y → read + k ≤ most → IsCarried m y (sent b c) more q → more.end ≡ Some end → end ≢ TooLong → end ≢ Ended → end ≢ ReadFault
    → Serves p (link r0 r1 a c) most (record { read = read + k; consumed = read + more.consumed; written = n + more.written; end = end }) q
serves_piece join p m q y r0 r r1 a b c most read n k more end h came e few carries is ne not_ended not_failed = record {
  bytes = h.bytes ++ y;
  came = Consumes-trans r0 r r1 h.bytes y h.came came;
  read = let f = h.count in let g = length-append h.bytes y in omega (arith, e, f, g);
  within = few;
  carries =
      subst (λ v. IsCarried p (h.bytes ++ y) (sent a c) (record { consumed = v + more.consumed; written = n + more.written; end = Some end }) q) (sym h.count)
      (subst (λ v. IsCarried p (h.bytes ++ y) (sent a c) (record { consumed = length h.bytes + more.consumed; written = n + more.written; end = v }) q) is
      (carries_on join p m q h.bytes y a b c n more h.passed carries));
  too_long = λ t. absurd (ne t);
  early = λ t. elim t [ inl f ↦ absurd (not_ended f) | inr f ↦ absurd (not_failed f) ];
}

-- The link ended between pieces.
pub serves_clean : (p q : PrinterView) (r0 r r1 a b : Option (List ℕ)) (most read n : ℕ) (end : LinkEnd) → IsClean end → Reading p r0 r a b read n q → Consumes r r1 [] → read ≤ most
    → (end ≡ TooLong → read ≡ most) → ((end ≡ Ended) ⊎ (end ≡ ReadFault) → read < most) → Serves p (link r0 r1 a b) most (record { read = read; consumed = read; written = n; end = end }) q
serves_clean p q r0 r r1 a b most read n end clean h came few long early = record {
  bytes = h.bytes;
  came = subst (λ v. Consumes r0 r1 v) (append-nil h.bytes) (Consumes-trans r0 r r1 h.bytes [] h.came came);
  read = h.count;
  within = few;
  carries = carries_end p q h.bytes a b read n end clean h.passed h.count;
  too_long = long;
  early = early;
}

-- The writer failed before any byte was read.
pub serves_cut : (p q : PrinterView) (r a b : Option (List ℕ)) (most n : ℕ) → (p.half ≡ []) ⊎ Half p.half → MayWait p.waiting → CutOff (sent a b) p.waiting n q.waiting → Answered p q
    → Serves p (link r r a b) most (record { read = 0; consumed = 0; written = n; end = WriteFault }) q
serves_cut p q r a b most n left room out same = record {
  bytes = [];
  came = Consumes-nil r;
  read = refl;
  within = omega arith;
  carries = record {
    commands = [];
    taken = q;
    within = omega arith;
    ran = subst (λ v. Ran p [] [] v) (sym (same_view q p.sheet p.half p.condition p.automatic same.sheet same.half same.condition same.automatic)) (ran_waits p p [] [] q.waiting (ran_none p left));
    out = p.waiting;
    parts = waiting_part p.waiting room;
    answers = out;
    cause = tt;
    leaves = inl refl;
  };
  too_long = λ e. absurd cc;
  early = λ e. elim e [ inl f ↦ absurd cc | inr f ↦ absurd cc ];
}

pub within_piece : (why : FeedStop) → IsWithinPiece (end_of why)
within_piece stop.All = tt
within_piece stop.AnswersFull = tt
within_piece (stop.Fault place why) = tt
within_piece stop.Offline = tt
within_piece stop.Memory = tt

-- So the link ends in none of these ways.
pub record NotBetween (end : LinkEnd) : Type 0 where
  pub ended : end ≢ Ended
  pub too_long : end ≢ TooLong
  pub read_fault : end ≢ ReadFault

pub not_between : (e : Option LinkEnd) (end : LinkEnd) → IsWithinPiece e → e ≡ Some end → NotBetween end
not_between e end h is =
    let k = subst (λ v. IsWithinPiece v) is h in
    record {
      ended = λ f. subst (λ v. IsWithinPiece (Some v)) f k;
      too_long = λ f. subst (λ v. IsWithinPiece (Some v)) f k;
      read_fault = λ f. subst (λ v. IsWithinPiece (Some v)) f k;
    }

-- The bytes at the start of a buffer into which they were pulled.
pub pulled_front : (count : ℕ) (new rest : List ℕ) → count ≤ length new → take count (new ++ rest) ≡ take count new
pulled_front count new rest h = take-append-le count new rest h

pub pulled_length : (count : ℕ) (new : List ℕ) → count ≤ length new → count ≡ length (take count new)
pulled_length count new h = let e = length-take count new in omega (arith, e, h)
