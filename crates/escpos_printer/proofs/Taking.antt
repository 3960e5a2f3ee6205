-- What was taken, byte by byte and piece by piece.
use Rattle.std.proofs.Common.{◌≡◌, ◌<◌, ◌≤◌, ◌+◌, ◌⊎◌, inl, inr, ℕ, List, [], ◌∷◌, ◌++◌, Bool, true, false, IsTrue, length, take, drop, add-one, ◌-◌, length-take, refl, sym, ◌∙◌, ap, subst, append_assoc, append-nil, length-append, arith, Some, None, ◌==◌, Ok, Err, cond}
use Rattle.std.specs.Prelude.{Result, OnErr, OnOk, filter_map, slice_index}
use Rattle.std.proofs.lemmas.List.Elements.{filter_map-append}
use Rattle.escpos_command.specs.Settings.{last_or}
use Rattle.escpos_command.specs.Meanings.{reports}
use Rattle.std.proofs.Math.Seq.{take-suc, take-add}
use Rattle.std.proofs.lemmas.List.{take-take}
use Rattle.std.specs.Result.{is_err}
use Rattle.std.specs.List.{AllByRecursion}
use Rattle.std.proofs.lemmas.Bool.Decides.{nat_tests}
use Rattle.std.proofs.lemmas.Grind.{flat_map-append}
use Rattle.escpos_command.specs.declared.answer.Answer.{Answer}
use Rattle.escpos_command.specs.declared.answer.Answer.TheVariants as answer
use Rattle.escpos_command.specs.declared.command.Command.{Command}
use Rattle.escpos_command.specs.declared.command.Command.TheVariants as kind
use Rattle.escpos_command.specs.CommandTable.{Spells, row}
use Rattle.escpos_command.specs.Grammar.{Half, Reads}
use Rattle.escpos_decode.specs.declared.decoder.Ahead.{Ahead}
use Rattle.escpos_decode.specs.declared.decoder.Ahead.TheVariants as ahead
use Rattle.escpos_decode.specs.Push.{ahead_of, AheadIs}
use Rattle.escpos_paper.specs.declared.item.Item.{Item}
use Rattle.escpos_paper.specs.Page.{Sheet, SheetIs}
use Rattle.escpos_printer.specs.declared.condition.Condition.{Condition}
use Rattle.escpos_printer.specs.Replies.{automatic_after, condition_block, is_offline, reply, replies, sets_automatic}
use Rattle.escpos_printer.proofs.OneBlock.{none_more, once_more, others-append, may_wait}
use Rattle.escpos_printer.specs.declared.printer.FeedStop.{FeedStop}
use Rattle.escpos_printer.specs.declared.printer.FeedStop.TheVariants.{AnswersFull, Offline, Memory}
use Rattle.escpos_printer.specs.Feeds.{PrinterView, Ran, Took, HasCause, IsPlace, IsLeft, PassesOffline, IsAnswered, is_status}
use Rattle.escpos_printer.specs.Blocks.{MayWait, most_waiting, others, with_one_block}
use Rattle.escpos_printer.specs.FeedSteps.{is_command, obstacle}

-- The law of joined readings, as escpos_command states it.
abbrev pub JoinLaw : Type 0
JoinLaw = (a b : List ℕ) (cs ds : List Command) (r s : List ℕ) → Reads a cs r → Reads (r ++ b) ds s → Reads (a ++ b) (cs ++ ds) s

all_pass : (condition : Condition) (cs ds : List Command) → AllByRecursion (PassesOffline condition) cs → AllByRecursion (PassesOffline condition) ds → AllByRecursion (PassesOffline condition) (cs ++ ds)
all_pass condition [] ds h k = k
all_pass condition (c ∷ cs) ds h k = (h.0, all_pass condition cs ds h.1 k)

last-append : {X : Type 0} (x : X) (xs ys : List X) → last_or x (xs ++ ys) ≡ last_or (last_or x xs) ys
last-append x [] ys = refl
last-append x (y ∷ xs) ys = last-append y xs ys

-- The setting after commands after commands.
pub automatic_on : (n : ℕ) (cs ds : List Command) → automatic_after n (cs ++ ds) ≡ automatic_after (automatic_after n cs) ds
automatic_on n cs ds = ap (last_or n) (filter_map-append sets_automatic cs ds) ∙ last-append n (filter_map sets_automatic cs) (filter_map sets_automatic ds)

-- What ran after what ran.
pub ran_on : JoinLaw → (p m q : PrinterView) (x y : List ℕ) (cs ds : List Command) → Ran p x cs m → Ran m y ds q → Ran p (x ++ y) (cs ++ ds) q
ran_on join p m q x y cs ds t u = record {
  reads = subst (λ v. Reads v (cs ++ ds) q.half) (append_assoc p.half x y) (join (p.half ++ x) y cs ds m.half q.half t.reads u.reads);
  page = λ width kept before h. subst (λ v. SheetIs width q.sheet kept v) (append_assoc before cs ds) (u.page width kept (before ++ cs) (t.page width kept before h));
  condition = u.condition ∙ t.condition;
  automatic = u.automatic ∙ ap (λ n. automatic_after n ds) t.automatic ∙ sym (automatic_on p.automatic cs ds);
  passes = all_pass p.condition cs ds t.passes (subst (λ v. AllByRecursion (PassesOffline v) ds) t.condition u.passes);
}

-- What was taken after what was taken.
pub took_on : JoinLaw → (p m q : PrinterView) (x y : List ℕ) (cs ds : List Command) → Took p x cs m → Took m y ds q → Took p (x ++ y) (cs ++ ds) q
took_on join p m q x y cs ds t u = record {
  ran = ran_on join p m q x y cs ds t.ran u.ran;
  answers =
      u.answers ∙ ap (λ v. with_one_block (v ++ replies m.condition ds)) t.answers ∙ once_more (p.waiting ++ replies p.condition cs) (replies m.condition ds)
      ∙ ap with_one_block (append_assoc p.waiting (replies p.condition cs) (replies m.condition ds)
      ∙ ap (λ v. p.waiting ++ (replies p.condition cs ++ replies v ds)) t.ran.condition
      ∙ ap (λ v. p.waiting ++ v) (sym (flat_map-append (reply p.condition) cs ds)));
  room = u.room;
}

-- Before any byte nothing was taken.
pub ran_none : (p : PrinterView) → (p.half ≡ []) ⊎ Half p.half → Ran p [] [] p
ran_none p left = record {
  reads = record { commands = tt; whole = append-nil p.half; rest_is = left };
  page = λ width kept before h. subst (λ v. SheetIs width p.sheet kept v) (sym (append-nil before)) h;
  condition = refl;
  automatic = refl;
  passes = tt;
}

pub took_none : (p : PrinterView) → (p.half ≡ []) ⊎ Half p.half → MayWait p.waiting → Took p [] [] p
took_none p left room = record { ran = ran_none p left; answers = none_more p.waiting room; room = room }

-- ## What a command ahead is

pub data Told (condition : Condition) (c : Command) : Ahead → Type 0 where
  status : is_status c ≡ true → length (others (replies condition (c ∷ []))) ≡ 1 → Told condition c ahead.Status
  mark : is_status c ≡ false → length (others (replies condition (c ∷ []))) ≡ 1 → Told condition c ahead.Mark
  other : is_status c ≡ false → others (replies condition (c ∷ [])) ≡ [] → Told condition c ahead.Other

-- A block isn't among the others.
block_aside : (condition : Condition) (n : ℕ) (on : Bool) → reports n ≡ on → others (replies condition (kind.AutomaticStatus n ∷ [])) ≡ []
block_aside condition n true e = ap (λ b. others (cond b (answer.Condition (condition_block condition) ∷ []) [] ++ [])) e
block_aside condition n false e = ap (λ b. others (cond b (answer.Condition (condition_block condition) ∷ []) [] ++ [])) e

pub told : (condition : Condition) (c : Command) → Told condition c (ahead_of c)
told condition (kind.Status n) = status refl refl
told condition (kind.Mark id) = mark refl refl
told condition (kind.AutomaticStatus n) = other refl (block_aside condition n (reports n) refl)
told condition c = other refl refl

told_at : (condition : Condition) (c : Command) (a : Ahead) → ahead_of c ≡ a → Told condition c a
told_at condition c a e = subst (λ v. Told condition c v) e (told condition c)

number_is : (n : ℕ) → (n == most_waiting) ≡ true → n ≡ most_waiting
number_is n h = grind (arith, nat_tests)

fewer : (n : ℕ) → (n == most_waiting) ≡ false → n ≤ most_waiting → n < most_waiting
fewer n h k = grind (arith, nat_tests)

some_is : (a b : FeedStop) → Some a ≡ Some b → a ≡ b
some_is a b e = cc

pub online : (condition : Condition) → is_offline condition ≡ false → IsTrue (is_offline condition) → ⊥
online condition e off = let h = sym e ∙ off in absurd cc

-- ## A byte that isn't taken

-- What stands in the way of the command that the byte would complete is a cause.
pub blocked : (p : PrinterView) (b at : ℕ) (a : Ahead) (o f : Bool) (stop : FeedStop) → is_offline p.condition ≡ o → (length (others p.waiting) == most_waiting) ≡ f
    → AheadIs a p.half b → obstacle a o f ≡ Some stop → HasCause stop p b × IsPlace stop at × IsLeft stop p p
blocked p b at ahead.Nothing o f stop eo ef h e = absurd cc
blocked p b at ahead.Status o false stop eo ef h e = absurd cc
blocked p b at ahead.Status o true stop eo ef h e =
    elim (told_at p.condition h.0 ahead.Status h.2) [
      | status is one ↦ subst (λ s. HasCause s p b × IsPlace s at × IsLeft s p p) (some_is AnswersFull stop e)
          ((h.0, h.1, λ off. is, one, number_is (length (others p.waiting)) ef), tt, refl)
    ]
blocked p b at ahead.Mark true f stop eo ef h e =
    elim (told_at p.condition h.0 ahead.Mark h.2) [
      | mark is one ↦ subst (λ s. HasCause s p b × IsPlace s at × IsLeft s p p) (some_is Offline stop e) ((h.0, h.1, eo, is), tt, refl)
    ]
blocked p b at ahead.Mark false false stop eo ef h e = absurd cc
blocked p b at ahead.Mark false true stop eo ef h e =
    elim (told_at p.condition h.0 ahead.Mark h.2) [
      | mark is one ↦ subst (λ s. HasCause s p b × IsPlace s at × IsLeft s p p) (some_is AnswersFull stop e)
          ((h.0, h.1, λ off. absurd (online p.condition eo off), one, number_is (length (others p.waiting)) ef), tt, refl)
    ]
blocked p b at ahead.Other true f stop eo ef h e =
    elim (told_at p.condition h.0 ahead.Other h.2) [
      | other is none ↦ subst (λ s. HasCause s p b × IsPlace s at × IsLeft s p p) (some_is Offline stop e) ((h.0, h.1, eo, is), tt, refl)
    ]
blocked p b at ahead.Other false f stop eo ef h e = absurd cc

-- The law of unique spellings: two commands with one spelling are equal.
abbrev pub OneCommand : Type 0
OneCommand = (c d : Command) (a : List ℕ) → Spells c a → Spells d a → c ≡ d

-- What holds for a command that nothing hinders.
pub clear_way : (p : PrinterView) (c : Command) (a : Ahead) (o f : Bool) → is_offline p.condition ≡ o → (length (others p.waiting) == most_waiting) ≡ f → length (others p.waiting) ≤ most_waiting
    → Told p.condition c a → obstacle a o f ≡ None → PassesOffline p.condition c × (IsAnswered p.condition c → length (others p.waiting) < most_waiting)
clear_way p c ahead.Nothing o f eo ef room t e = elim t [ ]
clear_way p c ahead.Status o true eo ef room (status is one) e = absurd cc
clear_way p c ahead.Status o false eo ef room (status is one) e = (λ off. is, λ h. fewer (length (others p.waiting)) ef room)
clear_way p c ahead.Mark true f eo ef room (mark is one) e = absurd cc
clear_way p c ahead.Mark false true eo ef room (mark is one) e = absurd cc
clear_way p c ahead.Mark false false eo ef room (mark is one) e = (λ off. absurd (online p.condition eo off), λ h. fewer (length (others p.waiting)) ef room)
clear_way p c ahead.Other true f eo ef room (other is none) e = absurd cc
clear_way p c ahead.Other false f eo ef room (other is none) e = (λ off. absurd (online p.condition eo off), λ h. absurd (let k = ap length none in omega (arith, h, k)))

-- What the byte would complete, if anything.
pub record Ahead_of (p : PrinterView) (b : ℕ) (a : Ahead) : Type 0 where
  pub command : Command
  pub spelled : Spells command (p.half ++ b ∷ [])
  pub told : Told p.condition command a

pub ahead_command : (p : PrinterView) (b : ℕ) (a : Ahead) → is_command a ≡ true → AheadIs a p.half b → Ahead_of p b a
ahead_command p b ahead.Nothing is h = absurd cc
ahead_command p b ahead.Status is h = record { command = h.0; spelled = h.1; told = told_at p.condition h.0 ahead.Status h.2 }
ahead_command p b ahead.Mark is h = record { command = h.0; spelled = h.1; told = told_at p.condition h.0 ahead.Mark h.2 }
ahead_command p b ahead.Other is h = record { command = h.0; spelled = h.1; told = told_at p.condition h.0 ahead.Other h.2 }

-- After a failed allocation a byte that has no other cause isn't taken.
pub unready : OneCommand → (p : PrinterView) (b : ℕ) (a : Ahead) (o f : Bool) → is_offline p.condition ≡ o → (length (others p.waiting) == most_waiting) ≡ f → length (others p.waiting) ≤ most_waiting
    → is_command a ≡ true → AheadIs a p.half b → obstacle a o f ≡ None → HasCause Memory p b
unready one p b a o f eo ef room is h e =
    let k = ahead_command p b a is h in (
      (k.command, [], subst (λ v. Spells k.command v) (sym (append-nil (p.half ++ b ∷ []))) k.spelled),
      λ c s. clear_way p c a o f eo ef room (subst (λ v. Told p.condition v a) (one k.command c (p.half ++ b ∷ []) k.spelled s) k.told) e,
      inr (k.command, k.spelled),
    )

pub where_err : {X E : Type 0} → (r : Result X E) (P : Type 0) → is_err r ≡ true → OnErr r P → P
where_err (Ok x) P e h = absurd cc
where_err (Err x) P e h = h

pub unready_left : OneCommand → (p : PrinterView) (b at : ℕ) (a : Ahead) (o f : Bool) (sheet : Sheet) → is_offline p.condition ≡ o → (length (others p.waiting) == most_waiting) ≡ f
    → length (others p.waiting) ≤ most_waiting → is_command a ≡ true → AheadIs a p.half b → obstacle a o f ≡ None → sheet ≡ p.sheet
    → HasCause Memory p b × IsPlace Memory at × IsLeft Memory p (record { sheet = sheet; half = p.half; waiting = p.waiting; condition = p.condition; automatic = p.automatic })
unready_left one p b at a o f sheet eo ef room is h e same =
    (unready one p b a o f eo ef room is h e, tt, ap (λ v. record { sheet = v; half = p.half; waiting = p.waiting; condition = p.condition; automatic = p.automatic }) same)

-- ## A byte that is taken

-- It continues a command.
pub more_taken : (p : PrinterView) (b : ℕ) (sheet : Sheet) (half : List ℕ) → Half (p.half ++ b ∷ []) → sheet ≡ p.sheet → half ≡ p.half ++ b ∷ [] → MayWait p.waiting
    → Took p (b ∷ []) [] (record { sheet = sheet; half = half; waiting = p.waiting; condition = p.condition; automatic = p.automatic })
more_taken p b sheet half h e f room = record {
  ran = record {
    reads = record { commands = tt; whole = sym f; rest_is = inr (subst (λ v. Half v) (sym f) h) };
    page = λ width kept before is. subst (λ v. SheetIs width sheet kept v) (sym (append-nil before)) (e ∙ is);
    condition = refl;
    automatic = refl;
    passes = tt;
  };
  answers = none_more p.waiting room;
  room = room;
}

-- The command that a byte completes is the one that was ahead.
pub told_of : OneCommand → (p : PrinterView) (b : ℕ) (a : Ahead) (c : Command) → Spells c (p.half ++ b ∷ []) → AheadIs a p.half b → Told p.condition c a
told_of one p b ahead.Nothing c s h = absurd (h c s)
told_of one p b ahead.Status c s h = told_at p.condition c ahead.Status (ap ahead_of (one c h.0 (p.half ++ b ∷ []) s h.1) ∙ h.2)
told_of one p b ahead.Mark c s h = told_at p.condition c ahead.Mark (ap ahead_of (one c h.0 (p.half ++ b ∷ []) s h.1) ∙ h.2)
told_of one p b ahead.Other c s h = told_at p.condition c ahead.Other (ap ahead_of (one c h.0 (p.half ++ b ∷ []) s h.1) ∙ h.2)

one_reply : (condition : Condition) (c : Command) → length (others (reply condition c ++ [])) ≡ length (others (reply condition c))
one_reply condition c = ap (λ v. length (others v)) (append-nil (reply condition c))

-- Its answer has room.
pub reply_fits : (p : PrinterView) (c : Command) (a : Ahead) → length (others p.waiting) ≤ most_waiting → Told p.condition c a
    → (IsAnswered p.condition c → length (others p.waiting) < most_waiting) → length (others p.waiting) + length (others (reply p.condition c)) ≤ most_waiting
reply_fits p c ahead.Nothing room t free = elim t [ ]
reply_fits p c ahead.Status room (status is one) free = let k = one_reply p.condition c in let fits = free one in omega (arith, one, k, fits)
reply_fits p c ahead.Mark room (mark is one) free = let k = one_reply p.condition c in let fits = free one in omega (arith, one, k, fits)
reply_fits p c ahead.Other room (other is none) free = let k = one_reply p.condition c in let l = ap length none in omega (arith, l, k, room)

-- It completes a command.
pub done_taken : (p q : PrinterView) (b : ℕ) (c : Command) → Spells c (p.half ++ b ∷ [])
    → ((width : ℕ) (kept : List Item) (cs : List Command) → SheetIs width p.sheet kept cs → SheetIs width q.sheet kept (cs ++ c ∷ []))
    → q.half ≡ [] → q.waiting ≡ with_one_block (p.waiting ++ reply p.condition c) → q.condition ≡ p.condition → q.automatic ≡ automatic_after p.automatic (c ∷ [])
    → PassesOffline p.condition c → MayWait q.waiting
    → Took p (b ∷ []) (c ∷ []) q
done_taken p q b c s page none waits same set passes room = record {
  ran = record {
    reads = record {
      commands = (s.in_range, tt);
      whole = s.in_table ∙ sym (append-nil (row c)) ∙ sym (append-nil (row c ++ [])) ∙ ap (λ v. (row c ++ []) ++ v) (sym none);
      rest_is = inl none;
    };
    page = page;
    condition = same;
    automatic = set;
    passes = (passes, tt);
  };
  answers = waits ∙ ap (λ v. with_one_block (p.waiting ++ v)) (sym (append-nil (reply p.condition c)));
  room = room;
}

-- The command ahead may be completed, and there is room for its answer.
pub record Passes (p : PrinterView) (c : Command) : Type 0 where
  pub offline : PassesOffline p.condition c
  pub fits : length (others p.waiting) + length (others (reply p.condition c)) ≤ most_waiting

pub passes : OneCommand → (p : PrinterView) (b : ℕ) (a : Ahead) (o f : Bool) (c : Command) → is_offline p.condition ≡ o → (length (others p.waiting) == most_waiting) ≡ f
    → length (others p.waiting) ≤ most_waiting → Spells c (p.half ++ b ∷ []) → AheadIs a p.half b → obstacle a o f ≡ None → Passes p c
passes one p b a o f c eo ef room s h e =
    let t = told_of one p b a c s h in
    let free = clear_way p c a o f eo ef room t e in
    record { offline = free.0; fits = reply_fits p c a room t free.1 }

pub others_after : (xs ys : List Answer) → length (others xs) + length (others ys) ≤ most_waiting → length (others (xs ++ ys)) ≤ most_waiting
others_after xs ys h = let k = ap length (others-append xs ys) ∙ length-append (others xs) (others ys) in omega (arith, k, h)

pub room_after : (xs ys zs : List Answer) → zs ≡ with_one_block (xs ++ ys) → length (others xs) + length (others ys) ≤ most_waiting → MayWait zs
room_after xs ys zs e h = subst MayWait (sym e) (may_wait (xs ++ ys) (others_after xs ys h))

pub done_by : (p q : PrinterView) (b : ℕ) (c : Command) → Passes p c → Spells c (p.half ++ b ∷ [])
    → ((width : ℕ) (kept : List Item) (cs : List Command) → SheetIs width p.sheet kept cs → SheetIs width q.sheet kept (cs ++ c ∷ []))
    → q.half ≡ [] → q.waiting ≡ with_one_block (p.waiting ++ reply p.condition c) → q.condition ≡ p.condition → q.automatic ≡ automatic_after p.automatic (c ∷ [])
    → Took p (b ∷ []) (c ∷ []) q
done_by p q b c pass s page none waits same set =
    done_taken p q b c s page none waits same set pass.offline (room_after p.waiting (reply p.condition c) q.waiting waits pass.fits)

-- Making room for a command that the byte completes.
pub completes : (p : PrinterView) (b : ℕ) (a : Ahead) (c : Command) → AheadIs a p.half b → Spells c (p.half ++ b ∷ []) → is_command a ≡ true
completes p b ahead.Nothing c h s = absurd (h c s)
completes p b ahead.Status c h s = refl
completes p b ahead.Mark c h s = refl
completes p b ahead.Other c h s = refl

pub where_ok : {X E : Type 0} → (r : Result X E) (P : Type 0) → is_err r ≡ false → OnOk r P → P
where_ok (Ok x) P e h = h
where_ok (Err x) P e h = absurd cc

-- ## A run of dots, and a piece

-- A run of bytes that end no command.
pub run_taken : (p : PrinterView) (run half : List ℕ) → (p.half ≡ []) ⊎ Half p.half → MayWait p.waiting
    → ((a : List ℕ) (cs : List Command) → Reads a cs p.half → Reads (a ++ run) cs half)
    → Took p run [] (record { sheet = p.sheet; half = half; waiting = p.waiting; condition = p.condition; automatic = p.automatic })
run_taken p run half left room on = record {
  ran = record {
    reads = on p.half [] (record { commands = tt; whole = refl; rest_is = left });
    page = λ width kept before is. subst (λ v. SheetIs width p.sheet kept v) (sym (append-nil before)) is;
    condition = refl;
    automatic = refl;
    passes = tt;
  };
  answers = none_more p.waiting room;
  room = room;
}

-- These bytes were taken, and read as some commands.
abbrev pub TookSome : PrinterView → List ℕ → PrinterView → Type 0
TookSome p bytes q = (cs : List Command) × Took p bytes cs q

pub some_on : JoinLaw → (p m q : PrinterView) (x y : List ℕ) → TookSome p x m → TookSome m y q → TookSome p (x ++ y) q
some_on join p m q x y t u = (t.0 ++ u.0, took_on join p m q x y t.0 u.0 t.1 u.1)

-- One more byte of a piece.
pub one_more : JoinLaw → (p m q : PrinterView) (piece : List ℕ) (at : ℕ) → at < length piece → TookSome p (take at piece) m → TookSome m (slice_index piece at ∷ []) q
    → TookSome p (take (at + 1) piece) q
one_more join p m q piece at h t u =
    let one : take at piece ++ slice_index piece at ∷ [] ≡ take (at + 1) piece = sym (rw (add-one, take-suc piece at 0) refl) in
    subst (λ w. TookSome p w q) one (some_on join p m q (take at piece) (slice_index piece at ∷ []) t u)

-- A run more of a piece.
pub run_more : JoinLaw → (p m q : PrinterView) (piece : List ℕ) (at n most : ℕ) → n ≤ most → TookSome p (take at piece) m → TookSome m (take n (take most (drop at piece))) q
    → TookSome p (take (at + n) piece) q
run_more join p m q piece at n most few t u =
    let run = subst (λ w. TookSome m w q) (take-take n most (drop at piece) few) u in
    subst (λ w. TookSome p w q) (sym (take-add at n piece)) (some_on join p m q (take at piece) (take n (drop at piece)) t run)

-- The run is within the piece.
pub run_within : (piece : List ℕ) (at n : ℕ) → n ≤ length (take (length piece - at) (drop at piece)) → n ≤ length piece - at
run_within piece at n few = let short = length-take (length piece - at) (drop at piece) in omega arith
