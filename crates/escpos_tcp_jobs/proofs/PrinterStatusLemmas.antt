-- Asking for a status: answers that are passed over before a status byte, and the four bytes.
use Rattle.std.proofs.Common.{◌≡◌, ◌∙◌, ◌++◌, ◌∷◌, [], ℕ, zero, suc, List, IsTrue, refl, sym, ap, ap₂, subst, append_assoc, append-nil, Result, Ok, Err, IfErr, IsErrAnd, Option, inl, inr, length, take, drop, ◌≤◌, arith}
use Rattle.std.specs.Prelude.{◌≢◌, ◌<◌, ◌⊎◌, ◌+◌, Bool, true, false, get_or}
use Rattle.std.specs.List.{AllByRecursion}
use Rattle.std.proofs.lemmas.List.{length-append, take-append-drop, take_more}
use Rattle.std.specs.Io.KnownBytes.{Appends, Consumes}
use Rattle.std.proofs.KnownBytes.{Consumes-nil, Consumes-trans}
use Rattle.std.proofs.lemmas.Grind.{flat_map-append}
use Rattle.escpos_command.specs.declared.answer.Answer.{Answer}
use Rattle.escpos_command.specs.declared.answer.Answer.TheVariants as answer
use Rattle.escpos_command.specs.Answers.{AnswerSpells, HalfAnswer, ViableAnswer, answer_bytes, is_answer}
use Rattle.escpos_command.specs.CommandTable.{spell}
use Rattle.escpos_host.specs.declared.send.SendFault.{SendFault}
use Rattle.escpos_host.specs.declared.send.SendFault.TheVariants as fault
use Rattle.escpos_tcp_jobs.specs.declared.printer_status.PrinterStatus.{PrinterStatus}
use Rattle.escpos_job_parts.specs.declared.status.Status.TheVariants.{Good, Device}
use Rattle.escpos_job_parts.specs.Ending.{JobEnd, Tells}
use Rattle.escpos_tcp_jobs.specs.PrinterStatus.{ArePassedOver, AsksAndTells, FailsNext, FailsToAsk, FindsNone, IsPassedOver, NoneYet, IsOfSink, TellsEach, TellsNext, TellsStatus, no_status_line, requests, status_text}
use Rattle.escpos_tcp_jobs.specs.Send.{Devices, DevicesSay, Passed, devices}

-- What `?` passes on.
pub passed_on : {A E : Type 0} (P : E → Type 0) (r : Result A E) (e : E) → IsErrAnd r (λ x. x ≡ e) → P e → IfErr r P
passed_on P (Ok a) e same h = tt
passed_on P (Err x) e same h = subst P (sym same) h

-- One byte is read at a time.
pub one_byte : (piece : List ℕ) (count d : ℕ) → length piece ≡ 1 → count ≤ 1 → (count ≡ 0 → ⊥) → take count piece ≡ get_or piece 0 d ∷ []
one_byte piece count d room few some =
    let one : count ≡ 1 = omega (arith, few, some) in ap (λ n. take n piece) one ∙ take_more piece 0 d (omega (arith, room))

pub none_passed : ArePassedOver []
none_passed = record { answers = []; each = tt; in_range = tt; whole = refl }

all_of_both : (P : Answer → Type 0) (xs ys : List Answer) → AllByRecursion P xs → AllByRecursion P ys → AllByRecursion P (xs ++ ys)
all_of_both P [] ys h k = k
all_of_both P (x ∷ xs) ys h k = (h.0, all_of_both P xs ys h.1 k)

-- Answers that are passed over, and more of them.
both_passed : (first more : List ℕ) → ArePassedOver first → ArePassedOver more → ArePassedOver (first ++ more)
both_passed first more m n = record {
  answers = m.answers ++ n.answers;
  each = all_of_both IsPassedOver m.answers n.answers m.each n.each;
  in_range = all_of_both (λ a. IsTrue (is_answer a)) m.answers n.answers m.in_range n.in_range;
  whole = ap₂ (λ (x y : List ℕ). x ++ y) m.whole n.whole ∙ sym (flat_map-append answer_bytes m.answers n.answers);
}

pub one_passed : (bytes : List ℕ) (a : Answer) → IsPassedOver a → AnswerSpells a bytes → ArePassedOver bytes
one_passed bytes a passed s = record { answers = a ∷ []; each = (passed, tt); in_range = (s.in_range, tt); whole = s.in_table ∙ sym (append-nil (answer_bytes a)) }

-- One more byte: such answers, and the bytes of an answer that isn't whole.
pub passed_further : (before half more new : List ℕ) (byte : ℕ) → ArePassedOver before → ArePassedOver more → half ++ byte ∷ [] ≡ more ++ new
    → (all : List ℕ) × ArePassedOver all × ((before ++ half) ++ byte ∷ [] ≡ all ++ new)
passed_further before half more new byte m n same = (before ++ more, both_passed before more m n, append_assoc before half (byte ∷ []) ∙ ap (λ bs. before ++ bs) same ∙ sym (append_assoc before more new))

-- A status byte after such answers.
pub told_next : (before half : List ℕ) (byte status : ℕ) → ArePassedOver before → AnswerSpells (answer.Status status) (half ++ byte ∷ []) → TellsNext ((before ++ half) ++ byte ∷ []) status
told_next before half byte status m s = (before, m, append_assoc before half (byte ∷ []) ∙ ap (λ bs. before ++ bs) s.in_table, s.in_range)

-- The printer said so.
pub asked : (p : Passed) (d : Devices) (o : JobEnd) (s : PrinterStatus) → Appends p.before p.after (spell requests) → (bytes : List ℕ) × Consumes p.came p.rest bytes × TellsStatus bytes s
    → Tells o (status_text s) Good → AsksAndTells p d o
asked p d o s put (bytes, came, told) tells = record {
  bytes = bytes;
  out = spell requests;
  unsent = [];
  consumes = came;
  appends = put;
  asks = sym (append-nil (spell requests));
  tells = inl (s, refl, told, tells);
}

-- It didn't.
pub asked_in_vain : (p : Passed) (d : Devices) (o : JobEnd) (why : SendFault)
    → (out : List ℕ) × (unsent : List ℕ) × (bytes : List ℕ) × Appends p.before p.after out × (spell requests ≡ out ++ unsent) × Consumes p.came p.rest bytes
    × FailsToAsk why unsent bytes → DevicesSay d why → Tells o (no_status_line why) Device → AsksAndTells p d o
asked_in_vain p d o why (out, unsent, bytes, put, asks, came, fails) cause tells = record {
  bytes = bytes;
  out = out;
  unsent = unsent;
  consumes = came;
  appends = put;
  asks = asks;
  tells = inr (why, fails, cause, tells);
}

-- ## Why no status byte comes

not_false : ¬ IsTrue false
not_false p = let it : false ≡ true = p in absurd cc

-- What a device that has failed is told as.
pub source_says : (why : SendFault) (ended failed timed_out : Bool) → IsTrue failed → (IsTrue timed_out → why ≡ fault.TimedOut) → (¬ IsTrue timed_out → why ≡ fault.ReadFault)
    → DevicesSay (devices ended failed timed_out false false) why
source_says why ended failed true h late other = subst (DevicesSay (devices ended failed true false false)) (sym (late refl)) (inl (h, refl))
source_says why ended failed false h late other = subst (DevicesSay (devices ended failed false false false)) (sym (other not_false)) (h, not_false)

pub source_fails : (why : SendFault) (timed_out : Bool) (bytes : List ℕ) → (IsTrue timed_out → why ≡ fault.TimedOut) → (¬ IsTrue timed_out → why ≡ fault.ReadFault)
    → FindsNone bytes → FailsNext why bytes
source_fails why true bytes late other none = subst (λ w. FailsNext w bytes) (sym (late refl)) none
source_fails why false bytes late other none = subst (λ w. FailsNext w bytes) (sym (other not_false)) none

pub sink_says : (why : SendFault) (ended read_failed read_timed_out failed timed_out : Bool) → IsTrue failed → (IsTrue timed_out → why ≡ fault.TimedOut)
    → (¬ IsTrue timed_out → why ≡ fault.WriteFault) → DevicesSay (devices ended read_failed read_timed_out failed timed_out) why
sink_says why ended read_failed read_timed_out failed true h late other =
    subst (DevicesSay (devices ended read_failed read_timed_out failed true)) (sym (late refl)) (inr (h, refl))
sink_says why ended read_failed read_timed_out failed false h late other =
    subst (DevicesSay (devices ended read_failed read_timed_out failed false)) (sym (other not_false)) (h, not_false)

some_left : (xs : List ℕ) (n : ℕ) → n < length xs → drop n xs ≢ []
some_left [] n few = absurd (omega (arith, few))
some_left (x ∷ xs) zero few = λ e. cc
some_left (x ∷ xs) (suc n) few = some_left xs n (omega (arith, few))

of_sink : (why : SendFault) (timed_out : Bool) → (IsTrue timed_out → why ≡ fault.TimedOut) → (¬ IsTrue timed_out → why ≡ fault.WriteFault) → IsOfSink why
of_sink why true late other = subst IsOfSink (sym (late refl)) tt
of_sink why false late other = subst IsOfSink (sym (other not_false)) tt

-- Not all requests went out.
pub begun : (why : SendFault) (timed_out : Bool) (came before after : Option (List ℕ)) (all : List ℕ) (n : ℕ) → n < length all → Appends before after (take n all)
    → (IsTrue timed_out → why ≡ fault.TimedOut) → (¬ IsTrue timed_out → why ≡ fault.WriteFault)
    → (out : List ℕ) × (unsent : List ℕ) × (bytes : List ℕ) × Appends before after out × (all ≡ out ++ unsent) × Consumes came came bytes × FailsToAsk why unsent bytes
begun why timed_out came before after all n few put late other =
    (take n all, drop n all, [], put, sym (take-append-drop n all), Consumes-nil came, inl (some_left all n few, refl, of_sink why timed_out late other))

-- ## The next status byte

-- So far nothing but such answers was read, and a half answer.
pub none_yet : (before half : List ℕ) → ArePassedOver before → (half ≡ []) ⊎ HalfAnswer half → NoneYet (before ++ half) half
none_yet before half m h = (before, m, refl, h)

-- A byte that continues no answer.
pub bad_next : (why : SendFault) (before half : List ℕ) (byte : ℕ) → why ≡ fault.BadAnswer → ArePassedOver before → (half ≡ []) ⊎ HalfAnswer half
    → length (before ++ half) < 16384 → (ViableAnswer (half ++ byte ∷ []) → ⊥) → FailsNext why ((before ++ half) ++ byte ∷ [])
bad_next why before half byte is m h few misfit =
    subst (λ w. FailsNext w ((before ++ half) ++ byte ∷ [])) (sym is) (before ++ half, half, byte, none_yet before half m h, few, refl, misfit)

-- The length of what was read with one more byte.
pub one_longer : (before half : List ℕ) (byte : ℕ) → length ((before ++ half) ++ byte ∷ []) ≡ length (before ++ half) + 1
one_longer before half byte = length-append (before ++ half) (byte ∷ [])

-- ## The four status bytes, one after another

-- These status bytes were told so far.
abbrev pub ToldSoFar : Option (List ℕ) → Option (List ℕ) → List ℕ → Type 0
ToldSoFar came rest told = (early : List ℕ) × Consumes came rest early × TellsEach early told

pub none_told : (a : Option (List ℕ)) → ToldSoFar a a []
none_told a = ([], Consumes-nil a, refl)

told_one_more : (early more told : List ℕ) (status : ℕ) → TellsEach early told → TellsNext more status → TellsEach (early ++ more) (told ++ status ∷ [])
told_one_more early more [] status e next = (more, [], ap (λ bs. bs ++ more) e ∙ sym (append-nil more), next, refl)
told_one_more early more (s ∷ told) status (first, rest, e, tells, on) next =
    (first, rest ++ more, ap (λ bs. bs ++ more) e ∙ append_assoc first rest more, tells, told_one_more rest more told status on next)

pub one_more : (a b c : Option (List ℕ)) (told : List ℕ) (status : ℕ) → ToldSoFar a b told → (bytes : List ℕ) × Consumes b c bytes × TellsNext bytes status
    → ToldSoFar a c (told ++ status ∷ [])
one_more a b c told status (early, h, tells) (more, k, next) = (early ++ more, Consumes-trans a b c early more h k, told_one_more early more told status tells next)

-- No further one came.
pub no_further : (why : SendFault) (a b c before after : Option (List ℕ)) (all told : List ℕ) → Appends before after all → ToldSoFar a b told → length told < 4
    → (late : List ℕ) × Consumes b c late × FailsNext why late
    → (out : List ℕ) × (unsent : List ℕ) × (bytes : List ℕ) × Appends before after out × (all ≡ out ++ unsent) × Consumes a c bytes × FailsToAsk why unsent bytes
no_further why a b c before after all told put (early, h, tells) few (late, k, fails) =
    (all, [], early ++ late, put, sym (append-nil all), Consumes-trans a b c early late h k, inr (refl, (told, early, late, refl, tells, few, fails)))

-- The four status bytes.
pub all_told : (a b c d e : Option (List ℕ)) (first second third fourth : ℕ) → (x : List ℕ) × Consumes a b x × TellsNext x first → (x : List ℕ) × Consumes b c x × TellsNext x second
    → (x : List ℕ) × Consumes c d x × TellsNext x third → (x : List ℕ) × Consumes d e x × TellsNext x fourth
    → (bytes : List ℕ) × Consumes a e bytes × TellsStatus bytes (record { printer = first; offline = second; error = third; paper = fourth })
all_told a b c d e first second third fourth (w, hw, tw) (x, hx, tx) (y, hy, ty) (z, hz, tz) = (
  w ++ x ++ y ++ z,
  Consumes-trans a d e (w ++ x ++ y) z (Consumes-trans a c d (w ++ x) y (Consumes-trans a b c w x hw hx) hy) hz,
  record { first = w; second = x; third = y; fourth = z; whole = refl; printer = tw; offline = tx; error = ty; paper = tz },
)
