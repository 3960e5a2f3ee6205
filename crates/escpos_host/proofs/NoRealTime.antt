-- No real-time command stands in what a host says, but in its requests.
use Rattle.std.proofs.Common.{ℕ, zero, suc, ◌≡◌, ◌⊎◌, inl, inr, ◌+◌, Bool, true, false, List, [], ◌∷◌, ◌++◌, length, refl, sym, ◌∙◌, subst, append-nil, append_assoc, arith}
use Rattle.std.specs.List.{AllByRecursion, flat_map, list_all}
use Rattle.std.specs.Prelude.{IsTrue, ◌==◌, ◌&&◌}
use Rattle.std.proofs.lemmas.Bool.Decides.{nat_tests}
use Rattle.std.proofs.lemmas.Grind.{flat_map-append}
use Rattle.escpos_command.specs.declared.bytes.TheConstants.{DLE}
use Rattle.escpos_command.specs.declared.command.Command.{Command}
use Rattle.escpos_command.specs.declared.command.Command.TheVariants as kind
use Rattle.escpos_command.specs.CommandTable.{AreCommands, IsCommand, row, spell}
use Rattle.escpos_host.specs.Counted.{id_of}
use Rattle.escpos_command.specs.Parameters.{is_mark_byte, is_mark_id}
use Rattle.escpos_real_time.specs.RealTime.{HoldsRealTime}
use Rattle.escpos_real_time.specs.Scan.{holds}
use Rattle.escpos_real_time.proofs.Holding.{finds, skip, within}
use Rattle.escpos_real_time.proofs.Starts.{command_starts, held_by_one}
use Rattle.escpos_receipt.specs.Whole.{HoldNoRealTime}
use Rattle.escpos_receipt.proofs.RealTimes.{none_in, said as holding}
use Rattle.escpos_host.specs.Machine.{HostView, InFlight, Phase, Down, Opening, Open, ask_reports}
use Rattle.escpos_host.specs.Says.{Asked, AskedReports, HasNoRequest, IsBeginning, IsPart, IsRequest, IsSent, Part, SaysIn, Sent, Talks, framed, marks_from, said_by}

-- Each mark with a number is a command.
abbrev pub Ids : Type 0
Ids = (n : ℕ) → IsTrue (is_mark_id (id_of n))

pub all_of_both : (some others : List Command) → AreCommands some → AreCommands others → AreCommands (some ++ others)
all_of_both [] others all more = more
all_of_both (c ∷ some) others all more = (all.0, all_of_both some others all.1 more)

pub openings_in_range : Ids → (count first : ℕ) → AreCommands (marks_from count first)
openings_in_range ids zero first = tt
openings_in_range ids (suc count) first = (ids first, openings_in_range ids count (first + 1))

pub nothing_held : HoldsRealTime [] → ⊥
nothing_held held = absurd (let bad : false ≡ true = finds [] held in cc)

no_mark_byte : (b : ℕ) → IsTrue (is_mark_byte b) → (b == DLE) ≡ false
no_mark_byte b is = grind (arith, nat_tests)

both_true : (a b : Bool) → IsTrue (a && b) → IsTrue a × IsTrue b
both_true true b is = (refl, is)
both_true false b is = absurd (let bad : false ≡ true = is in cc)

id_holds_none : (id : List ℕ) → IsTrue (list_all is_mark_byte id) → holds id ≡ false
id_holds_none [] are = refl
id_holds_none (b ∷ bs) are =
    let (first, others) = both_true (is_mark_byte b) (list_all is_mark_byte bs) are in
    skip b bs (no_mark_byte b first) ∙ id_holds_none bs others

pub mark_holds_none : (id : List ℕ) → IsTrue (is_mark_id id) → HoldsRealTime (row (kind.Mark id)) → ⊥
mark_holds_none id is held =
    let spelled : row (kind.Mark id) ≡ 0x1D ∷ 0x28 ∷ 0x48 ∷ 0x06 ∷ 0 ∷ 0x30 ∷ 0x30 ∷ id = simp append-nil in
    let none : holds (0x1D ∷ 0x28 ∷ 0x48 ∷ 0x06 ∷ 0 ∷ 0x30 ∷ 0x30 ∷ id) ≡ false =
    skip 0x1D (0x28 ∷ 0x48 ∷ 0x06 ∷ 0 ∷ 0x30 ∷ 0x30 ∷ id) refl ∙ skip 0x28 (0x48 ∷ 0x06 ∷ 0 ∷ 0x30 ∷ 0x30 ∷ id) refl ∙ skip 0x48 (0x06 ∷ 0 ∷ 0x30 ∷ 0x30 ∷ id) refl
    ∙ skip 0x06 (0 ∷ 0x30 ∷ 0x30 ∷ id) refl ∙ skip 0 (0x30 ∷ 0x30 ∷ id) refl ∙ skip 0x30 (0x30 ∷ id) refl ∙ skip 0x30 id refl
    ∙ id_holds_none id (both_true (length id == 4) (list_all is_mark_byte id) is).1 in
    absurd (let bad : true ≡ false = sym (finds (0x1D ∷ 0x28 ∷ 0x48 ∷ 0x06 ∷ 0 ∷ 0x30 ∷ 0x30 ∷ id) (subst HoldsRealTime spelled held)) ∙ none in cc)

-- Where none stands in some commands, nor in others, none stands in all of them.
pub held_by_either : (some others : List Command) → AreCommands others → HoldsRealTime (spell (some ++ others)) → HoldsRealTime (spell some) ⊎ HoldsRealTime (spell others)
held_by_either some [] known held = inl (subst (λ cs. HoldsRealTime (spell cs)) (append-nil some) held)
held_by_either some (c ∷ cs) known held =
    elim (held_by_either (some ++ c ∷ []) cs known.1 (subst (λ all. HoldsRealTime (spell all)) (sym (append_assoc some (c ∷ []) cs)) held)) [
      | inl front ↦ elim (held_by_one some c (command_starts c known.0) front) [
        | inl before ↦ inl before
        | inr here ↦ inr (within [] (row c) (spell cs) here)
      ]
      | inr later ↦ inr (subst (λ bytes. HoldsRealTime (row c ++ bytes)) (append-nil (spell cs)) (within (row c) (spell cs) [] later))
    ]

pub joined_hold_none : (some others : List Command) → AreCommands others → HoldNoRealTime some → HoldNoRealTime others → HoldNoRealTime (some ++ others)
joined_hold_none some others known none more = holding (some ++ others) (λ held. elim (held_by_either some others known held) [
  | inl front ↦ none_in some none front
  | inr later ↦ none_in others more later
])

pub one_mark_holds_none : Ids → (n : ℕ) → HoldNoRealTime (kind.Mark (id_of n) ∷ [])
one_mark_holds_none ids n =
    holding (kind.Mark (id_of n) ∷ []) (λ held. mark_holds_none (id_of n) (ids n) (subst HoldsRealTime (append-nil (row (kind.Mark (id_of n)))) held))

pub openings_hold_none : Ids → (count first : ℕ) → HoldNoRealTime (marks_from count first)
openings_hold_none ids zero first = holding [] nothing_held
openings_hold_none ids (suc count) first =
    joined_hold_none (kind.Mark (id_of first) ∷ []) (marks_from count (first + 1)) (openings_in_range ids count (first + 1)) (one_mark_holds_none ids first)
    (openings_hold_none ids count (first + 1))

pub init_holds_none : HoldNoRealTime (kind.Init ∷ [])
init_holds_none = holding (kind.Init ∷ []) (λ held. absurd (let bad : false ≡ true = finds (0x1B ∷ 0x40 ∷ []) held in cc))

pub reports_hold_none : HoldNoRealTime (ask_reports ∷ [])
reports_hold_none = holding (ask_reports ∷ []) (λ held. absurd (let bad : false ≡ true = finds (0x1D ∷ 0x61 ∷ 0x0E ∷ []) held in cc))

-- A receipt between its Init and its closing mark.
pub sent_holds_none : Ids → (receipt : List Command) (n : ℕ) → AreCommands receipt → HoldNoRealTime receipt
    → HoldNoRealTime (kind.Init ∷ (receipt ++ kind.Mark (id_of n) ∷ []))
sent_holds_none ids receipt n known none =
    joined_hold_none (kind.Init ∷ []) (receipt ++ kind.Mark (id_of n) ∷ []) (all_of_both receipt (kind.Mark (id_of n) ∷ []) known (ids n, tt)) init_holds_none
    (joined_hold_none receipt (kind.Mark (id_of n) ∷ []) (ids n, tt) none (one_mark_holds_none ids n))

-- ## But in its requests

-- Where the command holds one, it is a request.
abbrev IsQuiet : Command → Type 0
IsQuiet c = HoldsRealTime (row c) → IsRequest c

all_of : {X : Type 0} (P : X → Type 0) (xs ys : List X) → AllByRecursion P (xs ++ ys) → AllByRecursion P xs × AllByRecursion P ys
all_of P [] ys all = (tt, all)
all_of P (x ∷ xs) ys all = let (first, others) = all_of P xs ys all.1 in ((all.0, first), others)

both : {X : Type 0} (P : X → Type 0) (xs ys : List X) → AllByRecursion P xs → AllByRecursion P ys → AllByRecursion P (xs ++ ys)
both P [] ys all more = more
both P (x ∷ xs) ys all more = (all.0, both P xs ys all.1 more)

mark_quiet : Ids → (n : ℕ) → IsQuiet (kind.Mark (id_of n))
mark_quiet ids n held = absurd (mark_holds_none (id_of n) (ids n) held)

reports_quiet : IsQuiet ask_reports
reports_quiet held = absurd (let bad : false ≡ true = finds (0x1D ∷ 0x61 ∷ 0x0E ∷ []) held in cc)

marks_quiet : Ids → (count first : ℕ) → AllByRecursion IsQuiet (marks_from count first)
marks_quiet ids zero first = tt
marks_quiet ids (suc count) first = (mark_quiet ids first, marks_quiet ids count (first + 1))

opening_quiet : Ids → (count first : ℕ) (said : List Command) → IsBeginning count first said → AllByRecursion IsQuiet said
opening_quiet ids count first said (inl marks) = subst (AllByRecursion IsQuiet) (sym marks) (marks_quiet ids count first)
opening_quiet ids count first said (inr marks) = subst (AllByRecursion IsQuiet) (sym marks) (reports_quiet, marks_quiet ids count first)

-- The commands of a receipt hold none, since its bytes hold none.
each_quiet : (before cs : List Command) → (HoldsRealTime (spell (before ++ cs)) → ⊥) → AllByRecursion IsQuiet cs
each_quiet before [] none = tt
each_quiet before (c ∷ cs) none = (
  λ held. absurd (none (subst HoldsRealTime (sym (flat_map-append row before (c ∷ cs))) (within (spell before) (row c) (spell cs) held))),
  each_quiet (before ++ c ∷ []) cs (λ held. none (subst (λ all. HoldsRealTime (spell all)) (append_assoc before (c ∷ []) cs) held)),
)

sent_quiet : Ids → (p : InFlight) → IsSent p → AllByRecursion IsQuiet (framed p)
sent_quiet ids p (whole, is) = (
  λ held. absurd (let bad : false ≡ true = finds (row kind.Init) held in cc),
  both IsQuiet p.receipt (kind.Mark p.mark ∷ []) (each_quiet [] p.receipt (none_in p.receipt whole.no_real_time)) (subst (λ id. IsQuiet (kind.Mark id)) (sym is) (mark_quiet ids p.number), tt),
)

part_quiet : Ids → (part : Part) → IsPart part → AllByRecursion IsQuiet (said_by part)
part_quiet ids (Asked n) is = (λ held. tt, tt)
part_quiet ids AskedReports is = (reports_quiet, tt)
part_quiet ids (Sent p) is = sent_quiet ids p is

parts_quiet : {X : Type 0} (P : X → Type 0) (says : X → List Command) (xs : List X) → ((x : X) → P x → AllByRecursion IsQuiet (says x)) → AllByRecursion P xs
    → AllByRecursion IsQuiet (flat_map says xs)
parts_quiet P says [] each all = tt
parts_quiet P says (x ∷ xs) each all = both IsQuiet (says x) (flat_map says xs) (each x all.0) (parts_quiet P says xs each all.1)

said_quiet : Ids → (phase : Phase) (next : ℕ) (said : List Command) → SaysIn phase next said → AllByRecursion IsQuiet said
said_quiet ids Down next said says = absurd says
said_quiet ids (Opening first) next said (count, is_next, is_said) = opening_quiet ids (suc count) first said is_said
said_quiet ids (Open flight) next said (first, count, opening, parts, opens, each, sent, is_said) =
    subst (AllByRecursion IsQuiet) (sym is_said)
    (both IsQuiet (opening ++ flat_map said_by parts) (flat_map framed flight)
    (both IsQuiet opening (flat_map said_by parts) (opening_quiet ids (suc count) first opening opens) (parts_quiet IsPart said_by parts (part_quiet ids) each))
    (parts_quiet IsSent framed flight (sent_quiet ids) sent))

-- Commands that hold none, but for requests, hold none where there is no request.
none_between : (cs : List Command) → AreCommands cs → AllByRecursion IsQuiet cs → HasNoRequest cs → HoldsRealTime (spell cs) → ⊥
none_between [] known quiet none held = nothing_held held
none_between (c ∷ cs) known quiet none held = elim (held_by_either (c ∷ []) cs known.1 held) [
  | inl here ↦ none.0 (quiet.0 (subst HoldsRealTime (append-nil (row c)) here))
  | inr later ↦ none_between cs known.1 quiet.1 none.1 later
]

pub between_requests : Ids → (h : HostView) (out : List ℕ) (said before middle following : List Command) → Talks h out said → AreCommands said → said ≡ before ++ (middle ++ following)
    → HasNoRequest middle → HoldsRealTime (spell middle) → ⊥
between_requests ids h out said before middle following talks known is none held =
    let quiet = (all_of IsQuiet before (middle ++ following) (subst (AllByRecursion IsQuiet) is (said_quiet ids h.phase h.next said talks.says))).1 in
    let right = (all_of IsCommand before (middle ++ following) (subst AreCommands is known)).1 in
    none_between middle (all_of IsCommand middle following right).0 (all_of IsQuiet middle following quiet).0 none held
