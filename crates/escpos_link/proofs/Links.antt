-- Links on which openings alone were put, and links that are in step: what is left of them when a part was delivered, when the printer leaves
-- one, when the host gives one up, and when one more command is put.
use Rattle.std.proofs.Common.{◌≡◌, ◌⊎◌, ◌≤◌, ◌+◌, arith, inl, inr, ℕ, List, [], ◌∷◌, ◌++◌, refl, sym, ◌∙◌, ap, subst, append-nil, append_assoc, IsTrue}
use Rattle.std.specs.List.{AllByRecursion}
use Rattle.escpos_command.specs.declared.command.Command.{Command}
use Rattle.escpos_command.specs.declared.command.Command.TheVariants as kind
use Rattle.escpos_command.specs.CommandTable.{AreCommands, row, spell}
use Rattle.escpos_host.specs.Counted.{id_of}
use Rattle.escpos_command.specs.Grammar.{Reads}
use Rattle.escpos_command.specs.Marks.{marks}
use Rattle.escpos_command.specs.Parameters.{is_mark_id}
use Rattle.escpos_host.specs.Machine.{ask_reports}
use Rattle.escpos_link.specs.Ways.{Fresh, FreshOf, GivenUp, IsOpener, IsRest, LateOf, Later, Newest, Row, ServedLink, Unread, UnreadOf}
use Rattle.escpos_link.proofs.Aligning.{OfReadings, marks_append, may_turn, reads_all}
use Rattle.escpos_link.proofs.Numbers.{row_back, row_empty, row_from, row_join, row_split, row_within}

-- ## A part is delivered

-- Where something is said of the ids of marks, it holds of the last ones too.
abbrev pub OfTails : (List (List ℕ) → Type 0) → Type 0
OfTails K = (xs ys : List (List ℕ)) → K (xs ++ ys) → K ys

abbrev pub StillOrTurned : (List (List ℕ) → Type 0) → List ℕ → List ℕ → List Command → Type 0
StillOrTurned K next stream cs =
    ((marks cs ≡ []) × UnreadOf K next stream) ⊎ ((others : List Command) × Reads (next ++ stream) others [] × K (marks cs ++ marks others))

pub unread_on : OfReadings → (K : List (List ℕ) → Type 0) → OfTails K → (half piece stream next : List ℕ) (cs : List Command) → UnreadOf K half (piece ++ stream) → Reads (half ++ piece) cs next
    → StillOrTurned K next stream cs
unread_on below K tails half piece stream next cs u reads =
    let all = u.delivered ++ piece in
    let spelled : all ++ stream ≡ spell u.openers = append_assoc u.delivered piece stream ∙ u.spelled in
    let whole = subst (λ v. Reads v (u.commands ++ cs) next) (append_assoc u.older u.delivered piece)
    (below.reading (u.older ++ u.delivered) piece u.commands cs half next u.reads reads) in
    let both : marks (u.commands ++ cs) ≡ marks cs = marks_append u.commands cs ∙ ap (λ v. v ++ marks cs) u.no_mark in
    elim (may_turn below u.openers u.opening u.older all stream (u.commands ++ cs) next u.pending spelled whole) [
      | inl none ↦ inl (
        sym both ∙ none,
        record {
          older = u.older;
          delivered = all;
          openers = u.openers;
          commands = u.commands ++ cs;
          pending = u.pending;
          opening = u.opening;
          known = u.known;
          spelled = spelled;
          reads = whole;
          no_mark = none;
        },
      )
      | inr (others, missed, goes, are) ↦
          inr (others, goes, tails missed (marks cs ++ marks others) (subst K (are ∙ ap (λ v. missed ++ (v ++ marks others)) both) u.known))
    ]

pub row_tails : (from to : ℕ) → OfTails (Row from to)
row_tails from to xs ys k = row_back from to xs ys k

-- What the printer serves after a part of it was delivered, and the marks that were run.
abbrev pub ServedOn : ℕ → ℕ → List ℕ → List ℕ → List Command → Type 0
ServedOn from to next bytes cs = (mid : ℕ) × Row from mid (marks cs) × ServedLink mid to next bytes

served_unread : OfReadings → (from to : ℕ) (half piece bytes more next : List ℕ) (cs : List Command) → StillOrTurned (Row from to) next (bytes ++ more) cs
    → ServedOn from to next bytes cs
served_unread below from to half piece bytes more next cs (inl (none, u)) =
    let same : from ≤ from = omega arith in (from, subst (Row from from) (sym none) same, (more, inl u))
served_unread below from to half piece bytes more next cs (inr (others, goes, known)) =
    let r = row_split from to (marks cs) (marks others) known in (r.0, r.1, (more, inr (record { due = others; aligned = goes; known = r.2 })))

pub served_on : OfReadings → (from to : ℕ) (half piece bytes next : List ℕ) (cs : List Command) → ServedLink from to half (piece ++ bytes) → Reads (half ++ piece) cs next
    → ServedOn from to next bytes cs
served_on below from to half piece bytes next cs (more, inl u) reads =
    served_unread below from to half piece bytes more next cs
    (unread_on below (Row from to) (row_tails from to) half piece (bytes ++ more) next cs (subst (Unread from to half) (append_assoc piece bytes more) u) reads)
served_on below from to half piece bytes next cs (more, inr i) reads =
    let all : half ++ ((piece ++ bytes) ++ more) ≡ (half ++ piece) ++ (bytes ++ more) =
    ap (λ v. half ++ v) (append_assoc piece bytes more) ∙ sym (append_assoc half piece (bytes ++ more)) in
    let c = below.cut (half ++ piece) (bytes ++ more) i.due cs next (subst (λ v. Reads v i.due []) all i.aligned) reads in
    let r = row_split from to (marks cs) (marks c.0) (subst (Row from to) (ap marks c.1 ∙ marks_append cs c.0) i.known) in
    (r.0, r.1, (more, inr (record { due = c.0; aligned = c.2; known = r.2 })))

-- ## The printer comes to a link

pub fresh_unread : (K : List (List ℕ) → Type 0) (half stream : List ℕ) → IsRest half → FreshOf K stream → UnreadOf K half stream
fresh_unread K half stream rest (openers, opening, known, is) = record {
  older = half;
  delivered = [];
  openers = openers;
  commands = [];
  pending = rest;
  opening = opening;
  known = known;
  spelled = is;
  reads = record { commands = tt; whole = append-nil half; rest_is = rest };
  no_mark = refl;
}

pub given_next : (from to : ℕ) (half : List ℕ) (others : List (List ℕ)) → IsRest half → Later from to others → GivenUp from to half others
given_next from to half [] rest later = later
given_next from to half (bytes ∷ others) rest (mid, (more, fresh), later) =
    (mid, (more, inl (fresh_unread (Row from mid) half (bytes ++ more) rest fresh)), later)

pub newest_next : (from to : ℕ) (half : List ℕ) (others : List (List ℕ)) (stream : List ℕ) → IsRest half → Fresh from to stream → Newest from to half others stream
newest_next from to half [] stream rest fresh = fresh_unread (Row from to) half stream rest fresh
newest_next from to half (bytes ∷ others) stream rest fresh = fresh

-- ## Wider ranges

pub fresh_as : (K L : List (List ℕ) → Type 0) → ((ids : List (List ℕ)) → K ids → L ids) → (stream : List ℕ) → FreshOf K stream → FreshOf L stream
fresh_as K L so stream (openers, opening, known, is) = (openers, opening, so (marks openers) known, is)

pub unread_as : (K L : List (List ℕ) → Type 0) → ((ids : List (List ℕ)) → K ids → L ids) → (half stream : List ℕ) → UnreadOf K half stream → UnreadOf L half stream
unread_as K L so half stream u = record {
  older = u.older;
  delivered = u.delivered;
  openers = u.openers;
  commands = u.commands;
  pending = u.pending;
  opening = u.opening;
  known = so (marks u.openers) u.known;
  spelled = u.spelled;
  reads = u.reads;
  no_mark = u.no_mark;
}

served_from : (m n to : ℕ) (half bytes : List ℕ) → m ≤ n → ServedLink n to half bytes → ServedLink m to half bytes
served_from m n to half bytes less (rest, inl u) = (rest, inl (unread_as (Row n to) (Row m to) (λ ids k. row_from m n to ids less k) half (bytes ++ rest) u))
served_from m n to half bytes less (rest, inr i) =
    (rest, inr (record { due = i.due; aligned = i.aligned; known = row_from m n to (marks i.due) less i.known }))

later_from : (m n to : ℕ) (others : List (List ℕ)) → m ≤ n → Later n to others → Later m to others
later_from m n to [] less later = omega (arith, less, later)
later_from m n to (bytes ∷ others) less (mid, (more, fresh), later) =
    (mid, (more, fresh_as (Row n mid) (Row m mid) (λ ids k. row_from m n mid ids less k) (bytes ++ more) fresh), later)

pub given_from : (m n to : ℕ) (half : List ℕ) (ended : List (List ℕ)) → m ≤ n → GivenUp n to half ended → GivenUp m to half ended
given_from m n to half [] less given = omega (arith, less, given)
given_from m n to half (bytes ∷ others) less (mid, served, later) = (mid, served_from m n mid half bytes less served, later)

later_to : (from m n : ℕ) (others : List (List ℕ)) → m ≤ n → Later from m others → Later from n others
later_to from m n [] more later = omega (arith, more, later)
later_to from m n (bytes ∷ others) more (mid, late, later) = (mid, late, later_to mid m n others more later)

pub given_to : (from m n : ℕ) (half : List ℕ) (ended : List (List ℕ)) → m ≤ n → GivenUp from m half ended → GivenUp from n half ended
given_to from m n half [] more given = omega (arith, more, given)
given_to from m n half (bytes ∷ others) more (mid, served, later) = (mid, served, later_to mid m n others more later)

pub later_within : (from to : ℕ) (others : List (List ℕ)) → Later from to others → from ≤ to
later_within from to [] later = later
later_within from to (bytes ∷ others) (mid, (more, (openers, opening, known, is)), later) =
    let a = row_within from mid (marks openers) known in let b = later_within mid to others later in omega (arith, a, b)

pub served_within : (from to : ℕ) (half bytes : List ℕ) → ServedLink from to half bytes → from ≤ to
served_within from to half bytes (more, inl u) = row_within from to (marks u.openers) u.known
served_within from to half bytes (more, inr i) = row_within from to (marks i.due) i.known

pub given_within : (from to : ℕ) (half : List ℕ) (ended : List (List ℕ)) → GivenUp from to half ended → from ≤ to
given_within from to half [] given = given
given_within from to half (bytes ∷ others) (mid, served, later) =
    let a = served_within from mid half bytes served in let b = later_within mid to others later in omega (arith, a, b)

-- ## Links without a mark that may still be answered

served_empty : (a b j : ℕ) (half bytes : List ℕ) → b ≤ a → ServedLink a b half bytes → ServedLink j j half bytes
served_empty a b j half bytes none (rest, inl u) = (rest, inl (unread_as (Row a b) (Row j j) (λ ids k. row_empty a b j ids none k) half (bytes ++ rest) u))
served_empty a b j half bytes none (rest, inr i) = (rest, inr (record { due = i.due; aligned = i.aligned; known = row_empty a b j (marks i.due) none i.known }))

later_empty : (a b j : ℕ) (others : List (List ℕ)) → b ≤ a → Later a b others → Later j j others
later_empty a b j [] none later = omega arith
later_empty a b j (bytes ∷ others) none (mid, (more, (openers, opening, known, is)), later) =
    let from = row_within a mid (marks openers) known in
    let to = later_within mid b others later in (
      j,
      (more, (openers, opening, row_empty a mid j (marks openers) (omega (arith, to, none)) known, is)),
      later_empty mid b j others (omega (arith, from, none)) later,
    )

pub given_empty : (a b j : ℕ) (half : List ℕ) (ended : List (List ℕ)) → b ≤ a → GivenUp a b half ended → GivenUp j j half ended
given_empty a b j half [] none given = omega arith
given_empty a b j half (bytes ∷ others) none (mid, served, later) =
    let from = served_within a mid half bytes served in
    let to = later_within mid b others later in
    (j, served_empty a mid j half bytes (omega (arith, to, none)) served, later_empty mid b j others (omega (arith, from, none)) later)

-- The printer comes to the next of them.
pub given_skip : (from to : ℕ) (half rest bytes : List ℕ) (others : List (List ℕ)) → IsRest rest → GivenUp from to half (bytes ∷ others) → GivenUp from to rest others
given_skip from to half rest bytes others is (mid, served, later) =
    given_next from to rest others is (later_from from mid to others (served_within from mid half bytes served) later)

-- ## The host gives a link up

pub late_add : {X : Type 0} (P : X → Type 0) (others : List X) (bytes : X) → AllByRecursion P others → P bytes → AllByRecursion P (others ++ bytes ∷ [])
late_add P [] bytes late one = (one, tt)
late_add P (x ∷ others) bytes late one = (late.0, late_add P others bytes late.1 one)

later_add : (from mid to : ℕ) (others : List (List ℕ)) (bytes : List ℕ) → Later from mid others → LateOf (Row mid to) bytes → Later from to (others ++ bytes ∷ [])
later_add from mid to [] bytes later (more, fresh) =
    let same : to ≤ to = omega arith in (to, (more, fresh_as (Row mid to) (Row from to) (λ ids k. row_from from mid to ids later k) (bytes ++ more) fresh), same)
later_add from mid to (x ∷ others) bytes (k, late, later) one = (k, late, later_add k mid to others bytes later one)

pub given_add : (from first to : ℕ) (half : List ℕ) (ended : List (List ℕ)) (bytes out : List ℕ) → GivenUp from first half ended → Newest first to half ended (bytes ++ out)
    → GivenUp from to half (ended ++ bytes ∷ [])
given_add from first to half [] bytes out given newest =
    let same : to ≤ to = omega arith in
    (to, (out, inl (unread_as (Row first to) (Row from to) (λ ids k. row_from from first to ids given k) half (bytes ++ out) newest)), same)
given_add from first to half (x ∷ others) bytes out (mid, served, later) newest = (mid, served, later_add mid first to others bytes later (out, newest))

-- ## One more command

spell_add : (openers : List Command) (c : Command) → spell openers ++ row c ≡ spell (openers ++ c ∷ [])
spell_add [] c = sym (append-nil (row c))
spell_add (x ∷ openers) c = append_assoc (row x) (spell openers) (row c) ∙ ap (λ v. row x ++ v) (spell_add openers c)

-- Where something is said of the ids of marks, this is said with one more command.
abbrev pub Grows : (List (List ℕ) → Type 0) → (List (List ℕ) → Type 0) → Command → Type 0
Grows K L c = (ids : List (List ℕ)) → K ids → L (ids ++ marks (c ∷ []))

pub unread_add : (K L : List (List ℕ) → Type 0) (half stream : List ℕ) (c : Command) → IsOpener c → Grows K L c → UnreadOf K half stream → UnreadOf L half (stream ++ row c)
unread_add K L half stream c one grows u = record {
  older = u.older;
  delivered = u.delivered;
  openers = u.openers ++ c ∷ [];
  commands = u.commands;
  pending = u.pending;
  opening = late_add IsOpener u.openers c u.opening one;
  known = subst L (sym (marks_append u.openers (c ∷ []))) (grows (marks u.openers) u.known);
  spelled = sym (append_assoc u.delivered stream (row c)) ∙ ap (λ v. v ++ row c) u.spelled ∙ spell_add u.openers c;
  reads = u.reads;
  no_mark = u.no_mark;
}

pub fresh_add : (K L : List (List ℕ) → Type 0) (stream : List ℕ) (c : Command) → IsOpener c → Grows K L c → FreshOf K stream → FreshOf L (stream ++ row c)
fresh_add K L stream c one grows (openers, opening, known, is) = (
  openers ++ c ∷ [],
  late_add IsOpener openers c opening one,
  subst L (sym (marks_append openers (c ∷ []))) (grows (marks openers) known),
  ap (λ v. v ++ row c) is ∙ spell_add openers c,
)

row_add : (from to : ℕ) (id : List ℕ) → id_of to ≡ id → Grows (Row from to) (Row from (to + 1)) (kind.Mark id)
row_add from to id mark ids k = let least : to ≤ to = omega arith in let most : to + 1 ≤ to + 1 = omega arith in row_join from to (to + 1) ids (id ∷ []) k (to, least, mark, most)

pub newest_add : (from to : ℕ) (half : List ℕ) (ended : List (List ℕ)) (stream id : List ℕ) → IsTrue (is_mark_id id) → id_of to ≡ id → Newest from to half ended stream
    → Newest from (to + 1) half ended (stream ++ row (kind.Mark id))
newest_add from to half [] stream id ok mark u = unread_add (Row from to) (Row from (to + 1)) half stream (kind.Mark id) (inl (id, refl, ok)) (row_add from to id mark) u
newest_add from to half (bytes ∷ others) stream id ok mark fresh =
    fresh_add (Row from to) (Row from (to + 1)) stream (kind.Mark id) (inl (id, refl, ok)) (row_add from to id mark) fresh

-- What a link begins with: a mark, after a request for automatic status or without one.
pub mark_fresh : (K : List (List ℕ) → Type 0) (id : List ℕ) → IsTrue (is_mark_id id) → K (id ∷ []) → FreshOf K (row (kind.Mark id))
mark_fresh K id ok one = (kind.Mark id ∷ [], (inl (id, refl, ok), tt), one, sym (append-nil (row (kind.Mark id))))

pub request_fresh : (K : List (List ℕ) → Type 0) (id : List ℕ) → IsTrue (is_mark_id id) → K (id ∷ []) → FreshOf K (row ask_reports ++ row (kind.Mark id))
request_fresh K id ok one =
    (ask_reports ∷ kind.Mark id ∷ [], (inr refl, (inl (id, refl, ok), tt)), one, ap (λ v. row ask_reports ++ v) (sym (append-nil (row (kind.Mark id)))))

-- ## Commands put on a link that is in step

pub step_add : OfReadings → (half bytes out : List ℕ) (due cs : List Command) → Reads (half ++ (bytes ++ out)) due [] → AreCommands cs
    → Reads (half ++ (bytes ++ (out ++ spell cs))) (due ++ cs) []
step_add below half bytes out due cs reads are =
    let all : (half ++ (bytes ++ out)) ++ spell cs ≡ half ++ (bytes ++ (out ++ spell cs)) =
    append_assoc half (bytes ++ out) (spell cs) ∙ ap (λ v. half ++ v) (append_assoc bytes out (spell cs)) in
    subst (λ v. Reads v (due ++ cs) []) all (below.reading (half ++ (bytes ++ out)) (spell cs) due cs [] [] reads (reads_all cs are))
