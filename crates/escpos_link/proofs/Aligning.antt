-- Alignment: once a mark of a link was run, what is run from there on is what the host put after it.
--
-- A printer may come to a link with a half command of an older one, and so takes the first bytes of the new link for the
-- rest of that: a raster may swallow a hundred marks. But only marks are put on a link before one of them is answered, and a request
-- for automatic status, which is never read as a mark either.
-- Whatever stood before a mark, a prefix of it is read as no mark at all, unless nothing stood before it and it was read
-- whole, at its own place. That is what resynchronisation says of one mark, because the byte 1D begins a mark and stands
-- nowhere else in it. So take the marks that were put on a link, one after another. As long as none was run, each was read
-- after some half command and leaves one, which the next mark comes after. If one was run, nothing stood before it and
-- nothing is left of it; and then the next bytes are the first ones of the commands that the host put after it, whose first
-- part is read as the first of them. So the printer reads from there on what the host meant, however the bytes were cut on
-- the way.
use Rattle.std.proofs.Common.{◌≡◌, ◌≢◌, ◌⊎◌, ◌+◌, inl, inr, ℕ, List, [], ◌∷◌, ◌++◌, refl, sym, ◌∙◌, ap, subst, append-nil, append_assoc, IsTrue, length}
use Rattle.std.proofs.lemmas.Grind.{flat_map-append}
use Rattle.std.specs.Prelude.{option_to_list}
use Rattle.std.specs.List.{AllByRecursion}
use Rattle.escpos_command.specs.declared.command.Command.{Command}
use Rattle.escpos_command.specs.declared.command.Command.TheVariants as kind
use Rattle.escpos_command.specs.declared.fault.FaultReason.{FaultReason}
use Rattle.escpos_command.specs.CommandTable.{AreCommands, IsCommand, row, spell}
use Rattle.escpos_command.specs.Grammar.{FaultAt, Half, Reads}
use Rattle.escpos_command.specs.Laws.{IsRead, IsRefused}
use Rattle.escpos_command.specs.Marks.{IsMarkOrNone, mark_id, marks}
use Rattle.escpos_command.specs.Parameters.{is_mark_id}
use Rattle.escpos_host.specs.Machine.{ask_reports}
use Rattle.escpos_link.specs.Ways.{IsOpener, IsRest}

-- What the layers below say of readings.
pub record OfReadings : Type 0 where
  pub read_or_refused : (bs : List ℕ) → IsRead bs ⊎ IsRefused bs
  pub one_reading : (bs : List ℕ) (cs ds : List Command) (x y : List ℕ) → Reads bs cs x → Reads bs ds y → (cs ≡ ds) × (x ≡ y)
  pub not_both : (bs : List ℕ) → IsRead bs → IsRefused bs → ⊥
  pub reading : (a b : List ℕ) (cs ds : List Command) (r s : List ℕ) → Reads a cs r → Reads (r ++ b) ds s → Reads (a ++ b) (cs ++ ds) s
  pub fault : (a b : List ℕ) (cs ds : List Command) (r s : List ℕ) (k : ℕ) (why : FaultReason) → Reads a cs r → FaultAt (r ++ b) ds s k why
      → FaultAt (a ++ b) (cs ++ ds) s (length (spell cs) + k) why
  pub first_fault : (a more : List ℕ) (cs : List Command) (r : List ℕ) (k : ℕ) (why : FaultReason) → FaultAt a cs r k why → FaultAt (a ++ more) cs r k why
  pub cut : (a b : List ℕ) (all some : List Command) (r : List ℕ) → Reads (a ++ b) all [] → Reads a some r
      → (others : List Command) × (all ≡ some ++ others) × Reads (r ++ b) others []
  pub resynchronisation : (half q more id : List ℕ) (cs : List Command) (rest : List ℕ) → (half ≡ []) ⊎ Half half → IsTrue (is_mark_id id) → q ≢ []
      → row (kind.Mark id) ≡ q ++ more → Reads (half ++ q) cs rest → IsMarkOrNone half more id cs
  pub reporting : (half q more : List ℕ) (cs : List Command) (rest : List ℕ) → (half ≡ []) ⊎ Half half → q ≢ [] → row ask_reports ≡ q ++ more
      → Reads (half ++ q) cs rest → marks cs ≡ []

-- ## Marks as commands

pub marks_append : (cs ds : List Command) → marks (cs ++ ds) ≡ marks cs ++ marks ds
marks_append cs ds = flat_map-append (λ (c : Command). option_to_list (mark_id c)) cs ds

one_in_range : (c : Command) → IsOpener c → IsCommand c
one_in_range c (inl (id, is, k)) = subst IsCommand (sym is) k
one_in_range c (inr is) = subst IsCommand (sym is) refl

pub commands_of : (openers : List Command) → AllByRecursion IsOpener openers → AreCommands openers
commands_of [] k = tt
commands_of (c ∷ openers) k = (one_in_range c k.0, commands_of openers k.1)

pub reads_all : (cs : List Command) → AreCommands cs → Reads (spell cs) cs []
reads_all cs are = record { commands = are; whole = sym (append-nil (spell cs)); rest_is = inl refl }

rest_reads : (h : List ℕ) → IsRest h → Reads (h ++ []) [] h
rest_reads h rest = record { commands = tt; whole = append-nil h; rest_is = rest }

-- Nothing came, so nothing was read.
pub none_read : OfReadings → (h q : List ℕ) (cs : List Command) (next : List ℕ) → IsRest h → q ≡ [] → Reads (h ++ q) cs next → cs ≡ []
none_read below h q cs next rest none r =
    (below.one_reading (h ++ []) cs [] next h (subst (λ v. Reads (h ++ v) cs next) none r) (rest_reads h rest)).0

-- ## A reading may be cut

pub record IsCut (a b : List ℕ) (cs : List Command) (next : List ℕ) : Type 0 where
  pub some : List Command
  pub mid : List ℕ
  pub others : List Command
  pub reads : Reads a some mid
  pub goes : Reads (mid ++ b) others next
  pub all : cs ≡ some ++ others

cut_at : OfReadings → (a b : List ℕ) (cs : List Command) (next : List ℕ) → Reads (a ++ b) cs next → (some : List Command) (mid : List ℕ) → Reads a some mid
    → IsRead (mid ++ b) ⊎ IsRefused (mid ++ b) → IsCut a b cs next
cut_at below a b cs next whole some mid reads (inl (others, last, goes)) =
    let same = below.one_reading (a ++ b) cs (some ++ others) next last whole (below.reading a b some others mid last reads goes) in
    record { some = some; mid = mid; others = others; reads = reads; goes = subst (λ v. Reads (mid ++ b) others v) (sym same.1) goes; all = same.0 }
cut_at below a b cs next whole some mid reads (inr (others, last, k, why, fault)) =
    absurd (below.not_both (a ++ b) (cs, next, whole) (some ++ others, last, length (spell some) + k, why, below.fault a b some others mid last k why reads fault))

cut_reading : OfReadings → (a b : List ℕ) (cs : List Command) (next : List ℕ) → Reads (a ++ b) cs next → IsRead a ⊎ IsRefused a → IsCut a b cs next
cut_reading below a b cs next whole (inl (some, mid, reads)) = cut_at below a b cs next whole some mid reads (below.read_or_refused (mid ++ b))
cut_reading below a b cs next whole (inr (some, mid, k, why, fault)) =
    absurd (below.not_both (a ++ b) (cs, next, whole) (some, mid, k, why, below.first_fault a b some mid k why fault))

-- ## A prefix of two lists

pub tail_same : {X : Type 0} (x y : X) (xs ys : List X) → x ∷ xs ≡ y ∷ ys → xs ≡ ys
tail_same x y xs ys e = cc

pub head_same : {X : Type 0} (x y : X) (xs ys : List X) → x ∷ xs ≡ y ∷ ys → x ≡ y
head_same x y xs ys e = cc

-- Where two lists with something after them agree, the first is a prefix of the second, or the second a prefix of the
-- first.
abbrev pub Fronts : {X : Type 0} → List X → List X → List X → List X → Type 0
Fronts {X} a s b t = ((y : List X) × (b ≡ a ++ y) × (s ≡ y ++ t)) ⊎ ((y : List X) × (a ≡ b ++ y) × (t ≡ y ++ s))

fronts_after : {X : Type 0} (x z : X) (a s b t : List X) → x ≡ z → Fronts a s b t → Fronts (x ∷ a) s (z ∷ b) t
fronts_after x z a s b t e (inl (y, is, rest)) = inl (y, ap (λ v. z ∷ v) is ∙ ap (λ v. v ∷ (a ++ y)) (sym e), rest)
fronts_after x z a s b t e (inr (y, is, rest)) = inr (y, ap (λ v. x ∷ v) is ∙ ap (λ v. v ∷ (b ++ y)) e, rest)

pub fronts : {X : Type 0} (a s b t : List X) → a ++ s ≡ b ++ t → Fronts a s b t
fronts [] s b t e = inl (b, refl, e)
fronts (x ∷ a) s [] t e = inr (x ∷ a, refl, sym e)
fronts (x ∷ a) s (z ∷ b) t e = fronts_after x z a s b t (head_same x z (a ++ s) (b ++ t) e) (fronts a s b t (tail_same x z (a ++ s) (b ++ t) e))

pub nothing_first : {X : Type 0} (a b : List X) → a ++ b ≡ [] → a ≡ []
nothing_first [] b e = refl
nothing_first (x ∷ a) b e = absurd cc

pub nothing_last : {X : Type 0} (a b : List X) → a ++ b ≡ [] → b ≡ []
nothing_last [] b e = e
nothing_last (x ∷ a) b e = absurd cc

-- ## Marks after whatever stood before them

-- What is left when marks were put after a half command, and a part of them was delivered and read so: no mark was read; or
-- what is left of it, and what is still to come, are commands, whose marks are the last ones together with those that were read.
abbrev pub MayTurn : List Command → List ℕ → List Command → List ℕ → Type 0
MayTurn openers later cs next =
    (marks cs ≡ [])
    ⊎ ((others : List Command) × (missed : List (List ℕ)) × Reads (next ++ later) others [] × (marks openers ≡ missed ++ (marks cs ++ marks others)))

row_begins : (id : List ℕ) → row (kind.Mark id) ≡ [] → ⊥
row_begins id e = cc

request_begins : row ask_reports ≡ [] → ⊥
request_begins e = cc

-- Nothing is left of a mark that was read with nothing before it.
none_left : OfReadings → (h id : List ℕ) (cs : List Command) (next : List ℕ) → IsTrue (is_mark_id id) → h ≡ [] → Reads (h ++ row (kind.Mark id)) cs next → next ≡ []
none_left below h id cs next ok none r =
    let one : Reads (row (kind.Mark id)) (kind.Mark id ∷ []) [] =
    subst (λ v. Reads v (kind.Mark id ∷ []) []) (append-nil (row (kind.Mark id))) (reads_all (kind.Mark id ∷ []) (ok, tt)) in
    (below.one_reading (row (kind.Mark id)) cs (kind.Mark id ∷ []) next [] (subst (λ v. Reads (v ++ row (kind.Mark id)) cs next) none r) one).1

-- The same with one more opener before the others.
later_turn : (c : Command) (openers : List Command) (later : List ℕ) (cs : List Command) (next : List ℕ) → MayTurn openers later cs next → MayTurn (c ∷ openers) later cs next
later_turn c openers later cs next (inl none) = inl none
later_turn c openers later cs next (inr (others, missed, goes, are)) =
    inr (others, option_to_list (mark_id c) ++ missed, goes, ap (λ v. option_to_list (mark_id c) ++ v) are ∙ sym (append_assoc (option_to_list (mark_id c)) missed (marks cs ++ marks others)))

-- A mark was read: what comes after it is read too, as far as it came.
turned : OfReadings → (id : List ℕ) (openers : List Command) (q later : List ℕ) (some cs : List Command) (next : List ℕ)
    → AllByRecursion IsOpener openers → some ≡ kind.Mark id ∷ [] → q ++ later ≡ spell openers → Reads q cs next → MayTurn (kind.Mark id ∷ openers) later (some ++ cs) next
turned below id openers q later some cs next known is spelled reads =
    let c = below.cut q later openers cs next (subst (λ v. Reads v openers []) (sym spelled) (reads_all openers (commands_of openers known))) reads in
    let same : marks (some ++ cs) ++ marks c.0 ≡ id ∷ marks openers =
    ap (λ v. marks (v ++ cs) ++ marks c.0) is ∙ ap (λ v. id ∷ v) (sym (marks_append cs c.0) ∙ ap marks (sym c.1)) in
    inr (c.0, [], c.2, sym same)

-- A prefix of the first mark came, perhaps all of it.
mark_came : OfReadings → (id : List ℕ) (openers : List Command) (h q y later : List ℕ) (cs : List Command) (next : List ℕ) → IsRest h
    → IsTrue (is_mark_id id) → AllByRecursion IsOpener openers → row (kind.Mark id) ≡ q ++ y → later ≡ y ++ spell openers → Reads (h ++ q) cs next
    → MayTurn (kind.Mark id ∷ openers) later cs next
mark_came below id openers h [] y later cs next rest ok known is after reads = inl (ap marks (none_read below h [] cs next rest refl reads))
mark_came below id openers h (x ∷ q) y later cs next rest ok known is after reads =
    elim ((below.resynchronisation h (x ∷ q) y id cs next rest ok (λ e. cc e) is reads).none_else) [
      | inl none ↦ inl none
      | inr (front, whole, one) ↦
          let all : row (kind.Mark id) ≡ x ∷ q = is ∙ ap (λ v. (x ∷ q) ++ v) whole ∙ append-nil (x ∷ q) in
          let left = none_left below h id cs next ok front (subst (λ v. Reads (h ++ v) cs next) (sym all) reads) in
          let nothing : Reads [] [] next = subst (λ v. Reads [] [] v) (sym left) (record { commands = tt; whole = refl; rest_is = inl refl }) in
          subst (λ v. MayTurn (kind.Mark id ∷ openers) later v next) (append-nil cs)
          (turned below id openers [] later cs [] next known one (after ∙ ap (λ v. v ++ spell openers) whole) nothing)
    ]

-- A prefix of the request came, perhaps all of it.
request_came : OfReadings → (openers : List Command) (h q y later : List ℕ) (cs : List Command) (next : List ℕ) → IsRest h → row ask_reports ≡ q ++ y
    → Reads (h ++ q) cs next → MayTurn openers later cs next
request_came below openers h [] y later cs next rest is reads = inl (ap marks (none_read below h [] cs next rest refl reads))
request_came below openers h (x ∷ q) y later cs next rest is reads = inl (below.reporting h (x ∷ q) y cs next rest (λ e. cc e) is reads)

front_came : OfReadings → (c : Command) (openers : List Command) (h q y later : List ℕ) (cs : List Command) (next : List ℕ) → IsRest h
    → IsOpener c → AllByRecursion IsOpener openers → row c ≡ q ++ y → later ≡ y ++ spell openers → Reads (h ++ q) cs next → MayTurn (c ∷ openers) later cs next
front_came below c openers h q y later cs next rest (inl (id, same, ok)) known is after reads =
    subst (λ v. MayTurn (v ∷ openers) later cs next) (sym same) (mark_came below id openers h q y later cs next rest ok known (sym (ap row same) ∙ is) after reads)
front_came below c openers h q y later cs next rest (inr same) known is after reads =
    request_came below (c ∷ openers) h q y later cs next rest (sym (ap row same) ∙ is) reads

-- What holds for these commands, whatever stood before them.
abbrev Behind : List Command → Type 0
Behind openers = (h q later : List ℕ) (cs : List Command) (next : List ℕ) → IsRest h → q ++ later ≡ spell openers → Reads (h ++ q) cs next → MayTurn openers later cs next

-- The first of them was read as no mark: those after it are read as if nothing had come before.
passed : (openers : List Command) (h q y later : List ℕ) (cs : List Command) (next : List ℕ) (b : List ℕ) → spell openers ≡ y ++ later
    → (c : IsCut (h ++ b) y cs next) → marks c.some ≡ [] → Behind openers → MayTurn openers later cs next
passed openers h q y later cs next b after c none behind =
    subst (λ v. MayTurn openers later v next) (sym c.all)
    (elim (behind c.mid y later c.others next c.reads.rest_is (sym after) c.goes) [
      | inl also ↦ inl (marks_append c.some c.others ∙ ap (λ v. v ++ marks c.others) none ∙ also)
      | inr (others, missed, goes, are) ↦
          inr (others, missed, goes, are ∙ ap (λ v. missed ++ (v ++ marks others)) (sym (marks_append c.some c.others ∙ ap (λ v. v ++ marks c.others) none)))
    ])

-- All of the first came, and more.
mark_passed : OfReadings → (id : List ℕ) (openers : List Command) (h q y later : List ℕ) (cs : List Command) (next : List ℕ) → IsRest h
    → IsTrue (is_mark_id id) → AllByRecursion IsOpener openers → spell openers ≡ y ++ later → IsCut (h ++ row (kind.Mark id)) y cs next → Behind openers
    → MayTurn (kind.Mark id ∷ openers) later cs next
mark_passed below id openers h q y later cs next rest ok known after c behind =
    let one = below.resynchronisation h (row (kind.Mark id)) [] id c.some c.mid rest ok (row_begins id) (sym (append-nil (row (kind.Mark id)))) c.reads in
    elim one.none_else [
      | inl none ↦ later_turn (kind.Mark id) openers later cs next (passed openers h q y later cs next (row (kind.Mark id)) after c none behind)
      | inr (front, whole, mark) ↦
          let left = none_left below h id c.some c.mid ok front c.reads in
          subst (λ v. MayTurn (kind.Mark id ∷ openers) later v next) (sym c.all)
          (turned below id openers y later c.some c.others next known mark (sym after) (subst (λ v. Reads (v ++ y) c.others next) left c.goes))
    ]

all_came : OfReadings → (c : Command) (openers : List Command) (h q y later : List ℕ) (cs : List Command) (next : List ℕ) → IsRest h
    → IsOpener c → AllByRecursion IsOpener openers → spell openers ≡ y ++ later → IsCut (h ++ row c) y cs next → Behind openers → MayTurn (c ∷ openers) later cs next
all_came below c openers h q y later cs next rest (inl (id, same, ok)) known after cut behind =
    subst (λ v. MayTurn (v ∷ openers) later cs next) (sym same)
    (mark_passed below id openers h q y later cs next rest ok known after (subst (λ v. IsCut (h ++ row v) y cs next) same cut) behind)
all_came below c openers h q y later cs next rest (inr same) known after cut behind =
    let here = subst (λ v. IsCut (h ++ row v) y cs next) same cut in
    later_turn c openers later cs next
    (passed openers h q y later cs next (row ask_reports) after here
    (below.reporting h (row ask_reports) [] here.some here.mid rest request_begins (sym (append-nil (row ask_reports))) here.reads) behind)

pub may_turn : OfReadings → (openers : List Command) → AllByRecursion IsOpener openers → Behind openers
may_turn below [] known h q later cs next rest spelled reads =
    inl (ap marks (none_read below h q cs next rest (nothing_first q later spelled) reads))
may_turn below (c ∷ openers) known h q later cs next rest spelled reads =
    elim (fronts q later (row c) (spell openers) spelled) [
      | inl (y, is, after) ↦ front_came below c openers h q y later cs next rest known.0 known.1 is after reads
      | inr (y, is, after) ↦
          let whole = subst (λ v. Reads v cs next) (ap (λ v. h ++ v) is ∙ sym (append_assoc h (row c) y)) reads in
          all_came below c openers h q y later cs next rest known.0 known.1 after
          (cut_reading below (h ++ row c) y cs next whole (below.read_or_refused (h ++ row c)))
          (λ mid more still others last left spelling goes. may_turn below openers known.1 mid more still others last left spelling goes)
    ]
