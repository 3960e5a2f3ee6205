-- The laws of the grammar, from the two facts of TableTree and nothing else about the kinds of commands.
use Rattle.std.proofs.Common.{◌≡◌, ◌≢◌, ℕ, ◌+◌, ◌<◌, ◌≤◌, ◌⊎◌, inl, inr, List, [], ◌∷◌, ◌++◌, length, take, refl, sym, length-take, ◌∙◌, ap, subst, append_assoc, arith, append-nil, Option, Some, None, drop}
use Rattle.std.specs.Prelude.{slice_index}
use Rattle.std.specs.List.{AllByRecursion}
use Rattle.std.proofs.lemmas.Grind.{flat_map-append, common_steps}
use Rattle.std.proofs.Math.Seq.{take-append_seam, get_or-append_seam, take-append-add}
use Rattle.std.proofs.lemmas.List.{take-append-le, get_or_append_left, get_or-append-add}
use Rattle.std.proofs.Math.ListN.{length-append}
use Rattle.escpos_command.specs.declared.command.Command.{Command}
use Rattle.escpos_command.specs.declared.command.Command.TheVariants.{LineFeed}
use Rattle.escpos_command.specs.declared.fault.FaultReason.{FaultReason}
use Rattle.escpos_command.specs.CommandTable.{Spells, IsCommand, row, spell}
use Rattle.escpos_command.specs.Grammar.{Viable, Half, Reads, FaultAt}
use Rattle.escpos_command.specs.Laws.{IsRead, IsRefused}
use Rattle.escpos_command.specs.Places.{reason_after}
use Rattle.escpos_command.specs.Tree.{Tree, dead, leaf, node, walk, grammar}
use Rattle.escpos_command.proofs.Walks.{IsLive, Good, walk-append, walk-nil, good_walk, good_live}
use Rattle.escpos_command.proofs.TableTree.{at_start, leads, good}

-- ## Where bytes lead in the tree says what they are

pub leads_spelling : (c : Command) (bs : List ℕ) → Spells c bs → walk grammar bs ≡ leaf c
leads_spelling c bs s = ap (walk grammar) s.in_table ∙ leads c s.in_range

pub spelling_at_leaf : (c : Command) (bs : List ℕ) → walk grammar bs ≡ leaf c → Spells c bs
spelling_at_leaf c bs e = subst (λ t. Good bs t) e (good_walk [] grammar bs good)

pub viable_where_live : (bs : List ℕ) → IsLive (walk grammar bs) → Viable bs
viable_where_live bs l = good_live bs (walk grammar bs) (good_walk [] grammar bs good) l

live_before_leaf : (t : Tree) (bs : List ℕ) (c : Command) → walk t bs ≡ leaf c → IsLive t
live_before_leaf dead bs c e = absurd cc
live_before_leaf (leaf d) bs c e = tt
live_before_leaf (node next) bs c e = tt

pub live_where_viable : (bs : List ℕ) → Viable bs → IsLive (walk grammar bs)
live_where_viable bs v =
    live_before_leaf (walk grammar bs) v.1 v.0 (sym (walk-append grammar bs v.1) ∙ leads_spelling v.0 (bs ++ v.1) v.2)

-- The three answers for a byte list, by where it leads.
pub not_viable_at_dead : (bs : List ℕ) → walk grammar bs ≡ dead → Viable bs → ⊥
not_viable_at_dead bs e v = subst (λ t. IsLive t) e (live_where_viable bs v)

pub half_at_node : (bs : List ℕ) (next : ℕ → Tree) → bs ≢ [] → walk grammar bs ≡ node next → Half bs
half_at_node bs next begun e = record {
  begun = begun;
  viable = viable_where_live bs (subst (λ t. IsLive t) (sym e) tt);
  no_spelling = λ c s. let h = sym (leads_spelling c bs s) ∙ e in cc;
}

node_of : (bs : List ℕ) (t : Tree) → walk grammar bs ≡ t → Half bs → (next : ℕ → Tree) × (walk grammar bs ≡ node next)
node_of bs dead e h = absurd (not_viable_at_dead bs e h.viable)
node_of bs (leaf c) e h = absurd (h.no_spelling c (spelling_at_leaf c bs e))
node_of bs (node next) e h = (next, e)

pub node_at_half : (bs : List ℕ) → Half bs → (next : ℕ → Tree) × (walk grammar bs ≡ node next)
node_at_half bs h = node_of bs (walk grammar bs) refl h

pub viable_prefix : (bs more : List ℕ) → Viable (bs ++ more) → Viable bs
viable_prefix bs more v = (v.0, more ++ v.1, subst (λ xs. Spells v.0 xs) (append_assoc bs more v.1) v.2)

-- ## The first command of a byte list

-- The command that the tree reads first, and the bytes after it.
abbrev run : Tree → List ℕ → Option (Command × List ℕ)
run dead bs = None
run (leaf c) bs = Some (c, bs)
run (node next) [] = None
run (node next) (b ∷ bs) = run (next b) bs

run-spelling : (t : Tree) (p q : List ℕ) (c : Command) → walk t p ≡ leaf c → run t (p ++ q) ≡ Some (c, q)
run-spelling dead p q c e = absurd cc
run-spelling (leaf d) [] q c e = let same : d ≡ c = cc in ap (λ x. Some (x, q)) same
run-spelling (leaf d) (b ∷ p) q c e = absurd cc
run-spelling (node next) [] q c e = absurd cc
run-spelling (node next) (b ∷ p) q c e = run-spelling (next b) p q c e

run-node : (t : Tree) (p q : List ℕ) (next : ℕ → Tree) → walk t p ≡ node next → run t (p ++ q) ≡ run (node next) q
run-node dead p q next e = absurd cc
run-node (leaf d) [] q next e = absurd cc
run-node (leaf d) (b ∷ p) q next e = absurd cc
run-node (node other) [] q next e = ap (λ t. run t q) e
run-node (node other) (b ∷ p) q next e = run-node (other b) p q next e

run-row : (c : Command) (more : List ℕ) → IsCommand c → run grammar (row c ++ more) ≡ Some (c, more)
run-row c more h = run-spelling grammar (row c) more c (leads c h)

-- No command is whole in these bytes.
abbrev Silent : List ℕ → Type 0
Silent bs = run grammar bs ≡ None

abbrev IsRest : List ℕ → Type 0
IsRest rest = (rest ≡ []) ⊎ Half rest

silent_rest : (rest : List ℕ) → IsRest rest → Silent rest
silent_rest rest (inl e) = ap (run grammar) e ∙ ap (λ t. run t []) at_start.1
silent_rest rest (inr h) =
    let n = node_at_half rest h in
    ap (run grammar) (sym (append-nil rest)) ∙ run-node grammar rest [] n.0 n.1

-- Where a byte after a rest is refused, no command is whole, whatever follows.
silent_at_dead : (t : Tree) (rest : List ℕ) (b : ℕ) (more : List ℕ) (next : ℕ → Tree) → walk t rest ≡ node next → (walk t (rest ++ b ∷ []) ≡ dead) → run t (rest ++ b ∷ more) ≡ None
silent_at_dead t rest b more next e d =
    let after : next b ≡ dead = sym (walk-nil (next b)) ∙ ap (λ u. walk u (b ∷ [])) (sym e) ∙ sym (walk-append t rest (b ∷ [])) ∙ d in
    run-node t rest (b ∷ more) next e ∙ ap (λ u. run u more) after

dead_where_refused : (bs : List ℕ) (t : Tree) → walk grammar bs ≡ t → (Viable bs → ⊥) → walk grammar bs ≡ dead
dead_where_refused bs dead e r = e
dead_where_refused bs (leaf c) e r = absurd (r (c, [], subst (λ xs. Spells c xs) (sym (append-nil bs)) (spelling_at_leaf c bs e)))
dead_where_refused bs (node next) e r = absurd (r (viable_where_live bs (subst (λ t. IsLive t) (sym e) tt)))

pub dead_at_refused : (bs : List ℕ) → (Viable bs → ⊥) → walk grammar bs ≡ dead
dead_at_refused bs r = dead_where_refused bs (walk grammar bs) refl r

node_at_rest : (rest : List ℕ) → IsRest rest → (next : ℕ → Tree) × (walk grammar rest ≡ node next)
node_at_rest rest (inl e) = (at_start.0, ap (walk grammar) e ∙ walk-nil grammar ∙ at_start.1)
node_at_rest rest (inr h) = node_at_half rest h

silent_refused : (rest : List ℕ) (b : ℕ) (more : List ℕ) → IsRest rest → (Viable (rest ++ b ∷ []) → ⊥) → Silent (rest ++ b ∷ more)
silent_refused rest b more p r =
    let n = node_at_rest rest p in silent_at_dead grammar rest b more n.0 n.1 (dead_at_refused (rest ++ b ∷ []) r)

-- ## One reading

abbrev found : Command → List ℕ → Option (Command × List ℕ)
found c x = Some (c, x)

command_of : Option (Command × List ℕ) → Command
command_of None = LineFeed
command_of (Some pair) = pair.0

rest_of : Option (Command × List ℕ) → List ℕ
rest_of None = []
rest_of (Some pair) = pair.1

some_first : (c d : Command) (x y : List ℕ) → found c x ≡ found d y → (c ≡ d) × (x ≡ y)
unfolding command_of rest_of
some_first c d x y e = (ap command_of e, ap rest_of e)

-- Joined spellings, followed by bytes that hold no whole command, are those of one list of commands, and of one rest.
one_split : (cs ds : List Command) (x y : List ℕ) → AllByRecursion IsCommand cs → AllByRecursion IsCommand ds → Silent x → Silent y
    → spell cs ++ x ≡ spell ds ++ y → (cs ≡ ds) × (x ≡ y)
one_split [] [] x y hc hd sx sy e = (refl, e)
one_split [] (d ∷ ds) x y hc hd sx sy e =
    let whole : run grammar x ≡ Some (d, spell ds ++ y) = ap (run grammar) (e ∙ append_assoc (row d) (spell ds) y) ∙ run-row d (spell ds ++ y) hd.0 in
    absurd cc
one_split (c ∷ cs) [] x y hc hd sx sy e =
    let whole : run grammar y ≡ Some (c, spell cs ++ x) = ap (run grammar) (sym e ∙ append_assoc (row c) (spell cs) x) ∙ run-row c (spell cs ++ x) hc.0 in
    absurd cc
one_split (c ∷ cs) (d ∷ ds) x y hc hd sx sy e =
    let left = ap (run grammar) (append_assoc (row c) (spell cs) x) ∙ run-row c (spell cs ++ x) hc.0 in
    let right = ap (run grammar) (append_assoc (row d) (spell ds) y) ∙ run-row d (spell ds ++ y) hd.0 in
    let same = some_first c d (spell cs ++ x) (spell ds ++ y) (sym left ∙ ap (run grammar) e ∙ right) in
    let rest = one_split cs ds x y hc.1 hd.1 sx sy same.1 in
    (ap (λ v. v ∷ cs) same.0 ∙ ap (λ v. d ∷ v) rest.0, rest.1)

pub one_reading : (bs : List ℕ) (cs ds : List Command) (x y : List ℕ) → Reads bs cs x → Reads bs ds y → (cs ≡ ds) × (x ≡ y)
one_reading bs cs ds x y r s =
    one_split cs ds x y r.commands s.commands (silent_rest x r.rest_is) (silent_rest y s.rest_is) (sym r.whole ∙ s.whole)

-- ## One fault

-- A list is what is before a place, the element there, and what follows.
around : (bs : List ℕ) (k : ℕ) → k < length bs → bs ≡ take k bs ++ slice_index bs k ∷ drop (k + 1) bs
around bs k h = grind (arith, common_steps)

-- The bytes of a fault: the commands read, the rest, the refused byte, and what follows.
fault_bytes : (bs : List ℕ) (cs : List Command) (rest : List ℕ) (k : ℕ) (why : FaultReason) → FaultAt bs cs rest k why
    → bs ≡ spell cs ++ (rest ++ slice_index bs k ∷ drop (k + 1) bs)
fault_bytes bs cs rest k why f =
    around bs k f.place ∙ ap (λ xs. xs ++ slice_index bs k ∷ drop (k + 1) bs) f.before.whole
    ∙ append_assoc (spell cs) rest (slice_index bs k ∷ drop (k + 1) bs)

fault_silent : (bs : List ℕ) (cs : List Command) (rest : List ℕ) (k : ℕ) (why : FaultReason) → FaultAt bs cs rest k why
    → Silent (rest ++ slice_index bs k ∷ drop (k + 1) bs)
fault_silent bs cs rest k why f = silent_refused rest (slice_index bs k) (drop (k + 1) bs) f.before.rest_is f.refused

-- A rest can't begin with another rest and the byte that is refused after it.
rest_refused : (rest other : List ℕ) (b : ℕ) (more : List ℕ) → IsRest other → (Viable (rest ++ b ∷ []) → ⊥) → other ≡ rest ++ b ∷ more → ⊥
rest_refused rest other b more (inl e) r h = let longer = ap length (sym e ∙ h) ∙ length-append rest (b ∷ more) in omega arith
rest_refused rest other b more (inr p) r h =
    r (viable_prefix (rest ++ b ∷ []) more (subst (λ xs. Viable xs) (h ∙ sym (append_assoc rest (b ∷ []) more)) p.viable))

-- Where two lists agree, one prefix goes no further than the other, or they are the same.
data Meets (x y : List ℕ) (b c : ℕ) : Type 0 where
  same : x ≡ y → Meets x y b c
  shorter : (more : List ℕ) → y ≡ x ++ b ∷ more → Meets x y b c
  longer : (more : List ℕ) → x ≡ y ++ c ∷ more → Meets x y b c

head_of : (b c : ℕ) (x y : List ℕ) → b ∷ x ≡ c ∷ y → b ≡ c
head_of b c x y e = cc

tail_of : (b c : ℕ) (x y : List ℕ) → b ∷ x ≡ c ∷ y → x ≡ y
tail_of b c x y e = cc

meets_after : (a d : ℕ) (x y : List ℕ) (b c : ℕ) → a ≡ d → Meets x y b c → Meets (a ∷ x) (d ∷ y) b c
meets_after a d x y b c e (same h) = same (ap (λ v. v ∷ x) e ∙ ap (λ v. d ∷ v) h)
meets_after a d x y b c e (shorter more h) = shorter more (ap (λ v. d ∷ v) h ∙ ap (λ v. v ∷ (x ++ b ∷ more)) (sym e))
meets_after a d x y b c e (longer more h) = longer more (ap (λ v. a ∷ v) h ∙ ap (λ v. v ∷ (y ++ c ∷ more)) e)

meets : (x y : List ℕ) (b c : ℕ) (u v : List ℕ) → x ++ b ∷ u ≡ y ++ c ∷ v → Meets x y b c
meets [] [] b c u v e = same refl
meets [] (d ∷ y) b c u v e = shorter y (ap (λ w. w ∷ y) (sym (head_of b d u (y ++ c ∷ v) e)))
meets (a ∷ x) [] b c u v e = longer x (ap (λ w. w ∷ x) (head_of a c (x ++ b ∷ u) v e))
meets (a ∷ x) (d ∷ y) b c u v e =
    meets_after a d x y b c (head_of a d (x ++ b ∷ u) (y ++ c ∷ v) e) (meets x y b c u v (tail_of a d (x ++ b ∷ u) (y ++ c ∷ v) e))

one_rest : (x y : List ℕ) (b c : ℕ) → Meets x y b c → IsRest x → IsRest y → (Viable (x ++ b ∷ []) → ⊥) → (Viable (y ++ c ∷ []) → ⊥) → x ≡ y
one_rest x y b c (same h) px py rx ry = h
one_rest x y b c (shorter more h) px py rx ry = absurd (rest_refused x y b more py rx h)
one_rest x y b c (longer more h) px py rx ry = absurd (rest_refused y x c more px ry h)

-- The place of a fault is the number of bytes read before it.
fault_place : (bs : List ℕ) (cs : List Command) (rest : List ℕ) (k : ℕ) (why : FaultReason) → FaultAt bs cs rest k why → k ≡ length (spell cs ++ rest)
fault_place bs cs rest k why f = let p = f.place in let e = ap length (sym f.before.whole) in rw e (omega (arith, length-take k bs))

-- Two faults of one list are at one place, after one reading, for one reason.
pub one_fault : (bs : List ℕ) (cs ds : List Command) (x y : List ℕ) (k l : ℕ) (why also : FaultReason)
    → FaultAt bs cs x k why → FaultAt bs ds y l also → (cs ≡ ds) × (x ≡ y) × (k ≡ l) × (why ≡ also)
one_fault bs cs ds x y k l why also f g =
    let split = one_split cs ds _ _ f.before.commands g.before.commands (fault_silent bs cs x k why f) (fault_silent bs ds y l also g)
    (sym (fault_bytes bs cs x k why f) ∙ fault_bytes bs ds y l also g) in
    let rest = one_rest x y _ _ (meets x y _ _ _ _ split.1) f.before.rest_is g.before.rest_is f.refused g.refused in (
      split.0,
      rest,
      fault_place bs cs x k why f ∙ ap (λ v. length (spell v ++ x)) split.0 ∙ ap (λ v. length (spell ds ++ v)) rest ∙ sym (fault_place bs ds y l also g),
      f.reason ∙ ap reason_after rest ∙ sym g.reason,
    )

-- What is read has no fault.
pub not_both : (bs : List ℕ) (cs ds : List Command) (x y : List ℕ) (k : ℕ) (why : FaultReason) → Reads bs cs x → FaultAt bs ds y k why → ⊥
not_both bs cs ds x y k why r f =
    let split = one_split cs ds x _ r.commands f.before.commands (silent_rest x r.rest_is) (fault_silent bs ds y k why f)
    (sym r.whole ∙ fault_bytes bs ds y k why f) in
    rest_refused y x (slice_index bs k) (drop (k + 1) bs) r.rest_is f.refused split.1

pub never_both : (bs : List ℕ) → IsRead bs → IsRefused bs → ⊥
never_both bs r f = not_both bs r.0 f.0 r.1 f.1 f.2 f.3 r.2 f.4

-- ## Each byte list is read or refused

pub all_append : (cs ds : List Command) → AllByRecursion IsCommand cs → AllByRecursion IsCommand ds → AllByRecursion IsCommand (cs ++ ds)
all_append [] ds h k = k
all_append (c ∷ cs) ds h k = (h.0, all_append cs ds h.1 k)

-- Readings join where they are cut.
pub joined : (a b : List ℕ) (cs ds : List Command) (r s : List ℕ) → Reads a cs r → Reads (r ++ b) ds s → Reads (a ++ b) (cs ++ ds) s
joined a b cs ds r s h k = record {
  commands = all_append cs ds h.commands k.commands;
  whole =
      ap (λ xs. xs ++ b) h.whole ∙ append_assoc (spell cs) r b ∙ ap (λ xs. spell cs ++ xs) k.whole
      ∙ sym (append_assoc (spell cs) (spell ds) s) ∙ ap (λ xs. xs ++ s) (sym (flat_map-append row cs ds));
  rest_is = k.rest_is;
}

pub reads_nothing : Reads [] [] []
reads_nothing = record { commands = tt; whole = refl; rest_is = inl refl }

pub reads_command : (c : Command) (bs : List ℕ) → Spells c bs → Reads bs (c ∷ []) []
reads_command c bs s = record { commands = (s.in_range, tt); whole = s.in_table ∙ sym (append-nil (row c)) ∙ sym (append-nil (row c ++ [])); rest_is = inl refl }

pub reads_half : (bs : List ℕ) → Half bs → Reads bs [] bs
reads_half bs h = record { commands = tt; whole = refl; rest_is = inr h }

pub not_empty : (bs : List ℕ) (b : ℕ) → bs ++ b ∷ [] ≢ []
not_empty bs b e = let longer = ap length e in let count = length-append bs (b ∷ []) in omega arith

-- A fault at the end of the bytes is one of all bytes.
pub fault_after : (a : List ℕ) (b : ℕ) (more : List ℕ) (cs : List Command) (rest : List ℕ) → Reads a cs rest → (Viable (rest ++ b ∷ []) → ⊥)
    → FaultAt (a ++ b ∷ more) cs rest (length a) (reason_after rest)
fault_after a b more cs rest h r = record {
  place = let count = length-append a (b ∷ more) in omega arith;
  before = subst (λ xs. Reads xs cs rest) (sym (take-append_seam a (b ∷ more))) h;
  refused = subst (λ x. Viable (rest ++ x ∷ []) → ⊥) (sym (get_or-append_seam a b more 0)) r;
  reason = refl;
}

-- What the bytes are: read, or refused at a place.
pub data Outcome (bs : List ℕ) : Type 0 where
  read : (cs : List Command) (rest : List ℕ) → Reads bs cs rest → Outcome bs
  refused : (cs : List Command) (rest : List ℕ) (k : ℕ) (why : FaultReason) → FaultAt bs cs rest k why → Outcome bs

-- One byte more: the reading goes on, or the byte is refused.
pub data Step (a : List ℕ) (b : ℕ) (cs : List Command) (rest : List ℕ) : Type 0 where
  next : (ds : List Command) (more : List ℕ) → Reads (a ++ b ∷ []) ds more → Step a b cs rest
  stop : (Viable (rest ++ b ∷ []) → ⊥) → Step a b cs rest

step_by : (a : List ℕ) (b : ℕ) (cs : List Command) (rest : List ℕ) (t : Tree) → walk grammar (rest ++ b ∷ []) ≡ t → Reads a cs rest → Step a b cs rest
step_by a b cs rest dead e h = stop (not_viable_at_dead (rest ++ b ∷ []) e)
step_by a b cs rest (leaf c) e h =
    next (cs ++ c ∷ []) [] (joined a (b ∷ []) cs (c ∷ []) rest [] h (reads_command c (rest ++ b ∷ []) (spelling_at_leaf c (rest ++ b ∷ []) e)))
step_by a b cs rest (node following) e h =
    next (cs ++ []) (rest ++ b ∷ [])
    (joined a (b ∷ []) cs [] rest (rest ++ b ∷ []) h (reads_half (rest ++ b ∷ []) (half_at_node (rest ++ b ∷ []) following (not_empty rest b) e)))

go_on : (left a : List ℕ) (cs : List Command) (rest : List ℕ) → Reads a cs rest → Outcome (a ++ left)
go_on [] a cs rest h = read cs rest (subst (λ xs. Reads xs cs rest) (sym (append-nil a)) h)
go_on (b ∷ left) a cs rest h =
    elim (step_by a b cs rest (walk grammar (rest ++ b ∷ [])) refl h) [
      | next ds more k ↦ subst (λ xs. Outcome xs) (append_assoc a (b ∷ []) left) (go_on left (a ++ b ∷ []) ds more k)
      | stop r ↦ refused cs rest (length a) (reason_after rest) (fault_after a b left cs rest h r)
    ]

pub outcome : (bs : List ℕ) → Outcome bs
outcome bs = go_on bs [] [] [] reads_nothing

-- ## Unique spellings

pub one_command : (c d : Command) (a : List ℕ) → Spells c a → Spells d a → c ≡ d
one_command c d a s t = let e = sym (leads_spelling c a s) ∙ leads_spelling d a t in cc

leaf_is_last : (c d : Command) (more : List ℕ) → walk (leaf c) more ≡ leaf d → more ≡ []
leaf_is_last c d [] e = refl
leaf_is_last c d (b ∷ more) e = absurd cc

pub no_prefix : (c d : Command) (a more : List ℕ) → Spells c a → Spells d (a ++ more) → more ≡ []
no_prefix c d a more s t =
    leaf_is_last c d more (ap (λ u. walk u more) (sym (leads_spelling c a s)) ∙ sym (walk-append grammar a more) ∙ leads_spelling d (a ++ more) t)

-- ## Faults of joined lists

-- A fault in a prefix of a list is one of the whole list.
pub fault_of_front : (a more : List ℕ) (cs : List Command) (rest : List ℕ) (k : ℕ) (why : FaultReason) → FaultAt a cs rest k why → FaultAt (a ++ more) cs rest k why
fault_of_front a more cs rest k why f =
    let place = f.place in
    let within : k ≤ length a = omega arith in
    record {
      place = let long = length-append a more in omega arith;
      before = rw (take-append-le k a more within) f.before;
      refused = rw (get_or_append_left a more 0 k place) f.refused;
      reason = f.reason;
    }

pub reads_spelled : (cs : List Command) → AllByRecursion IsCommand cs → Reads (spell cs) cs []
reads_spelled cs h = record { commands = h; whole = sym (append-nil (spell cs)); rest_is = inl refl }

-- A fault goes on where a reading stopped.
pub fault_joined : (a b : List ℕ) (cs ds : List Command) (r s : List ℕ) (k : ℕ) (why : FaultReason) → Reads a cs r → FaultAt (r ++ b) ds s k why
    → FaultAt (a ++ b) (cs ++ ds) s (length (spell cs) + k) why
fault_joined a b cs ds r s k why h f =
    let whole : a ++ b ≡ spell cs ++ (r ++ b) = ap (λ v. v ++ b) h.whole ∙ append_assoc (spell cs) r b in
    record {
      place = let long = ap length whole ∙ length-append (spell cs) (r ++ b) in let near = f.place in omega arith;
      before = rw (whole, take-append-add (spell cs) (r ++ b) k) (joined (spell cs) (take k (r ++ b)) cs ds [] s (reads_spelled cs h.commands) f.before);
      refused = rw (whole, get_or-append-add (spell cs) (r ++ b) k 0) f.refused;
      reason = f.reason;
    }

-- Where a list is read with nothing left, so is what a prefix of it leaves.
pub cut : (a b : List ℕ) (all some : List Command) (r : List ℕ) → Reads (a ++ b) all [] → Reads a some r
    → (others : List Command) × (all ≡ some ++ others) × Reads (r ++ b) others []
cut a b all some r h k = elim (outcome (r ++ b)) [
  | read cs rest g ↦
      let whole = one_reading (a ++ b) all (some ++ cs) [] rest h (joined a b some cs r rest k g) in
      (cs, whole.0, subst (λ x. Reads (r ++ b) cs x) (sym whole.1) g)
  | refused cs rest i why f ↦ absurd (not_both (a ++ b) all (some ++ cs) [] rest (length (spell some) + i) why h (fault_joined a b some cs r rest i why k f))
]
