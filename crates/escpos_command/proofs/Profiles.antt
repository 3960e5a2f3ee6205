-- The laws of an earlier profile, from one fact for each command of the table that the profile lacks: where its spelling parts
-- from the commands that the profile has. Nothing else here is about a kind of command.
use Rattle.std.proofs.Common.{zero, suc, ◌≡◌, ◌⊎◌, inl, inr, ℕ, List, [], ◌∷◌, ◌++◌, length, take, refl, sym, ◌∙◌, ap, subst, append_assoc, append-nil, arith, Bool, true, false, cond, IsTrue, length-append, Option, None, Some}
use Rattle.std.specs.Prelude.{slice_index}
use Rattle.std.specs.List.{AllByRecursion}
use Rattle.std.proofs.lemmas.Grind.{flat_map-append}
use Rattle.std.proofs.Math.Seq.{take-append_seam, get_or-append_seam}
use Rattle.escpos_command.specs.declared.command.Command.{Command}
use Rattle.escpos_command.specs.declared.fault.FaultReason.{FaultReason}
use Rattle.escpos_command.specs.CommandTable.{Spells, IsCommand, row, spell}
use Rattle.escpos_command.specs.declared.setting.Values.{Values}
use Rattle.escpos_command.specs.declared.setting.Values.TheVariants as values
use Rattle.escpos_command.specs.Grammar.{Half, Reads, FaultAt}
use Rattle.escpos_command.specs.SettingTable.{fits}
use Rattle.escpos_command.specs.Places.{reason_after}
use Rattle.escpos_command.specs.Profiles.{ViableIn, HalfIn, ReadsIn, FaultAtIn, IsReadIn, IsRefusedIn}
use Rattle.escpos_command.specs.Tree.{Tree, dead, leaf, node, walk, grammar, none, counted}
use Rattle.escpos_command.proofs.Readings.{half_at_node, leads_spelling, no_prefix, not_empty, not_viable_at_dead, one_command, spelling_at_leaf, viable_where_live}
use Rattle.escpos_command.proofs.SettingRows.{some_value}
use Rattle.escpos_command.proofs.Walks.{IsLive}

abbrev pub RestIn : (Command → Bool) → List ℕ → Type 0
RestIn has rest = (rest ≡ []) ⊎ HalfIn has rest

-- ## What it read

half_in : (has : Command → Bool) (rest : List ℕ) → HalfIn has rest → Half rest
half_in has rest h = record {
  begun = h.begun;
  viable = (h.viable.0, h.viable.1, h.viable.2.1);
  no_spelling = λ c s.
      let none = no_prefix c h.viable.0 rest h.viable.1 s h.viable.2.1 in
      let whole = subst (λ v. Spells h.viable.0 v) (ap (λ v. rest ++ v) none ∙ append-nil rest) h.viable.2.1 in
      h.no_spelling h.viable.0 (h.viable.2.0, whole);
}

all_commands : (has : Command → Bool) (cs : List Command) → AllByRecursion (λ c. IsCommand c × IsTrue (has c)) cs → AllByRecursion IsCommand cs
all_commands has [] h = tt
all_commands has (c ∷ cs) h = (h.0.0, all_commands has cs h.1)

left_in : (has : Command → Bool) (rest : List ℕ) → RestIn has rest → (rest ≡ []) ⊎ Half rest
left_in has rest (inl e) = inl e
left_in has rest (inr h) = inr (half_in has rest h)

pub read : (has : Command → Bool) (bs : List ℕ) (cs : List Command) (rest : List ℕ) → ReadsIn has bs cs rest → Reads bs cs rest
read has bs cs rest r = record { commands = all_commands has cs r.commands; whole = r.whole; rest_is = left_in has rest r.rest_is }

-- ## Below some bytes

-- A leaf that is reached through a choice is reached through its first side.
pub chosen : (b : Bool) (t : Tree) (w : List ℕ) (c : Command) → walk (cond b t dead) w ≡ leaf c → walk t w ≡ leaf c
chosen true t w c e = e
chosen false t w c e = absurd cc

-- A leaf, and what is left of the bytes there, which is nothing.
pub same_leaf : (d : Command) (w : List ℕ) (c : Command) → walk (leaf d) w ≡ leaf c → c ≡ d
same_leaf d [] c e = cc
same_leaf d (b ∷ w) c e = absurd cc

-- Counted bytes make one command of all of them.
pub counted_below : (n : ℕ) (test : ℕ → ℕ → Bool) (make : List ℕ → Command) (read w : List ℕ) (c : Command) → walk (counted n test make read) w ≡ leaf c → (xs : List ℕ) × (c ≡ make xs)
unfolding counted
counted_below zero test make read w c e = (read, same_leaf (make read) w c e)
counted_below (suc n) test make read [] c e = absurd cc
counted_below (suc n) test make read (b ∷ w) c e =
    counted_below n test make (read ++ b ∷ []) w c (chosen (test (length read) b) (counted n test make (read ++ b ∷ [])) w c e)

not_in : (has : Command → Bool) (c : Command) → has c ≡ false → IsTrue (has c) → ⊥
not_in has c h k = let clash : true ≡ false = sym k ∙ h in cc

pub none_below : (has : Command → Bool) (bs : List ℕ) → ((w : List ℕ) (c : Command) → walk grammar (bs ++ w) ≡ leaf c → has c ≡ false) → ViableIn has bs → ⊥
none_below has bs below v = not_in has v.0 (below v.1 v.0 (leads_spelling v.0 (bs ++ v.1) v.2.1)) v.2.0

-- Some setting of each kind is spelled.
unfoldable pub some_parameter : Values → Option ℕ
some_parameter values.Nothing = None
some_parameter v = Some (some_value v)

pub some_fits : (v : Values) → fits v (some_parameter v) ≡ true
unfolding some_parameter
some_fits values.Nothing = refl
some_fits _ = refl

pub shorter : (has : Command → Bool) (p q : List ℕ) → ViableIn has (p ++ q) → ViableIn has p
shorter has p q v = (v.0, q ++ v.1, (v.2.0, subst (λ xs. Spells v.0 xs) (append_assoc p q v.1) v.2.1))

-- ## Where a spelling parts from the profile

-- The profile allows the bytes up to a place of the spelling, and not the byte there, which is new.
pub record Parts (has : Command → Bool) (New : List ℕ → ℕ → Type 0) (bs : List ℕ) : Type 0 where
  pub before : List ℕ
  pub letter : ℕ
  pub after : List ℕ
  pub whole : bs ≡ before ++ letter ∷ after
  pub allowed : ViableIn has before
  pub none : ViableIn has (before ++ letter ∷ []) → ⊥
  pub new : New before letter

-- Where a byte b after others stands, seen from that place.
data Where (rest : List ℕ) (b : ℕ) (before : List ℕ) (letter : ℕ) : Type 0 where
  early : (q : List ℕ) → before ≡ (rest ++ b ∷ []) ++ q → Where rest b before letter
  there : rest ≡ before → b ≡ letter → Where rest b before letter
  late : (q : List ℕ) → rest ≡ (before ++ letter ∷ []) ++ q → Where rest b before letter

one_further : (x y : ℕ) (rest : List ℕ) (b : ℕ) (before : List ℕ) (letter : ℕ) → x ≡ y → Where rest b before letter → Where (x ∷ rest) b (y ∷ before) letter
one_further x y rest b before letter same (early q e) = early q (ap (λ v. y ∷ v) e ∙ ap (λ v. v ∷ ((rest ++ b ∷ []) ++ q)) (sym same))
one_further x y rest b before letter same (there e k) = there (ap (λ v. x ∷ v) e ∙ ap (λ v. v ∷ before) same) k
one_further x y rest b before letter same (late q e) = late q (ap (λ v. x ∷ v) e ∙ ap (λ v. v ∷ ((before ++ letter ∷ []) ++ q)) same)

head_is : (x y : ℕ) (xs ys : List ℕ) → x ∷ xs ≡ y ∷ ys → x ≡ y
head_is x y xs ys e = cc

tail_is : (x y : ℕ) (xs ys : List ℕ) → x ∷ xs ≡ y ∷ ys → xs ≡ ys
tail_is x y xs ys e = cc

where_is : (rest : List ℕ) (b : ℕ) (more before : List ℕ) (letter : ℕ) (after : List ℕ) → rest ++ b ∷ more ≡ before ++ letter ∷ after → Where rest b before letter
where_is [] b more [] letter after e = there refl (head_is b letter more after e)
where_is [] b more (y ∷ before) letter after e = early before (ap (λ v. v ∷ before) (sym (head_is b y more (before ++ letter ∷ after) e)))
where_is (x ∷ rest) b more [] letter after e = late rest (ap (λ v. v ∷ rest) (head_is x letter (rest ++ b ∷ more) after e))
where_is (x ∷ rest) b more (y ∷ before) letter after e =
    one_further x y rest b before letter (head_is x y _ _ e) (where_is rest b more before letter after (tail_is x y _ _ e))

at_place : (has : Command → Bool) (New : List ℕ → ℕ → Type 0) (bs rest : List ℕ) (b : ℕ) (more : List ℕ) (p : Parts has New bs) → (rest ++ b ∷ []) ++ more ≡ bs
    → Where rest b p.before p.letter
at_place has New bs rest b more p e = where_is rest b more p.before p.letter p.after (sym (append_assoc rest (b ∷ []) more) ∙ e ∙ p.whole)

-- What the profile allows goes on nowhere past that place.
not_past : (has : Command → Bool) (rest before : List ℕ) (letter : ℕ) (q : List ℕ) → (ViableIn has (before ++ letter ∷ []) → ⊥) → rest ≡ (before ++ letter ∷ []) ++ q
    → RestIn has rest → ⊥
not_past has rest before letter q none e (inl empty) =
    let long = length-append (before ++ letter ∷ []) q in
    let longer = length-append before (letter ∷ []) in
    let short = ap length (sym e ∙ empty) in omega arith
not_past has rest before letter q none e (inr half) = none (shorter has (before ++ letter ∷ []) q (subst (λ v. ViableIn has v) e half.viable))

abbrev pub Decided : Type 0 → Type 0
Decided P = P ⊎ (P → ⊥)

decided_at : (has : Command → Bool) (New : List ℕ → ℕ → Type 0) (bs rest : List ℕ) (b : ℕ) (p : Parts has New bs) → Where rest b p.before p.letter → RestIn has rest
    → Decided (ViableIn has (rest ++ b ∷ []))
decided_at has New bs rest b p (early q e) k = inl (shorter has (rest ++ b ∷ []) q (subst (λ v. ViableIn has v) e p.allowed))
decided_at has New bs rest b p (there e same) k =
    inr (subst (λ v. ViableIn has (v ++ b ∷ []) → ⊥) (sym e) (subst (λ v. ViableIn has (p.before ++ v ∷ []) → ⊥) (sym same) p.none))
decided_at has New bs rest b p (late q e) k = absurd (not_past has rest p.before p.letter q p.none e k)

new_at : (has : Command → Bool) (New : List ℕ → ℕ → Type 0) (bs rest : List ℕ) (b : ℕ) (p : Parts has New bs) → Where rest b p.before p.letter → RestIn has rest
    → (ViableIn has (rest ++ b ∷ []) → ⊥) → New rest b
new_at has New bs rest b p (early q e) k refused = absurd (refused (shorter has (rest ++ b ∷ []) q (subst (λ v. ViableIn has v) e p.allowed)))
new_at has New bs rest b p (there e same) k refused = subst (λ v. New v b) (sym e) (subst (λ v. New p.before v) (sym same) p.new)
new_at has New bs rest b p (late q e) k refused = absurd (not_past has rest p.before p.letter q p.none e k)

-- The one fact that a profile owes.
abbrev pub AllPart : (Command → Bool) → (List ℕ → ℕ → Type 0) → Type 0
AllPart has New = (c : Command) → has c ≡ false → IsCommand c → Parts has New (row c)

-- ## What it refused

new_or_had : (has : Command → Bool) (New : List ℕ → ℕ → Type 0) → AllPart has New → (c : Command) (rest : List ℕ) (b : ℕ) (more : List ℕ) (is_in : Bool) → has c ≡ is_in
    → Spells c ((rest ++ b ∷ []) ++ more) → RestIn has rest → (ViableIn has (rest ++ b ∷ []) → ⊥) → New rest b
new_or_had has New parts c rest b more true h s k refused = absurd (refused (c, more, (h, s)))
new_or_had has New parts c rest b more false h s k refused =
    let p = parts c h s.in_range in new_at has New (row c) rest b p (at_place has New (row c) rest b more p s.in_table) k refused

new_where_live : (has : Command → Bool) (New : List ℕ → ℕ → Type 0) → AllPart has New → (bs : List ℕ) (cs : List Command) (rest : List ℕ) (k : ℕ) (why : FaultReason)
    → FaultAtIn has bs cs rest k why → IsLive (walk grammar (rest ++ slice_index bs k ∷ [])) → New rest (slice_index bs k)
new_where_live has New parts bs cs rest k why f live =
    let v = viable_where_live (rest ++ slice_index bs k ∷ []) live in
    new_or_had has New parts v.0 rest (slice_index bs k) v.1 (has v.0) refl v.2 f.before.rest_is f.refused

new_or_refused : (has : Command → Bool) (New : List ℕ → ℕ → Type 0) → AllPart has New → (t : Tree) (bs : List ℕ) (cs : List Command) (rest : List ℕ) (k : ℕ) (why : FaultReason)
    → FaultAtIn has bs cs rest k why → walk grammar (rest ++ slice_index bs k ∷ []) ≡ t → FaultAt bs cs rest k why ⊎ New rest (slice_index bs k)
new_or_refused has New parts dead bs cs rest k why f e =
    inl (record { place = f.place; before = read has (take k bs) cs rest f.before; refused = not_viable_at_dead (rest ++ slice_index bs k ∷ []) e; reason = f.reason })
new_or_refused has New parts (leaf c) bs cs rest k why f e = inr (new_where_live has New parts bs cs rest k why f (subst (λ t. IsLive t) (sym e) tt))
new_or_refused has New parts (node next) bs cs rest k why f e = inr (new_where_live has New parts bs cs rest k why f (subst (λ t. IsLive t) (sym e) tt))

pub refused : (has : Command → Bool) (New : List ℕ → ℕ → Type 0) → AllPart has New → (bs : List ℕ) (cs : List Command) (rest : List ℕ) (k : ℕ) (why : FaultReason)
    → FaultAtIn has bs cs rest k why → FaultAt bs cs rest k why ⊎ New rest (slice_index bs k)
refused has New parts bs cs rest k why f = new_or_refused has New parts (walk grammar (rest ++ slice_index bs k ∷ [])) bs cs rest k why f refl

-- ## It reads or refuses each list: one byte more

decided : (has : Command → Bool) (New : List ℕ → ℕ → Type 0) → AllPart has New → (c : Command) (rest : List ℕ) (b : ℕ) (more : List ℕ) (is_in : Bool) → has c ≡ is_in
    → Spells c ((rest ++ b ∷ []) ++ more) → RestIn has rest → Decided (ViableIn has (rest ++ b ∷ []))
decided has New parts c rest b more true h s k = inl (c, more, (h, s))
decided has New parts c rest b more false h s k =
    let p = parts c h s.in_range in decided_at has New (row c) rest b p (at_place has New (row c) rest b more p s.in_table) k

abbrev IsCommandIn : (Command → Bool) → Command → Type 0
IsCommandIn has c = IsCommand c × IsTrue (has c)

all_append : (has : Command → Bool) (cs ds : List Command) → AllByRecursion (IsCommandIn has) cs → AllByRecursion (IsCommandIn has) ds → AllByRecursion (IsCommandIn has) (cs ++ ds)
all_append has [] ds h k = k
all_append has (c ∷ cs) ds h k = (h.0, all_append has cs ds h.1 k)

joined : (has : Command → Bool) (a b : List ℕ) (cs ds : List Command) (r s : List ℕ) → ReadsIn has a cs r → ReadsIn has (r ++ b) ds s → ReadsIn has (a ++ b) (cs ++ ds) s
joined has a b cs ds r s h k = record {
  commands = all_append has cs ds h.commands k.commands;
  whole =
      ap (λ xs. xs ++ b) h.whole ∙ append_assoc (spell cs) r b ∙ ap (λ xs. spell cs ++ xs) k.whole
      ∙ sym (append_assoc (spell cs) (spell ds) s) ∙ ap (λ xs. xs ++ s) (sym (flat_map-append row cs ds));
  rest_is = k.rest_is;
}

-- The reading goes on, or the byte is refused.
data Step (has : Command → Bool) (a : List ℕ) (b : ℕ) (rest : List ℕ) : Type 0 where
  next : (ds : List Command) (more : List ℕ) → ReadsIn has (a ++ b ∷ []) ds more → Step has a b rest
  stop : (ViableIn has (rest ++ b ∷ []) → ⊥) → Step has a b rest

-- A command of the whole table that is spelled is the only one that begins so.
alone : (has : Command → Bool) (c : Command) (bs : List ℕ) → Spells c bs → has c ≡ false → ViableIn has bs → ⊥
alone has c bs s beyond v =
    let none = no_prefix c v.0 bs v.1 s v.2.1 in
    let whole = subst (λ u. Spells v.0 u) (ap (λ u. bs ++ u) none ∙ append-nil bs) v.2.1 in
    not_in has v.0 (ap has (sym (one_command c v.0 bs s whole)) ∙ beyond) v.2.0

at_leaf : (has : Command → Bool) (a : List ℕ) (b : ℕ) (cs : List Command) (rest : List ℕ) (c : Command) (is_in : Bool) → has c ≡ is_in → Spells c (rest ++ b ∷ [])
    → ReadsIn has a cs rest → Step has a b rest
at_leaf has a b cs rest c true is s h =
    next (cs ++ c ∷ []) []
    (joined has a (b ∷ []) cs (c ∷ []) rest [] h
    (record { commands = ((s.in_range, is), tt); whole = s.in_table ∙ sym (append-nil (row c)) ∙ sym (append-nil (row c ++ [])); rest_is = inl refl }))
at_leaf has a b cs rest c false is s h = stop (alone has c (rest ++ b ∷ []) s is)

at_node : (has : Command → Bool) (a : List ℕ) (b : ℕ) (cs : List Command) (rest : List ℕ) (following : ℕ → Tree) → walk grammar (rest ++ b ∷ []) ≡ node following
    → ReadsIn has a cs rest → Decided (ViableIn has (rest ++ b ∷ [])) → Step has a b rest
at_node has a b cs rest following e h (inl v) =
    let half = half_at_node (rest ++ b ∷ []) following (not_empty rest b) e in
    next (cs ++ []) (rest ++ b ∷ [])
    (joined has a (b ∷ []) cs [] rest (rest ++ b ∷ []) h
    (record { commands = tt; whole = refl; rest_is = inr (record { begun = not_empty rest b; viable = v; no_spelling = λ c s. half.no_spelling c s.1 }) }))
at_node has a b cs rest following e h (inr refused) = stop refused

step_by : (has : Command → Bool) (New : List ℕ → ℕ → Type 0) → AllPart has New → (a : List ℕ) (b : ℕ) (cs : List Command) (rest : List ℕ) (t : Tree)
    → walk grammar (rest ++ b ∷ []) ≡ t → ReadsIn has a cs rest → Step has a b rest
step_by has New parts a b cs rest dead e h = stop (λ v. not_viable_at_dead (rest ++ b ∷ []) e (v.0, v.1, v.2.1))
step_by has New parts a b cs rest (leaf c) e h = at_leaf has a b cs rest c (has c) refl (spelling_at_leaf c (rest ++ b ∷ []) e) h
step_by has New parts a b cs rest (node following) e h =
    let v = viable_where_live (rest ++ b ∷ []) (subst (λ t. IsLive t) (sym e) tt) in
    at_node has a b cs rest following e h (decided has New parts v.0 rest b v.1 (has v.0) refl v.2 h.rest_is)

-- ## All bytes

fault_after : (has : Command → Bool) (a : List ℕ) (b : ℕ) (more : List ℕ) (cs : List Command) (rest : List ℕ) → ReadsIn has a cs rest → (ViableIn has (rest ++ b ∷ []) → ⊥)
    → FaultAtIn has (a ++ b ∷ more) cs rest (length a) (reason_after rest)
fault_after has a b more cs rest h r = record {
  place = let count = length-append a (b ∷ more) in omega arith;
  before = subst (λ xs. ReadsIn has xs cs rest) (sym (take-append_seam a (b ∷ more))) h;
  refused = subst (λ x. ViableIn has (rest ++ x ∷ []) → ⊥) (sym (get_or-append_seam a b more 0)) r;
  reason = refl;
}

go_on : (has : Command → Bool) (New : List ℕ → ℕ → Type 0) → AllPart has New → (left a : List ℕ) (cs : List Command) (rest : List ℕ) → ReadsIn has a cs rest
    → IsReadIn has (a ++ left) ⊎ IsRefusedIn has (a ++ left)
go_on has New parts [] a cs rest h = inl (cs, rest, subst (λ xs. ReadsIn has xs cs rest) (sym (append-nil a)) h)
go_on has New parts (b ∷ left) a cs rest h =
    elim (step_by has New parts a b cs rest (walk grammar (rest ++ b ∷ [])) refl h) [
      | next ds more k ↦ subst (λ xs. IsReadIn has xs ⊎ IsRefusedIn has xs) (append_assoc a (b ∷ []) left) (go_on has New parts left (a ++ b ∷ []) ds more k)
      | stop r ↦ inr (cs, rest, length a, reason_after rest, fault_after has a b left cs rest h r)
    ]

pub read_or_refused : (has : Command → Bool) (New : List ℕ → ℕ → Type 0) → AllPart has New → (bs : List ℕ) → IsReadIn has bs ⊎ IsRefusedIn has bs
read_or_refused has New parts bs = go_on has New parts bs [] [] [] (record { commands = tt; whole = refl; rest_is = inl refl })
