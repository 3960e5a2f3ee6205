-- No token begins another, and where bytes read as tokens and the start of one, or have a fault after some, there is one way to it.
use Rattle.std.proofs.Common.{◌≡◌, ◌⊎◌, inl, inr, ℕ, ◌+◌, ◌<◌, ◌≤◌, true, List, [], ◌∷◌, ◌++◌, length, take, drop, map, refl, sym, ◌∙◌, ap, subst, arith, append_assoc, append-nil, length-append, Option, None, Some}
use Rattle.std.specs.Prelude.{slice_index, IsTrue}
use Rattle.std.specs.List.{AllByRecursion}
use Rattle.std.proofs.lemmas.Grind.{common_steps}
use Rattle.std.proofs.lemmas.List.{append_cancel_left}
use Rattle.escpos_command.specs.declared.command.Command.{Command}
use Rattle.escpos_command.specs.declared.fault.FaultReason.{FaultReason}
use Rattle.escpos_command.specs.CommandTable.{IsCommand, row, spell}
use Rattle.escpos_command.specs.Grammar.{Half, Reads, FaultAt, Viable}
use Rattle.escpos_command.specs.Tree.{Tree, dead, leaf, node, walk, grammar}
use Rattle.escpos_command.proofs.TableTree.{at_start, leads}
use Rattle.escpos_command.proofs.Walks.{walk-append}
use Rattle.escpos_command.proofs.Readings.{node_at_half, viable_prefix, not_viable_at_dead, one_command, no_prefix, one_fault}
use Rattle.escpos_passed.specs.declared.table.Except.{Except}
use Rattle.escpos_passed.specs.declared.table.Except.TheVariants as except
use Rattle.escpos_passed.specs.Table.{table, row_at, row_prefix, may_allow, IsPassed, IsPassedBy, IsPart, IsPartBy, IsShort}
use Rattle.escpos_passed.specs.Lengths.{whole_length}
use Rattle.escpos_passed.specs.Tokens.{Token, taken, passed, IsToken, bytes_of, spell_tokens, IsRest, nothing, half, part, ReadsTokens, FaultAfter}
use Rattle.escpos_passed.proofs.Lengths.{stable}
use Rattle.escpos_passed.proofs.Rows.{one_row, strays_at, quiet_at}
use Rattle.escpos_passed.proofs.Strays.{strays, is_quiet, strays_apart, quiet_apart, quiet_start, strays_dead}

-- ## Two lists that agree

head_of : (b c : ℕ) (x y : List ℕ) → b ∷ x ≡ c ∷ y → b ≡ c
head_of b c x y e = cc

pub tail_of : (b c : ℕ) (x y : List ℕ) → b ∷ x ≡ c ∷ y → x ≡ y
tail_of b c x y e = cc

-- One of two lists that begin one list begins the other.
data Meets (a b x y : List ℕ) : Type 0 where
  shorter : (m : List ℕ) → b ≡ a ++ m → x ≡ m ++ y → Meets a b x y
  longer : (m : List ℕ) → a ≡ b ++ m → y ≡ m ++ x → Meets a b x y

meets_after : (c d : ℕ) (a b x y : List ℕ) → c ≡ d → Meets a b x y → Meets (c ∷ a) (d ∷ b) x y
meets_after c d a b x y e (shorter m f g) = shorter m (ap (λ v. d ∷ v) f ∙ ap (λ v. v ∷ (a ++ m)) (sym e)) g
meets_after c d a b x y e (longer m f g) = longer m (ap (λ v. c ∷ v) f ∙ ap (λ v. v ∷ (b ++ m)) e) g

meets : (a b x y : List ℕ) → a ++ x ≡ b ++ y → Meets a b x y
meets [] b x y e = shorter b refl e
meets (c ∷ a) [] x y e = longer (c ∷ a) refl (sym e)
meets (c ∷ a) (d ∷ b) x y e = meets_after c d a b x y (head_of c d (a ++ x) (b ++ y) e) (meets a b x y (tail_of c d (a ++ x) (b ++ y) e))

pub around : (bs : List ℕ) (k : ℕ) → k < length bs → bs ≡ take k bs ++ slice_index bs k ∷ drop (k + 1) bs
around bs k h = grind (arith, common_steps)

no_more : (a m : List ℕ) → a ≡ a ++ m → m ≡ []
no_more a m e = sym (append_cancel_left a [] m (append-nil a ∙ e))

pub none_left : (m : List ℕ) → length m ≡ 0 → m ≡ []
none_left [] e = refl
none_left (b ∷ m) e = absurd (omega (arith, e))

walk_none : (t : Tree) → walk t [] ≡ t
walk_none dead = refl
walk_none (leaf c) = refl
walk_none (node next) = refl

may_begin : (e : Option Except) → IsTrue (may_allow e [])
may_begin None = refl
may_begin (Some (except.First code)) = refl
may_begin (Some except.Graphics) = refl
may_begin (Some except.LongGraphics) = refl

strays_not_empty : (bs : List ℕ) → strays grammar bs ≡ true → bs ≡ [] → ⊥
strays_not_empty bs s e =
    let at : strays (node at_start.0) [] ≡ true = subst (λ t. strays t [] ≡ true) at_start.1 (subst (λ v. strays grammar v ≡ true) e s) in
    absurd cc

-- ## A command that is passed over, and one of the command table

strays_passed : (bs : List ℕ) → IsPassed bs → strays grammar bs ≡ true
strays_passed bs p = subst (λ v. strays grammar v ≡ true) (sym p.2.begins) (strays_at p.0 p.2.rest p.1 p.2.allowed)

quiet_by : (i : ℕ) (bs : List ℕ) → i < length table → IsPartBy (row_at table i) bs → is_quiet grammar bs ≡ true
quiet_by i bs h (inl s) =
    quiet_start grammar bs s.more (subst (λ v. is_quiet grammar v ≡ true) (append-nil (row_prefix (row_at table i)) ∙ s.starts) (quiet_at i [] h (may_begin (row_at table i).except)))
quiet_by i bs h (inr u) = subst (λ v. is_quiet grammar v ≡ true) (sym u.begins) (quiet_at i u.rest h u.allowed)

quiet_part : (bs : List ℕ) → IsPart bs → is_quiet grammar bs ≡ true
quiet_part bs p = quiet_by p.0 bs p.1 p.2

passed_apart : (c : Command) (bs x y : List ℕ) → IsCommand c → IsPassed bs → row c ++ x ≡ bs ++ y → ⊥
passed_apart c bs x y h p e = strays_apart grammar bs (row c) x y c (strays_passed bs p) (leads c h) e

-- ## Two commands that are passed over

rest_of : (r : List ℕ) (a b x y p q : List ℕ) → a ≡ p ++ x → b ≡ p ++ y → a ++ r ≡ b → x ++ r ≡ y
rest_of r a b x y p q f g e = append_cancel_left p (x ++ r) y (sym (append_assoc p x r) ∙ ap (λ v. v ++ r) (sym f) ∙ e ∙ g)

same_row : (a b r : List ℕ) (i j : ℕ) (x y : List ℕ) → i < length table → j < length table → a ≡ row_prefix (row_at table i) ++ x → b ≡ row_prefix (row_at table j) ++ y → a ++ r ≡ b → i ≡ j
same_row a b r i j x y h k f g e =
    one_row i j (x ++ r) y h k (sym (append_assoc (row_prefix (row_at table i)) x r) ∙ ap (λ v. v ++ r) (sym f) ∙ e ∙ g)

told_once : (i : ℕ) (x y r : List ℕ) → x ++ r ≡ y → whole_length (row_at table i).form x ≡ Some (length x) → whole_length (row_at table i).form y ≡ Some (length x)
told_once i x y r e w = subst (λ v. whole_length (row_at table i).form v ≡ Some (length x)) e (stable (row_at table i).form x r (length x) w)

some_of : (m n : ℕ) → Some m ≡ Some n → m ≡ n
some_of m n e = cc

one_passed : (i j : ℕ) (a b r : List ℕ) → i < length table → j < length table → IsPassedBy (row_at table i) a → IsPassedBy (row_at table j) b → a ++ r ≡ b → (i ≡ j) × (r ≡ [])
one_passed i j a b r h k p q e =
    let same : i ≡ j = same_row a b r i j p.rest q.rest h k p.begins q.begins e in
    let other : IsPassedBy (row_at table i) b = subst (λ n. IsPassedBy (row_at table n) b) (sym same) q in
    let rest = rest_of r a b p.rest other.rest (row_prefix (row_at table i)) [] p.begins other.begins e in
    let long = some_of (length p.rest) (length other.rest) (sym (told_once i p.rest other.rest r rest p.whole) ∙ other.whole) in
    let sum = ap length (sym rest) ∙ length-append p.rest r in
    (same, none_left r (omega arith))

-- ## The start of a token holds no whole one

short_no_more : (o : Option ℕ) (m n : ℕ) → o ≡ Some m → m ≤ n → IsShort o n → ⊥
short_no_more None m n e h s = absurd cc
short_no_more (Some k) m n e h s = let same : k ≡ m = cc in omega (arith, s, same, h)

part_by_passed : (i : ℕ) (x a r : List ℕ) → i < length table → IsPartBy (row_at table i) x → IsPassed a → x ≡ a ++ r → ⊥
part_by_passed i x a r h (inl s) p e =
    let all : a ++ (r ++ s.more) ≡ row_prefix (row_at table i) = sym (append_assoc a r s.more) ∙ ap (λ v. v ++ s.more) (sym e) ∙ sym s.starts in
    let same : p.0 ≡ i = same_row a (row_prefix (row_at table i)) (r ++ s.more) p.0 i p.2.rest [] p.1 h p.2.begins (sym (append-nil (row_prefix (row_at table i)))) all in
    let own : a ≡ row_prefix (row_at table i) ++ p.2.rest = subst (λ j. a ≡ row_prefix (row_at table j) ++ p.2.rest) same p.2.begins in
    let none = rest_of (r ++ s.more) a (row_prefix (row_at table i)) p.2.rest [] (row_prefix (row_at table i)) [] own (sym (append-nil (row_prefix (row_at table i)))) all in
    let long = ap length none ∙ refl in
    s.others (none_left s.more (let one = length-append p.2.rest (r ++ s.more) in let two = length-append r s.more in omega arith))
part_by_passed i x a r h (inr u) p e =
    let same : p.0 ≡ i = same_row a x r p.0 i p.2.rest u.rest p.1 h p.2.begins u.begins (sym e) in
    let own : IsPassedBy (row_at table i) a = subst (λ j. IsPassedBy (row_at table j) a) same p.2 in
    let rest = rest_of r a x own.rest u.rest (row_prefix (row_at table i)) [] own.begins u.begins (sym e) in
    let told = told_once i own.rest u.rest r rest own.whole in
    let sum = ap length (sym rest) ∙ length-append own.rest r in
    short_no_more (whole_length (row_at table i).form u.rest) (length own.rest) (length u.rest) told (omega arith) u.short

-- No token begins the bytes.
abbrev pub Silent : List ℕ → Type 0
Silent x = (t : Token) (more : List ℕ) → IsToken t → x ≡ bytes_of t ++ more → ⊥

not_leaf : (c : Command) (more : List ℕ) (next : ℕ → Tree) → walk (leaf c) more ≡ node next → ⊥
not_leaf c [] next e = absurd cc
not_leaf c (b ∷ more) next e = absurd cc

half_taken : (x : List ℕ) (c : Command) (more : List ℕ) → Half x → IsCommand c → x ≡ row c ++ more → ⊥
half_taken x c more h k e =
    let n = node_at_half x h in
    not_leaf c more n.0 (ap (λ t. walk t more) (sym (leads c k)) ∙ sym (walk-append grammar (row c) more) ∙ ap (walk grammar) (sym e) ∙ n.1)

half_passed : (x bs more : List ℕ) → Half x → IsPassed bs → x ≡ bs ++ more → ⊥
half_passed x bs more h p e = not_viable_at_dead x (ap (walk grammar) e ∙ strays_dead grammar bs more (strays_passed bs p)) h.viable

no_command_empty : (c : Command) (more : List ℕ) → IsCommand c → [] ≡ row c ++ more → ⊥
no_command_empty c more k e =
    let none : row c ≡ [] = none_left (row c) (let long = ap length e ∙ length-append (row c) more in omega arith) in
    let at : node at_start.0 ≡ leaf c = sym at_start.1 ∙ sym (walk_none grammar) ∙ ap (walk grammar) (sym none) ∙ leads c k in
    absurd cc

pub no_passed_empty : (bs more : List ℕ) → IsPassed bs → [] ≡ bs ++ more → ⊥
no_passed_empty bs more p e = strays_not_empty bs (strays_passed bs p) (none_left bs (let long = ap length e ∙ length-append bs more in omega arith))

pub silent_rest : (x : List ℕ) → IsRest x → Silent x
silent_rest x (nothing e) (taken c) more h f = no_command_empty c more h (sym e ∙ f)
silent_rest x (nothing e) (passed i bs) more h f = no_passed_empty bs more (i, h.0, h.1) (sym e ∙ f)
silent_rest x (half k) (taken c) more h f = half_taken x c more k h f
silent_rest x (half k) (passed i bs) more h f = half_passed x bs more k (i, h.0, h.1) f
silent_rest x (part p) (taken c) more h f = quiet_apart grammar x (row c) more c (quiet_part x p) (leads c h) f
silent_rest x (part p) (passed i bs) more h f = part_by_passed p.0 x bs more p.1 p.2 (i, h.0, h.1) f

-- ## Two tokens

one_taken : (c d : Command) (r : List ℕ) → IsCommand c → IsCommand d → row c ++ r ≡ row d → (c ≡ d) × (r ≡ [])
one_taken c d r h k e =
    let none = no_prefix c d (row c) r (record { in_range = h; in_table = refl }) (record { in_range = k; in_table = e }) in (
      one_command c d (row c) (record { in_range = h; in_table = refl }) (record { in_range = k; in_table = sym (append-nil (row c)) ∙ ap (λ v. row c ++ v) (sym none) ∙ e }),
      none,
    )

one_longer : (t u : Token) (r : List ℕ) → IsToken t → IsToken u → bytes_of t ++ r ≡ bytes_of u → (t ≡ u) × (r ≡ [])
one_longer (taken c) (taken d) r h k e = let one = one_taken c d r h k e in (ap taken one.0, one.1)
one_longer (taken c) (passed i bs) r h k e = absurd (passed_apart c bs r [] h (i, k.0, k.1) (e ∙ sym (append-nil bs)))
one_longer (passed i bs) (taken d) r h k e = absurd (passed_apart d bs [] r k (i, h.0, h.1) (append-nil (row d) ∙ sym e))
one_longer (passed i a) (passed j b) r h k e =
    let one = one_passed i j a b r h.0 k.0 h.1 k.1 e in
    (ap (λ n. passed n a) one.0 ∙ ap (passed j) (sym (append-nil a) ∙ ap (λ v. a ++ v) (sym one.1) ∙ e), one.1)

pub no_token_prefix : (t u : Token) (more : List ℕ) → IsToken t → IsToken u → bytes_of u ≡ bytes_of t ++ more → more ≡ []
no_token_prefix t u more h k e = (one_longer t u more h k (sym e)).1

pub one_token : (t u : Token) → IsToken t → IsToken u → bytes_of t ≡ bytes_of u → t ≡ u
one_token t u h k e = (one_longer t u [] h k (append-nil (bytes_of t) ∙ e)).0

after_same : (m x y : List ℕ) → m ≡ [] → x ≡ m ++ y → x ≡ y
after_same m x y e f = f ∙ ap (λ v. v ++ y) e

tokens_meet : (t u : Token) (x y : List ℕ) → IsToken t → IsToken u → Meets (bytes_of t) (bytes_of u) x y → (t ≡ u) × (x ≡ y)
tokens_meet t u x y h k (shorter m e f) = let one = one_longer t u m h k (sym e) in (one.0, after_same m x y one.1 f)
tokens_meet t u x y h k (longer m e f) = let one = one_longer u t m k h (sym e) in (sym one.0, sym (after_same m y x one.1 f))

-- ## One reading

one_split : (ts us : List Token) (x y : List ℕ) → AllByRecursion IsToken ts → AllByRecursion IsToken us → Silent x → Silent y
    → spell_tokens ts ++ x ≡ spell_tokens us ++ y → (ts ≡ us) × (x ≡ y)
one_split [] [] x y h k sx sy e = (refl, e)
one_split [] (u ∷ us) x y h k sx sy e = absurd (sx u (spell_tokens us ++ y) k.0 (e ∙ append_assoc (bytes_of u) (spell_tokens us) y))
one_split (t ∷ ts) [] x y h k sx sy e = absurd (sy t (spell_tokens ts ++ x) h.0 (sym e ∙ append_assoc (bytes_of t) (spell_tokens ts) x))
one_split (t ∷ ts) (u ∷ us) x y h k sx sy e =
    let whole = sym (append_assoc (bytes_of t) (spell_tokens ts) x) ∙ e ∙ append_assoc (bytes_of u) (spell_tokens us) y in
    let first = tokens_meet t u (spell_tokens ts ++ x) (spell_tokens us ++ y) h.0 k.0 (meets (bytes_of t) (bytes_of u) (spell_tokens ts ++ x) (spell_tokens us ++ y) whole) in
    let rest = one_split ts us x y h.1 k.1 sx sy first.1 in
    (ap (λ v. v ∷ ts) first.0 ∙ ap (λ v. u ∷ v) rest.0, rest.1)

pub one_reading : (bs : List ℕ) (ts us : List Token) (x y : List ℕ) → ReadsTokens bs ts x → ReadsTokens bs us y → (ts ≡ us) × (x ≡ y)
one_reading bs ts us x y r s = one_split ts us x y r.tokens s.tokens (silent_rest x r.rest_is) (silent_rest y s.rest_is) (sym r.whole ∙ s.whole)

-- ## One fault

-- The bytes before a fault in the first command of a list.
fault_rest : (left rest : List ℕ) (k : ℕ) (why : FaultReason) → FaultAt left [] rest k why → left ≡ rest ++ slice_index left k ∷ drop (k + 1) left
fault_rest left rest k why f = around left k f.place ∙ ap (λ v. v ++ slice_index left k ∷ drop (k + 1) left) f.before.whole

rest_taken : (rest : List ℕ) (c : Command) (more : List ℕ) → (rest ≡ []) ⊎ Half rest → IsCommand c → rest ≡ row c ++ more → ⊥
rest_taken rest c more (inl e) k f = no_command_empty c more k (sym e ∙ f)
rest_taken rest c more (inr h) k f = half_taken rest c more h k f

-- A command that begins the bytes would have the refused byte, or stand before it.
taken_before : (rest : List ℕ) (b : ℕ) (others : List ℕ) (c : Command) (more : List ℕ) → (rest ≡ []) ⊎ Half rest → (Viable (rest ++ b ∷ []) → ⊥) → IsCommand c
    → Meets rest (row c) (b ∷ others) more → ⊥
taken_before rest b others c more r refused k (longer m e f) = rest_taken rest c m r k e
taken_before rest b others c more r refused k (shorter [] e f) = rest_taken rest c [] r k (sym (append-nil rest) ∙ sym e ∙ sym (append-nil (row c)))
taken_before rest b others c more r refused k (shorter (a ∷ m) e f) =
    let same : b ≡ a = cc in
    refused (
      c,
      m,
      record {
        in_range = k;
        in_table = append_assoc rest (b ∷ []) m ∙ ap (λ v. rest ++ v ∷ m) same ∙ sym e;
      },
    )

pub fault_silent : (bs : List ℕ) (ts : List Token) (k : ℕ) (why : FaultReason) (f : FaultAfter bs ts k why) → Silent f.left
fault_silent bs ts k why f (taken c) more h e =
    taken_before f.rest (slice_index f.left f.after) (drop (f.after + 1) f.left) c more f.fault.before.rest_is f.fault.refused h
    (meets f.rest (row c) (slice_index f.left f.after ∷ drop (f.after + 1) f.left) more (sym (fault_rest f.left f.rest f.after why f.fault) ∙ e))
fault_silent bs ts k why f (passed i a) more h e = f.not_passed a more e (i, h.0, h.1)

fault_no_rest : (bs : List ℕ) (ts : List Token) (k : ℕ) (why : FaultReason) (f : FaultAfter bs ts k why) → IsRest f.left → ⊥
fault_no_rest bs ts k why f (nothing e) = let place = f.fault.place in let none = ap length e in omega arith
fault_no_rest bs ts k why f (half h) =
    let b = slice_index f.left f.after in
    f.fault.refused (viable_prefix (f.rest ++ b ∷ []) (drop (f.after + 1) f.left)
    (subst (λ v. Viable v) (fault_rest f.left f.rest f.after why f.fault ∙ sym (append_assoc f.rest (b ∷ []) (drop (f.after + 1) f.left))) h.viable))
fault_no_rest bs ts k why f (part p) = f.no_part p

pub not_both : (bs : List ℕ) (ts us : List Token) (x : List ℕ) (k : ℕ) (why : FaultReason) → ReadsTokens bs ts x → FaultAfter bs us k why → ⊥
not_both bs ts us x k why r f =
    let split = one_split ts us x f.left r.tokens f.tokens (silent_rest x r.rest_is) (fault_silent bs us k why f) (sym r.whole ∙ f.whole) in
    fault_no_rest bs us k why f (subst (λ v. IsRest v) split.1 r.rest_is)

pub one_fault_after : (bs : List ℕ) (ts us : List Token) (k l : ℕ) (why also : FaultReason) → FaultAfter bs ts k why → FaultAfter bs us l also → (ts ≡ us) × (k ≡ l) × (why ≡ also)
one_fault_after bs ts us k l why also f g =
    let split = one_split ts us f.left g.left f.tokens g.tokens (fault_silent bs ts k why f) (fault_silent bs us l also g) (sym f.whole ∙ g.whole) in
    let other : FaultAt f.left [] g.rest g.after also = subst (λ v. FaultAt v [] g.rest g.after also) (sym split.1) g.fault in
    let one = one_fault f.left [] [] f.rest g.rest f.after g.after why also f.fault other in (
      split.0,
      f.place ∙ ap (λ v. length (spell_tokens v) + f.after) split.0 ∙ ap (λ v. length (spell_tokens us) + v) one.2 ∙ sym g.place,
      one.3,
    )

-- ## The smaller table

pub tokens_of : (cs : List Command) → AllByRecursion IsCommand cs → AllByRecursion IsToken (map taken cs)
tokens_of [] h = tt
tokens_of (c ∷ cs) h = (h.0, tokens_of cs h.1)

pub same_bytes : (cs : List Command) → spell_tokens (map taken cs) ≡ spell cs
same_bytes [] = refl
same_bytes (c ∷ cs) = ap (λ v. row c ++ v) (same_bytes cs)

rest_of_half : (rest : List ℕ) → (rest ≡ []) ⊎ Half rest → IsRest rest
rest_of_half rest (inl e) = nothing e
rest_of_half rest (inr h) = half h

pub as_tokens : (bs : List ℕ) (cs : List Command) (rest : List ℕ) → Reads bs cs rest → ReadsTokens bs (map taken cs) rest
as_tokens bs cs rest r = record {
  tokens = tokens_of cs r.commands;
  whole = r.whole ∙ ap (λ v. v ++ rest) (sym (same_bytes cs));
  rest_is = rest_of_half rest r.rest_is;
}
