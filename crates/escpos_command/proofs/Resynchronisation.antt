-- A mark is read as one, or not at all: 1D stands at the first place of its spelling and at no other.
use Rattle.std.proofs.Common.{◌≡◌, ◌≢◌, ℕ, ◌⊎◌, inl, inr, List, [], ◌∷◌, ◌++◌, option_to_list, refl, sym, ◌∙◌, ap, subst, append_assoc, append-nil, None, IsTrue}
use Rattle.std.specs.List.{list_all, AllByRecursion}
use Rattle.escpos_command.specs.declared.bytes.TheConstants.{GS}
use Rattle.escpos_command.specs.declared.command.Command.{Command}
use Rattle.escpos_command.specs.declared.command.Command.TheVariants as kind
use Rattle.escpos_command.specs.CommandTable.{Spells, IsCommand, row, spell}
use Rattle.escpos_command.specs.Grammar.{Half, Reads}
use Rattle.escpos_command.specs.Marks.{mark_id, marks, IsMarkOrNone}
use Rattle.escpos_command.specs.Parameters.{is_mark_id, is_mark_byte}
use Rattle.escpos_command.proofs.Combinators.{and_left, and_right}
use Rattle.escpos_command.proofs.Readings.{one_command, no_prefix, one_reading, reads_command}

-- No byte of these is 1D.
abbrev Quiet : List ℕ → Type 0
Quiet [] = Unit {0}
Quiet (b ∷ bs) = (b ≢ GS) × Quiet bs

quiet_end : (a b : List ℕ) → Quiet (a ++ b) → Quiet b
quiet_end [] b q = q
quiet_end (x ∷ a) b q = quiet_end a b q.1

loud : (a b : List ℕ) → Quiet (a ++ GS ∷ b) → ⊥
loud a b q = (quiet_end a (GS ∷ b) q).0 refl

not_gs : IsTrue (is_mark_byte GS) → ⊥
not_gs h = cc

quiet_id : (id : List ℕ) → IsTrue (list_all is_mark_byte id) → Quiet id
quiet_id [] h = tt
quiet_id (b ∷ id) h = (λ e. not_gs (subst (λ n. IsTrue (is_mark_byte n)) e (and_left (is_mark_byte b) (list_all is_mark_byte id) h)), quiet_id id (and_right (is_mark_byte b) (list_all is_mark_byte id) h))

-- A mark's spelling after its first byte.
abbrev later : List ℕ → List ℕ
later id = 0x28 ∷ 0x48 ∷ 0x06 ∷ 0x00 ∷ 0x30 ∷ 0x30 ∷ id

mark_row : (id : List ℕ) → row (kind.Mark id) ≡ GS ∷ later id
mark_row id = append-nil _ ∙ append-nil _

quiet_later : (id : List ℕ) → IsTrue (is_mark_id id) → Quiet (later id)
quiet_later id h = (λ e. cc, (λ e. cc, (λ e. cc, (λ e. cc, (λ e. cc, (λ e. cc, quiet_id id (and_right _ (list_all is_mark_byte id) h)))))))

-- What a command is by its marks: none, or the mark.
data Kind (c : Command) : Type 0 where
  other : mark_id c ≡ None → Kind c
  mark : (id : List ℕ) → c ≡ kind.Mark id → Kind c

kind_of : (c : Command) → Kind c
kind_of (kind.Mark id) = mark id refl
kind_of c = other refl

marks_after : (c : Command) (cs : List Command) → mark_id c ≡ None → marks cs ≡ [] → marks (c ∷ cs) ≡ []
marks_after c cs n e = ap (λ v. option_to_list v ++ marks cs) n ∙ e

-- ## Where a mark can't be

unmarked : (cs : List Command) (rest : List ℕ) → Quiet (spell cs ++ rest) → marks cs ≡ []
unmarked [] rest q = refl
unmarked (c ∷ cs) rest q =
    let bytes = subst (λ v. Quiet v) (append_assoc (row c) (spell cs) rest) q in
    elim (kind_of c) [
      | other n ↦ marks_after c cs n (unmarked cs rest (quiet_end (row c) (spell cs ++ rest) bytes))
      | mark id n ↦ absurd (loud [] (later id ++ (spell cs ++ rest)) (subst (λ v. Quiet (v ++ (spell cs ++ rest))) (ap row n ∙ mark_row id) bytes))
    ]

tail_of : (b c : ℕ) (x y : List ℕ) → b ∷ x ≡ c ∷ y → x ≡ y
tail_of b c x y e = cc

head_of : (b c : ℕ) (x y : List ℕ) → b ∷ x ≡ c ∷ y → b ≡ c
head_of b c x y e = cc

-- 1D stands in a mark's spelling at the first place alone.
inside : (h u id : List ℕ) → h ≢ [] → IsTrue (is_mark_id id) → GS ∷ later id ≡ h ++ GS ∷ u → ⊥
inside [] u id begun ok e = begun refl
inside (b ∷ h) u id begun ok e = loud h u (subst (λ v. Quiet v) (tail_of GS b (later id) (h ++ GS ∷ u) e) (quiet_later id ok))

-- Where two lists with something after them agree, either the first is longer than the second or it isn't.
data Split (a s h : List ℕ) (g : ℕ) (t : List ℕ) : Type 0 where
  longer : (u : List ℕ) → a ≡ h ++ g ∷ u → t ≡ u ++ s → Split a s h g t
  shorter : (y : List ℕ) → h ≡ a ++ y → Split a s h g t

split_after : (x y : ℕ) (a s h : List ℕ) (g : ℕ) (t : List ℕ) → x ≡ y → Split a s h g t → Split (x ∷ a) s (y ∷ h) g t
split_after x y a s h g t e (longer u p q) = longer u (ap (λ v. v ∷ a) e ∙ ap (λ v. y ∷ v) p) q
split_after x y a s h g t e (shorter z p) = shorter z (ap (λ v. v ∷ h) (sym e) ∙ ap (λ v. x ∷ v) p)

split : (a s h : List ℕ) (g : ℕ) (t : List ℕ) → a ++ s ≡ h ++ g ∷ t → Split a s h g t
split [] s h g t e = shorter h refl
split (x ∷ a) s [] g t e = longer a (ap (λ v. v ∷ a) (head_of x g (a ++ s) t e)) (sym (tail_of x g (a ++ s) t e))
split (x ∷ a) s (y ∷ h) g t e =
    split_after x y a s h g t (head_of x y (a ++ s) (h ++ g ∷ t) e) (split a s h g t (tail_of x y (a ++ s) (h ++ g ∷ t) e))

nothing_first : (a b : List ℕ) → a ++ b ≡ [] → a ≡ []
nothing_first [] b e = refl
nothing_first (x ∷ a) b e = absurd cc

nothing_last : (a b : List ℕ) → a ++ b ≡ [] → b ≡ []
nothing_last [] b e = e
nothing_last (x ∷ a) b e = absurd cc

spelled : (c : Command) → IsCommand c → Spells c (row c)
spelled c h = record { in_range = h; in_table = refl }

-- No spelling begins a half command.
not_within : (c : Command) (h y : List ℕ) → IsCommand c → Half h → h ≡ row c ++ y → ⊥
not_within c h y ok half e =
    let v = half.viable in
    let long = subst (λ xs. Spells v.0 xs) (ap (λ xs. xs ++ v.1) e ∙ append_assoc (row c) y v.1) v.2 in
    let none = nothing_first y v.1 (no_prefix c v.0 (row c) (y ++ v.1) (spelled c ok) long) in
    half.no_spelling c (record { in_range = ok; in_table = e ∙ ap (λ xs. row c ++ xs) none ∙ append-nil (row c) })

-- ## After a half command no mark is read

swallowed : (h t : List ℕ) (cs : List Command) (rest : List ℕ) → Half h → Quiet t → Reads (h ++ GS ∷ t) cs rest → marks cs ≡ []
swallowed h t [] rest half q r = refl
swallowed h t (c ∷ cs) rest half q r =
    elim (split (row c) (spell cs ++ rest) h GS t (sym (append_assoc (row c) (spell cs) rest) ∙ sym r.whole)) [
      | longer u e f ↦ elim (kind_of c) [
        | other n ↦ marks_after c cs n (unmarked cs rest (quiet_end u (spell cs ++ rest) (subst (λ v. Quiet v) f q)))
        | mark id n ↦ absurd (inside h u id half.begun (subst (λ v. IsCommand v) n r.commands.0) (sym (mark_row id) ∙ sym (ap row n) ∙ e))
      ]
      | shorter y e ↦ absurd (not_within c h y r.commands.0 half e)
    ]

-- ## With nothing before it, it is read where it is whole

begins : (c : Command) → IsCommand c → row c ≡ [] → ⊥
begins c ok e =
    let long = no_prefix c kind.LineFeed [] (row kind.LineFeed) (record { in_range = ok; in_table = sym e }) (record { in_range = refl; in_table = refl }) in
    absurd cc

no_commands : (cs : List Command) (rest : List ℕ) → AllByRecursion IsCommand cs → spell cs ++ rest ≡ [] → cs ≡ []
no_commands [] rest h e = refl
no_commands (c ∷ cs) rest h e = absurd (begins c h.0 (nothing_first (row c) (spell cs) (nothing_first (row c ++ spell cs) rest e)))

alone : (q more id : List ℕ) (cs : List Command) (rest : List ℕ) → IsTrue (is_mark_id id) → row (kind.Mark id) ≡ q ++ more → Reads q cs rest
    → (marks cs ≡ []) ⊎ ((more ≡ []) × (cs ≡ kind.Mark id ∷ []))
alone q more id [] rest ok e r = inl refl
alone q more id (c ∷ cs) rest ok e r =
    let after = spell cs ++ rest in
    let bytes : row (kind.Mark id) ≡ row c ++ (after ++ more) =
    e ∙ ap (λ v. v ++ more) (r.whole ∙ append_assoc (row c) (spell cs) rest) ∙ append_assoc (row c) after more in
    let none = no_prefix c (kind.Mark id) (row c) (after ++ more) (spelled c r.commands.0) (record { in_range = ok; in_table = sym bytes }) in
    let whole : row c ≡ row (kind.Mark id) = sym (append-nil (row c)) ∙ ap (λ v. row c ++ v) (sym none) ∙ sym bytes in
    let same = one_command c (kind.Mark id) (row c) (spelled c r.commands.0) (record { in_range = ok; in_table = whole }) in
    let last = no_commands cs rest r.commands.1 (nothing_first after more none) in
    inr (nothing_last after more none, ap (λ v. v ∷ cs) same ∙ ap (λ v. kind.Mark id ∷ v) last)

quiet_front : (a b : List ℕ) → Quiet (a ++ b) → Quiet a
quiet_front [] b q = tt
quiet_front (x ∷ a) b q = (q.0, quiet_front a b q.1)

read_or_none : (h q more id : List ℕ) (cs : List Command) (rest : List ℕ) → (h ≡ []) ⊎ Half h → IsTrue (is_mark_id id) → q ≢ [] → row (kind.Mark id) ≡ q ++ more
    → Reads (h ++ q) cs rest → (marks cs ≡ []) ⊎ ((h ≡ []) × (more ≡ []) × (cs ≡ kind.Mark id ∷ []))
read_or_none h q more id cs rest (inl none) ok begun e r =
    elim (alone q more id cs rest ok e (subst (λ v. Reads (v ++ q) cs rest) none r)) [
      | inl unread ↦ inl unread
      | inr read ↦ inr (none, read.0, read.1)
    ]
read_or_none h [] more id cs rest (inr half) ok begun e r = absurd (begun refl)
read_or_none h (b ∷ t) more id cs rest (inr half) ok begun e r =
    let bytes = sym (mark_row id) ∙ e in
    let first : GS ≡ b = head_of GS b (later id) (t ++ more) bytes in
    let quiet = quiet_front t more (subst (λ v. Quiet v) (tail_of GS b (later id) (t ++ more) bytes) (quiet_later id ok)) in
    inl (swallowed h t cs rest half quiet (subst (λ v. Reads (h ++ v ∷ t) cs rest) (sym first) r))

read_whole : (h q more id : List ℕ) (cs : List Command) (rest : List ℕ) → IsTrue (is_mark_id id) → row (kind.Mark id) ≡ q ++ more
    → Reads (h ++ q) cs rest → h ≡ [] → more ≡ [] → cs ≡ kind.Mark id ∷ []
read_whole h q more id cs rest ok e r none whole =
    let bytes : h ++ q ≡ row (kind.Mark id) = ap (λ v. v ++ q) none ∙ sym (append-nil q) ∙ ap (λ v. q ++ v) (sym whole) ∙ sym e in
    let read = subst (λ v. Reads v cs rest) bytes r in
    (one_reading (row (kind.Mark id)) cs (kind.Mark id ∷ []) rest [] read (reads_command (kind.Mark id) (row (kind.Mark id)) (spelled (kind.Mark id) ok))).0

pub resynchronisation : (h q more id : List ℕ) (cs : List Command) (rest : List ℕ) → (h ≡ []) ⊎ Half h → IsTrue (is_mark_id id) → q ≢ []
    → row (kind.Mark id) ≡ q ++ more → Reads (h ++ q) cs rest → IsMarkOrNone h more id cs
resynchronisation h q more id cs rest left ok begun e r = record {
  none_else = read_or_none h q more id cs rest left ok begun e r;
  whole = read_whole h q more id cs rest ok e r;
}

-- ## The request for automatic status holds no mark either

reporting_row : (n : ℕ) → row (kind.AutomaticStatus n) ≡ GS ∷ 0x61 ∷ n ∷ []
reporting_row n = append-nil _

after_first : (b : ℕ) (t a xs : List ℕ) → a ≢ [] → b ∷ t ≡ a ++ xs → Quiet t → Quiet xs
after_first b t [] xs some e q = absurd (some refl)
after_first b t (x ∷ a) xs some e q = quiet_end a xs (subst Quiet (tail_of b x t (a ++ xs) e) q)

-- What begins as the request does begins no mark.
not_both : (t more x : List ℕ) (n : ℕ) (id : List ℕ) → t ++ more ≡ 0x61 ∷ n ∷ [] → t ≡ later id ++ x → ⊥
not_both t more x n id e is =
    let bytes : later id ++ (x ++ more) ≡ 0x61 ∷ n ∷ [] = sym (ap (λ v. v ++ more) is ∙ append_assoc (later id) x more) ∙ e in
    let bad : 0x28 ≡ 0x61 = head_of 0x28 0x61 (0x48 ∷ 0x06 ∷ 0x00 ∷ 0x30 ∷ 0x30 ∷ (id ++ (x ++ more))) (n ∷ []) bytes in cc

first_unmarked : (t more : List ℕ) (n : ℕ) (cs : List Command) (rest : List ℕ) → t ++ more ≡ 0x61 ∷ n ∷ [] → Quiet t → Reads (GS ∷ t) cs rest → marks cs ≡ []
first_unmarked t more n [] rest e q r = refl
first_unmarked t more n (c ∷ cs) rest e q r =
    let whole = r.whole ∙ append_assoc (row c) (spell cs) rest in
    elim (kind_of c) [
      | other none ↦ marks_after c cs none (unmarked cs rest (after_first GS t (row c) (spell cs ++ rest) (λ v. begins c r.commands.0 v) whole q))
      | mark id is ↦
          let front : GS ∷ t ≡ GS ∷ (later id ++ (spell cs ++ rest)) = whole ∙ ap (λ v. v ++ (spell cs ++ rest)) (ap row is ∙ mark_row id) in
          absurd (not_both t more (spell cs ++ rest) n id e (tail_of GS GS t _ front))
    ]

quiet_request : (n : ℕ) → n ≢ GS → Quiet (0x61 ∷ n ∷ [])
quiet_request n differs = ((λ e. cc), (differs, tt))

begun_unread : (h t more : List ℕ) (n : ℕ) (cs : List Command) (rest : List ℕ) → (h ≡ []) ⊎ Half h → t ++ more ≡ 0x61 ∷ n ∷ [] → Quiet t
    → Reads (h ++ GS ∷ t) cs rest → marks cs ≡ []
begun_unread h t more n cs rest (inl none) e q r = first_unmarked t more n cs rest e q (subst (λ v. Reads (v ++ GS ∷ t) cs rest) none r)
begun_unread h t more n cs rest (inr half) e q r = swallowed h t cs rest half q r

request_unread : (h : List ℕ) (b : ℕ) (t more : List ℕ) (n : ℕ) (cs : List Command) (rest : List ℕ) → (h ≡ []) ⊎ Half h → n ≢ GS
    → GS ∷ 0x61 ∷ n ∷ [] ≡ b ∷ (t ++ more) → Reads (h ++ b ∷ t) cs rest → marks cs ≡ []
request_unread h b t more n cs rest left differs bytes r =
    let others = sym (tail_of GS b (0x61 ∷ n ∷ []) (t ++ more) bytes) in
    begun_unread h t more n cs rest left others (quiet_front t more (subst Quiet (sym others) (quiet_request n differs)))
    (subst (λ v. Reads (h ++ v ∷ t) cs rest) (sym (head_of GS b (0x61 ∷ n ∷ []) (t ++ more) bytes)) r)

pub reporting : (h q more : List ℕ) (n : ℕ) (cs : List Command) (rest : List ℕ) → (h ≡ []) ⊎ Half h → n ≢ GS → q ≢ [] → row (kind.AutomaticStatus n) ≡ q ++ more
    → Reads (h ++ q) cs rest → marks cs ≡ []
reporting h [] more n cs rest left differs begun e r = absurd (begun refl)
reporting h (b ∷ t) more n cs rest left differs begun e r = request_unread h b t more n cs rest left differs (sym (reporting_row n) ∙ e) r
