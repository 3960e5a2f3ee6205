-- The laws of a reader that passes over commands, and of one that passes over none.
use Rattle.std.proofs.Common.{◌≡◌, ℕ, Bool, true, false, inl, List, [], ◌∷◌, ◌++◌, length, take, drop, map, refl, sym, ◌∙◌, ap, subst, append_assoc, append-nil}
use Rattle.std.specs.List.{AllByRecursion}
use Rattle.std.proofs.lemmas.Grind.{flat_map-append}
use Rattle.std.proofs.lemmas.List.{take-append-drop}
use Rattle.std.proofs.Math.Seq.{take-append_seam}
use Rattle.escpos_command.specs.declared.command.Command.{Command}
use Rattle.escpos_command.specs.declared.fault.FaultReason.{FaultReason}
use Rattle.escpos_command.specs.CommandTable.{IsCommand, row, spell}
use Rattle.escpos_command.specs.Grammar.{Reads}
use Rattle.escpos_command.proofs.Readings as readings
use Rattle.escpos_passed.specs.Tokens.{Token, taken, IsToken, bytes_of, spell_tokens, nothing, ReadsWith, FaultWith}
use Rattle.escpos_passed.proofs.TokenLaws as tokens

pub one_reading_with : (pass : Bool) (bs : List ℕ) (ts us : List Token) (x y : List ℕ) → ReadsWith pass bs ts x → ReadsWith pass bs us y → (ts ≡ us) × (x ≡ y)
one_reading_with false bs ts us x y r s =
    let one = readings.one_reading bs r.0 s.0 x y r.2 s.2 in (r.1 ∙ ap (map taken) one.0 ∙ sym s.1, one.1)
one_reading_with true bs ts us x y r s = tokens.one_reading bs ts us x y r s

pub not_both_with : (pass : Bool) (bs : List ℕ) (ts us : List Token) (x : List ℕ) (k : ℕ) (why : FaultReason) → ReadsWith pass bs ts x → FaultWith pass bs us k why → ⊥
not_both_with false bs ts us x k why r f = readings.not_both bs r.0 f.0 x f.1 k why r.2 f.3
not_both_with true bs ts us x k why r f = tokens.not_both bs ts us x k why r f

pub one_fault_with : (pass : Bool) (bs : List ℕ) (ts us : List Token) (k l : ℕ) (why also : FaultReason) → FaultWith pass bs ts k why → FaultWith pass bs us l also → (ts ≡ us) × (k ≡ l) × (why ≡ also)
one_fault_with false bs ts us k l why also f g =
    let one = readings.one_fault bs f.0 g.0 f.1 g.1 k l why also f.3 g.3 in (f.2 ∙ ap (map taken) one.0 ∙ sym g.2, one.2, one.3)
one_fault_with true bs ts us k l why also f g = tokens.one_fault_after bs ts us k l why also f g

-- ## A reading without its last token

data Front (ts : List Token) (cs : List Command) : Type 0 where
  front : (ds : List Command) (c : Command) → cs ≡ ds ++ c ∷ [] → ts ≡ map taken ds → Front ts cs

head_of : (t u : Token) (x y : List Token) → t ∷ x ≡ u ∷ y → t ≡ u
head_of t u x y e = cc

tail_of : (t u : Token) (x y : List Token) → t ∷ x ≡ u ∷ y → x ≡ y
tail_of t u x y e = cc

front_after : (t : Token) (c : Command) (ts : List Token) (cs : List Command) → t ≡ taken c → Front ts cs → Front (t ∷ ts) (c ∷ cs)
front_after t c ts cs e (front ds d f g) = front (c ∷ ds) d (ap (λ v. c ∷ v) f) (ap (λ v. v ∷ ts) e ∙ ap (λ v. taken c ∷ v) g)

one_left : (c : Command) (cs : List Command) → [] ≡ map taken cs → Front [] (c ∷ cs)
one_left c [] e = front [] c refl refl
one_left c (d ∷ cs) e = absurd cc

not_none : (t : Token) (ts : List Token) → ts ++ t ∷ [] ≡ [] → ⊥
not_none t [] e = absurd cc
not_none t (u ∷ ts) e = absurd cc

front_of : (ts : List Token) (t : Token) (cs : List Command) → ts ++ t ∷ [] ≡ map taken cs → Front ts cs
front_of ts t [] e = absurd (not_none t ts e)
front_of [] t (c ∷ cs) e = one_left c cs (tail_of t (taken c) [] (map taken cs) e)
front_of (u ∷ ts) t (c ∷ cs) e =
    front_after u c ts cs (head_of u (taken c) (ts ++ t ∷ []) (map taken cs) e) (front_of ts t cs (tail_of u (taken c) (ts ++ t ∷ []) (map taken cs) e))

some_commands : (cs ds : List Command) → AllByRecursion IsCommand (cs ++ ds) → AllByRecursion IsCommand cs
some_commands [] ds h = tt
some_commands (c ∷ cs) ds h = (h.0, some_commands cs ds h.1)

some_tokens : (ts us : List Token) → AllByRecursion IsToken (ts ++ us) → AllByRecursion IsToken ts
some_tokens [] us h = tt
some_tokens (t ∷ ts) us h = (h.0, some_tokens ts us h.1)

-- The bytes of the front, where the bytes before a place are these and more.
front_bytes : (bytes some more : List ℕ) (k : ℕ) → take k bytes ≡ (some ++ more) ++ [] → take (length some) bytes ≡ some
front_bytes bytes some more k e =
    ap (take (length some)) (sym (take-append-drop k bytes) ∙ ap (λ v. v ++ drop k bytes) (e ∙ append-nil (some ++ more)) ∙ append_assoc some more (drop k bytes))
    ∙ take-append_seam some (more ++ drop k bytes)

without_command : (bytes : List ℕ) (k : ℕ) (ts : List Token) (cs : List Command) → Reads (take k bytes) cs [] → Front ts cs → (j : ℕ) × ReadsWith false (take j bytes) ts []
without_command bytes k ts cs r (front ds c e f) =
    let all : Reads (take k bytes) (ds ++ c ∷ []) [] = subst (λ v. Reads (take k bytes) v []) e r in
    let bytes_are = front_bytes bytes (spell ds) (spell (c ∷ [])) k (all.whole ∙ ap (λ v. v ++ []) (flat_map-append row ds (c ∷ []))) in
    (length (spell ds), (ds, f, record { commands = some_commands ds (c ∷ []) all.commands; whole = bytes_are ∙ sym (append-nil (spell ds)); rest_is = inl refl }))

pub front_without : (pass : Bool) (bytes : List ℕ) (k : ℕ) (ts : List Token) (t : Token) → ReadsWith pass (take k bytes) (ts ++ t ∷ []) [] → (j : ℕ) × ReadsWith pass (take j bytes) ts []
front_without false bytes k ts t r = without_command bytes k ts r.0 r.2 (front_of ts t r.0 r.1)
front_without true bytes k ts t r =
    let bytes_are = front_bytes bytes (spell_tokens ts) (spell_tokens (t ∷ [])) k (r.whole ∙ ap (λ v. v ++ []) (flat_map-append bytes_of ts (t ∷ []))) in
    (length (spell_tokens ts), record { tokens = some_tokens ts (t ∷ []) r.tokens; whole = bytes_are ∙ sym (append-nil (spell_tokens ts)); rest_is = nothing refl })

pub reads_none : (pass : Bool) → ReadsWith pass [] [] []
reads_none false = ([], refl, readings.reads_nothing)
reads_none true = record { tokens = tt; whole = refl; rest_is = nothing refl }
