-- From one byte after a half command to the same byte after any stream that ends in it.
use Rattle.std.proofs.Common.{◌≡◌, ℕ, ◌+◌, inl, inr, List, [], ◌∷◌, ◌++◌, length, sym, ◌∙◌, ap, subst, append_assoc, append-nil, length-append, arith, Result, Ok, Err}
use Rattle.escpos_command.specs.declared.command.Command.{Command}
use Rattle.escpos_command.specs.declared.fault.FaultReason.{FaultReason}
use Rattle.escpos_command.specs.CommandTable.{Spells, row, spell}
use Rattle.escpos_command.specs.Grammar.{Half, Reads, FaultAt}
use Rattle.escpos_decode.specs.declared.decoder.Step.{Step}
use Rattle.escpos_decode.specs.declared.decoder.Step.TheVariants.{More, Done}
use Rattle.escpos_decode.specs.declared.decoder.DecodeFault.{DecodeFault}
use Rattle.escpos_decode.specs.declared.decoder.DecodeFault.TheVariants.{Fault, Memory}
use Rattle.escpos_decode.specs.Push.{PushIs, GoesOn}

-- The law of joined readings, as `escpos_command` states it.
pub record ReadingLaws : Type 0 where
  pub reading : (a b : List ℕ) (cs ds : List Command) (r s : List ℕ) → Reads a cs r → Reads (r ++ b) ds s → Reads (a ++ b) (cs ++ ds) s
  pub fault : (a b : List ℕ) (cs ds : List Command) (r s : List ℕ) (k : ℕ) (why : FaultReason) → Reads a cs r → FaultAt (r ++ b) ds s k why
      → FaultAt (a ++ b) (cs ++ ds) s (length (spell cs) + k) why
  pub first_fault : (a more : List ℕ) (cs : List Command) (r : List ℕ) (k : ℕ) (why : FaultReason) → FaultAt a cs r k why → FaultAt (a ++ more) cs r k why

reads_half : (bs after : List ℕ) → Half bs → after ≡ bs → Reads bs [] after
reads_half bs after h e = record { commands = tt; whole = sym e; rest_is = inr (subst (λ v. Half v) (sym e) h) }

reads_one : (c : Command) (bs after : List ℕ) → Spells c bs → after ≡ [] → Reads bs (c ∷ []) after
reads_one c bs after s e = record {
  commands = (s.in_range, tt);
  whole = s.in_table ∙ sym (append-nil (row c)) ∙ sym (append-nil (row c ++ [])) ∙ ap (λ v. (row c ++ []) ++ v) (sym e);
  rest_is = inl e;
}

pub goes_on : ReadingLaws → (r : Result Step DecodeFault) (half : List ℕ) (b : ℕ) (after : List ℕ) → PushIs r half b after → GoesOn r half b after
goes_on law (Ok More) half b after p = λ a cs r.
    subst (λ v. Reads (a ++ b ∷ []) v after) (append-nil cs) (law.reading a (b ∷ []) cs [] half after r (reads_half (half ++ b ∷ []) after p.0 p.1))
goes_on law (Ok (Done c)) half b after p = λ a cs r.
    law.reading a (b ∷ []) cs (c ∷ []) half after r (reads_one c (half ++ b ∷ []) after p.0 p.1)
goes_on law (Err (Fault at why)) half b after p = λ a more cs r.
    let long : length (spell cs) + at ≡ length a = omega (arith, p.1, ap length r.whole, length-append (spell cs) half) in
    let found = law.first_fault (a ++ b ∷ []) more (cs ++ []) half (length (spell cs) + at) why (law.fault a (b ∷ []) cs [] half half at why r p.0) in
    subst (λ v. FaultAt v cs half (length a) why) (append_assoc a (b ∷ []) more)
    (subst (λ n. FaultAt ((a ++ b ∷ []) ++ more) cs half n why) long
    (subst (λ v. FaultAt ((a ++ b ∷ []) ++ more) v half (length (spell cs) + at) why) (append-nil cs) found))
goes_on law (Err Memory) half b after p = p.1
