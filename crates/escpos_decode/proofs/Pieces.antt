-- A stream in pieces: the pieces before one, that piece, and those that follow it.
use Rattle.std.proofs.Common.{◌≡◌, ℕ, ◌+◌, ◌<◌, List, ◌∷◌, ◌++◌, length, take, drop, sym, ◌∙◌, ap, subst, append_assoc, arith, length-append, get_or, suc}
use Rattle.std.specs.Borrow.{Bor}
use Rattle.std.proofs.lemmas.Grind.{flat_map-append}
use Rattle.std.proofs.lemmas.List.{take-append-drop}
use Rattle.std.proofs.Math.Seq.{drop-cons}
use Rattle.escpos_command.specs.declared.command.Command.{Command}
use Rattle.escpos_command.specs.declared.fault.FaultReason.{FaultReason}
use Rattle.escpos_command.specs.CommandTable.{spell}
use Rattle.escpos_command.specs.Grammar.{Reads, FaultAt}
use Rattle.escpos_decode.specs.Stream.{joined}

-- The laws of joined readings, as `escpos_command` states them.
pub record JoinLaws : Type 0 where
  pub fault : (a b : List ℕ) (cs ds : List Command) (r s : List ℕ) (k : ℕ) (why : FaultReason) → Reads a cs r → FaultAt (r ++ b) ds s k why → FaultAt (a ++ b) (cs ++ ds) s (length (spell cs) + k) why
  pub first_fault : (a more : List ℕ) (cs : List Command) (r : List ℕ) (k : ℕ) (why : FaultReason) → FaultAt a cs r k why → FaultAt (a ++ more) cs r k why

joined_around : (pieces : List (Bor (List ℕ))) (i : ℕ) (d : Bor (List ℕ)) → i < length pieces
    → (joined (take i pieces) ++ (get_or pieces i d).now) ++ joined (drop (suc i) pieces) ≡ joined pieces
joined_around pieces i d h =
    append_assoc (joined (take i pieces)) (get_or pieces i d).now (joined (drop (suc i) pieces))
    ∙ sym (flat_map-append (λ piece. piece.now) (take i pieces) (get_or pieces i d ∷ drop (suc i) pieces))
    ∙ ap joined (ap (λ v. take i pieces ++ v) (sym (drop-cons pieces i d h)) ∙ take-append-drop i pieces)

-- A refused byte of a piece is a byte of the stream.
pub stream_fault : JoinLaws → (pieces : List (Bor (List ℕ))) (i : ℕ) (d : Bor (List ℕ)) (cs ds all : List Command) (half rest : List ℕ) (at n : ℕ) (why : FaultReason) → i < length pieces
    → Reads (joined (take i pieces)) cs half → n ≡ length (joined (take i pieces)) → FaultAt (half ++ (get_or pieces i d).now) ds rest (length half + at) why → all ≡ cs ++ ds
    → (left : List ℕ) × FaultAt (joined pieces) all left (n + at) why
stream_fault law pieces i d cs ds all half rest at n why h r e f same =
    let a = joined (take i pieces) in
    let found = law.fault a (get_or pieces i d).now cs ds half rest (length half + at) why r f in
    let count : length (spell cs) + (length half + at) ≡ n + at = omega (arith, e, ap length r.whole ∙ length-append (spell cs) half) in
    let whole = law.first_fault (a ++ (get_or pieces i d).now) (joined (drop (suc i) pieces)) (cs ++ ds) rest (length (spell cs) + (length half + at)) why found in (
      rest,
      subst (λ v. FaultAt (joined pieces) v rest (n + at) why) (sym same)
          (subst (λ m. FaultAt (joined pieces) (cs ++ ds) rest m why) count
          (subst (λ xs. FaultAt xs (cs ++ ds) rest (length (spell cs) + (length half + at)) why) (joined_around pieces i d h) whole)),
    )
