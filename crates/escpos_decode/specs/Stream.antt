-- What is decoded from a stream in pieces.
use Rattle.std.specs.Prelude.{ℕ, ◌≡◌, List, length}
use Rattle.std.specs.List.{flat_map}
use Rattle.std.specs.Borrow.{Bor}
use Rattle.escpos_command.specs.declared.command.Command.{Command}
use Rattle.escpos_command.specs.Grammar.{Reads, FaultAt}
use Rattle.escpos_decode.specs.declared.stream.Decoded.{Decoded}
use Rattle.escpos_decode.specs.declared.stream.End.{End}
use Rattle.escpos_decode.specs.declared.stream.End.TheVariants.{Read, Fault}

-- The stream: its pieces joined.
abbrev pub joined : List (Bor (List ℕ)) → List ℕ
joined pieces = flat_map (λ piece. piece.now) pieces

-- The stream reads as the commands with this end.
abbrev pub EndsIn : End → List ℕ → List Command → Type 0
EndsIn (Read half) bs cs = (rest : List ℕ) × (length rest ≡ half) × Reads bs cs rest
EndsIn (Fault at why) bs cs = (rest : List ℕ) × FaultAt bs cs rest at why

abbrev pub IsDecoded : Decoded → List ℕ → Type 0
IsDecoded decoded bs = EndsIn decoded.end bs decoded.commands.items

-- The stream is read, and no half command is left of it.
abbrev pub LeavesNothing : End → Type 0
LeavesNothing end = end ≡ Read 0
