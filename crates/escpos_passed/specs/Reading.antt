-- The results of reading a whole stream.
use Rattle.std.specs.Prelude.{ℕ, ◌≡◌, ◌<◌, Bool, List, [], ◌∷◌, ◌++◌, length, map, take}
use Rattle.escpos_command.specs.declared.command.Command.TheVariants.{Char}
use Rattle.escpos_passed.specs.Tokens.{Token, taken, passed_count, ReadsWith, FaultWith}
use Rattle.escpos_passed.specs.declared.reading.End.{End}
use Rattle.escpos_passed.specs.declared.reading.Stop.{Stop}
use Rattle.escpos_passed.specs.declared.reading.Stop.TheVariants.{Fault, Memory, Refused}

-- Characters, each a token.
abbrev pub text_tokens : List ℕ → List Token
text_tokens text = map taken (map Char text)

-- The bytes read as tokens and some bytes at the end, and the tokens were taken: how many were passed over, and how many bytes are left.
abbrev pub IsAllTaken : Bool → (List Token → Type 0) → List ℕ → End → Type 0
IsAllTaken pass accepted bs end =
    (ts : List Token) × (rest : List ℕ) × ReadsWith pass bs ts rest × accepted ts × (end.passed ≡ passed_count ts) × (end.half ≡ length rest)

-- Where the reading stops: at a fault, with the tokens before it taken; out of memory, with the bytes before some place read; or where
-- the consumer refuses a token.
abbrev pub StopsAt : {E : Type 0} → Stop E → Bool → (List Token → Type 0) → List ℕ → Type 0
StopsAt (Fault at why passed) pass accepted bs = (ts : List Token) × FaultWith pass bs ts at why × accepted ts × (passed ≡ passed_count ts)
StopsAt Memory pass accepted bs = (k : ℕ) × (ts : List Token) × (rest : List ℕ) × (k < length bs) × ReadsWith pass (take k bs) ts rest × accepted ts
StopsAt (Refused refusal) pass accepted bs = Unit {0}

-- The bytes read as tokens, of which all but this last one were taken.
abbrev pub EndsWith : Bool → Token → (List Token → Type 0) → List ℕ → Type 0
EndsWith pass token accepted bs = (ts : List Token) × ReadsWith pass bs (ts ++ token ∷ []) [] × accepted ts

-- A fact of the refusal, where the reading stops for one.
abbrev pub IfRefused : {E : Type 0} → Stop E → (E → Type 0) → Type 0
IfRefused (Fault at why passed) P = Unit {0}
IfRefused Memory P = Unit {0}
IfRefused (Refused refusal) P = P refusal
