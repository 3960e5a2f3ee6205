-- What a printer answers to commands, by what its sensors say.
use Rattle.std.specs.Prelude.{ℕ, ◌+◌, ◌==◌, ◌||◌, ◌&&◌, not, Bool, List, [], ◌∷◌, ◌++◌, if◌then◌else◌, Option, None, Some, filter_map}
use Rattle.std.specs.List.{flat_map}
use Rattle.escpos_command.specs.declared.answer.Answer.{Answer}
use Rattle.escpos_command.specs.declared.answer.Answer.TheVariants as answer
use Rattle.escpos_command.specs.declared.command.Command.{Command}
use Rattle.escpos_command.specs.declared.command.Command.TheVariants as kind
use Rattle.escpos_command.specs.Meanings.{reports}
use Rattle.escpos_command.specs.Settings.{last_or}
use Rattle.escpos_printer.specs.Blocks.{with_one_block}
use Rattle.escpos_printer.specs.declared.condition.Condition.{Condition}

-- A printer is offline while its cover is open or its paper has ended.
abbrev pub is_offline : Condition → Bool
is_offline condition = condition.cover_open || condition.paper_end

-- These bits if they are set, otherwise 0.
abbrev pub where_set : Bool → ℕ → ℕ
where_set set bits = if set then bits else 0

-- One of two is set and the other isn't.
abbrev pub differs : Bool → Bool → Bool
differs a b = if a then not b else b

-- The sensors say something else.
abbrev pub is_change : Condition → Condition → Bool
is_change old new =
    differs old.cover_open new.cover_open || differs old.near_end new.near_end || differs old.paper_end new.paper_end

-- The status byte of each kind, 1 to 4. (Reference: DLE EOT.)
abbrev pub status : ℕ → Condition → ℕ
status kind condition =
    if kind == 1 then 0x12 + where_set (is_offline condition) 0x08
    else if kind == 2 then 0x12 + where_set condition.cover_open 0x04 + where_set condition.paper_end 0x20
    else if kind == 4 then 0x12 + where_set condition.near_end 0x0C + where_set condition.paper_end 0x60
    else 0x12

-- ## Automatic status

-- The block that tells a condition. (Reference: GS a.)
abbrev pub condition_block : Condition → List ℕ
condition_block condition =
    (0x10 + where_set (is_offline condition) 0x08 + where_set condition.cover_open 0x20)
    ∷ 0x00
    ∷ (where_set condition.near_end 0x03 + where_set condition.paper_end 0x0C)
    ∷ 0x00
    ∷ []

-- GS a sets automatic status; ESC @ leaves it as it is.
abbrev pub sets_automatic : Command → Option ℕ
sets_automatic (kind.AutomaticStatus n) = Some n
sets_automatic _ = None

-- The setting after commands, from one before them.
abbrev pub automatic_after : ℕ → List Command → ℕ
automatic_after n cs = last_or n (filter_map sets_automatic cs)

-- The answers that wait once the sensors say something new: with the block of it, where automatic status is on.
abbrev pub after_change : ℕ → Condition → Condition → List Answer → List Answer
after_change n old new waiting =
    if reports n && is_change old new then with_one_block (waiting ++ answer.Condition (condition_block new) ∷ []) else waiting

-- ## Answers to commands

-- The answer to one command, as a list of one: to a status request, to a mark, and to GS a that switches automatic status on.
abbrev pub reply : Condition → Command → List Answer
reply condition (kind.Status n) = answer.Status (status n condition) ∷ []
reply condition (kind.Mark id) = answer.Mark id ∷ []
reply condition (kind.AutomaticStatus n) = if reports n then answer.Condition (condition_block condition) ∷ [] else []
reply condition _ = []

-- The answers to commands, in order.
abbrev pub replies : Condition → List Command → List Answer
replies condition cs = flat_map (reply condition) cs
