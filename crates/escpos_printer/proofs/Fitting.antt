-- A printer answers with answers that a host knows.
use Rattle.std.proofs.Common.{ℕ, ◌+◌, ◌==◌, Bool, true, false, List, [], ◌∷◌, ◌++◌, refl, IsTrue}
use Rattle.std.specs.Prelude.{if◌then◌else◌, ◌||◌}
use Rattle.std.specs.List.{AllByRecursion}
use Rattle.escpos_command.specs.declared.answer.Answer.{Answer}
use Rattle.escpos_command.specs.declared.command.Command.{Command}
use Rattle.escpos_command.specs.declared.command.Command.TheVariants as kind
use Rattle.escpos_command.specs.Answers.{is_answer, is_status_byte}
use Rattle.escpos_command.specs.Blocks.{is_block}
use Rattle.escpos_command.specs.Meanings.{reports}
use Rattle.escpos_command.specs.CommandTable.{AreCommands, IsCommand}
use Rattle.escpos_printer.specs.declared.condition.Condition.{Condition}
use Rattle.escpos_printer.specs.Replies.{condition_block, is_offline, replies, reply, status, where_set}

abbrev AreAnswers : List Answer → Type 0
AreAnswers answers = AllByRecursion (λ a. IsTrue (is_answer a)) answers

either : (which : Bool) (a b : ℕ) → IsTrue (is_status_byte a) → IsTrue (is_status_byte b) → IsTrue (is_status_byte (if which then a else b))
either true a b h k = h
either false a b h k = k

-- The status bytes of each kind, whatever the sensors say.
first_kind : (offline : Bool) → IsTrue (is_status_byte (0x12 + where_set offline 0x08))
first_kind true = refl
first_kind false = refl

second_kind : (cover end : Bool) → IsTrue (is_status_byte (0x12 + where_set cover 0x04 + where_set end 0x20))
second_kind true true = refl
second_kind true false = refl
second_kind false true = refl
second_kind false false = refl

fourth_kind : (near end : Bool) → IsTrue (is_status_byte (0x12 + where_set near 0x0C + where_set end 0x60))
fourth_kind true true = refl
fourth_kind true false = refl
fourth_kind false true = refl
fourth_kind false false = refl

status_fits : (n : ℕ) (c : Condition) → IsTrue (is_status_byte (status n c))
status_fits n c =
    either (n == 1) _ _ (first_kind (is_offline c))
    (either (n == 2) _ _ (second_kind c.cover_open c.paper_end) (either (n == 4) _ _ (fourth_kind c.near_end c.paper_end) refl))

-- The block of each condition.
each_block : (cover near end : Bool)
    → IsTrue (is_block ((0x10 + where_set (cover || end) 0x08 + where_set cover 0x20) ∷ 0x00 ∷ (where_set near 0x03 + where_set end 0x0C) ∷ 0x00 ∷ []))
each_block true true true = refl
each_block true true false = refl
each_block true false true = refl
each_block true false false = refl
each_block false true true = refl
each_block false true false = refl
each_block false false true = refl
each_block false false false = refl

pub block_fits : (c : Condition) → IsTrue (is_block (condition_block c))
block_fits c = each_block c.cover_open c.near_end c.paper_end

where_on : (on : Bool) (answers : List Answer) → AreAnswers answers → AreAnswers (if on then answers else [])
where_on true answers h = h
where_on false answers h = tt

reply_fits : (condition : Condition) (c : Command) → IsCommand c → AreAnswers (reply condition c)
reply_fits condition (kind.Status n) h = (status_fits n condition, tt)
reply_fits condition (kind.Mark id) h = (h, tt)
reply_fits condition (kind.AutomaticStatus n) h = where_on (reports n) _ (block_fits condition, tt)
reply_fits condition _ h = tt

all_append : (some others : List Answer) → AreAnswers some → AreAnswers others → AreAnswers (some ++ others)
all_append [] others h k = k
all_append (a ∷ some) others h k = (h.0, all_append some others h.1 k)

pub replies_fit : (condition : Condition) (cs : List Command) → AreCommands cs → AreAnswers (replies condition cs)
replies_fit condition [] h = tt
replies_fit condition (c ∷ cs) h = all_append (reply condition c) (replies condition cs) (reply_fits condition c h.0) (replies_fit condition cs h.1)
