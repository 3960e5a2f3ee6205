-- What a printer answers, and which answers a list of bytes from a printer holds. As for commands, none of these
-- definitions reads byte by byte: they ask for the bytes of an answer that exists, or speak of a whole list.
use Rattle.std.specs.Prelude.{ℕ, ◌≡◌, ◌≢◌, ◌⊎◌, ◌==◌, ◌&&◌, not, if◌then◌else◌, Bool, List, [], ◌∷◌, ◌++◌, IsTrue}
use Rattle.std.specs.List.{flat_map, AllByRecursion}
use Rattle.escpos_command.specs.declared.answer.Answer.{Answer}
use Rattle.escpos_command.specs.declared.answer.Answer.TheVariants as answer
use Rattle.escpos_command.specs.Meanings.{has_bit}
use Rattle.escpos_command.specs.Parameters.{is_byte, is_mark_id}
use Rattle.escpos_command.specs.Blocks.{is_block}

-- A status byte has bits 1 and 4 set, and bits 0 and 7 clear.
abbrev pub is_status_byte : ℕ → Bool
is_status_byte b = is_byte b && has_bit b 1 && has_bit b 4 && not (has_bit b 0) && not (has_bit b 7)

-- The bytes of an answer: a status byte as it is; 37 22, the id and 00 for a mark; and the four bytes of a block.
abbrev pub answer_bytes : Answer → List ℕ
answer_bytes (answer.Status b) = b ∷ []
answer_bytes (answer.Mark id) = 0x37 ∷ 0x22 ∷ (id ++ 0x00 ∷ [])
answer_bytes (answer.Condition bytes) = bytes

-- How many bytes an answer has.
abbrev pub answer_length : Answer → ℕ
answer_length (answer.Status b) = 1
answer_length (answer.Mark id) = 7
answer_length (answer.Condition bytes) = 4

-- The answer is one that a printer gives.
abbrev pub is_answer : Answer → Bool
is_answer (answer.Status b) = is_status_byte b
is_answer (answer.Mark id) = is_mark_id id
is_answer (answer.Condition bytes) = is_block bytes

-- These are the bytes of the answer.
pub record AnswerSpells (a : Answer) (bs : List ℕ) : Type 0 where
  pub in_range : IsTrue (is_answer a)
  pub in_table : bs ≡ answer_bytes a

-- ## Kinds of answers

pub data AnswerKind : Type 0 where
  status : AnswerKind
  mark : AnswerKind
  block : AnswerKind

abbrev pub kind_of : Answer → AnswerKind
kind_of (answer.Status b) = status
kind_of (answer.Mark id) = mark
kind_of (answer.Condition bytes) = block

-- Which kind of answer begins with this byte, if one does.
abbrev pub kind_by : ℕ → AnswerKind
kind_by b = if is_status_byte b then status else if b == 0x37 then mark else block

-- ## Answers in a row

-- The bytes are a prefix of some answer's bytes, perhaps all of them or none.
abbrev pub ViableAnswer : List ℕ → Type 0
ViableAnswer bs = (a : Answer) × (more : List ℕ) × AnswerSpells a (bs ++ more)

-- A half answer: some bytes of an answer, and not a whole one yet.
pub record HalfAnswer (bs : List ℕ) : Type 0 where
  pub begun : bs ≢ []
  pub viable : ViableAnswer bs
  pub no_answer : (a : Answer) → AnswerSpells a bs → ⊥

-- The bytes of the answers, joined.
abbrev pub spell_answers : List Answer → List ℕ
spell_answers answers = flat_map answer_bytes answers

-- The bytes are those of the answers, one after another, and then nothing or a half answer.
pub record Hears (bs : List ℕ) (answers : List Answer) (rest : List ℕ) : Type 0 where
  pub in_range : AllByRecursion (λ a. IsTrue (is_answer a)) answers
  pub whole : bs ≡ spell_answers answers ++ rest
  pub rest_is : (rest ≡ []) ⊎ HalfAnswer rest

-- The bytes are those of answers, one after another, and nothing is left.
abbrev pub AreWholeAnswers : List ℕ → Type 0
AreWholeAnswers bs = (answers : List Answer) × Hears bs answers []
