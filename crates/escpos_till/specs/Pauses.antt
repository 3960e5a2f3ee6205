-- Why a printer prints nothing for now, as its blocks of automatic status tell.
use Rattle.std.specs.Prelude.{ℕ, false, ◌≡◌, ◌≢◌, codes, is_some, Option, Some, None, List, if◌then◌else◌, not}
use Rattle.escpos_command.specs.Blocks.{says_cover_open, says_offline, says_paper_end}
use Rattle.escpos_till.specs.declared.pause.Pause.{Pause}
use Rattle.escpos_till.specs.declared.pause.Pause.TheVariants as pause
use Rattle.escpos_till.specs.declared.pause.Paused.{Paused}

-- Of a printer that is offline: no paper counts before an open cover.
abbrev pub pause_of : List ℕ → Option Pause
pause_of block =
    if not (says_offline block) then None else if says_paper_end block then Some pause.PaperEnded else if says_cover_open block then Some pause.CoverOpen else Some pause.Offline

abbrev pub not_paused : Paused
not_paused = record { why = None; is_news = false }

-- After a block the printer pauses for what the block says. That is news, unless it paused for that before.
pub record IsAfterBlock (before : Paused) (block : List ℕ) (after : Paused) : Type 0 where
  pub same : pause_of block ≡ before.why → after ≡ before
  pub changed : pause_of block ≢ before.why → after ≡ record { why = pause_of block; is_news = is_some (pause_of block) }

-- The owner was told.
abbrev pub no_news : Paused → Paused
no_news p = record { why = p.why; is_news = false }

abbrev pub name_of : Pause → List ℕ
name_of pause.PaperEnded = codes "PaperEnded"
name_of pause.CoverOpen = codes "CoverOpen"
name_of pause.Offline = codes "Offline"

abbrev pub told_name : Pause → List ℕ
told_name pause.PaperEnded = codes "paper ended"
told_name pause.CoverOpen = codes "cover open"
told_name pause.Offline = codes "offline"
