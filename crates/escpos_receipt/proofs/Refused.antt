-- What is refused is no receipt.
use Rattle.std.proofs.Common.{◌≡◌, List, Bool, true, false, sym, ◌∙◌, subst}
use Rattle.escpos_command.specs.declared.command.Command.{Command}
use Rattle.escpos_command.specs.CommandTable.{spell}
use Rattle.escpos_real_time.specs.RealTime.{HoldsRealTime}
use Rattle.escpos_receipt.specs.declared.receipt.ReceiptFault.{ReceiptFault}
use Rattle.escpos_receipt.specs.declared.receipt.ReceiptFault.TheVariants as fault
use Rattle.escpos_receipt.specs.Whole.{IsReceiptFault, Whole}
use Rattle.escpos_receipt.proofs.RealTimes.{held_in, none_in}

clash : (b : Bool) → b ≡ true → b ≡ false → ⊥
clash b is isnt = let both : true ≡ false = sym is ∙ isnt in cc

pub not_whole : (why : ReceiptFault) (cs : List Command) → IsReceiptFault why cs → Whole cs → ⊥
not_whole fault.Empty cs e w = w.nonempty e
not_whole (fault.Forbidden at) cs (before, c, s, forbidden) w = clash _ forbidden (w.in_place before c s.following s.split).allowed
not_whole (fault.MidLine at) cs (before, c, s, needs, text) w = clash _ text ((w.in_place before c s.following s.split).at_line_start needs)
not_whole (fault.RealTime at) cs (before, c, s, follows, held) w =
    none_in cs w.no_real_time (subst (λ l. HoldsRealTime (spell l)) (sym s.split) (held_in before c s.following held))
not_whole fault.TextLeft cs (some, each, quiet, text) w = clash _ text w.no_text_left
