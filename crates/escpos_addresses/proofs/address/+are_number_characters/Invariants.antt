use Rattle.std.proofs.Common.{length}
use Rattle.escpos_addresses.proofs.address.+are_number_characters.Given as goal

abbrev pub decreases-are_number_characters : goal.decreases-are_number_characters
decreases-are_number_characters l = length l.bytes.now
