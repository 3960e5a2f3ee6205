use Rattle.std.proofs.Common.{length}
use Rattle.escpos_addresses.proofs.address.+are_host_characters.Given as goal

abbrev pub decreases-are_host_characters : goal.decreases-are_host_characters
decreases-are_host_characters l = length l.bytes.now
