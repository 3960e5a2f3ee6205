use Rattle.std.proofs.Common.{ap}
use Rattle.escpos_host.specs.Machine.{HostView}
use Rattle.escpos_link.specs.Wire.{line_of}
use Rattle.escpos_link.proofs.Trusting.{begun}
use Rattle.escpos_link.proofs.WayKept.{begun_line}
use Rattle.escpos_link.proofs.laws.new_line.Goals as goal

pub returns : goal.returns
returns c = λ h w first heard width less host sheet half waiting ended live coming. (
  begun_line (line_of h w) (ap (λ (v : HostView). v.half) host) waiting ended live coming,
  begun width (line_of h w) first heard less host sheet half waiting ended live coming,
)
