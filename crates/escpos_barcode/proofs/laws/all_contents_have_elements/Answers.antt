use Rattle.escpos_barcode.proofs.Unrefused.{upca_there, upce_there, upce_six_there, upce_long_there, ean13_there, ean8_there, itf_there, codabar_there, code39_there, code93_there}
use Rattle.escpos_barcode.proofs.GivenGs1.{gs1_there}
use Rattle.escpos_barcode.proofs.laws.all_contents_have_elements.Goals as goal

pub returns-clause-upca : goal.returns-clause-upca
returns-clause-upca c = upca_there

pub returns-clause-upce : goal.returns-clause-upce
returns-clause-upce c = upce_there

pub returns-clause-upce_six : goal.returns-clause-upce_six
returns-clause-upce_six c = upce_six_there

pub returns-clause-upce_long : goal.returns-clause-upce_long
returns-clause-upce_long c = upce_long_there

pub returns-clause-code93 : goal.returns-clause-code93
returns-clause-code93 c = code93_there

pub returns-clause-gs1 : goal.returns-clause-gs1
returns-clause-gs1 c = gs1_there

pub returns-clause-ean13 : goal.returns-clause-ean13
returns-clause-ean13 c = ean13_there

pub returns-clause-ean8 : goal.returns-clause-ean8
returns-clause-ean8 c = ean8_there

pub returns-clause-itf : goal.returns-clause-itf
returns-clause-itf c = itf_there

pub returns-clause-codabar : goal.returns-clause-codabar
returns-clause-codabar c = codabar_there

pub returns-clause-code39 : goal.returns-clause-code39
returns-clause-code39 c = code39_there
