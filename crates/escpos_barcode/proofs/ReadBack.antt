-- What is drawn is read back.
use Rattle.std.proofs.Common.{◌≡◌, ℕ, List, sym, ap, ◌∙◌, Some}
use Rattle.escpos_command.specs.declared.bars.Symbology.{Symbology}
use Rattle.escpos_command.specs.declared.bars.Symbology.TheVariants.{UpcA, UpcE, Ean13, Ean8, Code39, Itf, Codabar, Code93, Code128, Gs1Code128}
use Rattle.escpos_barcode.specs.Chains.{given}
use Rattle.escpos_barcode.specs.Drawn.{drawn, canonical}
use Rattle.escpos_barcode.specs.Elements.{elements}
use Rattle.escpos_barcode.specs.Reader.{read_elements, read}
use Rattle.escpos_barcode.proofs.DrawnOf.{drawn_of}
use Rattle.escpos_barcode.proofs.ReadCode93.{code93_read}
use Rattle.escpos_barcode.proofs.ReadCode128.{code128_read}
use Rattle.escpos_barcode.proofs.ReadGs1.{gs1_read}
use Rattle.escpos_barcode.proofs.ReadItf.{itf_read}
use Rattle.escpos_barcode.proofs.ReadSpaced.{code39_read, codabar_read}
use Rattle.escpos_barcode.proofs.ReadUpc.{upca_read, upce_read, ean8_read, ean13_read}
use Rattle.escpos_barcode.proofs.Units.{elements_units}

elements_read_back : (symbology : Symbology) (content es : List ℕ) → elements symbology content ≡ Some es → read_elements symbology es ≡ Some (canonical symbology content)
elements_read_back UpcA content es e = upca_read content es e
elements_read_back UpcE content es e = upce_read content es e
elements_read_back Ean13 content es e = ean13_read content es e
elements_read_back Ean8 content es e = ean8_read content es e
elements_read_back Code39 content es e = code39_read content es e
elements_read_back Itf content es e = itf_read content es e
elements_read_back Codabar content es e = codabar_read content es e
elements_read_back Code93 content es e = code93_read content es e
elements_read_back Code128 content es e = code128_read content es e
elements_read_back Gs1Code128 content es e = gs1_read content es e

pub read_back : (line_dots : ℕ) (symbology : Symbology) (module_width : ℕ) (content widths : List ℕ) → drawn line_dots symbology module_width content ≡ Some widths →
    read symbology widths ≡ Some (canonical symbology content)
read_back line_dots symbology module_width content widths e =
    let of = drawn_of line_dots symbology module_width content widths e in
    ap (read symbology) (sym of.dots) ∙ ap (λ o. given o (read_elements symbology)) (elements_units symbology module_width content of.drawn_elements of.range of.said)
    ∙ elements_read_back symbology content of.drawn_elements of.said

pub not_alike : (line_dots other_line : ℕ) (symbology : Symbology) (module_width other : ℕ) (first second widths : List ℕ) → drawn line_dots symbology module_width first ≡ Some widths →
    drawn other_line symbology other second ≡ Some widths → canonical symbology first ≡ canonical symbology second
not_alike line_dots other_line symbology module_width other first second widths e f =
    let one = read_back line_dots symbology module_width first widths e in
    let two = read_back other_line symbology other second widths f in
    let both = sym one ∙ two in
    cc
