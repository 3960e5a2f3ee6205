-- What an entry means, by its only member.
use Rattle.std.proofs.Common.{◌≡◌, ◌≢◌, ◌⊎◌, inl, inr, refl, sym, ◌∙◌, ap}
use Rattle.serde_json.specs.Data.{Data}
use Rattle.escpos_receipt.specs.declared.in_force.InForce.{InForce}
use Rattle.escpos_receipt.specs.declared.member.Member.{Member}
use Rattle.escpos_receipt.specs.declared.member.Member.TheVariants.{Text, Line, Pair, Row, Rule, Wrap, Qr, Tables}
use Rattle.escpos_receipt.specs.Entries.{columns_in, command_of, commands_of, laid_out, lines_of, one}

pub single : (f : InForce) (m : Member) (v : Data) → m ≢ Text → m ≢ Line → m ≢ Pair → m ≢ Row → m ≢ Rule → m ≢ Wrap → m ≢ Qr → m ≢ Tables
    → commands_of f m v ≡ one (command_of m v)
single f Text v text line pair row rule wrap qr tables = absurd (text refl)
single f Line v text line pair row rule wrap qr tables = absurd (line refl)
single f Pair v text line pair row rule wrap qr tables = absurd (pair refl)
single f Row v text line pair row rule wrap qr tables = absurd (row refl)
single f Rule v text line pair row rule wrap qr tables = absurd (rule refl)
single f Wrap v text line pair row rule wrap qr tables = absurd (wrap refl)
single f Qr v text line pair row rule wrap qr tables = absurd (qr refl)
single f Tables v text line pair row rule wrap qr tables = absurd (tables refl)
single f m v text line pair row rule wrap qr tables = refl

-- A layout's commands are those of its lines.
pub layout : (f : InForce) (m : Member) (v : Data) → (m ≡ Pair) ⊎ ((m ≡ Row) ⊎ ((m ≡ Rule) ⊎ (m ≡ Wrap)))
    → commands_of f m v ≡ laid_out f (lines_of (columns_in f.line) m v)
layout f m v (inl e) = ap (λ n. commands_of f n v) e ∙ sym (ap (λ n. laid_out f (lines_of (columns_in f.line) n v)) e)
layout f m v (inr (inl e)) = ap (λ n. commands_of f n v) e ∙ sym (ap (λ n. laid_out f (lines_of (columns_in f.line) n v)) e)
layout f m v (inr (inr (inl e))) = ap (λ n. commands_of f n v) e ∙ sym (ap (λ n. laid_out f (lines_of (columns_in f.line) n v)) e)
layout f m v (inr (inr (inr e))) = ap (λ n. commands_of f n v) e ∙ sym (ap (λ n. laid_out f (lines_of (columns_in f.line) n v)) e)
