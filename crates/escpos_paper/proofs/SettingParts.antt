-- Settings whose parts are the same are the same.
use Rattle.std.proofs.Common.{◌≡◌, ℕ, Bool, Option}
use Rattle.escpos_paper.specs.declared.style.BarStyle.{BarStyle}
use Rattle.escpos_paper.specs.declared.style.LineStyle.{LineStyle}
use Rattle.escpos_paper.specs.declared.style.Placing.{Placing}
use Rattle.escpos_paper.specs.declared.style.QrStyle.{QrStyle}
use Rattle.escpos_paper.specs.declared.style.Settings.{Settings}
use Rattle.escpos_paper.specs.declared.style.Style.{Style}

pub same_lines : {p q : Placing} {u v : Bool} {m n : Option ℕ} → p ≡ q → u ≡ v → m ≡ n
    → ◌≡◌ {A = LineStyle} (record { alignment = p; upside_down = u; spacing = m }) (record { alignment = q; upside_down = v; spacing = n })
same_lines e f g = cc

pub same_settings : {a b : Style} {c d : BarStyle} {l m : LineStyle} {q r : QrStyle} → a ≡ b → c ≡ d → l ≡ m → q ≡ r
    → ◌≡◌ {A = Settings} (record { text = a; bars = c; lines = l; codes = q }) (record { text = b; bars = d; lines = m; codes = r })
same_settings e f g h = cc
