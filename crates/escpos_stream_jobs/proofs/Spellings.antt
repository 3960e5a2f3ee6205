-- The spellings of the first commands of a list.
use Rattle.std.proofs.Common.{◌≡◌, ℕ, ◌+◌, ◌<◌, List, [], ◌∷◌, ◌++◌, length, take, drop, sym, ◌∙◌, ap, add-one, get_or, append-nil}
use Rattle.std.proofs.lemmas.Grind.{flat_map-append}
use Rattle.std.proofs.lemmas.List.{take-append-drop}
use Rattle.std.proofs.Math.Seq.{take-suc}
use Rattle.escpos_command.specs.CommandTable.{row, spell}
use Rattle.escpos_command.specs.declared.command.Command.{Command}

pub one_more : (cs : List Command) (i : ℕ) (c : Command) → i < length cs → c ≡ get_or cs i c → spell (take (i + 1) cs) ≡ spell (take i cs) ++ row c
one_more cs i c h e =
    ap spell (ap (λ n. take n cs) (add-one i) ∙ take-suc cs i c h ∙ ap (λ v. take i cs ++ v ∷ []) (sym e)) ∙ flat_map-append row (take i cs) (c ∷ [])
    ∙ ap (λ v. spell (take i cs) ++ v) (append-nil (row c))

pub front_and_rest : (cs : List Command) (i : ℕ) → spell cs ≡ spell (take i cs) ++ spell (drop i cs)
front_and_rest cs i = ap spell (sym (take-append-drop i cs)) ∙ flat_map-append row (take i cs) (drop i cs)

-- The parts of a row, where each is the one that the table has.
pub row_of_parts : (c : Command) (front parameters content closing f p d l : List ℕ) → row c ≡ f ++ p ++ d ++ l
    → front ≡ f → parameters ≡ p → content ≡ d → closing ≡ l → row c ≡ front ++ parameters ++ content ++ closing
row_of_parts c front parameters content closing f p d l whole e1 e2 e3 e4 =
    whole ∙ sym (ap (λ v. v ++ parameters ++ content ++ closing) e1 ∙ ap (λ v. f ++ v ++ content ++ closing) e2 ∙ ap (λ v. f ++ p ++ v ++ closing) e3 ∙ ap (λ v. f ++ p ++ d ++ v) e4)
