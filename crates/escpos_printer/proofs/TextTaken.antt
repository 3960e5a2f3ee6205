-- Characters that are printed and taken together.
use Rattle.std.proofs.Common.{◌≡◌, ◌≤◌, ◌+◌, ◌⊎◌, ℕ, List, [], ◌∷◌, ◌++◌, false, map, take, drop, refl, sym, ◌∙◌, ap, subst, append_assoc}
use Rattle.std.proofs.Math.Seq.{take-add}
use Rattle.std.proofs.lemmas.List.{map-append, take-take}
use Rattle.std.specs.List.{AllByRecursion}
use Rattle.escpos_command.specs.declared.command.Command.{Command}
use Rattle.escpos_command.specs.declared.command.Command.TheVariants.{Char}
use Rattle.escpos_command.specs.Grammar.{Half, Reads}
use Rattle.escpos_paper.specs.declared.item.Item.{Item}
use Rattle.escpos_paper.specs.Page.{Sheet, SheetIs}
use Rattle.escpos_printer.specs.declared.condition.Condition.{Condition}
use Rattle.escpos_printer.specs.Blocks.{MayWait, with_one_block}
use Rattle.escpos_printer.specs.Feeds.{PrinterView, Took, PassesOffline}
use Rattle.escpos_printer.specs.Replies.{automatic_after, is_offline, replies}
use Rattle.escpos_printer.proofs.OneBlock.{none_more}
use Rattle.escpos_printer.proofs.Taking.{online}

-- These characters were printed.
abbrev pub Prints : Sheet → List ℕ → Sheet → Type 0
Prints before text after =
    (width : ℕ) (kept : List Item) (cs : List Command) → SheetIs width before kept cs → SheetIs width after kept (cs ++ map Char text)

-- The characters of the next line follow those of the lines before it.
pub prints_on : (p m q : Sheet) (text : List ℕ) (at n most : ℕ) → n ≤ most → Prints p (take at text) m → Prints m (take n (take most (drop at text))) q
    → Prints p (take (at + n) text) q
prints_on p m q text at n most few t u = λ width kept cs is.
    let line = take n (take most (drop at text)) in
    let joined : (cs ++ map Char (take at text)) ++ map Char line ≡ cs ++ map Char (take (at + n) text)
    = append_assoc cs (map Char (take at text)) (map Char line) ∙ ap (λ v. cs ++ (map Char (take at text) ++ map Char v)) (take-take n most (drop at text) few)
    ∙ ap (λ v. cs ++ v) (sym (map-append Char (take at text) (take n (drop at text))) ∙ ap (map Char) (sym (take-add at n text))) in
    subst (SheetIs width q kept) joined (u width kept (cs ++ map Char (take at text)) (t width kept cs is))

-- Characters have no answers, and leave automatic status as it is.
no_replies : (condition : Condition) (text : List ℕ) → replies condition (map Char text) ≡ []
no_replies condition [] = refl
no_replies condition (b ∷ text) = no_replies condition text

same_setting : (n : ℕ) (text : List ℕ) → automatic_after n (map Char text) ≡ n
same_setting n [] = refl
same_setting n (b ∷ text) = same_setting n text

text_passes : (condition : Condition) (text : List ℕ) → is_offline condition ≡ false → AllByRecursion (PassesOffline condition) (map Char text)
text_passes condition [] on = tt
text_passes condition (b ∷ text) on = (λ off. absurd (online condition on off), text_passes condition text on)

-- Characters that an online printer prints are taken.
pub text_taken : (p : PrinterView) (text : List ℕ) (sheet : Sheet) → (p.half ≡ []) ⊎ Half p.half → MayWait p.waiting → is_offline p.condition ≡ false
    → ((a : List ℕ) (cs : List Command) → Reads a cs p.half → Reads (a ++ text) (cs ++ map Char text) p.half) → Prints p.sheet text sheet
    → Took p text (map Char text) (record { sheet = sheet; half = p.half; waiting = p.waiting; condition = p.condition; automatic = p.automatic })
text_taken p text sheet left room on read prints = record {
  ran = record {
    reads = read p.half [] (record { commands = tt; whole = refl; rest_is = left });
    page = prints;
    condition = refl;
    automatic = sym (same_setting p.automatic text);
    passes = text_passes p.condition text on;
  };
  answers = none_more p.waiting room ∙ ap (λ v. with_one_block (p.waiting ++ v)) (sym (no_replies p.condition text));
  room = room;
}
