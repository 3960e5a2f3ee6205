use Rattle.std.proofs.Common.{◌≡◌, ◌+◌, [], ◌∷◌, ◌++◌, take, drop, true, false, refl, sym, ◌∙◌, ap, subst}
use Rattle.std.specs.List.{flat_map}
use Rattle.std.proofs.lemmas.Grind.{flat_map-append}
use Rattle.escpos_receipt.specs.EntryCommands.{commands_in}
use Rattle.escpos_receipt.specs.Whole.{EachMayFollow, HoldNoRealTime, has_text}
use Rattle.escpos_receipt.proofs.Following.{none_follows}
use Rattle.escpos_receipt.proofs.RealTimes.{none_held}
use Rattle.escpos_receipt.proofs.MoreEntries.{one_more_entry}
use Rattle.escpos_receipt.proofs.Prefixes.{all_of, both_empty, empty_by, one_longer, split_at}
use Rattle.escpos_receipt.proofs.entries.are_whole.Goals as goal
use Rattle.escpos_receipt.proofs.entries.are_whole.Goals.{then-has_commands, else-has_commands}

pub loop-entry-init : goal.loop-entry-init
loop-entry-init c = record { each = none_follows; quiet = none_held; flag = refl; some = λ e. cc; none = λ e. refl }

pub loop-entry-preserved : goal.loop-entry-preserved
loop-entry-preserved c =
    let entries = c.args.entries.now in
    let i = c.loop-entry.entry-index in
    let entry = c.entry-item.result in
    let before = flat_map commands_in (take i entries) in
    let longer : flat_map commands_in (take (i + 1) entries) ≡ before ++ commands_in entry
    = ap (flat_map commands_in) (one_longer entries i entry c.loop-entry-test.true c.entry-item.is) ∙ one_more_entry (take i entries) entry in
    let after = c.in-Some.ensures.follows before c.loop-entry.invariant.each c.loop-entry.invariant.flag in
    record {
      each = subst EachMayFollow (sym longer) after.0;
      quiet = subst HoldNoRealTime (sym longer) (c.in-Some.ensures.no_real_time before c.loop-entry.invariant.quiet);
      flag = after.1 ∙ ap has_text (sym longer);
      some = λ has none.
          let parts = both_empty before (commands_in entry) (sym longer ∙ none) in
          elim c.if-has_commands.branch [
            | then-has_commands w ↦ c.loop-entry.invariant.some w.if-has_commands.true parts.0
            | else-has_commands w ↦ w.gives_commands-has_commands.ensures.0 (sym w.has_commands-is ∙ has) parts.1
          ];
      none = λ has_none. elim c.if-has_commands.branch [
        | then-has_commands w ↦
            let clash : true ≡ false = sym w.if-has_commands.true ∙ sym w.has_commands-is ∙ has_none in
            cc
        | else-has_commands w ↦
            let gone : commands_in entry ≡ [] = empty_by (commands_in entry) (λ some. (let clash : true ≡ false = sym (w.gives_commands-has_commands.ensures.1 some) ∙ sym w.has_commands-is ∙ has_none in cc)) in
            longer ∙ ap (λ t. t ++ commands_in entry) (c.loop-entry.invariant.none w.if-has_commands.false) ∙ gone
      ];
    }

pub returns-in-None : goal.returns-in-None
returns-in-None c =
    let entries = c.args.entries.now in
    let i = c.loop-entry.entry-index in
    let entry = c.entry-item.result in
    let split = ap (flat_map commands_in) (split_at entries i entry c.loop-entry-test.true c.entry-item.is) ∙ flat_map-append commands_in (take i entries) (entry ∷ drop (i + 1) entries) in (
      λ e. cc,
      λ whole. absurd (c.in-None.ensures.refused refl (flat_map commands_in (take i entries)) (flat_map commands_in (drop (i + 1) entries)) c.loop-entry.invariant.flag (subst EachMayFollow split whole.in_place)
          (subst HoldNoRealTime split whole.no_real_time)),
    )

pub returns-else-has_commands-2 : goal.returns-else-has_commands-2
returns-else-has_commands-2 c =
    let entries = c.args.entries.now in
    let all = ap (flat_map commands_in) (all_of entries c.loop-entry.entry-index c.loop-entry-test.false) in (
      λ has. (let clash : true ≡ false = sym has ∙ c.if-has_commands-2.false in cc),
      λ whole. absurd (whole.nonempty (sym all ∙ c.loop-entry.invariant.none c.if-has_commands-2.false)),
    )
