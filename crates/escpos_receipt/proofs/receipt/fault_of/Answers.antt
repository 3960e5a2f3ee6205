use Rattle.std.proofs.Common.{◌≡◌, [], ◌∷◌, take, true, false, refl, sym, ◌∙◌, ap, subst, arith}
use Rattle.escpos_command.specs.CommandTable.{AreCommands, IsCommand}
use Rattle.escpos_receipt.specs.Whole.{EachMayFollow, HoldNoRealTime, MayFollow, has_text}
use Rattle.escpos_receipt.proofs.Following.{none_follows, one_more_follows, some_command, stands_at}
use Rattle.escpos_receipt.proofs.Prefixes.{all_joined, all_of, one_longer}
use Rattle.escpos_receipt.proofs.RealTimes.{none_held, one_more_quiet}
use Rattle.escpos_receipt.proofs.receipt.fault_of.Goals as goal
use Rattle.escpos_receipt.proofs.receipt.fault_of.Goals.{else-has_text-via-then-has_text+else-needs_empty_line, else-has_text-via-else-has_text}

pub loop-at-init : goal.loop-at-init
loop-at-init c = record { commands = tt; each = none_follows; quiet = none_held; flag = refl }

pub returns-then-is_forbidden : goal.returns-then-is_forbidden
returns-then-is_forbidden c =
    let cs = c.args.commands.now in
    let i = c.loop-at.at in
    let x = c.index-commands-at.result in (
      take i cs,
      x,
      stands_at cs i x c.loop-at-test.true c.index-commands-at.is c.loop-at.invariant.each c.loop-at.invariant.quiet,
      sym c.is_forbidden.ensures ∙ c.if-is_forbidden.true,
    )

pub returns-then-needs_empty_line : goal.returns-then-needs_empty_line
returns-then-needs_empty_line c =
    let cs = c.args.commands.now in
    let i = c.loop-at.at in
    let x = c.index-commands-at.result in (
      take i cs,
      x,
      stands_at cs i x c.loop-at-test.true c.index-commands-at.is c.loop-at.invariant.each c.loop-at.invariant.quiet,
      sym c.needs_empty_line.ensures ∙ c.if-needs_empty_line.true,
      sym c.loop-at.invariant.flag ∙ c.if-has_text.true,
    )

pub returns-then-holds_real_time : goal.returns-then-holds_real_time
returns-then-holds_real_time c =
    let cs = c.args.commands.now in
    let i = c.loop-at.at in
    let x = c.index-commands-at.result in
    let follows : MayFollow (take i cs) x = record {
      allowed = sym c.is_forbidden.ensures ∙ c.if-is_forbidden.false;
      at_line_start = λ needs. elim c.else-has_text.branch [
        | else-has_text-via-then-has_text+else-needs_empty_line w ↦
            let clash : true ≡ false = sym needs ∙ sym w.needs_empty_line.ensures ∙ w.if-needs_empty_line.false in cc
        | else-has_text-via-else-has_text w ↦ sym c.loop-at.invariant.flag ∙ w.if-has_text.false
      ];
    } in (
      take i cs,
      x,
      stands_at cs i x c.loop-at-test.true c.index-commands-at.is c.loop-at.invariant.each c.loop-at.invariant.quiet,
      follows,
      c.holds_real_time.ensures.0 c.if-holds_real_time.true,
    )

pub loop-at-preserved : goal.loop-at-preserved
loop-at-preserved c =
    let cs = c.args.commands.now in
    let i = c.loop-at.at in
    let x = c.index-commands-at.result in
    let longer = one_longer cs i x c.loop-at-test.true c.index-commands-at.is in
    let follows : MayFollow (take i cs) x = record {
      allowed = sym c.is_forbidden.ensures ∙ c.if-is_forbidden.false;
      at_line_start = λ needs. elim c.else-has_text.branch [
        | else-has_text-via-then-has_text+else-needs_empty_line w ↦
            let clash : true ≡ false = sym needs ∙ sym w.needs_empty_line.ensures ∙ w.if-needs_empty_line.false in cc
        | else-has_text-via-else-has_text w ↦ sym c.loop-at.invariant.flag ∙ w.if-has_text.false
      ];
    } in
    record {
      commands = subst AreCommands (sym longer) (all_joined IsCommand (take i cs) (x ∷ []) c.loop-at.invariant.commands (c.in_range.ensures, tt));
      each = subst EachMayFollow (sym longer) (one_more_follows (take i cs) x c.loop-at.invariant.each follows);
      quiet = subst HoldNoRealTime (sym longer)
          (one_more_quiet (take i cs) x c.in_range.ensures c.loop-at.invariant.quiet
          (λ held. (let clash : true ≡ false = sym (c.holds_real_time.ensures.1 held) ∙ c.if-holds_real_time.false in cc)));
      flag = c.has_text_after-has_text.ensures (take i cs) follows c.loop-at.invariant.flag ∙ ap has_text (sym longer);
    }

pub returns-then-has_text-2 : goal.returns-then-has_text-2
returns-then-has_text-2 c =
    let cs = c.args.commands.now in
    let all = all_of cs c.loop-at.at (omega arith) in (
      some_command cs (sym c.is_empty.ensures ∙ c.if-is_empty.false),
      subst EachMayFollow all c.loop-at.invariant.each,
      subst HoldNoRealTime all c.loop-at.invariant.quiet,
      ap has_text (sym all) ∙ sym c.loop-at.invariant.flag ∙ c.if-has_text-2.true,
    )

pub returns : goal.returns
returns c =
    let cs = c.args.commands.now in
    let all = all_of cs c.loop-at.at (omega arith) in (
      record {
        nonempty = some_command cs (sym c.is_empty.ensures ∙ c.if-is_empty.false);
        in_place = subst EachMayFollow all c.loop-at.invariant.each;
        no_real_time = subst HoldNoRealTime all c.loop-at.invariant.quiet;
        no_text_left = ap has_text (sym all) ∙ sym c.loop-at.invariant.flag ∙ c.if-has_text-2.false;
      },
      subst AreCommands all c.loop-at.invariant.commands,
    )
