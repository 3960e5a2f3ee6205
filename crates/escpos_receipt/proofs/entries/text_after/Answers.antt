use Rattle.std.proofs.Common.{◌≡◌, [], ◌∷◌, ◌++◌, true, false, refl, sym, ◌∙◌, ap, subst, append_assoc}
use Rattle.escpos_command.specs.declared.command.Command.TheVariants.{LineFeed}
use Rattle.escpos_receipt.specs.SpelledText.{text_left}
use Rattle.escpos_receipt.specs.Whole.{EachMayFollow, HoldNoRealTime, MayFollow, has_text}
use Rattle.escpos_receipt.proofs.Following.{line_feed_follows, line_flag, one_more_follows, text_follows, text_goes}
use Rattle.escpos_receipt.proofs.RealTimes.{held_in, line_feed_quiet, none_in, one_more_quiet, text_quiet}
use Rattle.escpos_receipt.proofs.entries.text_after.Goals as goal
use Rattle.escpos_receipt.proofs.entries.text_after.Goals.{then-is_forbidden-via-then-is_forbidden, then-is_forbidden-via-else-is_forbidden+then-needs_empty_line, then-had_text, else-had_text}

pub returns-in-Text-clause-follows : goal.returns-in-Text-clause-follows
returns-in-Text-clause-follows c = λ before each same. rw c.in-Text.is (
  text_follows before c.in-Text.text c.in_order.ensures each,
  c.leaves_text.ensures ∙ ap (λ v. text_left v c.in-Text.text) same ∙ sym (text_goes before c.in-Text.text c.in_order.ensures),
)

pub returns-in-Line-clause-follows : goal.returns-in-Line-clause-follows
returns-in-Line-clause-follows c = λ before each same.
    let text = c.in-Line.text in
    let joined = append_assoc before text (LineFeed ∷ []) in
    rw c.in-Line.is (
      subst EachMayFollow joined (one_more_follows (before ++ text) LineFeed (text_follows before text c.in_order-in-Line.ensures each) (line_feed_follows (before ++ text))),
      sym (line_flag (before ++ text)) ∙ ap has_text joined,
    )

pub returns-else-holds_real_time-clause-follows : goal.returns-else-holds_real_time-clause-follows
returns-else-holds_real_time-clause-follows c = λ before each same.
    let follows : MayFollow before c.in-Command.command = record {
      allowed = sym c.is_forbidden.ensures ∙ c.if-is_forbidden.false;
      at_line_start = λ needs. elim c.if-had_text.branch [
        | then-had_text w ↦
            let clash : true ≡ false = sym needs ∙ sym w.needs_empty_line.ensures ∙ sym w.value-is ∙ c.if-needs_empty_line.false in
            cc
        | else-had_text w ↦ sym same ∙ w.if-had_text.false
      ];
    } in
    rw c.in-Command.is (one_more_follows before c.in-Command.command each follows, c.has_text_after.ensures before follows same)

pub returns-then-is_forbidden-clause-refused : goal.returns-then-is_forbidden-clause-refused
returns-then-is_forbidden-clause-refused c = λ _ before following same each quiet.
    let may : MayFollow before c.in-Command.command = (rw c.in-Command.is at each) before c.in-Command.command following refl in
    elim c.then-is_forbidden.branch [
      | then-is_forbidden-via-then-is_forbidden w ↦
          let clash : true ≡ false = sym w.if-is_forbidden.true ∙ c.is_forbidden.ensures ∙ may.allowed in
          cc
      | then-is_forbidden-via-else-is_forbidden+then-needs_empty_line w ↦ elim w.if-had_text.branch [
        | then-had_text v ↦
            let needs = sym v.needs_empty_line.ensures ∙ sym v.value-is ∙ w.if-needs_empty_line.true in
            let clash : true ≡ false = sym v.if-had_text.true ∙ same ∙ may.at_line_start needs in
            cc
        | else-had_text v ↦
            let clash : true ≡ false = sym w.if-needs_empty_line.true ∙ v.value-is ∙ v.if-had_text.false in
            cc
      ]
    ]

pub returns-then-holds_real_time-clause-refused : goal.returns-then-holds_real_time-clause-refused
returns-then-holds_real_time-clause-refused c = λ _ before following same each quiet.
    none_in _ (rw c.in-Command.is at quiet) (held_in before c.in-Command.command following (c.holds_real_time.ensures.0 c.if-holds_real_time.true))

pub returns-in-Text-clause-no_real_time : goal.returns-in-Text-clause-no_real_time
returns-in-Text-clause-no_real_time c = λ before quiet. rw c.in-Text.is (text_quiet before c.in-Text.text c.in_order.ensures quiet)

pub returns-in-Line-clause-no_real_time : goal.returns-in-Line-clause-no_real_time
returns-in-Line-clause-no_real_time c = λ before quiet.
    let text = c.in-Line.text in
    rw c.in-Line.is (
    subst HoldNoRealTime (append_assoc before text (LineFeed ∷ [])) (line_feed_quiet (before ++ text) (text_quiet before text c.in_order-in-Line.ensures quiet))
    )

pub returns-else-holds_real_time-clause-no_real_time : goal.returns-else-holds_real_time-clause-no_real_time
returns-else-holds_real_time-clause-no_real_time c = λ before quiet.
    rw c.in-Command.is (
    one_more_quiet before c.in-Command.command c.in_range.ensures quiet
    (λ held. (let clash : true ≡ false = sym (c.holds_real_time.ensures.1 held) ∙ c.if-holds_real_time.false in cc))
    )
