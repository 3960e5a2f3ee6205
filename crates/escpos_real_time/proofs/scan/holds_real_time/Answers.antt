-- Each part is gone through after those before it, from two bytes 00 on.
use Rattle.std.proofs.Common.{true, [], ◌∷◌, ◌++◌, ◌∙◌}
use Rattle.escpos_command.specs.CommandTable.{row}
use Rattle.escpos_real_time.proofs.Holding.{decided, ended, in_turn, passed, stopped}
use Rattle.escpos_real_time.proofs.scan.holds_real_time.Goals as goal

pub returns-then-find : goal.returns-then-find
returns-then-find c =
    let parts = c.parts-parts.ensures in
    let front = c.parts-parts.result.prefix.now in
    let content = c.parts-parts.result.content.now in
    let suffix = c.parts-parts.result.suffix.now in
    let parameters = c.parts-parts.result.parameters.items in
    let one = c.find.new.self in
    let after = parameters ++ (content ++ (suffix ++ [])) in
    decided true (row c.args.command.now)
    (in_turn front parameters content suffix _ _ _ _ parts.prefix parts.parameters parts.content parts.suffix
    ∙ stopped (0 ∷ 0 ∷ (front ++ after)) (one.first ∷ one.second ∷ after) c.find.result (c.find.ensures after) c.if-find.true)

pub returns-then-find-2 : goal.returns-then-find-2
returns-then-find-2 c =
    let parts = c.parts-parts.ensures in
    let front = c.parts-parts.result.prefix.now in
    let parameters = c.as_slice.result.now in
    let content = c.parts-parts.result.content.now in
    let suffix = c.parts-parts.result.suffix.now in
    let one = c.find.new.self in
    let two = c.find-2.new.self in
    let after_one = parameters ++ (content ++ (suffix ++ [])) in
    let after_two = content ++ (suffix ++ []) in
    decided true (row c.args.command.now)
    (in_turn front parameters content suffix _ _ _ _ parts.prefix (c.as_slice.ensures.value ∙ parts.parameters) parts.content parts.suffix
    ∙ passed (0 ∷ 0 ∷ (front ++ after_one)) (one.first ∷ one.second ∷ after_one) c.find.result (c.find.ensures after_one) c.if-find.false
    ∙ stopped (one.first ∷ one.second ∷ after_one) (two.first ∷ two.second ∷ after_two) c.find-2.result (c.find-2.ensures after_two) c.if-find-2.true)

pub returns-then-find-3 : goal.returns-then-find-3
returns-then-find-3 c =
    let parts = c.parts-parts.ensures in
    let front = c.parts-parts.result.prefix.now in
    let parameters = c.as_slice.result.now in
    let content = c.parts-parts.result.content.now in
    let suffix = c.parts-parts.result.suffix.now in
    let one = c.find.new.self in
    let two = c.find-2.new.self in
    let after_one = parameters ++ (content ++ (suffix ++ [])) in
    let after_two = content ++ (suffix ++ []) in
    let after_three = suffix ++ [] in
    let three = c.find-3.new.self in
    decided true (row c.args.command.now)
    (in_turn front parameters content suffix _ _ _ _ parts.prefix (c.as_slice.ensures.value ∙ parts.parameters) parts.content parts.suffix
    ∙ passed (0 ∷ 0 ∷ (front ++ after_one)) (one.first ∷ one.second ∷ after_one) c.find.result (c.find.ensures after_one) c.if-find.false
    ∙ passed (one.first ∷ one.second ∷ after_one) (two.first ∷ two.second ∷ after_two) c.find-2.result (c.find-2.ensures after_two) c.if-find-2.false
    ∙ stopped (two.first ∷ two.second ∷ after_two) (three.first ∷ three.second ∷ after_three) c.find-3.result (c.find-3.ensures after_three) c.if-find-3.true)

pub returns : goal.returns
returns c =
    let parts = c.parts-parts.ensures in
    let front = c.parts-parts.result.prefix.now in
    let parameters = c.as_slice.result.now in
    let content = c.parts-parts.result.content.now in
    let suffix = c.parts-parts.result.suffix.now in
    let one = c.find.new.self in
    let two = c.find-2.new.self in
    let after_one = parameters ++ (content ++ (suffix ++ [])) in
    let after_two = content ++ (suffix ++ []) in
    let after_three = suffix ++ [] in
    let three = c.find-3.new.self in
    decided c.find-4.result (row c.args.command.now)
    (in_turn front parameters content suffix _ _ _ _ parts.prefix (c.as_slice.ensures.value ∙ parts.parameters) parts.content parts.suffix
    ∙ passed (0 ∷ 0 ∷ (front ++ after_one)) (one.first ∷ one.second ∷ after_one) c.find.result (c.find.ensures after_one) c.if-find.false
    ∙ passed (one.first ∷ one.second ∷ after_one) (two.first ∷ two.second ∷ after_two) c.find-2.result (c.find-2.ensures after_two) c.if-find-2.false
    ∙ passed (two.first ∷ two.second ∷ after_two) (three.first ∷ three.second ∷ after_three) c.find-3.result (c.find-3.ensures after_three) c.if-find-3.false
    ∙ ended (three.first ∷ three.second ∷ after_three) c.find-4.new.self.first c.find-4.new.self.second c.find-4.result (c.find-4.ensures []))
