use Rattle.std.proofs.Common.{refl, arith}
use Rattle.escpos_link.proofs.Moving.{fed_ended_seen, fed_live_seen, fed_none_seen, no_link}
use Rattle.escpos_link.proofs.wire.Wire.feed_first.Goals as goal

pub returns-in-Some : goal.returns-in-Some
returns-in-Some c =
    fed_ended_seen _ _ _ c.feed.new.printer c.in-Some.link.now c.feed.new.link c.args.most c.feed.result.consumed c.feed.result.stop c.self.view_is refl
    (omega (arith, c.in-Some.ensures.variant.0 refl, c.self.inside.ended.ok.0)) c.in-Some.ensures.value c.feed.ensures.left c.feed.ensures.fed

pub returns-in-Some-live : goal.returns-in-Some-live
returns-in-Some-live c =
    fed_live_seen _ _ _ c.feed-in-Some-live.new.printer c.in-Some-live.link c.feed-in-Some-live.new.link c.args.most c.feed-in-Some-live.result.consumed c.feed-in-Some-live.result.stop c.self.view_is refl
    (no_link c.self.inside.ended.items _ c.self.inside.ended.ok.0 (λ some. cc (c.in_default.ensures.variant.1 some))) c.in-Some-live.is c.feed-in-Some-live.ensures.left c.feed-in-Some-live.ensures.fed

pub returns : goal.returns
returns c =
    fed_none_seen _ _ _ c.feed-2.new.self c.args.most c.feed-2.result.consumed c.feed-2.result.stop c.self.view_is refl
    (no_link c.self.inside.ended.items _ c.self.inside.ended.ok.0 (λ some. cc (c.in_default.ensures.variant.1 some))) c.in_default-live.is c.feed-2.ensures
