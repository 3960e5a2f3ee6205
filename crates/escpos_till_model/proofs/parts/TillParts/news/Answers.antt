use Rattle.std.proofs.Common.{◌∙◌, refl, ap}
use Rattle.escpos_till.specs.Machine.{told}
use Rattle.escpos_till_model.specs.declared.event.Happening.TheVariants as event
use Rattle.escpos_till_model.specs.World.{TellsNews}
use Rattle.escpos_till_model.proofs.TillHappens.{called_in}
use Rattle.escpos_till_model.proofs.TillWorlds.{not_asked_in}
use Rattle.escpos_till_model.proofs.parts.TillParts.news.Goals as goal

pub returns-then-not-has_news-clause-refused : goal.returns-then-not-has_news-clause-refused
returns-then-not-has_news-clause-refused c =
    not_asked_in c.args.self.now _ c.in-Some.machine event.News c.self.view_is c.in-Some.is (λ news. absurd (let bad = c.has_news.ensures.1 news in cc))

pub returns-clause-happened : goal.returns-clause-happened
returns-clause-happened c =
    let (talk, n, is, news) = c.if-not-has_news.ensures.0 refl in
    let same = c.told.ensures ∙ ap (λ s. told s c.in-Some.machine) is in
    called_in TellsNews c.args.self.now _ c.in-Some.machine c.told.new.self c.self.view_is c.in-Some.is
    (record { talk = talk; note = n; talks = is; news = news; told = c.told.ensures }) c.is_sound.ensures.host (ap (λ m. m.host) same)
