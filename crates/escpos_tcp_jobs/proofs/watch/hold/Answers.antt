use Rattle.std.proofs.Common.{[], ◌∷◌, ◌++◌, refl, ap}
use Rattle.std.specs.Prelude.{option_to_list}
use Rattle.escpos_tcp_jobs.specs.Watched.{watch_view}
use Rattle.escpos_tcp_jobs.proofs.Watching.{nothing_came, watches_came, watches_none}
use Rattle.escpos_tcp_jobs.proofs.watch.hold.Goals as goal

pub returns-in-Some-clause-watches : goal.returns-in-Some-clause-watches
returns-in-Some-clause-watches g c = λ p s say text. watches_none (watch_view p (g.R.Read.remaining c.args.reader.now) s say text c.args.progress.now)

pub returns-then-progress-clause-watches : goal.returns-then-progress-clause-watches
returns-then-progress-clause-watches g c = λ p s say text. watches_none (watch_view p (g.R.Read.remaining c.args.reader.now) s say text c.args.progress.now)

pub returns-in-Byte-clause-watches : goal.returns-in-Byte-clause-watches
returns-in-Byte-clause-watches g c = λ p s say text.
    watches_came p s say text (g.R.Read.remaining c.args.reader.now) (g.R.Read.remaining c.next_byte.new.reader) (c.in-Byte.byte ∷ []) c.args.progress.now _
    c.in-Byte.ensures.comes refl refl (ap (λ h. option_to_list h ++ c.in-Byte.byte ∷ []) c.in_default.is)

pub returns-in-Nothing-clause-watches : goal.returns-in-Nothing-clause-watches
returns-in-Nothing-clause-watches g c = λ p s say text.
    nothing_came p s say text (g.R.Read.remaining c.args.reader.now) (g.R.Read.remaining c.next_byte.new.reader) c.args.progress.now c.in-Nothing.ensures.comes

pub returns-in-Ended-clause-watches : goal.returns-in-Ended-clause-watches
returns-in-Ended-clause-watches g c = λ p s say text.
    nothing_came p s say text (g.R.Read.remaining c.args.reader.now) (g.R.Read.remaining c.next_byte.new.reader) c.args.progress.now c.in-Ended.ensures.comes

pub returns-in-Failed-clause-watches : goal.returns-in-Failed-clause-watches
returns-in-Failed-clause-watches g c = λ p s say text.
    nothing_came p s say text (g.R.Read.remaining c.args.reader.now) (g.R.Read.remaining c.next_byte.new.reader) c.args.progress.now c.in-Failed.ensures.comes
