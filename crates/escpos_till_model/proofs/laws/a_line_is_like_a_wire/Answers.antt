-- The law is a lemma.
use Rattle.std.proofs.Common.{[], ◌∷◌, ◌++◌}
use Rattle.escpos_till.specs.Driver.{Tells}
use Rattle.escpos_till_model.proofs.DriverDoes.{fits_all}
use Rattle.escpos_till_model.proofs.laws.a_line_is_like_a_wire.Goals as goal

pub returns-clause-ran : goal.returns-clause-ran
returns-clause-ran g c = λ does m after old new ran w like.
    fits_all g.S.Store.faithful g.S.Store.holds g.S.Store.leaves g.S.Store.says g.L.PrinterLine.did g.W.LikeWire.fits does ran.deeds m after old new w ran.did_all like

pub returns-clause-told : goal.returns-clause-told
returns-clause-told g c = λ does m after old new n most ran w like.
    fits_all g.S.Store.faithful g.S.Store.holds g.S.Store.leaves g.S.Store.says g.L.PrinterLine.did g.W.LikeWire.fits does (ran.before ++ Tells n ∷ []) m after old new w ran.did_all like
