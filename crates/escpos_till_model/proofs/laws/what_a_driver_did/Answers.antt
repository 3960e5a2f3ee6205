-- The law is a lemma.
use Rattle.escpos_till_model.proofs.DriverDoes.{does_all, does_to, holds_all, was_faithful}
use Rattle.escpos_till_model.proofs.laws.what_a_driver_did.Goals as goal

pub returns-clause-ran : goal.returns-clause-ran
returns-clause-ran g c = λ m after old new ran kept left w wire notes so may on. record {
  deeds = ran.deeds;
  did_all = does_all g.S.Store.faithful g.S.Store.holds g.S.Store.leaves g.S.Store.says g.L.PrinterLine.did g.met.S.Store.outlives ran.deeds m after old new kept left w wire notes ran.did_all so may on;
}

pub returns-clause-told : goal.returns-clause-told
returns-clause-told g c = λ m after old new n most ran kept left w wire notes so may on.
    does_to g.S.Store.faithful g.S.Store.holds g.S.Store.leaves g.S.Store.says g.L.PrinterLine.did g.met.S.Store.outlives m after old new n most ran kept left w wire notes so may on

pub returns-clause-held : goal.returns-clause-held
returns-clause-held g c = λ m after old new ran kept w wire notes so never on.
    let (entries, held, all) = holds_all g.S.Store.faithful g.S.Store.holds g.S.Store.leaves g.S.Store.says g.L.PrinterLine.did ran.deeds m after old new kept w wire notes ran.did_all so never on in
    (entries, held, record { deeds = ran.deeds; did_all = all })

pub returns-clause-was_faithful : goal.returns-clause-was_faithful
returns-clause-was_faithful g c = λ m after old new ran done.
    was_faithful g.S.Store.faithful g.S.Store.holds g.S.Store.leaves g.S.Store.says g.L.PrinterLine.did ran.deeds m after old new ran.did_all done
