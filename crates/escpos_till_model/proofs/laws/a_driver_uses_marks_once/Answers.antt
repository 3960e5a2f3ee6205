-- The links of a driver's run, in the world.
use Rattle.std.proofs.Common.{[], ◌∷◌, ◌++◌}
use Rattle.escpos_till.specs.Driver.{Tells}
use Rattle.escpos_till_model.specs.Around.{around}
use Rattle.escpos_till_model.specs.World.{World, running}
use Rattle.escpos_till_model.proofs.CarryingDeeds.{apart_both, uses_once}
use Rattle.escpos_till_model.proofs.DriverDoes.{does_all}
use Rattle.escpos_till_model.proofs.Served.{asked_around, asked_come}
use Rattle.escpos_till_model.proofs.laws.a_driver_uses_marks_once.Goals as goal

pub returns-clause-ran : goal.returns-clause-ran
returns-clause-ran g c = λ w m after a new ran come is. uses_once c.counted_marks.ensures.ids c.every_world.ensures ran.deeds m after a new w come is ran.did_all

pub returns-clause-served : goal.returns-clause-served
returns-clause-served g c = λ world m after old new call n most wire left it may.
    let asked = it.serves.asked in
    let next : World = running asked world.kept world.wire world.told in
    let known = c.every_world.ensures it.come.first world it.come.happenings it.come.begins it.come.runs in
    let all = does_all g.S.Store.faithful g.S.Store.holds g.S.Store.leaves g.S.Store.says g.L.PrinterLine.did g.met.S.Store.outlives (it.serves.runs.before ++ Tells n ∷ []) asked after old new world.kept left world.wire wire world.told
    it.serves.runs.did_all it.store may it.line in
    uses_once c.counted_marks.ensures.ids c.every_world.ensures (it.serves.runs.before ++ Tells n ∷ []) asked after (around world.kept world.wire world.told) _ next
    (asked_come c.fitting.ensures world m asked _ call it.come known it.is it.serves.calls it.may) (asked_around world m asked _ call it.is it.serves.calls) all

pub returns-clause-given_up : goal.returns-clause-given_up
returns-clause-given_up g c = λ world m after old new call most wire left it may.
    let asked = it.gives.asked in
    let next : World = running asked world.kept world.wire world.told in
    let run = it.gives.runs.run in
    let known = c.every_world.ensures it.come.first world it.come.happenings it.come.begins it.come.runs in
    let all = does_all g.S.Store.faithful g.S.Store.holds g.S.Store.leaves g.S.Store.says g.L.PrinterLine.did g.met.S.Store.outlives run.deeds asked after old new world.kept left world.wire wire world.told run.did_all it.store may it.line in
    uses_once c.counted_marks.ensures.ids c.every_world.ensures run.deeds asked after (around world.kept world.wire world.told) _ next
    (asked_come c.fitting.ensures world m asked _ call it.come known it.is it.gives.calls it.may) (asked_around world m asked _ call it.is it.gives.calls) all

pub returns-clause-both : goal.returns-clause-both
returns-clause-both g c = apart_both
