-- What is told while a call goes on, in the world.
use Rattle.std.proofs.Common.{[], ◌∷◌, ◌++◌, ap, ◌∙◌, append_assoc}
use Rattle.escpos_till.specs.Driver.{Confirms, Tells}
use Rattle.escpos_till_model.specs.Around.{around}
use Rattle.escpos_till_model.specs.Receipts.{Among}
use Rattle.escpos_till_model.specs.World.{World, running}
use Rattle.escpos_till_model.proofs.Confirming.{is_confirmed}
use Rattle.escpos_till_model.proofs.DriverDoes.{does_all}
use Rattle.escpos_till_model.proofs.Served.{asked_around, asked_come}
use Rattle.escpos_till_model.proofs.laws.what_is_confirmed_is_recorded.Goals as goal

pub returns-clause-ran : goal.returns-clause-ran
returns-clause-ran g c = λ w m after a new number ran come is among. is_confirmed c.every_world.ensures ran.deeds number m after a new w come is ran.did_all among

pub returns-clause-served : goal.returns-clause-served
returns-clause-served g c = λ world m after old new call n number most wire left it may (before, following, is).
    let asked = it.serves.asked in
    let next : World = running asked world.kept world.wire world.told in
    let known = c.every_world.ensures it.come.first world it.come.happenings it.come.begins it.come.runs in
    let all = does_all g.S.Store.faithful g.S.Store.holds g.S.Store.leaves g.S.Store.says g.L.PrinterLine.did g.met.S.Store.outlives (it.serves.runs.before ++ Tells n ∷ []) asked after old new world.kept left world.wire wire world.told
    it.serves.runs.did_all it.store may it.line in
    let among : Among (Confirms number) (it.serves.runs.before ++ Tells n ∷ []) =
    (before, following ++ Tells n ∷ [], ap (λ ds. ds ++ Tells n ∷ []) is ∙ append_assoc before (Confirms number ∷ following) (Tells n ∷ [])) in
    is_confirmed c.every_world.ensures (it.serves.runs.before ++ Tells n ∷ []) number asked after (around world.kept world.wire world.told) _ next
    (asked_come c.fitting.ensures world m asked _ call it.come known it.is it.serves.calls it.may) (asked_around world m asked _ call it.is it.serves.calls) all among

pub returns-clause-given_up : goal.returns-clause-given_up
returns-clause-given_up g c = λ world m after old new call number most wire left it may among.
    let asked = it.gives.asked in
    let next : World = running asked world.kept world.wire world.told in
    let run = it.gives.runs.run in
    let known = c.every_world.ensures it.come.first world it.come.happenings it.come.begins it.come.runs in
    let all = does_all g.S.Store.faithful g.S.Store.holds g.S.Store.leaves g.S.Store.says g.L.PrinterLine.did g.met.S.Store.outlives run.deeds asked after old new world.kept left world.wire wire world.told run.did_all it.store may it.line in
    is_confirmed c.every_world.ensures run.deeds number asked after (around world.kept world.wire world.told) _ next
    (asked_come c.fitting.ensures world m asked _ call it.come known it.is it.gives.calls it.may) (asked_around world m asked _ call it.is it.gives.calls) all among
