-- `trial::starting::Start::reports` meets its contract: what is lent is the front of an untouched room, and the report promises the rest.
use Rattle.std.proofs.Common.{take, rules}
use Rattle.std.proofs.lemmas.List.{take-replicate}
use Rattle.routes.specs.Reports.{most_route_numbers}
use Rattle.trial.specs.Trials.{untouched, room_of}
use Rattle.trial.proofs.Told.{reports_told}
use Rattle.trial.proofs.starting.Start.reports.Goals as goal

pub returns : goal.returns
returns c =
    let a = c.args in
    let told = c.report-answer in
    reports_told a.self.now.setup a.a a.b a.n told.result a.expected c.from-told.result a.kind a.value (take a.n (room_of most_route_numbers))
    told.new.room a.list.now c.eq.result c.holds.result (take-replicate a.n most_route_numbers untouched c.requires) told.ensures.value
    c.from-told.ensures told.ensures.room told.auto.room (search rules) c.holds.ensures
