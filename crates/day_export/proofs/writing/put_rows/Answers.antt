use Rattle.std.proofs.Common.{rules}
use borrow.Author.Tests.{tests}
use Rattle.std.proofs.lemmas.Iterator.{YieldsList-from_map, YieldsList-from_slice}
use Rattle.std.proofs.lemmas.Iterator.Consumers.{YieldsList-from_filter_map}
use Rattle.day_export.specs.declared.cells.Rows.TheVariants as rows
use Rattle.day_export.specs.Rows.{sale_cells, decision_row, event_row}
use Rattle.day_export.proofs.Yielded.{first_yielded, yielded}
use Rattle.day_export.proofs.writing.put_rows.Goals as goal

pub returns-in-Sales-clause-text : goal.returns-in-Sales-clause-text
returns-in-Sales-clause-text g c =
    yielded c.put_each.result _ _ g.T.RowWriter.format c.args.rows rows.Sales c.args.sales.now c.args.entries.now c.in-Sales.is
    (YieldsList-from_map _ sale_cells (YieldsList-from_slice c.args.sales.now cc) c.map.ensures.closure (λ x r q k. search (rules, tests))) c.put_each.ensures.text

pub returns-in-Decisions-clause-text : goal.returns-in-Decisions-clause-text
returns-in-Decisions-clause-text g c =
    yielded c.put_each-in-Decisions.result _ _ g.T.RowWriter.format c.args.rows rows.Decisions c.args.sales.now c.args.entries.now c.in-Decisions.is
    (YieldsList-from_filter_map _ decision_row (YieldsList-from_slice c.args.entries.now cc) c.filter_map.ensures.closure (λ x r q k. search (rules, tests))) c.put_each-in-Decisions.ensures.text

pub returns-in-Events-clause-text : goal.returns-in-Events-clause-text
returns-in-Events-clause-text g c =
    yielded c.put_each-in-Events.result _ _ g.T.RowWriter.format c.args.rows rows.Events c.args.sales.now c.args.entries.now c.in-Events.is
    (YieldsList-from_map _ event_row (YieldsList-from_slice c.args.entries.now cc) c.map-in-Events.ensures.closure (λ x r q k. search (rules, tests))) c.put_each-in-Events.ensures.text

pub returns-in-Sales-clause-memory : goal.returns-in-Sales-clause-memory
returns-in-Sales-clause-memory g c out =
    first_yielded _ _ g.T.RowWriter.format c.args.rows rows.Sales c.args.sales.now c.args.entries.now c.in-Sales.is
    (YieldsList-from_map _ sale_cells (YieldsList-from_slice c.args.sales.now cc) c.map.ensures.closure (λ x r q k. search (rules, tests))) (c.put_each.ensures.memory out)

pub returns-in-Decisions-clause-memory : goal.returns-in-Decisions-clause-memory
returns-in-Decisions-clause-memory g c out =
    first_yielded _ _ g.T.RowWriter.format c.args.rows rows.Decisions c.args.sales.now c.args.entries.now c.in-Decisions.is
    (YieldsList-from_filter_map _ decision_row (YieldsList-from_slice c.args.entries.now cc) c.filter_map.ensures.closure (λ x r q k. search (rules, tests))) (c.put_each-in-Decisions.ensures.memory out)

pub returns-in-Events-clause-memory : goal.returns-in-Events-clause-memory
returns-in-Events-clause-memory g c out =
    first_yielded _ _ g.T.RowWriter.format c.args.rows rows.Events c.args.sales.now c.args.entries.now c.in-Events.is
    (YieldsList-from_map _ event_row (YieldsList-from_slice c.args.entries.now cc) c.map-in-Events.ensures.closure (λ x r q k. search (rules, tests))) (c.put_each-in-Events.ensures.memory out)
