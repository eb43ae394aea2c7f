use Rattle.std.proofs.Common.{sym}
use Rattle.std.specs.Vec.Iter.{into_iter_items}
use Rattle.prefsql_tables.proofs.PutLemmas.{is_ready, put_more, put_stops}
use Rattle.prefsql_tables.proofs.table.put_row.Goals as goal

pub index_mut-requires : goal.index_mut-requires
index_mut-requires c =
    let steps = c.in-Some.ensures.steps in
    let putting = rw (steps.0.0, sym steps.1) at c.loop-place.invariant in
    let ready = is_ready c.args.count c.args.row.items c.args.columns.now.items c.loop-place.columns.items c.in-Some.place c.in-Some.value (into_iter_items c.next.new.self.iter) c.requires.admitted putting in
    rw c.loop-place.columns.ok.0 ready.there

pub put-requires : goal.put-requires
put-requires c =
    let steps = c.in-Some.ensures.steps in
    let putting = rw (steps.0.0, sym steps.1) at c.loop-place.invariant in
    let ready = is_ready c.args.count c.args.row.items c.args.columns.now.items c.loop-place.columns.items c.in-Some.place c.in-Some.value (into_iter_items c.next.new.self.iter) c.requires.admitted putting in
    rw c.index_mut.ensures.value (ready.admits c.index_mut.result.now)

pub loop-place-preserved : goal.loop-place-preserved
loop-place-preserved c =
    let steps = c.in-Some.ensures.steps in
    let putting = rw (steps.0.0, sym steps.1) at c.loop-place.invariant in
    let more = put_more c.args.count c.args.row.items c.args.columns.now.items c.loop-place.columns.items c.in-Some.place c.in-Some.value (into_iter_items c.next.new.self.iter) c.index_mut.result.now c.put.new.self
    c.requires.admitted c.requires.reach putting c.index_mut.ensures.value c.in_ok-put.ensures.ok in
    rw (steps.2, sym steps.1) more

pub returns-in_err-put-clause-kept : goal.returns-in_err-put-clause-kept
returns-in_err-put-clause-kept c =
    let steps = c.in-Some.ensures.steps in
    let putting = rw (steps.0.0, sym steps.1) at c.loop-place.invariant in
    put_stops c.args.count c.args.row.items c.args.columns.now.items c.loop-place.columns.items c.in-Some.place c.in-Some.value (into_iter_items c.next.new.self.iter) c.index_mut.result.now c.put.new.self
    c.requires.admitted putting c.index_mut.ensures.value c.in_err-put.ensures.err
