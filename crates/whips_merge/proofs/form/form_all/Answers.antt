use Rattle.std.proofs.Common.{Vec, Global}
use Rattle.whips_flow.specs.Painted.{Row}
use Rattle.whips_merge.proofs.Painting.{none_ready, some_ready, left_with, still_rows, stopped_table}
use Rattle.whips_merge.proofs.Forming.{stopped_rows, stopped_sets, stopped_formed, forming_step}
use Rattle.whips_merge.proofs.form.form_all.Goals as goal

pub returns-in-None-clause-table : goal.returns-in-None-clause-table
returns-in-None-clause-table c =
    let none = none_ready (λ (v : Vec Row Global). v.items) c.in_ok-set.field-0 c.loop-turn.table.table.rows c.in_ok-set.ensures.taken c.in-None.is in
    stopped_table c.args.table.now c.loop-turn.table c.take_ready.new.table _ c.in_ok-set.ensures.table none c.loop-turn.invariant.table (stopped_rows _ _ _ _ _ _ _ _ _ _ c.loop-turn.invariant.forming none)

pub returns-in-None-clause-sets : goal.returns-in-None-clause-sets
returns-in-None-clause-sets c = stopped_sets _ _ _ _ _ _ _ _ _ _ c.loop-turn.invariant.forming (none_ready (λ (v : Vec Row Global). v.items) c.in_ok-set.field-0 c.loop-turn.table.table.rows c.in_ok-set.ensures.taken c.in-None.is)

pub returns-in-None-clause-formed : goal.returns-in-None-clause-formed
returns-in-None-clause-formed c = stopped_formed _ _ _ _ _ _ _ _ _ _ c.loop-turn.invariant.forming (none_ready (λ (v : Vec Row Global). v.items) c.in_ok-set.field-0 c.loop-turn.table.table.rows c.in_ok-set.ensures.taken c.in-None.is)

pub loop-turn-preserved : goal.loop-turn-preserved
loop-turn-preserved c =
    let rows = c.loop-turn.table.table.rows in
    let f = some_ready (λ (v : Vec Row Global). v.items) c.in_ok-set.field-0 rows c.in_ok-set.ensures.taken c.in-Some.set c.in-Some.is in
    let left = left_with c.loop-turn.table c.take_ready.new.table f.0 c.in_ok-set.ensures.table f.1 in
    record {
      table = still_rows c.args.table.now c.loop-turn.table c.take_ready.new.table _ c.loop-turn.invariant.table c.in_ok-set.ensures.table;
      forming = forming_step (λ w. w.rows.items) (λ w. w.transaction) c.args.turns c.loop-turn.turn c.args.table.now.table.rows rows c.take_ready.new.table.table.rows c.args.lists.now.items c.loop-turn.lists.items c.form_transaction.new.lists.items c.args.cut.now.items c.loop-turn.cut.items c.form_transaction.new.cut.items
          c.loop-turn.formed.items c.push_back.new.self.items c.in_ok-waiting.waiting f.0 c.in-Some.set.items c.loop-turn-test.true f.1 f.2 left c.in_ok-waiting.ensures.rows c.in_ok-waiting.ensures.lists c.in_ok-waiting.ensures.cut c.in_ok-waiting.ensures.transaction c.in_ok-push_back.ensures.items c.loop-turn.invariant.forming;
    }
