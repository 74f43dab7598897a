use Rattle.std.proofs.Common.{◌≤◌, ℕ, false, length, refl, sym, ap, subst, ◌∙◌}
use Rattle.std.proofs.lemmas.List.{length-map}
use Rattle.whips_flow.specs.Settling.{later_lists}
use Rattle.whips_paint.specs.Table.{ViewTable, ready_numbers}
use Rattle.whips_merge.specs.Taking.{rows_after_sets, merge_of}
use Rattle.whips_merge.specs.Merging.{MergeState}
use Rattle.whips_merge.specs.Holding.{rows_of, transactions_of, state_of}
use Rattle.whips_merge.proofs.Unready.{unready_after}
use Rattle.whips_merge.proofs.Forming.{settled_said, settled_still}
use Rattle.whips_merge.proofs.form.settle.Goals as goal

pub returns-clause-settled : goal.returns-clause-settled
returns-clause-settled c =
    let old = c.args.held.now in
    let painted = ap (λ (t : ViewTable). t.table.rows) c.paint_all.ensures.table in
    let left = ap (λ (t : ViewTable). t.table.rows) c.in_ok-formed.ensures.table in
    let last = ap (λ (t : ViewTable). t.table.last_announced) c.in_ok-formed.ensures.table ∙ ap (λ (t : ViewTable). t.table.last_announced) c.paint_all.ensures.table in
    let state : ℕ → MergeState = λ n. record { merge = merge_of n c.form_all.new.table.table.rows c.paint_all.new.waiting.items (rows_of c.append.new.self.items); lists = c.form_all.new.lists.items; cut = c.form_all.new.cut.items; transactions = transactions_of c.append.new.self.items; is_stopped = false } in
    ap state last
    ∙ sym (settled_said (λ w. w.rows.items) (λ w. w.transaction) (state_of old) old.table.table.last_announced c.len-turns.result old.table.table.rows c.paint_all.new.table.table.rows c.form_all.new.table.table.rows old.waiting.items c.paint_all.new.waiting.items old.lists.items c.form_all.new.lists.items old.cut.items c.form_all.new.cut.items
    old.sets.items c.in_ok-formed.formed.items c.append.new.self.items c.len-turns.ensures refl refl refl refl painted c.paint_all.ensures.waiting left c.in_ok-formed.ensures.sets c.in_ok-formed.ensures.formed c.in_ok-append.ensures.items)

pub returns-clause-whole : goal.returns-clause-whole
returns-clause-whole c =
    let old = c.args.held.now in
    let views = ap (λ (t : ViewTable). t.views) c.in_ok-formed.ensures.table ∙ ap (λ (t : ViewTable). t.views) c.paint_all.ensures.table in
    let painted = ap (λ (t : ViewTable). t.table.rows) c.paint_all.ensures.table in
    let left = ap (λ (t : ViewTable). t.table.rows) c.in_ok-formed.ensures.table in
    record {
      waiting_views = ap length c.paint_all.ensures.waiting ∙ length-map old.waiting.items (later_lists old.table.table.last_announced) ∙ c.requires.waiting_views ∙ sym views;
      few = subst (λ n. n ≤ 8) (sym views) c.requires.few;
      list_views = c.in_ok-formed.ensures.lists ∙ c.requires.list_views ∙ sym views;
      unready = unready_after old.table.table.last_announced old.table.table.rows c.paint_all.new.table.table.rows c.form_all.new.table.table.rows old.waiting.items painted (left ∙ ap (λ k. rows_after_sets k c.paint_all.new.table.table.rows) c.len-turns.ensures);
    }

pub returns-then-not-paint_all-clause-settled : goal.returns-then-not-paint_all-clause-settled
returns-then-not-paint_all-clause-settled c =
    let old = c.args.held.now in
    let same = c.paint_all.ensures.none c.if-not-paint_all.true in
    let state : ℕ → MergeState = λ n. record { merge = merge_of n c.paint_all.new.table.table.rows c.paint_all.new.waiting.items (rows_of old.sets.items); lists = old.lists.items; cut = old.cut.items; transactions = transactions_of old.sets.items; is_stopped = false } in
    ap state (ap (λ (t : ViewTable). t.table.last_announced) same)
    ∙ sym (settled_still (λ w. w.rows.items) (λ w. w.transaction) (state_of old) old.table.table.last_announced old.table.table.rows c.paint_all.new.table.table.rows old.waiting.items c.paint_all.new.waiting.items old.lists.items old.cut.items
    old.sets.items refl refl refl refl c.requires.unready (ap (λ (t : ViewTable). t.table.rows) same) (ap (λ (t : ViewTable). t.table.rows) c.paint_all.ensures.table) c.paint_all.ensures.waiting)

pub returns-then-not-paint_all-clause-whole : goal.returns-then-not-paint_all-clause-whole
returns-then-not-paint_all-clause-whole c =
    let old = c.args.held.now in
    let same = c.paint_all.ensures.none c.if-not-paint_all.true in
    let views = ap (λ (t : ViewTable). t.views) same in
    record {
      waiting_views = ap length c.paint_all.ensures.waiting ∙ length-map old.waiting.items (later_lists old.table.table.last_announced) ∙ c.requires.waiting_views ∙ sym views;
      few = subst (λ n. n ≤ 8) (sym views) c.requires.few;
      list_views = c.requires.list_views ∙ sym views;
      unready = ap (λ (t : ViewTable). ready_numbers t.table.rows) same ∙ c.requires.unready;
    }
