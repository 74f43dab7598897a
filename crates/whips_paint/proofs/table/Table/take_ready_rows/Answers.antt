use Rattle.std.proofs.Common.{◌≡◌, ◌<◌, ◌∙◌, List, Some, None, sym, ap, ap₂, subst}
use Rattle.std.specs.Prelude.{slice_get, position, not}
use Rattle.std.specs.Option.{option_map}
use Rattle.std.specs.List.{AllPairs}
use Rattle.std.specs.List.Sorted.{IsStrictlyIncreasing}
use Rattle.whips_flow.specs.Painted.{Row, closure, is_ready, has_number, rows_with}
use Rattle.whips_paint.specs.Table.{ViewTable, table_of, with_rows, IsInOrder, ready_numbers, ready_rows, rows_left}
use Rattle.whips_paint.proofs.Ready.{closure_rising}
use Rattle.whips_paint.proofs.Tables.{order_filter, none_ready, some_ready, ready_rows_none, ready_rows_some, left_none, left_some}
use Rattle.whips_paint.proofs.table.Table.take_ready_rows.Goals as goal

pub returns-in_default-clause-taken : goal.returns-in_default-clause-taken
returns-in_default-clause-taken c =
    let none = subst (λ rows. position (is_ready rows) rows ≡ None) c.deref.ensures.value (sym c.in_ok-place.ensures ∙ c.in_default.is) in
    sym (subst (λ (t : ViewTable). ready_rows t.table.rows ≡ None) c.self.view_is (ready_rows_none c.self.inside.rows.items (none_ready c.self.inside.rows.items none)))

pub returns-in_default-clause-left : goal.returns-in_default-clause-left
returns-in_default-clause-left c =
    let none = subst (λ rows. position (is_ready rows) rows ≡ None) c.deref.ensures.value (sym c.in_ok-place.ensures ∙ c.in_default.is) in
    subst (λ (t : ViewTable). t ≡ with_rows t (rows_left (ready_numbers t.table.rows) t.table.rows)) c.self.view_is
    (ap (with_rows (table_of c.self.inside.views c.self.inside.rows.items c.self.inside.last_announced)) (sym (left_none c.self.inside.rows.items (none_ready c.self.inside.rows.items none))))

pub copy_rows-requires : goal.copy_rows-requires
copy_rows-requires c =
    let order = subst (AllPairs (λ (r q : Row). r.number < q.number)) (sym c.deref-2.ensures.value) c.self.invariant.rising in
    subst IsStrictlyIncreasing (sym c.deref-4.ensures.value) (closure_rising c.deref-2.result.now c.in-Some.place c.in_ok-numbers.numbers.items order c.in_ok-numbers.ensures)

pub remove_rows-requires : goal.remove_rows-requires
remove_rows-requires c =
    let order = subst (AllPairs (λ (r q : Row). r.number < q.number)) (sym c.deref-2.ensures.value) c.self.invariant.rising in
    subst IsStrictlyIncreasing (sym c.deref-5.ensures.value) (closure_rising c.deref-2.result.now c.in-Some.place c.in_ok-numbers.numbers.items order c.in_ok-numbers.ensures)

pub invariant_of-self : goal.invariant_of-self
invariant_of-self c =
    let was : ViewTable = table_of c.self.inside.views c.self.inside.rows.items c.self.inside.last_announced in
    subst (λ rows. IsInOrder (with_rows was rows)) (sym c.remove_rows.ensures)
    (order_filter was (λ r. not (has_number c.deref-5.result.now r.number)) c.self.invariant)

pub returns-clause-taken : goal.returns-clause-taken
returns-clause-taken c =
    let some = subst (λ rows. position (is_ready rows) rows ≡ Some c.in-Some.place) c.deref.ensures.value (sym c.in_ok-place.ensures ∙ c.in-Some.is) in
    let numbers = subst (λ (rows : List Row). option_map (λ r. closure rows r.number) (slice_get rows c.in-Some.place) ≡ Some c.in_ok-numbers.numbers.items) c.deref-2.ensures.value c.in_ok-numbers.ensures in
    let rows = c.self.inside.rows.items in
    let ready = some_ready rows c.in-Some.place c.in_ok-numbers.numbers.items some numbers in
    let copied = c.in_ok-copies.ensures ∙ ap₂ rows_with c.deref-4.ensures.value c.deref-3.ensures.value in
    sym (subst (λ (t : ViewTable). ready_rows t.table.rows ≡ Some c.in_ok-copies.copies.items) c.self.view_is (ready_rows_some rows c.in_ok-numbers.numbers.items ready ∙ ap (λ l. Some l) (sym copied)))

pub returns-clause-left : goal.returns-clause-left
returns-clause-left c =
    let some = subst (λ rows. position (is_ready rows) rows ≡ Some c.in-Some.place) c.deref.ensures.value (sym c.in_ok-place.ensures ∙ c.in-Some.is) in
    let numbers = subst (λ (rows : List Row). option_map (λ r. closure rows r.number) (slice_get rows c.in-Some.place) ≡ Some c.in_ok-numbers.numbers.items) c.deref-2.ensures.value c.in_ok-numbers.ensures in
    let was : ViewTable = table_of c.self.inside.views c.self.inside.rows.items c.self.inside.last_announced in
    let ready = some_ready c.self.inside.rows.items c.in-Some.place c.in_ok-numbers.numbers.items some numbers in
    let left = c.remove_rows.ensures ∙ subst (λ ns. rows_left (Some ns) c.self.inside.rows.items ≡ rows_left (ready_numbers c.self.inside.rows.items) c.self.inside.rows.items) (sym c.deref-5.ensures.value) (sym (left_some c.self.inside.rows.items c.in_ok-numbers.numbers.items ready)) in
    ap (with_rows was) left
    ∙ ap (λ (t : ViewTable). with_rows t (rows_left (ready_numbers t.table.rows) t.table.rows)) c.self.view_is
