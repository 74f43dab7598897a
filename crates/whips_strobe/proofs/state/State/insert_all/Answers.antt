use Rattle.std.proofs.Common.{◌≡◌, ◌<◌, ◌+◌, length, subst, sym, ap, ◌∙◌, arith}
use Rattle.std.specs.List.{AllByRecursion}
use Rattle.std.proofs.lemmas.List.{length-map}
use Rattle.whips_model.specs.Tuples.{Columns, IsKeyed}
use Rattle.whips_model.proofs.Keyed.{keyed_filter}
use Rattle.whips_choices.specs.KeyedViews.{part_key}
use Rattle.whips_states.specs.Net.{given, given_at, relation_at}
use Rattle.whips_states.specs.Concerns.{meets_part}
use Rattle.whips_trans_laws.proofs.Nets.{inserted_last}
use Rattle.whips_view.specs.ViewDefs.{keyed, row_columns}
use Rattle.whips_managers.specs.Managers.{ManagerState}
use Rattle.whips_strobe.proofs.Insertions.{IsOfEarlier, given_next, earlier_given, earlier_names, tuples_of_part}
use Rattle.whips_strobe.specs.Parts.{tuples_at}
use Rattle.whips_strobe.proofs.state.State.insert_all.Goals as goal

pub insert-requires-clause-keyed : goal.insert-requires-clause-keyed
insert-requires-clause-keyed c =
    let width : length (keyed c.args.view.now).keys ≡ length c.args.view.now.bases = length-map c.args.view.now.bases (λ (b : Columns). b.key) in
    let bases = c.width-part-end.ensures.width in
    let below = c.loop-part-test.true in
    let lt : c.loop-part.part < length (keyed c.args.view.now).keys = omega arith in
    let seeds : c.in_ok-seeds.seeds ≡ given_at (keyed c.args.view.now) c.args.t.now c.loop-part.part =
    c.in_ok-seeds.ensures ∙ ap (tuples_at c.loop-part.part) (c.deref.ensures.value ∙ c.in_ok-given.ensures ∙ ap (λ v. given (keyed v) c.args.t.now) c.plain.ensures)
    ∙ tuples_of_part (given_at (keyed c.args.view.now) c.args.t.now) c.loop-part.part (length (keyed c.args.view.now).keys) lt in
    subst (λ l. IsKeyed (part_key (keyed c.args.view.now) c.loop-part.part) l) (sym seeds)
    (keyed_filter (part_key (keyed c.args.view.now) c.loop-part.part) (meets_part c.args.view.now.parts c.loop-part.part) _ (inserted_last (relation_at (keyed c.args.view.now) c.loop-part.part) (part_key (keyed c.args.view.now) c.loop-part.part) c.args.t.now).0)

pub insert-requires-clause-below : goal.insert-requires-clause-below
insert-requires-clause-below c = earlier_names c.args.number c.loop-part.part c.loop-part.self.queries c.loop-part.invariant.earlier

pub loop-part-preserved : goal.loop-part-preserved
loop-part-preserved c =
    let width : length (keyed c.args.view.now).keys ≡ length c.args.view.now.bases = length-map c.args.view.now.bases (λ (b : Columns). b.key) in
    let bases = c.width-part-end.ensures.width in
    let below = c.loop-part-test.true in
    let lt : c.loop-part.part < length (keyed c.args.view.now).keys = omega arith in
    let seeds : c.in_ok-seeds.seeds ≡ given_at (keyed c.args.view.now) c.args.t.now c.loop-part.part =
    c.in_ok-seeds.ensures ∙ ap (tuples_at c.loop-part.part) (c.deref.ensures.value ∙ c.in_ok-given.ensures ∙ ap (λ v. given (keyed v) c.args.t.now) c.plain.ensures)
    ∙ tuples_of_part (given_at (keyed c.args.view.now) c.args.t.now) c.loop-part.part (length (keyed c.args.view.now).keys) lt in
    record {
      so_far = given_next (keyed c.args.view.now) (row_columns c.args.view.now) c.args.number (given_at (keyed c.args.view.now) c.args.t.now) c.loop-part.part c.args.self.now c.loop-part.self c.insert.new.self c.in_ok-seeds.seeds c.loop-part.invariant.so_far seeds c.in_ok-insert.ensures;
      earlier = subst (λ (m : ManagerState). AllByRecursion (IsOfEarlier c.args.number (c.loop-part.part + 1)) m.queries) (sym c.in_ok-insert.ensures) (earlier_given (keyed c.args.view.now) (row_columns c.args.view.now) c.loop-part.self c.args.number c.loop-part.part c.in_ok-seeds.seeds c.loop-part.invariant.earlier);
    }
