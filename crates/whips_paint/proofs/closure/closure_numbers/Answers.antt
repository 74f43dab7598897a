use Rattle.std.proofs.Common.{◌≡◌, ◌∙◌, Some, ℕ, Vec, Global, sym, ap, map}
use Rattle.std.specs.Prelude.{slice_get, filter}
use Rattle.std.specs.List.{zip}
use Rattle.std.specs.Option.{option_map}
use Rattle.std.proofs.lemmas.Result.{IfOk-weaker}
use Rattle.whips_flow.specs.Painted.{closure}
use Rattle.whips_paint.specs.Marks.{number_of_pair, is_marked_pair}
use Rattle.whips_paint.proofs.Ready.{closure_at}
use Rattle.whips_paint.proofs.closure.closure_numbers.Goals as goal

pub returns : goal.returns
returns c =
    let rows = c.args.rows.now in
    let at = c.args.place in
    IfOk-weaker c.marked_numbers.result
    (λ (v : Vec ℕ Global). v.items ≡ map number_of_pair (filter is_marked_pair (zip rows c.deref.result.now)))
    (λ (v : Vec ℕ Global). option_map (λ r. closure rows r.number) (slice_get rows at) ≡ Some v.items)
    (λ v e. closure_at rows c.in_ok-marks.marks.items at c.requires.order c.requires.place c.in_ok-marks.ensures ∙ ap (λ ns. Some ns) (sym (e ∙ ap (λ ms. map number_of_pair (filter is_marked_pair (zip rows ms))) c.deref.ensures.value)))
    c.marked_numbers.ensures
