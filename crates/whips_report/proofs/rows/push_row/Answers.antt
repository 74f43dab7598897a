use Rattle.std.proofs.Common.{◌≡◌, ℕ, List, ◌++◌, ◌∷◌, [], ◌∙◌, ap, refl, length, take, map, Some, string_bytes, length-append}
use Rattle.std.specs.Prelude.{Result, Ok, Err, is_ok, OnOk, if◌then◌else◌}
use Rattle.std.proofs.lemmas.Slice.Zip.{zip_turn, zip_end}
use Rattle.whips_reports.specs.Lines.{row_data, value_data}
use Rattle.whips_report.proofs.RowTexts.{data_more, data_all, value_more, row_whole}
use Rattle.whips_report.proofs.rows.push_row.Goals as goal

-- what follows from an end that is written where there is memory
on_end : {T E : Type 0} (r : Result T E) (before after new whole : List ℕ) → new ≡ (if is_ok r then after else before) → (new ≡ after → new ≡ whole) → OnOk r (new ≡ whole)
on_end (Ok x) before after new whole is to = to is
on_end (Err e) before after new whole is to = tt

pub loop-code-preserved : goal.loop-code-preserved
loop-code-preserved c =
    let from = c.into_iter-code-iterator.ensures.into_iter_gives in
    let turn = zip_turn c.args.row.now c.args.kinds.now c.loop-code.yielded c.into_iter-code-iterator.result c.loop-code.code-iterator c.next.new.self c.next.result (ap (λ z. z.a.rest.now) from ∙ ap (λ i. i.rest.now) c.zip-code-items.ensures.first ∙ c.iter.ensures.rest) (ap (λ z. z.b.rest.now) from ∙ c.zip-code-items.ensures.second.0) c.loop-code.yielded_by (c.in-Some.code, c.in-Some.kind) c.in-Some.is c.next.ensures.steps in
    let l = c.args.labels.now in
    let n = length c.loop-code.yielded in
    let done = row_data l (map (λ k. Some k) (take n c.args.kinds.now)) (take n c.args.row.now) in
    let value = value_data l c.in-Some.code.now (Some c.in-Some.kind.now) in
    let more = data_more l c.args.kinds.now c.args.row.now n _ c.in-Some.code.now c.in-Some.kind.now done (done ++ value ∷ []) (length-append c.loop-code.yielded _) turn refl refl in
    value_more done _ value c.loop-code.later (string_bytes c.push_str.new.self) (string_bytes c.loop-code.text) (string_bytes c.push_comma.new.text) (string_bytes c.push_code.new.text) more c.loop-code.invariant.0 c.loop-code.invariant.1 c.in_ok-push_comma.ensures c.in_ok-push_code.ensures

pub returns : goal.returns
returns c =
    let from = c.into_iter-code-iterator.ensures.into_iter_gives in
    let end = zip_end c.args.row.now c.args.kinds.now c.loop-code.yielded c.into_iter-code-iterator.result c.loop-code.code-iterator c.next.new.self c.next.result (ap (λ z. z.a.rest.now) from ∙ ap (λ i. i.rest.now) c.zip-code-items.ensures.first ∙ c.iter.ensures.rest) (ap (λ z. z.b.rest.now) from ∙ c.zip-code-items.ensures.second.0) c.loop-code.yielded_by c.in-None.is c.next.ensures.steps in
    let l = c.args.labels.now in
    let n = length c.loop-code.yielded in
    let done = row_data l (map (λ k. Some k) (take n c.args.kinds.now)) (take n c.args.row.now) in
    let all = data_all l c.args.kinds.now c.args.row.now n end in
    let whole = row_whole l c.args.kinds.now c.args.row.now done (string_bytes c.args.text.now) (string_bytes c.push_str.new.self) (string_bytes c.loop-code.text) (string_bytes c.push_str-2.new.self) all c.in_ok-push_str.ensures.bytes c.loop-code.invariant.1 in
    on_end c.push_str-2.result _ _ _ _ c.push_str-2.ensures.bytes whole
