use Rattle.std.proofs.Common.{◌++◌, ◌∙◌, ap, string_bytes, length-append}
use Rattle.std.proofs.lemmas.Slice.Zip.{zip_turn, zip_end}
use Rattle.whips_report.specs.Texts.{spaced}
use Rattle.whips_report.proofs.Spaced.{counts_more, counts_all}
use Rattle.whips_report.proofs.words.push_counts.Goals as goal

pub loop-name-preserved : goal.loop-name-preserved
loop-name-preserved c =
    let from = c.into_iter-name-iterator.ensures.into_iter_gives in
    let turn = zip_turn c.args.names.now c.args.counts.now c.loop-name.yielded c.into_iter-name-iterator.result c.loop-name.name-iterator c.next.new.self c.next.result (ap (λ z. z.a.rest.now) from ∙ ap (λ i. i.rest.now) c.zip-name-items.ensures.first ∙ c.iter.ensures.rest) (ap (λ z. z.b.rest.now) from ∙ c.zip-name-items.ensures.second.0) c.loop-name.yielded_by (c.in-Some.name, c.in-Some.count) c.in-Some.is c.next.ensures.steps in
    counts_more c.args.names.now c.args.counts.now _ _ c.in-Some.name.now c.in-Some.count.now _ _ _ (length-append c.loop-name.yielded _) turn c.loop-name.invariant (rw (← c.as_str.ensures) c.in_ok-push_count.ensures)

pub returns : goal.returns
returns c =
    let from = c.into_iter-name-iterator.ensures.into_iter_gives in
    let end = zip_end c.args.names.now c.args.counts.now c.loop-name.yielded c.into_iter-name-iterator.result c.loop-name.name-iterator c.next.new.self c.next.result (ap (λ z. z.a.rest.now) from ∙ ap (λ i. i.rest.now) c.zip-name-items.ensures.first ∙ c.iter.ensures.rest) (ap (λ z. z.b.rest.now) from ∙ c.zip-name-items.ensures.second.0) c.loop-name.yielded_by c.in-None.is c.next.ensures.steps in
    c.loop-name.invariant ∙ ap (λ ws. string_bytes c.args.text.now ++ spaced ws) (counts_all _ _ _ end)
