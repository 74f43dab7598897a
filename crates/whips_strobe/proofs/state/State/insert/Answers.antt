use Rattle.std.proofs.Common.{rules, ◌≡◌, ◌<◌, [], length, arith, sym, ap, ◌∙◌}
use Rattle.std.proofs.lemmas.List.{length-map}
use Rattle.whips_model.specs.Tuples.{Columns}
use Rattle.whips_steps.specs.Steps.{asked_sources}
use Rattle.whips_view.specs.ViewDefs.{View, keyed}
use Rattle.whips_strobe.proofs.Seeds.{seeds_whole, seeds_differ, none_asked}
use Rattle.whips_strobe.proofs.state.State.insert.Goals as goal

pub put_rows-requires-clause-whole : goal.put_rows-requires-clause-whole
put_rows-requires-clause-whole c =
    let plain = ap (λ (v : View). length v.bases) c.plain.ensures in
    let width : length (keyed c.args.view.now).keys ≡ length c.args.view.now.bases = length-map c.args.view.now.bases (λ (b : Columns). b.key) in
    let size : length c.sources.result.now ≡ 0 = search rules in
    let none : asked_sources (keyed c.args.view.now) c.args.part ≡ [] = sym c.sources.ensures.sources ∙ none_asked c.sources.result.now size in
    let lt : c.args.part < length (keyed c.args.view.now).keys = omega arith in
    let whole = seeds_whole (keyed c.args.view.now) c.args.part lt c.args.seeds none in
    rw (c.in_ok-partials.ensures, c.as_slice.ensures, plain, ← width) whole

pub put_rows-requires-clause-keys : goal.put_rows-requires-clause-keys
put_rows-requires-clause-keys c =
    let plain = ap (λ (v : View). length v.bases) c.plain.ensures in
    let width : length (keyed c.args.view.now).keys ≡ length c.args.view.now.bases = length-map c.args.view.now.bases (λ (b : Columns). b.key) in
    let lt : c.args.part < length (keyed c.args.view.now).keys = omega arith in
    let differ = seeds_differ (keyed c.args.view.now) c.args.part lt c.args.seeds c.requires.keyed in
    rw (c.in_ok-partials.ensures, c.as_slice.ensures, plain, ← width) differ
