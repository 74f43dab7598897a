use Rattle.std.proofs.Common.{◌≡◌, ◌++◌, ◌∷◌, [], length, map, drop, sym, ap, ap₂, ◌∙◌, arith, length-drop}
use Rattle.std.proofs.lemmas.List.{length-map}
use Rattle.whips_contents.specs.Contents.{LoadedSource, new_loaded_source}
use Rattle.whips_core.specs.Cores.{script_with}
use Rattle.whips_core_laws.proofs.Starts.{fits_start}
use Rattle.whips_stage_laws.proofs.Setups.{setup_fits}
use Rattle.whips_run.proofs.Lefts.{left_get, left_next, made_next}
use Rattle.whips_run.proofs.sources.sources_of.Goals.{in-Some+in_ok-source_of+in_ok-push, in_default}
use Rattle.whips_run.proofs.sources.sources_of.Goals as goal

pub source_of-requires : goal.source_of-requires
source_of-requires c =
    let first : drop c.loop-y.y c.args.work ≡ c.in-Some.updates.items ∷ map (λ list. list.items) c.pop_front.new.self.items = sym c.loop-y.invariant.1 ∙ ap (map (λ list. list.items)) c.in-Some.ensures.items in
    (setup_fits (script_with c.args.setup.now c.args.work) c.requires.setup c.requires.work).transactions c.loop-y.y c.in-Some.updates.items (left_get c.loop-y.y c.args.work _ _ first)

pub loop-y-preserved : goal.loop-y-preserved
loop-y-preserved c = elim c.match-pop_front.branch [
  | in-Some+in_ok-source_of+in_ok-push w ↦
      let first : drop c.loop-y.y c.args.work ≡ w.in-Some.updates.items ∷ map (λ list. list.items) c.pop_front.new.self.items = sym c.loop-y.invariant.1 ∙ ap (map (λ list. list.items)) w.in-Some.ensures.items in (
        ap (λ v. v.items) w.sources-is ∙ (w.in_ok-push.ensures.items
            ∙ (ap₂ (λ l (s : LoadedSource). l ++ s ∷ []) c.loop-y.invariant.0 w.in_ok-source_of.ensures ∙ sym (made_next (new_loaded_source c.args.setup.now) c.loop-y.y c.args.work _ _ first))),
        sym (left_next c.loop-y.y c.args.work _ _ first),
      )
  | in_default w ↦
      let long = (fits_start (script_with c.args.setup.now c.args.work) c.requires.setup c.requires.work).sources in
      let none : length (map (λ list. list.items) c.loop-y.lists.items) ≡ 0 = length-map c.loop-y.lists.items (λ list. list.items) ∙ (sym c.loop-y.lists.ok.0 ∙ w.in_default.ensures.cases.0) in
      absurd (omega (arith, none, ap length c.loop-y.invariant.1, length-drop c.loop-y.y c.args.work, long, c.sources-y-end.ensures.sources, c.loop-y-test.true))
]
