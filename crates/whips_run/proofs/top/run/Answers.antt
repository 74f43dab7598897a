use Rattle.std.proofs.Common.{◌≡◌, Option, Some, map, string_bytes, sym, ap, subst, ◌∙◌}
use Rattle.std.proofs.KnownBytes.{Consumes-nil}
use Rattle.whips_headline_laws.proofs.Meets.{every_run}
use Rattle.whips_gen.specs.Made.{made_script, made_plan}
use Rattle.whips_run.specs.declared.commands.Command.{Command}
use Rattle.whips_run.specs.declared.commands.Command.TheVariants.{Make}
use Rattle.whips_run.specs.Commands.{command_of}
use Rattle.whips_run.specs.Outcome.{made, DoneMeetsHeadline}
use Rattle.whips_run.proofs.Answered.{not_five, not_six}
use Rattle.whips_run.proofs.top.run.Goals as goal

pub returns-in-Some-Make-clause-ended : goal.returns-in-Some-Make-clause-ended
returns-in-Some-Make-clause-ended g c = λ no_fault no_want.
    let e = c.answer_make.ensures.ended no_fault no_want in
    let is : command_of (map string_bytes c.args.words.now.items) ≡ Some (Make c.in-Some-Make.start c.in-Some-Make.size) = rw (← c.deref.ensures.value) (sym c.in-Some-Make.ensures.command ∙ ap Some c.in-Some-Make.field-0-is) in
    (made c.in-Some-Make.start c.in-Some-Make.size, (is, Consumes-nil _), e.0, e.1)

pub returns-in-Some-Make-clause-sink_failed : goal.returns-in-Some-Make-clause-sink_failed
returns-in-Some-Make-clause-sink_failed g c = λ is_fault.
    let s = c.answer_make.ensures.sink_failed is_fault in
    let is : command_of (map string_bytes c.args.words.now.items) ≡ Some (Make c.in-Some-Make.start c.in-Some-Make.size) = rw (← c.deref.ensures.value) (sym c.in-Some-Make.ensures.command ∙ ap Some c.in-Some-Make.field-0-is) in
    (made c.in-Some-Make.start c.in-Some-Make.size, s.0, (is, Consumes-nil _), s.1, s.2, s.3)

pub returns-in-Some-Make-clause-headline : goal.returns-in-Some-Make-clause-headline
returns-in-Some-Make-clause-headline g c = λ done.
    let start = c.in-Some-Make.start in
    let size = c.in-Some-Make.size in
    let e = c.answer_make.ensures.ended (not_five c.answer_make.result.status done) (not_six c.answer_make.result.status done) in
    let is : command_of (map string_bytes c.args.words.now.items) ≡ Some (Make start size) = rw (← c.deref.ensures.value) (sym c.in-Some-Make.ensures.command ∙ ap Some c.in-Some-Make.field-0-is) in
    subst (λ (o : Option Command). DoneMeetsHeadline o (g.I.Source.left c.args.input.now) (g.I.Source.left c.args.input.now) (g.O.Sink.written c.args.output.now) (g.O.Sink.written c.answer_make.new.output)) (sym is)
    (record { written = e.1; headline = every_run (made_script start size) (c.answer_make.ensures.valid e.0) (made_plan start size) })
