use Rattle.std.proofs.Common.{◌∷◌, sym, ap, ◌∙◌, lit<}
use Rattle.whips_plan_reading.specs.Events.{event_of}
use Rattle.whips_plan_reading.proofs.Words.{one_word, first_word, too_many}
use Rattle.whips_plan_reading.proofs.event.event_in.Goals as goal

pub returns-in-None : goal.returns-in-None
returns-in-None c = c.bare_event.ensures ∙ sym (ap (event_of c.args.names.now) (one_word c.args.text.now (c.in-None.ensures.byte (lit< tt) (λ w o h. h))))

pub returns-in-None-split_once : goal.returns-in-None-split_once
returns-in-None-split_once c =
    let p = c.in-Some.ensures.byte (lit< tt) (λ w o h. h) in
    let first = first_word c.args.text.now c.in-Some.word.now c.in-Some.rest.now p.0 p.1 p.2 in
    let last = one_word c.in-Some.rest.now (c.in-None-split_once.ensures.byte (lit< tt) (λ w o h. h)) in
    c.named_event.ensures ∙ sym (ap (event_of c.args.names.now) (first ∙ ap (λ ws. c.in-Some.word.now ∷ ws) last))

pub returns-in-None-split_once-2 : goal.returns-in-None-split_once-2
returns-in-None-split_once-2 c =
    let p = c.in-Some.ensures.byte (lit< tt) (λ w o h. h) in
    let q = c.in-Some-split_once.ensures.byte (lit< tt) (λ w o h. h) in
    let first = first_word c.args.text.now c.in-Some.word.now c.in-Some.rest.now p.0 p.1 p.2 in
    let second = first_word c.in-Some.rest.now c.in-Some-split_once.name.now c.in-Some-split_once.last.now q.0 q.1 q.2 in
    let last = one_word c.in-Some-split_once.last.now (c.in-None-split_once-2.ensures.byte (lit< tt) (λ w o h. h)) in
    c.paired_event.ensures
    ∙ sym (ap (event_of c.args.names.now) (first ∙ ap (λ ws. c.in-Some.word.now ∷ ws) (second ∙ ap (λ ws. c.in-Some-split_once.name.now ∷ ws) last)))

pub returns-in-Some-split_once-2 : goal.returns-in-Some-split_once-2
returns-in-Some-split_once-2 c =
    let p = c.in-Some.ensures.byte (lit< tt) (λ w o h. h) in
    let q = c.in-Some-split_once.ensures.byte (lit< tt) (λ w o h. h) in
    let r = c.in-Some-split_once-2.ensures.byte (lit< tt) (λ w o h. h) in
    let first = first_word c.args.text.now c.in-Some.word.now c.in-Some.rest.now p.0 p.1 p.2 in
    let second = first_word c.in-Some.rest.now c.in-Some-split_once.name.now c.in-Some-split_once.last.now q.0 q.1 q.2 in
    let third = first_word c.in-Some-split_once.last.now c.in-Some-split_once-2.field-0.0.now c.in-Some-split_once-2.field-0.1.now r.0 r.1 r.2 in
    sym (ap (event_of c.args.names.now) (first ∙ ap (λ ws. c.in-Some.word.now ∷ ws) (second ∙ ap (λ ws. c.in-Some-split_once.name.now ∷ ws) third))
    ∙ too_many c.args.names.now c.in-Some.word.now c.in-Some-split_once.name.now c.in-Some-split_once-2.field-0.0.now c.in-Some-split_once-2.field-0.1.now)
