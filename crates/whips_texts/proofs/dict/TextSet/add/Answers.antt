use Rattle.std.proofs.Common.{map, ap, ◌∙◌, Bor}
use Rattle.whips_reading.specs.Json.{Text}
use Rattle.whips_texts.specs.Texts.{text_cmp}
use Rattle.whips_texts.proofs.Keys.{insert_seen}
use Rattle.whips_texts.proofs.dict.TextSet.add.Goals as goal

pub returns : goal.returns
returns c = rw (← c.self.view_is) (ap (map (λ (t : Bor Text). t.now)) c.in_ok-insert.ensures.keys ∙ insert_seen {K = Bor Text} (λ t. t.now) text_cmp c.self.inside.texts.keys c.args.text)
