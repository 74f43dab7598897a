use Rattle.serde_json.specs.View.{view}
use Rattle.whips_script_reading.specs.Script.{script_of}
use Rattle.whips_script_reading.proofs.Over.{handed_on}
use Rattle.whips_script_reading.proofs.Documents.{parts_stop, parts_go}
use Rattle.whips_script_reading.proofs.script.read_script.Goals as goal

pub returns-in_err-parts : goal.returns-in_err-parts
returns-in_err-parts c =
    handed_on (λ s. s) c.from_residual-in_err-parts.result c.in_err-parts.field-0.0 (script_of c.args.bytes.now) c.from_residual-in_err-parts.ensures.1
    (λ r is. parts_stop c.args.bytes.now (view c.in_ok-document.document) c.in_ok-document.ensures c.in_ok-texts.texts c.in_ok-texts.ensures _ c.document_path-path.ensures r (c.in_err-parts.ensures.read r is))

pub returns : goal.returns
returns c = parts_go c.args.bytes.now (view c.in_ok-document.document) c.in_ok-document.ensures c.in_ok-texts.texts c.in_ok-texts.ensures _ c.document_path-path.ensures c.in_ok-parts.parts c.in_ok-parts.ensures.read c.make_script.result c.make_script.ensures
