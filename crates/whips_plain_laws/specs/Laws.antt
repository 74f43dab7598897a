-- Laws: documents as they are written are plain.
use Rattle.std.specs.Prelude.{◌≡◌, ◌≤◌, List, Ok}
use Rattle.serde_json.specs.Data.{depth}
use Rattle.serde_json.specs.Read.{max_depth}
use Rattle.whips_reading.specs.Json.{Text}
use Rattle.whips_reading.specs.Places.{Place}
use Rattle.whips_script_reading.specs.Script.{NamedScript, Parts, parts_in}
use Rattle.whips_script_writing.specs.Scripts.{document_data}
use Rattle.whips_canonical_laws.specs.Plain.{IsPlain}

-- A document as it is written, where it is read as the parts of a script, is plain and not nested too deep.
abbrev pub DocumentsArePlain : Type 0
DocumentsArePlain = (s : NamedScript) (texts : List Text) (place : Place) (parts : Parts)
    → parts_in texts place (document_data s) ≡ Ok parts → IsPlain (document_data s) × (depth (document_data s) ≤ max_depth)
