-- Laws on scripts whose parts were read.
use Rattle.std.specs.Prelude.{◌≡◌, List, Ok}
use Rattle.serde_json.specs.Data.{Data}
use Rattle.whips_view.specs.ViewDefs.{view_of}
use Rattle.whips_reading.specs.Json.{Text}
use Rattle.whips_reading.specs.Places.{Place}
use Rattle.whips_view_reading.specs.Views.{Basis, ViewForm, view_in}
use Rattle.whips_script_reading.specs.Views.{schemas_of, view_over}
use Rattle.whips_script_reading.specs.Script.{Parts, setup_with, parts_in, script_with, script_of_parts}

-- A view that was read is never refused when it is made.
abbrev pub ViewsAreAccepted : Type 0
ViewsAreAccepted = (basis : Basis) (taken : List Text) (place : Place) (d : Data) (form : ViewForm)
    → view_in basis taken place d ≡ Ok form → view_over basis.relations form.parts place ≡ Ok (view_of (schemas_of basis.relations) form.parts)

-- A script whose parts were read is never refused when its setup and its workload are made.
abbrev pub ScriptsAreAccepted : Type 0
ScriptsAreAccepted = (texts : List Text) (place : Place) (d : Data) (parts : Parts)
    → parts_in texts place d ≡ Ok parts → script_of_parts texts place parts ≡ Ok (script_with texts parts (record (setup_with parts.sources parts.views) { versions = parts.versions }))
