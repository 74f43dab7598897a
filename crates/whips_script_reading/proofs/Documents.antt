-- A document whose texts were collected before its parts are read.
use Rattle.std.proofs.Common.{◌≡◌, ℕ, List, [], Result, Ok, Err, sym, ap, ap₂, subst, ◌∙◌}
use Rattle.serde_json.specs.Data.{Data}
use Rattle.whips_reading.specs.declared.place.ReadErr.{ReadErr}
use Rattle.whips_reading.specs.Json.{Text}
use Rattle.whips_reading.specs.Places.{Place, Refusal}
use Rattle.whips_reading.specs.Reading.{◌>>=◌, document, Answers}
use Rattle.whips_texts.specs.Dictionary.{texts_of}
use Rattle.whips_script_reading.specs.Script.{NamedScript, Parts, parts_in, script_of_parts, script_in, script_of}

module _ (bytes : List ℕ) (d : Data) (read : document bytes ≡ Ok d) (texts : List Text) (same : texts ≡ texts_of d) (place : Place) (at : place ≡ []) where
  -- where its parts are refused
  pub parts_stop : (r : Refusal) → parts_in texts place d ≡ Err r → script_of bytes ≡ Err r
  parts_stop r e = ap (λ o. o >>= script_in []) read ∙ ap (λ o. o >>= script_of_parts (texts_of d) []) (ap₂ (λ (ts : List Text) (p : Place). parts_in ts p d) (sym same) (sym at) ∙ e)

  -- where they are read
  pub parts_go : (parts : Parts) → parts_in texts place d ≡ Ok parts → (result : Result NamedScript ReadErr) → Answers (λ s. s) result (script_of_parts texts place parts) → Answers (λ s. s) result (script_of bytes)
  parts_go parts e result answers =
      subst (λ reading. Answers (λ s. s) result reading)
      (sym (ap (λ o. o >>= script_in []) read ∙ ap (λ o. o >>= script_of_parts (texts_of d) []) (ap₂ (λ (ts : List Text) (p : Place). parts_in ts p d) (sym same) (sym at) ∙ e) ∙ ap₂ (λ (ts : List Text) (p : Place). script_of_parts ts p parts) (sym same) (sym at))) answers
