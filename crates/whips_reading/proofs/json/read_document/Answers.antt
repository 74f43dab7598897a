use Rattle.std.proofs.Common.{◌≡◌, Bool, true, false, List, [], ℕ, None, Err, refl, ap, ◌∙◌, sym}
use Rattle.std.proofs.lemmas.Bool.{false≢true}
use Rattle.std.proofs.lemmas.Str.{is_utf8-from_IsUtf8, IsUtf8-from_is_utf8}
use Rattle.std.specs.Prelude.{if◌then◌else◌}
use Rattle.std.specs.Str.{IsUtf8, is_utf8}
use Rattle.serde_json.specs.Read.{read}
use Rattle.whips_reading.specs.declared.place.Code.TheVariants.{Syntax}
use Rattle.whips_reading.specs.Reading.{there}
use Rattle.whips_reading.proofs.json.read_document.Goals as goal

-- bytes that are no text have no reading either
none_from : (bytes : List ℕ) (b : Bool) → is_utf8 bytes ≡ b → (IsUtf8 bytes → read bytes ≡ None) → (if b then read bytes else None) ≡ None
none_from bytes true e h = h (IsUtf8-from_is_utf8 bytes e)
none_from bytes false e h = refl

pub returns-in-Ok : goal.returns-in-Ok
returns-in-Ok c = rw (is_utf8-from_IsUtf8 _ c.in-Ok.ensures.ok.0) (ap (λ o. there o Syntax []) c.in-Ok.ensures.ok.1)

pub returns-else-is_memory : goal.returns-else-is_memory
returns-else-is_memory c = λ r is. ap (λ o. there o Syntax []) (none_from c.args.bytes.now _ refl (c.in-Err.ensures.err (λ memory. false≢true (sym c.if-is_memory.false ∙ c.is_memory.ensures.1 memory)))) ∙ ap Err (sym (c.refuse_document.ensures r is))
