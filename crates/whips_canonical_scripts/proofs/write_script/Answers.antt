use Rattle.std.proofs.Common.{◌≡◌, Ok, true, sym, ap, subst, ◌∙◌, string_bytes}
use Rattle.std.specs.Str.{is_utf8}
use Rattle.std.proofs.lemmas.Str.{is_utf8-from_IsUtf8, IsUtf8-had}
use Rattle.whips_script_reading.specs.Script.{script_of}
use Rattle.whips_script_writing.specs.Scripts.{canonical}
use Rattle.whips_canonical_scripts.proofs.Whole.{script_again}
use Rattle.whips_canonical_scripts.proofs.write_script.Goals as goal

pub returns-clause-read : goal.returns-clause-read
returns-clause-read c = λ input is.
    let s = c.args.script.now in
    let same : c.into_bytes.result.items ≡ canonical s = ap (λ v. v.items) c.into_bytes.ensures.value ∙ c.in_ok-text.ensures in
    let utf8 : is_utf8 (canonical s) ≡ true = subst (λ bytes. is_utf8 bytes ≡ true) c.in_ok-text.ensures (is_utf8-from_IsUtf8 (string_bytes c.in_ok-text.text) (IsUtf8-had (string_bytes c.in_ok-text.text) c.in_ok-text.text.ok)) in
    subst (λ bytes. script_of bytes ≡ Ok s) (sym same) (script_again input s is utf8)
