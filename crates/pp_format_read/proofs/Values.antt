-- The result of serde_json, as `value_of`.
use Rattle.std.proofs.Common.{◌≡◌, ℕ, List, true, false, Some, None, Ok, Err, ok_or, cond, refl, ap}
use Rattle.std.specs.Str.{IsUtf8, is_utf8}
use Rattle.std.proofs.lemmas.Str.{is_utf8-from_IsUtf8, IsUtf8-from_is_utf8}
use Rattle.serde_json.specs.Data.{Data}
use Rattle.serde_json.specs.Read.{read}
use Rattle.pp_format_read.specs.declared.fault.RecordFault.TheVariants.{NotJson}
use Rattle.pp_format_read.specs.Members.{value_of}

-- A line of UTF-8 that is read as data has this value.
pub value_is : (line : List ℕ) (d : Data) → IsUtf8 line → read line ≡ Some d → value_of line ≡ Ok d
unfolding value_of
value_is line d utf8 is = rw (is_utf8-from_IsUtf8 line utf8) (ap (λ o. ok_or o NotJson) is)

-- A line that is not UTF-8, or is read as no data, is not JSON.
pub no_value : (line : List ℕ) → (IsUtf8 line → read line ≡ None) → value_of line ≡ Err NotJson
unfolding value_of
no_value line none =
    elim (is_utf8 line) as (λ b. is_utf8 line ≡ b → cond b (ok_or (read line) NotJson) (Err NotJson) ≡ Err NotJson) [
      | true ↦ λ e. ap (λ o. ok_or o NotJson) (none (IsUtf8-from_is_utf8 line e))
      | false ↦ λ e. refl
    ] refl
