-- The adapters of a script's client.
use Rattle.std.specs.Prelude.{ℕ, List, Option, Some, None, if◌then◌else◌, codes}
use Rattle.std.specs.Str.{bytes_eq}
use Rattle.serde_json.specs.Data.{Data}
use Rattle.oauth2_script.specs.declared.adapter.Adapter.{Adapter}
use Rattle.oauth2_script.specs.declared.adapter.Adapter.TheVariants.{CommasInScopes, ErrorsAtStatus200, FormBodies, NumbersAsTexts, OtherMediaTypes}
use Rattle.oauth2_script_values.specs.Reading.{Reading}
use Rattle.oauth2_script_values.specs.Part.{word}

-- the adapter of this name; `None` for other texts
unfoldable pub adapter_of : List ℕ → Option Adapter
adapter_of text =
    if bytes_eq text (codes "commas_in_scopes") then Some CommasInScopes
    else (if bytes_eq text (codes "errors_at_status_200") then Some ErrorsAtStatus200
    else (if bytes_eq text (codes "form_bodies") then Some FormBodies
    else (if bytes_eq text (codes "numbers_as_texts") then Some NumbersAsTexts
    else (if bytes_eq text (codes "other_media_types") then Some OtherMediaTypes else None))))

-- an entry of the member `adapters`: the name of an adapter
abbrev pub adapter : Data → Reading Adapter
adapter d = word adapter_of d
