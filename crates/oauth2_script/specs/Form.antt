-- The form in which the result of a run is written.
use Rattle.std.specs.Prelude.{ℕ, List, Option, Some, None, Ok, Err, if◌then◌else◌, codes}
use Rattle.std.specs.Str.{bytes_eq}
use Rattle.serde_json.specs.Data.{Data}
use Rattle.oauth2_script_values.specs.Json.{json_in}
use Rattle.oauth2_script_values.specs.Reading.{Reading, ◌>>=◌}
use Rattle.oauth2_script_values.specs.Part.{needed_part, word}
use Rattle.oauth2_script.specs.declared.form.ResultForm.{ResultForm}
use Rattle.oauth2_script.specs.declared.form.ResultForm.TheVariants.{Lines, Json}

-- the form of this name: `lines` or `json`; `None` for other texts
unfoldable pub form_of : List ℕ → Option ResultForm
form_of text =
    if bytes_eq text (codes "lines") then Some Lines
    else (if bytes_eq text (codes "json") then Some Json else None)

-- the value of the member `result`: the text `lines` or `json`
abbrev pub form_part : Data → Reading ResultForm
form_part d = word form_of d

-- the form that an input names by its member `result`
abbrev pub named_form : List ℕ → Reading ResultForm
named_form input = json_in input >>= needed_part form_part (codes "result")

-- a form that was read; else lines
abbrev pub or_lines : Reading ResultForm → ResultForm
or_lines (Ok form) = form
or_lines (Err e) = Lines

-- the form in which the result of an input is written; lines if it names none
unfoldable pub form_in : List ℕ → ResultForm
form_in input = or_lines (named_form input)
