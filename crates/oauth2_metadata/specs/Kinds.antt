-- How lists and URLs are written as JSON.
use Rattle.std.specs.Prelude.{ℕ, List}
use Rattle.serde_json.specs.Data.{Data, string, array}
use Rattle.oauth2_json.specs.Values.{text_items}
use Rattle.oauth2_urls.specs.Addressed.{Addressed}

-- a list of texts as a JSON array of strings
abbrev pub list_data : List (List ℕ) → Data
list_data list = array (text_items list)

-- a URL as a JSON string: its text
abbrev pub address_data : Addressed → Data
address_data u = string u.text
