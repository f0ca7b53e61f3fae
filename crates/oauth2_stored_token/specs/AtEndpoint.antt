-- The client and the token endpoint that a kept token belongs to.
use Rattle.std.specs.Prelude.{◌≡◌, ℕ, List, Some, Ok, codes}
use Rattle.url.specs.Parts.{serialize}
use Rattle.serde_json.specs.Data.{Data, string, object, no_members}
use Rattle.oauth2_json.specs.Reading.{Reading, read_then}
use Rattle.oauth2_json.specs.Writing.{Writing}
use Rattle.oauth2_json.specs.Members.{members_of_object, needed_member}
use Rattle.oauth2_json.specs.Puts.{put_all}
use Rattle.oauth2_json.specs.Values.{text}
use Rattle.oauth2_body_members.specs.Table.{Table, column, ◌▸◌, end, table_reading, rows_of}
use Rattle.oauth2_urls.specs.Addressed.{Addressed}
use Rattle.oauth2.specs.Settings.{Settings}

-- a client at its token endpoint: its identifier, and the URL that its requests for a token go to
pub record AtEndpoint : Type 0 where
  pub client_id : List ℕ
  pub token_url : List ℕ

-- it names this client and its token endpoint
abbrev pub NamesClient : Settings → AtEndpoint → Type 0
NamesClient client named =
    (named.client_id ≡ client.client_id)
    × ((endpoint : Addressed) × (client.token_url ≡ Some endpoint) × (named.token_url ≡ serialize endpoint.url))

-- the value with these parts
abbrev pub at_endpoint : List ℕ → List ℕ → AtEndpoint
at_endpoint client_id token_url = record { client_id = client_id; token_url = token_url }

-- its members as a JSON object: how each is read and written
abbrev pub at_endpoint_table : Table AtEndpoint
at_endpoint_table =
    column (codes "client_id") (needed_member text) (λ a. Some (string a.client_id))
    ▸ column (codes "token_url") (needed_member text) (λ a. Some (string a.token_url))
    ▸ end

-- it is read from a JSON value, which must be an object; other members are ignored
abbrev pub at_endpoint_reading : Data → Reading AtEndpoint
at_endpoint_reading d =
    read_then (members_of_object d) (λ ms. table_reading at_endpoint_table (Ok at_endpoint) ms)

-- the JSON object that it is written as
abbrev pub at_endpoint_writing : AtEndpoint → Writing
at_endpoint_writing a = Ok (object (put_all (rows_of at_endpoint_table a) no_members))
