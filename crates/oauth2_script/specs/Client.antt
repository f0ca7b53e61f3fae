-- The client of a script.
use Rattle.std.specs.Prelude.{ℕ, List, Option, Ok, unwrap_or, codes}
use Rattle.serde_json.specs.Data.{Data}
use Rattle.url.specs.Parts.{Parts}
use Rattle.oauth2_urls.specs.Addressed.{Addressed}
use Rattle.oauth2_wire.specs.declared.request.AuthType.{AuthType}
use Rattle.oauth2_wire.specs.declared.request.AuthType.TheVariants.{BasicAuth}
use Rattle.oauth2_wire.specs.declared.content_type.ReplyRule.{ReplyRule}
use Rattle.oauth2_wire.specs.declared.content_type.ReplyRule.TheVariants.{Prefix}
use Rattle.oauth2_script.specs.Adapter.{adapter}
use Rattle.oauth2_script.specs.declared.adapter.Adapter.{Adapter}
use Rattle.oauth2_script_values.specs.Reading.{Reading, ◌>>=◌}
use Rattle.oauth2_script_values.specs.Part.{list_part, needed_part, present_part, address, an_object, text, url_part}
use Rattle.oauth2_script_values.specs.Words.{auth_type_part, reply_rule_part}

-- the endpoints of the client that the script sets: members `auth_url`, `token_url` and so on;
-- `push_url` is the pushed authorization request endpoint (RFC 9126, 2)
pub record ClientEndpoints : Type 0 where
  pub auth : Option Addressed
  pub token : Option Addressed
  pub device : Option Addressed
  pub introspection : Option Addressed
  pub revocation : Option Addressed
  pub push : Option Parts

-- the member `client` of a script; its identifier and its secret are bytes
pub record Client : Type 0 where
  pub id : List ℕ
  pub secret : Option (List ℕ)
  pub auth_type : AuthType
  pub reply_rule : ReplyRule
  pub redirect : Option Addressed
  pub endpoints : ClientEndpoints
  pub adapters : List Adapter

-- reads the endpoints from the object `client`: each may be absent, or has to be a URL
unfoldable pub endpoints : Data → Reading ClientEndpoints
endpoints d = do
  auth ← present_part address (codes "auth_url") d
  token ← present_part address (codes "token_url") d
  device ← present_part address (codes "device_url") d
  introspection ← present_part address (codes "introspection_url") d
  revocation ← present_part address (codes "revocation_url") d
  push ← present_part url_part (codes "push_url") d
  Ok (record { auth = auth; token = token; device = device; introspection = introspection; revocation = revocation; push = push })

-- reads the object `client`; `auth` is `basic`, `reply_rule` is `prefix` and `adapters` are none if
-- absent
unfoldable pub client : Data → Reading Client
client d = do
  d ← an_object d
  id ← needed_part text (codes "id") d
  secret ← present_part text (codes "secret") d
  auth_type ← present_part auth_type_part (codes "auth") d
  reply_rule ← present_part reply_rule_part (codes "reply_rule") d
  redirect ← present_part address (codes "redirect") d
  endpoints ← endpoints d
  adapters ← list_part adapter (codes "adapters") d
  Ok (record {
    id = id;
    secret = secret;
    auth_type = unwrap_or auth_type BasicAuth;
    reply_rule = unwrap_or reply_rule Prefix;
    redirect = redirect;
    endpoints = endpoints;
    adapters = adapters;
  })
