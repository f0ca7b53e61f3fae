-- The debug text of a client: on one line for `{:?}`, on several lines for `{:#?}`. The `Bool` of
-- each definition is true for several lines.
use Rattle.std.specs.Prelude.{ℕ, List, Bool, true, false, codes, Option, None, Some}
use Rattle.std.specs.Fmt.{◌++?◌, debug_str, debug_variant}
use Rattle.oauth2_urls.specs.Addressed.{Addressed}
use Rattle.oauth2_wire.specs.declared.content_type.ReplyRule.{ReplyRule}
use Rattle.oauth2_wire.specs.declared.content_type.ReplyRule.TheVariants.{Prefix, MediaType}
use Rattle.oauth2_wire.specs.declared.request.AuthType.{AuthType}
use Rattle.oauth2_wire.specs.declared.request.AuthType.TheVariants.{BasicAuth, RequestBody}
use Rattle.oauth2.specs.Settings.{Settings}

-- a name, and a text in parentheses; on several lines, the text has its own line, four spaces
-- further in than the given indent of the name
abbrev pub named_text : Bool → List ℕ → List ℕ → Option (List ℕ) → Option (List ℕ)
named_text false indent name text = debug_variant name text
named_text true indent name text =
    Some name ++? Some (codes "(\n    ") ++? Some indent ++? text
    ++? Some (codes ",\n") ++? Some indent ++? Some (codes ")")

-- a field other than the first: its name and its text
abbrev pub field_text : Bool → List ℕ → Option (List ℕ) → Option (List ℕ)
field_text false name text = Some (codes ", ") ++? Some name ++? Some (codes ": ") ++? text
field_text true name text = Some (codes ",\n    ") ++? Some name ++? Some (codes ": ") ++? text

-- an optional value
abbrev pub option_text : {X : Type 0} → Bool → (X → Option (List ℕ)) → Option X → Option (List ℕ)
option_text in_lines text None = Some (codes "None")
option_text in_lines text (Some x) = named_text in_lines (codes "    ") (codes "Some") (text x)

-- a secret, which is not shown
abbrev pub secret_text : Bool → Option (List ℕ) → Option (List ℕ)
secret_text in_lines = option_text in_lines (λ _. Some (codes "ClientSecret([redacted])"))

-- a URL: the text that it was parsed from, in quotes, after the name of its type
abbrev pub url_debug_text : Bool → List ℕ → Option Addressed → Option (List ℕ)
url_debug_text in_lines name =
    option_text in_lines (λ url. named_text in_lines (codes "        ") name (debug_str url.text))

-- the name of the `AuthType`
abbrev pub auth_type_text : AuthType → List ℕ
auth_type_text BasicAuth = codes "BasicAuth"
auth_type_text RequestBody = codes "RequestBody"

-- the name of the `ReplyRule`
abbrev pub reply_rule_text : ReplyRule → List ℕ
reply_rule_text Prefix = codes "Prefix"
reply_rule_text MediaType = codes "MediaType"

-- the text before the identifier
abbrev pub opening : Bool → List ℕ
opening false = codes "Client { client_id: "
opening true = codes "Client {\n    client_id: "

-- the text after the last field
abbrev pub closing : Bool → List ℕ
closing false = codes " }"
closing true = codes ",\n}"

-- the debug text: the settings in the order and with the names of the Rust crate oauth2, then the
-- rule for replies; `None`, so no claim, if the identifier or a URL is not ASCII
unfoldable pub client_debug_text : Bool → Settings → Option (List ℕ)
client_debug_text in_lines client =
    Some (opening in_lines)
    ++? named_text in_lines (codes "    ") (codes "ClientId") (debug_str client.client_id)
    ++? field_text in_lines (codes "client_secret") (secret_text in_lines client.client_secret)
    ++? field_text in_lines (codes "auth_url")
    (url_debug_text in_lines (codes "AuthUrl") client.auth_url)
    ++? field_text in_lines (codes "auth_type") (Some (auth_type_text client.auth_type))
    ++? field_text in_lines (codes "token_url")
    (url_debug_text in_lines (codes "TokenUrl") client.token_url)
    ++? field_text in_lines (codes "redirect_url")
    (url_debug_text in_lines (codes "RedirectUrl") client.redirect_url)
    ++? field_text in_lines (codes "introspection_url")
    (url_debug_text in_lines (codes "IntrospectionUrl") client.introspection_url)
    ++? field_text in_lines (codes "revocation_url")
    (url_debug_text in_lines (codes "RevocationUrl") client.revocation_url)
    ++? field_text in_lines (codes "device_authorization_url")
    (url_debug_text in_lines (codes "DeviceAuthorizationUrl") client.device_authorization_url)
    ++? field_text in_lines (codes "reply_rule") (Some (reply_rule_text client.reply_rule))
    ++? Some (closing in_lines)
