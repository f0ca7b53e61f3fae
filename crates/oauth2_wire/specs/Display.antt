-- The texts of errors.
use Rattle.std.specs.Prelude.{ℕ, List, ◌++◌, Option, Some, string_bytes, codes, option_map}
use Rattle.oauth2_wire.specs.declared.error.ConfigurationError.{ConfigurationError}
use Rattle.oauth2_wire.specs.declared.error.ConfigurationError.TheVariants.{MissingUrl, InsecureUrl}
use Rattle.oauth2_wire.specs.declared.error.RequestTokenError.{RequestTokenError}
use Rattle.oauth2_wire.specs.declared.error.RequestTokenError.TheVariants.{ServerResponse, Request, Parse, Other, Memory}
use Rattle.oauth2_wire.specs.declared.request.RequestFault.{RequestFault}
use Rattle.oauth2_wire.specs.declared.request.RequestFault.TheVariants as fault
use Rattle.oauth2_wire.specs.declared.view.ViewError.{ViewError}
use Rattle.oauth2_wire.specs.declared.view.ViewError.TheVariants as view
use Rattle.oauth2_wire.specs.declared.error.HttpClientError.{HttpClientError}
use Rattle.oauth2_wire.specs.declared.error.HttpClientError.TheVariants as client

-- the text of a configuration error
abbrev pub configuration_text : ConfigurationError → Option (List ℕ)
configuration_text (MissingUrl name) =
    Some (codes "No " ++ name.now ++ codes " endpoint URL specified")
configuration_text (InsecureUrl name) =
    Some (codes "Scheme for " ++ name.now ++ codes " endpoint URL must be HTTPS")

-- the text of the error of a request that could not be built
abbrev pub request_fault_text : RequestFault → Option (List ℕ)
request_fault_text fault.NotHttp = Some (codes "endpoint URL is not an HTTP target")
request_fault_text fault.Memory = Some (codes "Out of memory")

-- the text of the error of a request that `server_view` cannot read
abbrev pub view_error_text : ViewError → Option (List ℕ)
view_error_text view.BadBasic = Some (codes "Authorization header holds no identifier and secret")
view_error_text view.Memory = Some (codes "Out of memory")

module _ {RE T : Type 0} where
  -- the text of the error of a request; `text` is the text of an error that the server sent
  abbrev pub fault_text : (T → Option (List ℕ)) → RequestTokenError RE T → Option (List ℕ)
  fault_text text (ServerResponse error) =
      option_map (λ bytes. codes "Server returned error response: " ++ bytes) (text error)
  fault_text text (Request _) = Some (codes "Request failed")
  fault_text text (Parse _ _) = Some (codes "Failed to parse server response")
  fault_text text (Other given) = Some (codes "Other error: " ++ string_bytes given)
  fault_text text (Memory _) = Some (codes "Out of memory")

module _ {RE : Type 0} where
  -- the text of the error of an HTTP client
  abbrev pub client_text : HttpClientError RE → Option (List ℕ)
  client_text (client.Reqwest _) = Some (codes "client error")
  client_text (client.Http _) = Some (codes "HTTP error")
  client_text (client.Io _) = Some (codes "I/O error")
  client_text (client.Other given) = Some (string_bytes given)
