-- The texts of the errors.
use Rattle.std.specs.Prelude.{ℕ, List, ◌++◌, codes, Option, Some}
use Rattle.url.specs.declared.error.ParseError.{ParseError}
use Rattle.url.specs.declared.error.ParseError.TheVariants.{Overflow}
use Rattle.oauth2_metadata.specs.Client.{endpoint_error_text}
use Rattle.oauth2_metadata.specs.EndpointFault.{cause_text}
use Rattle.oauth2_pushed_requests.specs.FaultText.{push_fault_text}
use Rattle.oauth2_wire.specs.Display.{fault_text}
use Rattle.oauth2_pushed_login.specs.declared.push_login_error.PushLoginError.{PushLoginError}
use Rattle.oauth2_pushed_login.specs.declared.push_login_error.PushLoginError.TheVariants.{Push, Request, Url}
use Rattle.oauth2_pushed_login.specs.declared.route_error.LoginRouteError.{LoginRouteError}
use Rattle.oauth2_pushed_login.specs.declared.route_error.LoginRouteError.TheVariants.{PushEndpoint, NoPushEndpoint, Login}

-- the text of the error of a route
abbrev pub route_error_text : LoginRouteError → List ℕ
route_error_text (PushEndpoint cause) =
    codes "pushed_authorization_request_endpoint: " ++ cause_text cause
route_error_text NoPushEndpoint =
    codes "metadata requires pushes, and has no pushed_authorization_request_endpoint"
route_error_text (Login error) = endpoint_error_text error

-- the text of the error of a URL
abbrev pub url_error_text : ParseError → Option (List ℕ)
url_error_text Overflow = Some (codes "authorization URL is too long")
url_error_text error = Some (codes "Out of memory")

-- the text of the error of a push, where `text` is that of the server's error
abbrev pub push_login_error_text : {RE T : Type 0} → (T → Option (List ℕ)) → PushLoginError RE T
    → Option (List ℕ)
push_login_error_text text (Push fault) = Some (push_fault_text fault)
push_login_error_text text (Request error) = fault_text text error
push_login_error_text text (Url error) = url_error_text error
