-- By which route a user logs in (RFC 9126, 5).
use Rattle.std.specs.Prelude.{◌≡◌, ◌⊎◌, Bool, true, Option, Some, None, Result, Ok, Err, option_map, if◌then◌else◌}
use Rattle.std.specs.Option.{option_or}
use Rattle.url.specs.Parts.{Parts}
use Rattle.oauth2.specs.Settings.{Settings}
use Rattle.oauth2_urls.specs.Addressed.{Addressed}
use Rattle.oauth2_metadata.specs.Client.{login_refusal, with_endpoints}
use Rattle.oauth2_metadata.specs.EndpointFault.{cause_of, url_of}
use Rattle.oauth2_metadata.specs.Metadata.{Metadata}
use Rattle.oauth2_metadata.specs.declared.endpoint_error.EndpointError.TheVariants.{Memory}
use Rattle.oauth2_metadata.specs.declared.endpoint_fault.Endpoint.TheVariants.{Token}
use Rattle.oauth2_metadata.specs.declared.endpoint_fault.EndpointCause.{EndpointCause}
use Rattle.oauth2_pushed_login.specs.PushMembers.{PushMembers, requires_push}
use Rattle.oauth2_pushed_login.specs.declared.routes.LoginRoute.{LoginRoute}
use Rattle.oauth2_pushed_login.specs.declared.routes.LoginRoute.TheVariants.{ByUrl, ByPush}
use Rattle.oauth2_pushed_login.specs.declared.routes.PushPreference.{PushPreference}
use Rattle.oauth2_pushed_login.specs.declared.routes.PushPreference.TheVariants.{WherePossible, WhereRequired}
use Rattle.oauth2_pushed_login.specs.declared.route_error.LoginRouteError.{LoginRouteError}
use Rattle.oauth2_pushed_login.specs.declared.route_error.LoginRouteError.TheVariants.{PushEndpoint, NoPushEndpoint, Login}

-- ---- what is refused

-- why a client may not push to this URL: it has to be one as of a token endpoint, `https`, or `http`
-- with a loopback host, and without a fragment (RFC 9126, 2)
abbrev pub push_cause : Parts → Option EndpointCause
push_cause url = cause_of Token url

-- why there is no push: a client may not call the endpoint, or it is missing where a push is required
abbrev pub endpoint_refusal : Bool → Option Addressed → Option LoginRouteError
endpoint_refusal required None = if required then Some NoPushEndpoint else None
endpoint_refusal required (Some endpoint) = option_map PushEndpoint (push_cause endpoint.url)

-- why there is no push, by the two members of the metadata
abbrev pub push_refusal : PushMembers → Option LoginRouteError
push_refusal m = endpoint_refusal (requires_push m) m.pushed_authorization_request_endpoint

-- why metadata give no route to a login: there is no push, or else there is no login
abbrev pub route_refusal : Metadata PushMembers → Option LoginRouteError
route_refusal m =
    option_or (push_refusal m.extra_fields) (option_map Login (login_refusal m.endpoints))

-- ---- the route

-- a login pushes if there is an endpoint, by this preference and by what the server requires
abbrev pub pushes : PushPreference → Bool → Bool
pushes WherePossible required = true
pushes WhereRequired required = required

-- the URL to push to; `None` if the user is sent to the authorization URL of the login itself
abbrev pub push_target : PushPreference → PushMembers → Option Parts
push_target preference m =
    if pushes preference (requires_push m) then url_of m.pushed_authorization_request_endpoint else None

module _ {TE TR TIR RT TRE : Type 0} where
  -- the route by this endpoint, or without one, for this client
  abbrev pub IsRoute : Option Parts → Settings → LoginRoute TE TR TIR RT TRE → Type 0
  IsRoute None client (ByUrl found) = found ≡ client
  IsRoute None client (ByPush found) = ⊥
  IsRoute (Some endpoint) client (ByUrl found) = ⊥
  IsRoute (Some endpoint) client (ByPush found) =
      (found.client ≡ client) × (found.endpoint ≡ endpoint)

  -- the result: the route for the client with the endpoints of the metadata, if nothing refuses it;
  -- else the refusal; or memory ran out
  abbrev pub IsRouteOf : PushPreference → Metadata PushMembers → Settings
      → Result (LoginRoute TE TR TIR RT TRE) LoginRouteError → Type 0
  IsRouteOf preference m client (Ok route) =
      (route_refusal m ≡ None)
      × IsRoute (push_target preference m.extra_fields) (with_endpoints m.endpoints client) route
  IsRouteOf preference m client (Err error) =
      (route_refusal m ≡ Some error) ⊎ ((route_refusal m ≡ None) × (error ≡ Login Memory))

  -- the route is by a push
  abbrev pub IsByPush : LoginRoute TE TR TIR RT TRE → Type 0
  IsByPush (ByUrl client) = ⊥
  IsByPush (ByPush client) = Unit {0}

  -- the client of a route
  abbrev pub client_of : LoginRoute TE TR TIR RT TRE → Settings
  client_of (ByUrl client) = client
  client_of (ByPush pushing) = pushing.client
