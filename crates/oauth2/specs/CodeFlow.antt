-- A login by an authorization code with PKCE: the URL to which the user is sent, and the token
-- request after the user comes back (RFC 6749, section 4.1; RFC 7636).
use Rattle.std.specs.Prelude.{◌≡◌, ℕ, List, codes, Option, Some}
use Rattle.http_uri.specs.Uri.{SpellsNone}
use Rattle.url.specs.declared.error.ParseError.{ParseError}
use Rattle.url.specs.declared.error.ParseError.TheVariants.{OutOfMemory, Overflow}
use Rattle.url.specs.Parts.{serialize}
use Rattle.oauth2_types.specs.Pkce.{Accepts, sha256_challenge}
use Rattle.oauth2_urls.specs.Addressed.{Addressed}
use Rattle.oauth2_wire.specs.ByName.{read_by_name}
use Rattle.oauth2_form.specs.Pairs.{Pair}
use Rattle.oauth2_wire.specs.declared.request.RequestFault.{RequestFault}
use Rattle.oauth2_wire.specs.declared.request.RequestFault.TheVariants as fault
use Rattle.oauth2_requests.specs.Authorization.{Authorization, IsTooLong, asked_url}
use Rattle.oauth2_requests.specs.Code.{CodeRequest}
use Rattle.oauth2.specs.declared.flow.CodeFlowError.{CodeFlowError}
use Rattle.oauth2.specs.declared.flow.CodeFlowError.TheVariants.{Url, NotHttp, Memory}
use Rattle.oauth2.specs.NewRequest.{new_authorization, new_code_request}
use Rattle.oauth2.specs.Settings.{Settings}

-- the authorization request of the login: with the challenge of the verifier, and nothing else set
-- (RFC 7636, 4.3)
abbrev pub flow_authorization : Settings → Addressed → List ℕ → List ℕ → Authorization
flow_authorization client url state verifier =
    record (new_authorization client url state) { pkce_challenge = Some (sha256_challenge verifier) }

-- the token request of the login: with the code and the verifier, and nothing else set (RFC 7636,
-- 4.5)
abbrev pub flow_exchange : Settings → Addressed → List ℕ → List ℕ → CodeRequest
flow_exchange client url verifier code =
    record (new_code_request client url code) { pkce_verifier = Some verifier }

-- a server that looks up the challenge and its method in the query, and the verifier in the body,
-- finds each exactly once, and the verifier passes the check of the method `S256` (RFC 7636, 4.6)
abbrev pub PassesCheck : List ℕ → List Pair → List Pair → Type 0
PassesCheck verifier query body =
    (challenge : List ℕ)
    × (read_by_name (codes "code_challenge") query ≡ Some challenge)
    × (read_by_name (codes "code_challenge_method") query ≡ Some (codes "S256"))
    × (read_by_name (codes "code_verifier") body ≡ Some verifier)
    × Accepts (record { text = challenge; method = codes "S256" }) verifier

-- the cause of an error in a login with this state and this verifier: the authorization URL is too
-- long, or the URL of the token endpoint is not an HTTP target; no contract says when memory runs
-- out
abbrev pub IsCauseOf : Settings → List ℕ → List ℕ → CodeFlowError → Type 0
IsCauseOf client state verifier (Url error) =
    (error ≡ Overflow) × ((endpoint : Addressed) × (client.auth_url ≡ Some endpoint)
    × IsTooLong (asked_url (flow_authorization client endpoint state verifier)))
IsCauseOf client state verifier NotHttp =
    (endpoint : Addressed) × (client.token_url ≡ Some endpoint) × SpellsNone (serialize endpoint.url)
IsCauseOf client state verifier Memory = Unit

-- the error of a URL that could not be built, as an error of the login
abbrev pub flow_error_of_url : ParseError → CodeFlowError
flow_error_of_url OutOfMemory = Memory
flow_error_of_url error = Url error

-- the error of a request that could not be built, as an error of the login
abbrev pub flow_error_of : RequestFault → CodeFlowError
flow_error_of fault.NotHttp = NotHttp
flow_error_of fault.Memory = Memory

-- the text of an error of a login
abbrev pub flow_error_text : CodeFlowError → Option (List ℕ)
flow_error_text (Url _) = Some (codes "authorization URL is too long")
flow_error_text NotHttp = Some (codes "endpoint URL is not an HTTP target")
flow_error_text Memory = Some (codes "Out of memory")
