-- The command `redirect`: what the URL says that the user was sent back to (RFC 6749, 4.1.2 and
-- 4.1.2.1; RFC 9207, 2.4), and what is not that of the login (RFC 9700, 2.1 and 4.4.2).
use Rattle.std.specs.Prelude.{◌≡◌, ℕ, List, Option, Some, None, Result, Ok, Err, codes}
use Rattle.url.specs.Parts.{Parts, serialize}
use Rattle.oauth2.specs.Settings.{Settings}
use Rattle.oauth2_codes.specs.AuthorizationCodes.{AuthorizationErrorCode, authorization_error_code_text}
use Rattle.oauth2_codes.specs.ErrorResponse.{ErrorParts}
use Rattle.oauth2_form.specs.Query.{query_form}
use Rattle.oauth2_redirect.specs.Bound.{Binding, mismatch_of}
use Rattle.oauth2_redirect.specs.declared.login_refusal.LoginMismatch.{LoginMismatch}
use Rattle.oauth2_redirect.specs.declared.login_refusal.LoginMismatch.TheVariants as mismatch
use Rattle.oauth2_redirect.specs.Redirect.{IssuerExpectation, required, compared, unknown, RedirectErrorView, other_state, other_issuer, refused, no_code, answer}
use Rattle.oauth2_world.specs.Events.{Details, Fault, none}
use Rattle.oauth2_world.specs.Events as details
use Rattle.oauth2_world.specs.Quotation.{quotation}
use Rattle.oauth2_world.specs.declared.event.FaultKind.TheVariants.{RefusedRedirect, OtherClient, OtherTokenEndpoint, OtherRedirectUri}
use Rattle.oauth2_request_commands.specs.Exchange.{error_members}
use Rattle.oauth2_request_commands.specs.Out.{Output, success_output, failure_output, fault_shown, members_text}
use Rattle.oauth2_script.specs.KeptLogin.{KeptLogin}
use Rattle.oauth2_script.specs.RedirectParams as script

-- the members of an error of the authorization server (RFC 6749, 4.1.2.1)
abbrev pub redirect_error_members : ErrorParts AuthorizationErrorCode → ErrorParts (List ℕ)
redirect_error_members error = error_members authorization_error_code_text error

-- why there is no code; an error of the server is shown with its description and its URI
abbrev pub refusal_text : RedirectErrorView → List ℕ
refusal_text other_state = codes "redirect has another state"
refusal_text other_issuer = codes "redirect has another issuer"
refusal_text (refused error) = members_text (redirect_error_members error)
refusal_text no_code = codes "redirect has no code"

-- what is known beside that text: the members of an error of the server
abbrev pub refusal_details : RedirectErrorView → Details
refusal_details (refused error) = details.refused (redirect_error_members error)
refusal_details why = none

-- the fault of a redirect that has no code
abbrev pub refusal : RedirectErrorView → Fault
refusal why =
    record { kind = RefusedRedirect; text = refusal_text why; details = refusal_details why }

-- the output for the result of a redirect: the code as a JSON string, or why there is none
abbrev pub shown_answer : Result (List ℕ) RedirectErrorView → Output
shown_answer (Ok code) = success_output (quotation code)
shown_answer (Err why) = fault_shown (refusal why)

-- the issuer that a script expects, as the library takes it (RFC 9207, 2.4)
abbrev pub rule_of : script.Issuer → IssuerExpectation
rule_of (script.required issuer) = required issuer
rule_of (script.compared issuer) = compared issuer
rule_of script.unknown = unknown

-- the code of the redirect, or why there is none, for the state and the issuer of the parameters
abbrev pub redirect_answer : script.RedirectParams → Result (List ℕ) RedirectErrorView
redirect_answer p = answer p.state (rule_of p.issuer) (query_form p.redirect.url)

-- what a kept login is bound to
abbrev pub binding_of : KeptLogin → Binding
binding_of login = record {
  client_id = login.client_id;
  token_url = serialize login.token_url.url;
  redirect_uri = login.redirect_uri.url;
}

-- what of the client and of the URL that the user was sent back to is not the kept login's; nothing
-- if no login was given
abbrev pub kept_mismatch : Settings → Option KeptLogin → Parts → Option LoginMismatch
kept_mismatch client None called = None
kept_mismatch client (Some login) called =
    mismatch_of client.client_id client.token_url (binding_of login) called

-- the output for a login of another client, another token endpoint or another redirect URI
abbrev pub mismatch_output : LoginMismatch → Output
mismatch_output mismatch.OtherClient =
    failure_output OtherClient (codes "login is of another client")
mismatch_output mismatch.OtherTokenEndpoint =
    failure_output OtherTokenEndpoint (codes "login is of another token endpoint")
mismatch_output mismatch.OtherRedirectUri =
    failure_output OtherRedirectUri (codes "redirect came to another URI")

-- the output for a redirect: what is not the login's, or else what the redirect says
abbrev pub shown_redirect : Option LoginMismatch → Result (List ℕ) RedirectErrorView → Output
shown_redirect None told = shown_answer told
shown_redirect (Some why) told = mismatch_output why

-- the output of `redirect`
abbrev pub IsRedirectOutput : Settings → script.RedirectParams → Output → Type 0
IsRedirectOutput client p o =
    o ≡ shown_redirect (kept_mismatch client p.login p.redirect.url) (redirect_answer p)
