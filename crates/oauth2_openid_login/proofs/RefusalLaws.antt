-- Why a login sends nothing.
use Rattle.std.proofs.Common.{◌≡◌, ℕ, List, Bool, true, false, Option, Some, None, sym, ap, ◌∙◌, subst}
use Rattle.std.specs.Prelude.{not, if◌then◌else◌}
use Rattle.url.specs.Parts.{Parts}
use Rattle.oauth2_form.specs.Pairs.{Pair}
use Rattle.oauth2.specs.Settings.{Settings}
use Rattle.oauth2_redirect.specs.declared.login_refusal.LoginMismatch.{LoginMismatch}
use Rattle.oauth2_redirect.specs.declared.login_refusal.LoginRefusal.{LoginRefusal}
use Rattle.oauth2_redirect.specs.declared.login_refusal.LoginRefusal.TheVariants.{Mismatch, Redirect}
use Rattle.oauth2_redirect.specs.Bound.{ShowsRefusal, mismatch}
use Rattle.oauth2_redirect.specs.Redirect.{answer}
use Rattle.oauth2_openid_login.specs.declared.login_refusal.OpenIdLoginRefusal.{OpenIdLoginRefusal}
use Rattle.oauth2_openid_login.specs.declared.login_refusal.OpenIdLoginRefusal.TheVariants.{InsecureTokenEndpoint, OtherProvider, Login}
use Rattle.oauth2_openid_login.specs.Login.{OpenIdKept}
use Rattle.oauth2_openid_login.specs.Provider.{Provider, names_issuer}
use Rattle.oauth2_openid_login.specs.Refusal.{ShowsOpenIdRefusal, is_secure_endpoint, provider_refusal}

-- what is refused whatever the redirect is, is not refused for the redirect
never-login : (secure named : Bool) (refusal : LoginRefusal)
    → (if not secure then Some InsecureTokenEndpoint else (if not named then Some OtherProvider else None)) ≡ Some (Login refusal) → ⊥
never-login false named refusal is = cc
never-login true false refusal is = cc
never-login true true refusal is = cc

module _ (client : Settings) (login : OpenIdKept) (provider : Provider) where
  pub never_login : (error : OpenIdLoginRefusal) (refusal : LoginRefusal) → provider_refusal client login provider ≡ Some error → error ≡ Login refusal → ⊥
  never_login error refusal is same =
      never-login (is_secure_endpoint client.token_url) (names_issuer login.login.issuer provider.issuer) refusal (is ∙ ap Some same)

module _ (client : Settings) (login : OpenIdKept) (provider : Provider) (called : Parts) (pairs : List Pair) where
  -- what is refused whatever the redirect is, is shown
  pub provider_shown : (error : OpenIdLoginRefusal) → provider_refusal client login provider ≡ Some error → ShowsOpenIdRefusal client login provider called pairs error
  provider_shown InsecureTokenEndpoint is = is
  provider_shown OtherProvider is = is
  provider_shown (Login refusal) is = absurd (never-login (is_secure_endpoint client.token_url) (names_issuer login.login.issuer provider.issuer) refusal is)

  -- what is refused for the redirect is shown, where nothing is refused before
  pub login_shown : provider_refusal client login provider ≡ None → (refusal : LoginRefusal) (error : OpenIdLoginRefusal) → error ≡ Login refusal
      → ShowsRefusal refusal (mismatch client login.login called) (answer login.login.state login.login.issuer pairs)
      → ShowsOpenIdRefusal client login provider called pairs error
  login_shown none refusal error is shown = subst (ShowsOpenIdRefusal client login provider called pairs) (sym is) (none, shown)

  -- and nothing else is
  pub shown_provider : (error refusal : OpenIdLoginRefusal) → provider_refusal client login provider ≡ Some error
      → ShowsOpenIdRefusal client login provider called pairs refusal → refusal ≡ error
  shown_provider error InsecureTokenEndpoint is shown = cc
  shown_provider error OtherProvider is shown = cc
  shown_provider error (Login refusal) is shown = (let none = shown.0 in absurd (cc))

  -- a mismatch is shown, where nothing is refused before
  pub shown_place : (error : LoginMismatch) (refusal : OpenIdLoginRefusal) → provider_refusal client login provider ≡ None
      → mismatch client login.login called ≡ Some error
      → ShowsOpenIdRefusal client login provider called pairs refusal → refusal ≡ Login (Mismatch error)
  shown_place error InsecureTokenEndpoint none is shown = absurd (cc)
  shown_place error OtherProvider none is shown = absurd (cc)
  shown_place error (Login (Mismatch other)) none is shown = (let found = shown.1 in cc)
  shown_place error (Login (Redirect other)) none is shown = (let nothing = shown.1.0 in absurd (cc))
