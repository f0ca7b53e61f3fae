-- What a client knows of a provider, and what it therefore expects of a login.
use Rattle.std.specs.Prelude.{ℕ, ◌*◌, List, [], Bool, false, Option, Some, None, bytes_eq, option_map}
use Rattle.oauth2.specs.Settings.{Settings}
use Rattle.oauth2_redirect.specs.Redirect.{IssuerExpectation, required, compared, unknown}
use Rattle.oauth2_openid.specs.declared.issuer_rule.IssuerRule.{IssuerRule}
use Rattle.oauth2_openid.specs.Claims.{Expectation, NamedIssuers, is}
use Rattle.oauth2_openid.specs.Issuers.{named_issuers}
use Rattle.oauth2_openid_login.specs.declared.redirect_issuer.RedirectIssuer.{RedirectIssuer}
use Rattle.oauth2_openid_login.specs.declared.redirect_issuer.RedirectIssuer.TheVariants.{InEachRedirect, OwnRedirectUri}
use Rattle.oauth2_openid_login.specs.Login.{OpenIdKept}

-- what a client knows of a provider: the issuer of its redirects and how it is known there, the
-- issuers of its ID tokens, the audiences and authorized parties (`azp`) that it accepts besides
-- the client, the algorithm, and the leeway in nanoseconds
pub record Provider : Type 0 where
  pub issuer : List ℕ
  pub redirects : RedirectIssuer
  pub issuer_rule : NamedIssuers
  pub other_audiences : List (List ℕ)
  pub authorized_parties : List (List ℕ)
  pub algorithm : Option (List ℕ)
  pub leeway : ℕ

-- the provider with this issuer, for redirects and ID tokens, and this leeway in nanoseconds;
-- nothing else is set
abbrev pub new_provider : List ℕ → RedirectIssuer → ℕ → Provider
new_provider issuer redirects leeway =
    record {
      issuer = issuer;
      redirects = redirects;
      issuer_rule = is issuer;
      other_audiences = [];
      authorized_parties = [];
      algorithm = None;
      leeway = leeway;
    }

-- the issuers of a provider's ID tokens: those of the rule, if one is set, and else its own issuer
abbrev pub token_issuers : List ℕ → Option IssuerRule → NamedIssuers
token_issuers issuer None = is issuer
token_issuers issuer (Some rule) = named_issuers rule

-- the expected issuer of a redirect (RFC 9207, 2.4): required if each redirect names it, and else
-- compared if a redirect has `iss`
abbrev pub issuer_in_redirects : RedirectIssuer → List ℕ → IssuerExpectation
issuer_in_redirects InEachRedirect issuer = required issuer
issuer_in_redirects OwnRedirectUri issuer = compared issuer

-- the expected issuer of the redirects of a provider's logins
abbrev pub redirect_issuer : Provider → IssuerExpectation
redirect_issuer provider = issuer_in_redirects provider.redirects provider.issuer

-- whether a login that expects this of the issuer of its redirect was started at the provider with
-- this issuer
abbrev pub names_issuer : IssuerExpectation → List ℕ → Bool
names_issuer (required expected) issuer = bytes_eq issuer expected
names_issuer (compared expected) issuer = bytes_eq issuer expected
names_issuer unknown issuer = false

-- what is expected of an ID token for this client identifier, this nonce and this maximum age in
-- seconds; the expectation itself has the maximum age in nanoseconds
abbrev pub login_expectation : Provider → List ℕ → List ℕ → Option ℕ → Expectation
login_expectation provider client sent seconds =
    record {
      issuer = provider.issuer_rule;
      client = client;
      other_audiences = provider.other_audiences;
      authorized_parties = provider.authorized_parties;
      algorithm = provider.algorithm;
      nonce = Some sent;
      leeway = provider.leeway;
      greatest_age = option_map (λ n. n * 1_000_000_000) seconds;
    }

-- what is expected of the ID token of a login (OpenID Connect Core 1.0, 3.1.3.7): it is for this
-- client, and has the nonce and meets the maximum age of this login
abbrev pub expected_of : Provider → Settings → OpenIdKept → Expectation
expected_of provider client login =
    login_expectation provider client.client_id login.nonce login.max_age
