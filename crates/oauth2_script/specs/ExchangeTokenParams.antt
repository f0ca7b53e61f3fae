-- The parameters of the command `exchange_token`.
use Rattle.std.specs.Prelude.{ℕ, List, Option, Some, None, Ok, codes}
use Rattle.serde_json.specs.Data.{Data}
use Rattle.oauth2_script_values.specs.Reading.{Reading, ◌>>=◌, bad_member}
use Rattle.oauth2_script_values.specs.Part.{list_part, needed_part, present_part, text}
use Rattle.oauth2_script.specs.Uri.{uri}
use Rattle.oauth2_script_values.specs.declared.script_cause.ScriptCause.TheVariants.{Missing}
use Rattle.oauth2_script.specs.Sent.{asserted_extra}

-- a token and the identifier of its type, a URI (RFC 8693, 3)
pub record TypedToken : Type 0 where
  pub token : List ℕ
  pub token_type : List ℕ

-- the token that is exchanged, the acting party's, what is asked for, and the further parameters of
-- the request (RFC 8693, 2.1)
pub record ExchangeTokenParams : Type 0 where
  pub subject : TypedToken
  pub actor : Option TypedToken
  pub requested_token_type : Option (List ℕ)
  pub resources : List (List ℕ)
  pub audiences : List (List ℕ)
  pub scopes : List (List ℕ)
  pub extra_params : List (List ℕ × List ℕ)

-- the members `subject_token` and `subject_token_type`
unfoldable pub subject_of : Data → Reading TypedToken
subject_of d = do
  token ← needed_part text (codes "subject_token") d
  token_type ← needed_part uri (codes "subject_token_type") d
  Ok (record { token = token; token_type = token_type })

-- the type is required with the token, and must not be sent without it (RFC 8693, 2.1)
abbrev pub both_or_neither : Option (List ℕ) → Option (List ℕ) → Reading (Option TypedToken)
both_or_neither None None = Ok None
both_or_neither (Some token) (Some token_type) =
    Ok (Some (record { token = token; token_type = token_type }))
both_or_neither (Some token) None = bad_member (codes "actor_token_type") Missing
both_or_neither None (Some token_type) = bad_member (codes "actor_token") Missing

-- the members `actor_token` and `actor_token_type`
unfoldable pub actor_of : Data → Reading (Option TypedToken)
actor_of d = do
  token ← present_part text (codes "actor_token") d
  token_type ← present_part uri (codes "actor_token_type") d
  both_or_neither token token_type

-- reads `params`; the subject's token and its type have to be present
unfoldable pub exchange_token_params : Data → Reading ExchangeTokenParams
exchange_token_params d = do
  subject ← subject_of d
  actor ← actor_of d
  requested_token_type ← present_part uri (codes "requested_token_type") d
  resources ← list_part uri (codes "resource") d
  audiences ← list_part text (codes "audience") d
  scopes ← list_part text (codes "scopes") d
  extra_params ← asserted_extra d
  Ok (record {
    subject = subject;
    actor = actor;
    requested_token_type = requested_token_type;
    resources = resources;
    audiences = audiences;
    scopes = scopes;
    extra_params = extra_params;
  })
