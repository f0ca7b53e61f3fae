-- The parameters of the command `id_token`.
use Rattle.std.specs.Prelude.{ℕ, List, Option, Ok, unwrap_or, codes}
use Rattle.serde_json.specs.Data.{Data, null, boolean, number, string, array, object}
use Rattle.oauth2_script_values.specs.Reading.{Reading, ◌>>=◌, map_read, bad}
use Rattle.oauth2_script_values.specs.Part.{list_part, needed_part, present_part, any_value, duration, each_item, text}
use Rattle.oauth2_script_values.specs.declared.script_cause.ScriptCause.TheVariants.{WrongType}

-- the issuers that are expected: one; any of a list; or a text that goes before the name of the
-- tenant (claim `tid`) and a text that goes after it
pub data IssuerPart : Type 0 where
  is : List ℕ → IssuerPart
  one_of : List (List ℕ) → IssuerPart
  per_tenant : List ℕ → List ℕ → IssuerPart

-- reads an object with the texts `before` and `after`
unfoldable pub tenants : Data → Reading IssuerPart
tenants d = do
  before ← needed_part text (codes "before") d
  after ← needed_part text (codes "after") d
  Ok (per_tenant before after)

-- the value of the member `issuer`: a text, a list of texts, or an object with two texts
abbrev pub issuer_part : Data → Reading IssuerPart
issuer_part null = bad WrongType
issuer_part (boolean b) = bad WrongType
issuer_part (number n) = bad WrongType
issuer_part (string s) = Ok (is s)
issuer_part (array ds) = map_read one_of (each_item text 0 ds)
issuer_part (object ms) = tenants (object ms)

-- the parameters of the check of an ID token (OpenID Connect Core 1.0, 3.1.3.7); lengths of time in
-- nanoseconds
pub record IdTokenParams : Type 0 where
  -- the text of the ID token
  pub id_token : List ℕ
  -- the access token that came with it
  pub access_token : List ℕ
  -- the issuers that are expected
  pub issuer : IssuerPart
  -- the algorithm that the client registered
  pub algorithm : Option (List ℕ)
  -- the nonce that was sent
  pub nonce : Option (List ℕ)
  -- how far the clocks may be apart
  pub leeway : ℕ
  -- the issuer's key set, as JSON (RFC 7517, 5)
  pub keys : Option Data
  -- the maximum age that was sent
  pub greatest_age : Option ℕ
  -- the audiences other than the client that the client trusts
  pub other_audiences : List (List ℕ)
  -- the parties other than the client to which the token may be issued
  pub authorized_parties : List (List ℕ)

-- reads `params`; `leeway` is 0 if absent
unfoldable pub id_token_params : Data → Reading IdTokenParams
id_token_params d = do
  id_token ← needed_part text (codes "id_token") d
  access_token ← needed_part text (codes "access_token") d
  issuer ← needed_part issuer_part (codes "issuer") d
  algorithm ← present_part text (codes "algorithm") d
  keys ← present_part any_value (codes "keys") d
  nonce ← present_part text (codes "nonce") d
  leeway ← present_part duration (codes "leeway") d
  max_age ← present_part duration (codes "max_age") d
  other_audiences ← list_part text (codes "other_audiences") d
  authorized_parties ← list_part text (codes "authorized_parties") d
  Ok (record {
    id_token = id_token;
    access_token = access_token;
    issuer = issuer;
    algorithm = algorithm;
    keys = keys;
    nonce = nonce;
    leeway = unwrap_or leeway 0;
    greatest_age = max_age;
    other_audiences = other_audiences;
    authorized_parties = authorized_parties;
  })
