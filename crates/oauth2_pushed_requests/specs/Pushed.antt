-- Pushed authorization requests (RFC 9126): what is sent, what a server reads, and what its reply says.
use Rattle.std.specs.Prelude.{◌≡◌, ℕ, ◌==◌, List, [], ◌∷◌, ◌++◌, filter, not, codes, Option, None, Some, if◌then◌else◌}
use Rattle.serde_json.specs.Data.{Data}
use Rattle.url.specs.Parts.{Parts}
use Rattle.oauth2_json.specs.Reading.{Reading}
use Rattle.oauth2_form.specs.Pairs.{Pair, form}
use Rattle.oauth2_wire.specs.declared.content_type.ReplyRule.{ReplyRule}
use Rattle.oauth2_wire.specs.declared.request.AuthType.{AuthType}
use Rattle.oauth2_wire.specs.declared.request.AuthType.TheVariants.{RequestBody, BasicAuth}
use Rattle.oauth2_wire.specs.ByName.{bears, read_by_name}
use Rattle.oauth2_wire.specs.Expected.{Configuration, basic_credentials}
use Rattle.oauth2_wire.specs.Reply.{ReplyView, Answer, success_answer, failure_answer}
use Rattle.oauth2_wire.specs.Request.{RequestView, basic_of}
use Rattle.oauth2_pushed_requests.specs.Response.{PushedAuthorization, pushed_reading}

-- who pushes, how it shows its secret, the rule for the replies, and where it pushes
pub record PushingClientView : Type 0 where
  pub auth_type : AuthType
  pub client_id : List ℕ
  pub client_secret : Option (List ℕ)
  pub reply_rule : ReplyRule
  pub endpoint : Parts

-- a pushed authorization request: the client, and the parameters of the authorization URL in order
pub record PushedRequest : Type 0 where
  pub client : PushingClientView
  pub pairs : List Pair

-- ---- what is sent

-- the parameters before the first one with this name; all if there is none
abbrev pub before_name : List ℕ → List Pair → List Pair
before_name name [] = []
before_name name (pair ∷ pairs) = if bears name pair then [] else pair ∷ before_name name pairs

-- the parameters after the first one with this name; none if there is none
abbrev pub after_name : List ℕ → List Pair → List Pair
after_name name [] = []
after_name name (pair ∷ pairs) = if bears name pair then pairs else after_name name pairs

-- the parameter `client_id`, if the client's credentials go by the header; else they have it already
abbrev pub identifier : Option Pair → List ℕ → List Pair
identifier None id = []
identifier (Some credentials) id = (codes "client_id", id) ∷ []

-- the parameters up to `client_id`; it is sent however the client authenticates (RFC 9126, 2.1)
abbrev pub front_pairs : PushingClientView → List Pair → List Pair
front_pairs client pairs =
    before_name (codes "client_id") pairs
    ++ identifier (basic_credentials client.auth_type client.client_id client.client_secret)
    client.client_id

-- what the request sends: the parameters in their order, and the client's credentials, which stand
-- where `client_id` is if they are in the body
abbrev pub pushed_configuration : PushedRequest → Configuration
pushed_configuration r = record {
  auth_type = r.client.auth_type;
  client_id = r.client.client_id;
  client_secret = r.client.client_secret;
  own_pairs = front_pairs r.client r.pairs;
  scope = None;
  redirect_uri = None;
  extra_params = after_name (codes "client_id") r.pairs;
}

-- ---- what a server reads

-- all parameters but the client's secret
abbrev pub without_secret : List Pair → List Pair
without_secret pairs = filter (λ pair. not (bears (codes "client_secret") pair)) pairs

-- the secret that is sent in the body (RFC 6749, 2.3.1)
abbrev pub body_secret : AuthType → Option (List ℕ) → Option (List ℕ)
body_secret RequestBody secret = secret
body_secret BasicAuth secret = None

-- a server that does nothing but decode reads exactly the parameters that the URL would have
-- carried, and the credentials of the client as in every other request
pub record IsPushOf (r : PushedRequest) (v : RequestView) : Type 0 where
  pub pairs : without_secret (form v.body) ≡ r.pairs
  pub secret : read_by_name (codes "client_secret") (form v.body) ≡ body_secret r.client.auth_type r.client.client_secret
  pub basic : basic_of v ≡ basic_credentials r.client.auth_type r.client.client_id r.client.client_secret

-- ---- what the reply says

-- only status 201 is a success (RFC 9126, 2.2); any other reply is an error response (2.3)
abbrev pub pushed_answer_of : {E : Type 0} → ReplyRule → (Data → Reading E) → ReplyView
    → Answer PushedAuthorization E
pushed_answer_of rule error_reading reply =
    if reply.status == 201 then success_answer rule pushed_reading reply.content_type reply.body
    else failure_answer error_reading reply.body

-- ---- the URL that the user is sent to

-- the two parameters of an authorization request that was pushed (RFC 9126, 4)
abbrev pub reference_pairs : List ℕ → List ℕ → List Pair
reference_pairs id request_uri = (codes "client_id", id) ∷ (codes "request_uri", request_uri) ∷ []
