-- The request for metadata (RFC 8414, 3.1), and what its reply says (3.2 and 3.3).
use Rattle.std.specs.Prelude.{◌≡◌, ◌⊎◌, ℕ, List, [], ◌++◌, codes, string_bytes, Option, None, Some, Result, Ok, Err}
use Rattle.serde_json.specs.Data.{Data}
use Rattle.http.specs.declared.version.TheConstants.Version.{HTTP_11}
use Rattle.http_uri.specs.Uri.{Spells}
use Rattle.url.specs.Parts.{Parts, serialize}
use Rattle.url.specs.Parser.{parse_url}
use Rattle.oauth2_wire.specs.declared.content_type.ReplyRule.TheVariants.{Prefix}
use Rattle.oauth2_metadata.specs.Issuer.{IsNoUrl, IsPlaced, issuer_refusal}
use Rattle.oauth2_metadata.specs.declared.issuer.IssuerError.{IssuerError}
use Rattle.oauth2_json.specs.Reading.{Reading}
use Rattle.oauth2_wire.specs.declared.content_type.ReplyRule.{ReplyRule}
use Rattle.oauth2_wire.specs.declared.error.RequestTokenError.{RequestTokenError}
use Rattle.oauth2_wire.specs.Display.{fault_text}
use Rattle.oauth2_wire.specs.Expected.{one_header}
use Rattle.oauth2_wire.specs.Once.{AsksOnce}
use Rattle.oauth2_wire.specs.Reply.{HttpResponse}
use Rattle.oauth2_wire.specs.Request.{HttpRequest, RequestView}
use Rattle.oauth2_metadata.specs.EndpointFault.{endpoint_fault, fault_text as endpoint_text}
use Rattle.oauth2_metadata.specs.Metadata.{Metadata}
use Rattle.oauth2_metadata.specs.Reply.{found_answer, found_seen, other_reply_text}
use Rattle.oauth2_metadata.specs.declared.endpoint_fault.EndpointFault.{EndpointFault}
use Rattle.oauth2_metadata.specs.declared.metadata_error.MetadataError.{MetadataError}
use Rattle.oauth2_metadata.specs.declared.metadata_error.MetadataError.TheVariants.{Endpoint, OtherIssuer, Reply, Status}
use Rattle.oauth2_metadata.specs.declared.reply.OtherReply.{OtherReply}

-- a request for metadata: the issuer that the metadata must name, the URL of the metadata, and the
-- rule for the Content-Type of the reply
pub record MetadataQuery : Type 0 where
  pub issuer : List ℕ
  pub url : Parts
  pub reply_rule : ReplyRule

-- a GET request for the URL with this text, with the header `Accept: application/json`
pub record IsGetOf (text : List ℕ) (v : RequestView) : Type 0 where
  pub method : v.method ≡ codes "GET"
  pub target : Spells text v.target
  pub version : v.version ≡ HTTP_11
  pub headers : v.headers ≡ one_header (codes "accept") (codes "application/json")
  pub body : v.body ≡ []

-- the text of the error for metadata that names another issuer
abbrev pub other_issuer_text : List ℕ → List ℕ
other_issuer_text issuer = codes "metadata is another issuer's: " ++ issuer

-- the text that `Display` writes of an error, where `text` is that of the server's error
abbrev pub metadata_error_text : {RE T : Type 0} → (T → Option (List ℕ)) → MetadataError RE T
    → Option (List ℕ)
metadata_error_text text (Reply error) = fault_text text error
metadata_error_text text (Status reply) = Some (other_reply_text reply.status)
metadata_error_text text (Endpoint fault) = Some (endpoint_text fault)
metadata_error_text text (OtherIssuer issuer) = Some (other_issuer_text (string_bytes issuer))

module _ {E T RE : Type 0} where
  -- a document is returned if its endpoints have no fault and it names this issuer, byte for byte
  -- (RFC 8414, 3.3); else the result says which of these is wrong first
  abbrev pub IsChecked : List ℕ → Metadata E → Option EndpointFault
      → Result (Metadata E) (MetadataError RE T) → Type 0
  IsChecked issuer m (Some fault) result = result ≡ Err (Endpoint fault)
  IsChecked issuer m None (Ok found) = (found ≡ m) × (m.issuer ≡ issuer)
  IsChecked issuer m None (Err (OtherIssuer named)) =
      (string_bytes named ≡ m.issuer) × ¬ (m.issuer ≡ issuer)
  IsChecked issuer m None (Err error) = ⊥

  -- the result for what was found: a document is checked, and everything else is an error
  abbrev pub IsJudged : List ℕ → Result (Result (Metadata E) OtherReply) (RequestTokenError RE T)
      → Result (Metadata E) (MetadataError RE T) → Type 0
  IsJudged issuer (Ok (Ok m)) result = IsChecked issuer m (endpoint_fault m.endpoints) result
  IsJudged issuer (Ok (Err reply)) result = result ≡ Err (Status reply)
  IsJudged issuer (Err error) result = result ≡ Err (Reply error)

module _ {E A T F RE C : Type 0} where
  -- the GET request is sent at most once; the result is what its reply says, checked for this
  -- issuer
  abbrev pub AsksForMetadata : (Metadata E → A) → (T → F) → (Data → Reading A) → (Data → Reading F)
      → (C → HttpRequest → Result HttpResponse RE → C → Type 0)
      → MetadataQuery
      → C
      → Result (Metadata E) (MetadataError RE T)
      → C
      → Type 0
  AsksForMetadata meaning error_meaning reading error_reading step query before result after =
      (outcome : Result (Result (Metadata E) OtherReply) (RequestTokenError RE T)) × IsJudged query.issuer outcome result
      × AsksOnce (found_seen meaning) error_meaning step
      (found_answer query.reply_rule reading error_reading)
      IsGetOf (serialize query.url) before outcome after

-- the request for the metadata at `place` of the issuer with this text, or why the text has none
abbrev pub IsAsked : (Parts → Parts) → List ℕ → Result MetadataQuery IssuerError → Type 0
IsAsked place text (Ok query) =
    (url : Parts) × (parse_url None text ≡ Ok url) × (issuer_refusal url ≡ None)
    × (query ≡ record { issuer = text; url = place url; reply_rule = Prefix })
IsAsked place text (Err error) =
    IsNoUrl text error ⊎ ((url : Parts) × (parse_url None text ≡ Ok url) × IsPlaced place url (Err error))
