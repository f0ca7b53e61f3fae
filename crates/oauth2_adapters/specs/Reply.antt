-- Replies as values.
use Rattle.std.specs.Prelude.{ℕ, List}
use Rattle.http.specs.declared.version.Version.{Version}
use Rattle.http.specs.Response.{head_of, body_of}
use Rattle.http_header.specs.FieldValue.{FieldValue}
use Rattle.http_header.specs.HeaderMap.{Entries}
use Rattle.oauth2_wire.specs.Reply.{HttpResponse}

-- a reply as values: all that a caller can see of it
pub record Reply : Type 0 where
  pub status : ℕ
  pub version : Version
  pub headers : Entries FieldValue
  pub body : List ℕ

-- the values of a reply
abbrev pub reply_values : HttpResponse → Reply
reply_values r = record {
  status = (head_of r).status;
  version = (head_of r).version;
  headers = (head_of r).headers;
  body = (body_of r).items;
}
