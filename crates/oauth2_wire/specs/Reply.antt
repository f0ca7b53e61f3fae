-- What a reply says, as a function of its status, its first Content-Type value and its body.
use Rattle.std.specs.Prelude.{◌≡◌, ℕ, ◌==◌, List, Vec, Option, None, Some, option_map, Result, Ok, Err, IsTrue, string_bytes, codes, length, if◌then◌else◌}
use Rattle.std.specs.declared.alloc.Global.{Global}
use Rattle.http.specs.declared.response.Response.{Response}
use Rattle.http.specs.Response.{head_of, body_of}
use Rattle.http_header.specs.HeaderMap.{get}
use Rattle.serde_json.specs.Data.{Data}
use Rattle.oauth2_json.specs.Reading.{Fault, Reading, fault_of}
use Rattle.oauth2_json.specs.Body.{body_reading}
use Rattle.oauth2_wire.specs.ContentType.{is_json_type, unexpected_type_text}
use Rattle.oauth2_wire.specs.declared.content_type.ReplyRule.{ReplyRule}
use Rattle.oauth2_wire.specs.declared.error.RequestTokenError.{RequestTokenError}
use Rattle.oauth2_wire.specs.declared.error.RequestTokenError.TheVariants.{ServerResponse, Request, Parse, Other, Memory}

-- the reply that an HTTP client returns
abbrev pub HttpResponse : Type 0
HttpResponse = Response (Vec ℕ Global)

-- a reply as values: its status, its first Content-Type value and its body
pub record ReplyView : Type 0 where
  pub status : ℕ
  pub content_type : Option (List ℕ)
  pub body : List ℕ

-- the values of a reply
abbrev pub reply_of : HttpResponse → ReplyView
reply_of r = record {
  status = (head_of r).status;
  content_type = option_map (λ value. value.bytes) (get (head_of r).headers (codes "content-type"));
  body = (body_of r).items;
}

-- what a reply says: a success, an error of the server, a body that does not parse (its fault and
-- its bytes), or another fault, as a text
pub data Answer (A E : Type 0) : Type 0 where
  accepted : A → Answer A E
  refused : E → Answer A E
  unread : Fault → List ℕ → Answer A E
  other : List ℕ → Answer A E

module _ {A E : Type 0} where
  -- what a parsed body says, or the fault and the body if it does not parse
  abbrev pub read_answer : {V : Type 0} → (V → Answer A E) → List ℕ → Reading V → Answer A E
  read_answer says body (Ok value) = says value
  read_answer says body (Err fault) = unread fault body

  -- what the body of a success says
  abbrev pub body_answer : (Data → Reading A) → List ℕ → Answer A E
  body_answer reading body =
      if length body == 0 then other (codes "server returned empty response body")
      else read_answer accepted body (body_reading reading body)

  -- what a success says: its Content-Type must be JSON by this rule, if it has one
  abbrev pub success_answer : ReplyRule → (Data → Reading A) → Option (List ℕ) → List ℕ → Answer A E
  success_answer rule reading None body = body_answer reading body
  success_answer rule reading (Some value) body =
      if is_json_type rule value then body_answer reading body else other (unexpected_type_text value)

  -- what any other reply says: it is an error response (RFC 6749, 5.2), whatever its Content-Type
  -- is
  abbrev pub failure_answer : (Data → Reading E) → List ℕ → Answer A E
  failure_answer reading body =
      if length body == 0 then other (codes "server returned empty error response")
      else read_answer refused body (body_reading reading body)

  -- what a reply says: only status 200 is a success (RFC 6749, 5.1)
  abbrev pub answer_of : ReplyRule → (Data → Reading A) → (Data → Reading E) → ReplyView
      → Answer A E
  answer_of rule reading error_reading reply =
      if reply.status == 200 then success_answer rule reading reply.content_type reply.body
      else failure_answer error_reading reply.body

-- what a reply says where a success is its status alone, whatever its body (RFC 7009, 2.2)
abbrev pub status_answer_of : {E : Type 0} → (Data → Reading E) → ReplyView → Answer Unit E
status_answer_of error_reading reply =
    if reply.status == 200 then accepted tt else failure_answer error_reading reply.body

module _ {A T E RE : Type 0} where
  -- the error is this answer, with the server's error seen through `error_meaning`; or memory ran
  -- out after the client was called
  abbrev pub ShowsFault : (T → E) → Answer A E → RequestTokenError RE T → Type 0
  ShowsFault error_meaning answer (ServerResponse error) = answer ≡ refused (error_meaning error)
  ShowsFault error_meaning answer (Parse fault body) = answer ≡ unread (fault_of fault) body.items
  ShowsFault error_meaning answer (Other text) = answer ≡ other (string_bytes text)
  ShowsFault error_meaning answer (Memory sent) = IsTrue sent
  ShowsFault error_meaning answer (Request error) = ⊥

  -- the result is this answer, seen through the two meanings; or memory ran out after the client
  -- was called
  abbrev pub ShowsAnswer : {D : Type 0} → (D → A) → (T → E) → Answer A E
      → Result D (RequestTokenError RE T) → Type 0
  ShowsAnswer meaning error_meaning answer (Ok value) = answer ≡ accepted (meaning value)
  ShowsAnswer meaning error_meaning answer (Err fault) = ShowsFault error_meaning answer fault
