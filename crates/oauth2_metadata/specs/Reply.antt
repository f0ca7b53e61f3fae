-- What a reply to a request for metadata says (RFC 8414, 3.2).
use Rattle.std.specs.Prelude.{ℕ, ◌==◌, ◌||◌, List, [], ◌++◌, codes, decimal, Bool, Result, Ok, Err, if◌then◌else◌}
use Rattle.serde_json.specs.Data.{Data}
use Rattle.oauth2_json.specs.Reading.{Reading}
use Rattle.oauth2_wire.specs.declared.content_type.ReplyRule.{ReplyRule}
use Rattle.oauth2_wire.specs.Reply.{Answer, ReplyView, accepted, refused, unread, other, success_answer, failure_answer}
use Rattle.oauth2_metadata.specs.declared.reply.OtherReply.{OtherReply}

-- the document of a reply, or the status and the body of a reply without one
abbrev pub Found : Type 0 → Type 0
Found A = Result A (ℕ × List ℕ)

-- the meaning of the document, or the status and the body, without their place in memory
abbrev pub found_seen : {D A : Type 0} → (D → A) → Result D OtherReply → Found A
found_seen meaning (Ok document) = Ok (meaning document)
found_seen meaning (Err reply) = Err (reply.status, reply.body.items)

-- whether the status redirects the client to another URL (RFC 9110, 15.4)
abbrev pub is_redirect : ℕ → Bool
is_redirect status =
    status == 301 || status == 302 || status == 303 || status == 307 || status == 308

-- the text of the error for a reply with this status and without a document
abbrev pub other_reply_text : ℕ → List ℕ
other_reply_text status =
    if is_redirect status then codes "server redirects the request for metadata, with status " ++ decimal status
    else codes "server answers the request for metadata with status " ++ decimal status

module _ {A E : Type 0} where
  -- the answer of a reply with status 200, which is read as every other request reads a success
  abbrev pub of_success : Answer A E → Answer (Found A) E
  of_success (accepted document) = accepted (Ok document)
  of_success (refused error) = refused error
  of_success (unread fault body) = unread fault body
  of_success (other text) = other text

  -- the answer of a reply with another status: an error response, or else the status and the body
  abbrev pub of_failure : ℕ → Answer A E → Answer (Found A) E
  of_failure status (accepted document) = accepted (Ok document)
  of_failure status (refused error) = refused error
  of_failure status (unread fault body) = accepted (Err (status, body))
  of_failure status (other text) = accepted (Err (status, []))

  -- the answer of a reply: only status 200 is a success, and no redirect is followed
  abbrev pub found_answer : ReplyRule → (Data → Reading A) → (Data → Reading E) → ReplyView
      → Answer (Found A) E
  found_answer rule reading error_reading reply =
      if is_redirect reply.status then accepted (Err (reply.status, reply.body))
      else (if reply.status == 200 then of_success (success_answer rule reading reply.content_type reply.body)
      else of_failure reply.status (failure_answer error_reading reply.body))
