-- What each call of the scripted client returns.
use Rattle.std.specs.Prelude.{List, [], ◌∷◌, Option, Some, None}
use Rattle.oauth2_wire.specs.Reply.{ReplyView}
use Rattle.oauth2_script.specs.Replies.{HttpReply, Reply, replied, failed}

-- a reply of the script as a reply that the client receives
abbrev pub view_of_http_reply : HttpReply → ReplyView
view_of_http_reply r = record { status = r.status; content_type = r.content_type; body = r.body }

-- what the next call returns: the next reply; `None` if it fails or no reply is left
abbrev pub next_reply : List Reply → Option ReplyView
next_reply [] = None
next_reply (replied reply ∷ rest) = Some (view_of_http_reply reply)
next_reply (failed ∷ rest) = None

-- the replies that are left after one call
abbrev pub later_replies : List Reply → List Reply
later_replies [] = []
later_replies (reply ∷ rest) = rest
