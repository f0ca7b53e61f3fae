-- Why no reply is read from a stream.
use Rattle.std.specs.Prelude.{ℕ, ◌<◌, ◌≤◌, ⊤, Bool, false, List, [], ◌∷◌, length, Option, IfSome}
use Rattle.http1.specs.Body.{Body}
use Rattle.http1.specs.ReadError.{is_line_end}
use Rattle.http1.specs.Message.{Response}
use Rattle.oauth2_http1.specs.Reply.{Terms, ReadsReply}
use Rattle.oauth2_http1.specs.declared.fault.ReplyFault.{ReplyFault}
use Rattle.oauth2_http1.specs.declared.fault.ReplyFault.TheVariants as Fault

-- what a fault says about the body of a reply that the stream begins with nevertheless; `most` is
-- the bound on a body, in bytes
abbrev pub RefusesBody : ReplyFault → ℕ → Body → Type 0
RefusesBody (Fault.Response e) most body = ⊥
RefusesBody Fault.EmptyLine most body = ⊥
RefusesBody Fault.TransferCoding most body = ⊥
RefusesBody Fault.TooLong most body = most < length body.bytes
RefusesBody Fault.TooManyBytes most body = ⊤
RefusesBody Fault.TooManyReads most body = ⊤
RefusesBody Fault.Fields most body = ⊤
RefusesBody (Fault.Read e) most body = ⊤
RefusesBody Fault.Memory most body = ⊤

-- what a fault says about the known stream: `RefusesBody` holds of each reply that it begins with
abbrev pub Refuses : ReplyFault → Terms → ℕ → Option (List ℕ) → Type 0
Refuses e t most known =
    IfSome known (λ stream. (reply : Response) (rest : List ℕ) → ReadsReply t stream reply rest → RefusesBody e most reply.body)

-- the bytes begin with CR or LF
abbrev pub begins_with_line_end : List ℕ → Bool
begins_with_line_end [] = false
begins_with_line_end (b ∷ bs) = is_line_end b

-- the known stream has at least as many bytes as reads (or bytes) were allowed
abbrev pub Spent : ℕ → Option (List ℕ) → Type 0
Spent reads known = IfSome known (λ stream. reads ≤ length stream)

-- the length in bytes of the longest name in a header map
abbrev pub longest_name : ℕ
longest_name = 65535
