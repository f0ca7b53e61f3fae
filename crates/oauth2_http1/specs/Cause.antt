-- What an error says about the bytes that were received: where the reader was, and what it found.
use Rattle.std.specs.Prelude.{◌≡◌, ℕ, ◌≤◌, Bool, not, ◌&&◌, ◌⊎◌, ⊤, List, [], ◌∷◌, ◌++◌, nat_le, ◌==◌, IsTrue}
use Rattle.httparse.specs.Grammar.{ResponseHead, HasNoResponse, MayBecomeResponse, status_code}
use Rattle.http1.specs.declared.decode.Decoder.{Decoder}
use Rattle.http1.specs.declared.decode.Decoder.TheVariants.{Length, Chunked, UntilClose}
use Rattle.http1.specs.declared.error.ReadError.{ReadError}
use Rattle.http1.specs.declared.error.ReadError.TheVariants.{UnexpectedEof}
use Rattle.http1.specs.declared.framing.Framing.{Framing}
use Rattle.http1.specs.Body.{Body}
use Rattle.http1.specs.ChunkedDecoder.{run, HasNotFailed}
use Rattle.http1.specs.Decoder.{Completes, decoder_for}
use Rattle.http1.specs.Message.{AcceptsResponse, Response}
use Rattle.http1.specs.ReadError.{BodyError, ResponseError}
use Rattle.oauth2_http1.specs.Reply.{Terms, IsUncoded, ReadsInterim}
use Rattle.oauth2_http1.specs.Unread.{begins_with_line_end}
use Rattle.oauth2_http1.specs.declared.fault.ReplyFault.{ReplyFault}
use Rattle.oauth2_http1.specs.declared.fault.ReplyFault.TheVariants as Fault

-- the stream begins with these responses of status 1xx, and `now` follows them (RFC 9110, 15.2)
abbrev pub ReadsInterims : Terms → List Response → List ℕ → List ℕ → Type 0
ReadsInterims t [] stream now = stream ≡ now
ReadsInterims t (m ∷ ms) stream now =
    (after : List ℕ) × ReadsInterim t stream m after × ReadsInterims t ms after now

-- `P` holds of the bytes after some responses of status 1xx, where the next head begins
abbrev pub AtHead : Terms → List ℕ → (List ℕ → Type 0) → Type 0
AtHead t stream P = (ms : List Response) × (now : List ℕ) × ReadsInterims t ms stream now × P now

-- the bytes begin with this final head, which is accepted, and `body` follows it (RFC 9112, 4)
pub record HasHead (t : Terms) (now : List ℕ) (h : ResponseHead) (framing : Framing) (body : List ℕ) : Type 0 where
  pub head : AcceptsResponse t.limits t.method now h framing body
  pub status : 200 ≤ status_code h

-- a status that a reply may have: 100 or more, but not 101, since the client asks for no other
-- protocol (RFC 9110, 15.2.2)
abbrev pub is_answer : ℕ → Bool
is_answer status = nat_le 100 status && not (status == 101)

-- the first of these bytes are refused as a head, with this error
abbrev pub RefusesHead : Terms → List ℕ → ReadError → Type 0
RefusesHead t now e =
    (front : List ℕ) × (more : List ℕ) × (now ≡ front ++ more) × ResponseError t.method is_answer t.limits.max_head_len front t.room e

-- these bytes, the last of the stream, are an incomplete head
abbrev pub IsHeadCut : List ℕ → Type 0
IsHeadCut now = HasNoResponse now × MayBecomeResponse now

-- the first of these bytes are refused as a body, with this error
abbrev pub RefusesBodyAt : ℕ → Decoder → List ℕ → ReadError → Type 0
RefusesBodyAt room d now e =
    (front : List ℕ) × (more : List ℕ) × (now ≡ front ++ more) × BodyError d front room e

-- the lines of the chunks are valid, as far as they were received
abbrev pub AreChunksInOrder : Decoder → List ℕ → Type 0
AreChunksInOrder (Length left) now = ⊤
AreChunksInOrder (Chunked chunks max_len) now = HasNotFailed (run chunks now).ends
AreChunksInOrder UntilClose now = ⊤

-- these bytes, the last of the stream, are an incomplete body (RFC 9112, 8)
pub record IsBodyCut (d : Decoder) (now : List ℕ) : Type 0 where
  pub unfinished : (body : Body) (rest : List ℕ) → Completes d now body rest → ⊥
  pub in_order : AreChunksInOrder d now

-- why no body is read from these bytes
abbrev pub BodyCause : ℕ → Decoder → ReadError → List ℕ → Type 0
BodyCause room d e now = RefusesBodyAt room d now e ⊎ ((e ≡ UnexpectedEof) × IsBodyCut d now)

-- why no head is read from these bytes
abbrev pub HeadCause : Terms → ReadError → List ℕ → Type 0
HeadCause t e now = RefusesHead t now e ⊎ ((e ≡ UnexpectedEof) × IsHeadCut now)

-- the bytes begin with a final head, and `P` holds of its framing, the head, and what follows it
abbrev pub BehindHead : Terms → (Framing → ResponseHead → List ℕ → Type 0) → List ℕ → Type 0
BehindHead t P now =
    (h : ResponseHead)
    × (framing : Framing)
    × (body : List ℕ)
    × HasHead t now h framing body
    × P framing h body

-- why no reply is read from the stream, for the faults that its bytes cause
abbrev pub HasCause : ReplyFault → Terms → List ℕ → Type 0
HasCause (Fault.Response e) t stream =
    AtHead t stream (HeadCause t e)
    ⊎ AtHead t stream
    (BehindHead t (λ framing h body. BodyCause t.room (decoder_for t.limits framing) e body))
HasCause Fault.EmptyLine t stream = AtHead t stream (λ now. IsTrue (begins_with_line_end now))
HasCause Fault.TransferCoding t stream =
    AtHead t stream (BehindHead t (λ framing h body. IsUncoded framing h → ⊥))
HasCause Fault.TooLong t stream = ⊤
HasCause Fault.TooManyBytes t stream = ⊤
HasCause Fault.TooManyReads t stream = ⊤
HasCause Fault.Fields t stream = ⊤
HasCause (Fault.Read e) t stream = ⊤
HasCause Fault.Memory t stream = ⊤
