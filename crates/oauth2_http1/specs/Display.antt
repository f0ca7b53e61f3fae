-- The texts of errors.
use Rattle.std.specs.Prelude.{ℕ, List, ◌++◌, Bool, true, false, Option, Some, codes, option_map, if◌then◌else◌}
use Rattle.std.specs.declared.io.Error as Io
use Rattle.std.specs.declared.io.ErrorKind.{ErrorKind}
use Rattle.std.specs.declared.io.ErrorKind.TheVariants.{TimedOut, WouldBlock}
use Rattle.std.specs.IoError.{error_kind}
use Rattle.http1.specs.declared.error.WriteError.{WriteError}
use Rattle.http1.specs.declared.error.WriteError.TheVariants as Write
use Rattle.http1.specs.declared.error.ReadError.{ReadError}
use Rattle.http1.specs.declared.error.ReadError.TheVariants as Read
use Rattle.oauth2_http1.specs.declared.error.Http1Error.{Http1Error}
use Rattle.oauth2_http1.specs.declared.error.Http1Error.TheVariants as error
use Rattle.oauth2_http1.specs.declared.fault.MessageFault.{MessageFault}
use Rattle.oauth2_http1.specs.declared.fault.MessageFault.TheVariants as request
use Rattle.oauth2_http1.specs.declared.fault.ReplyFault.{ReplyFault}
use Rattle.oauth2_http1.specs.declared.fault.ReplyFault.TheVariants as reply
use Rattle.oauth2_http1.specs.declared.over.NoConnection.{NoConnection}

-- the text of an error of the HTTP/1.1 writer
abbrev pub http1_write_error_text : WriteError → List ℕ
http1_write_error_text Write.InvalidStartLine =
    codes "no request line has this method and this target"
http1_write_error_text Write.InvalidHeader = codes "no field has this name and this value"
http1_write_error_text Write.Host = codes "it has a Host field of its own"
http1_write_error_text e = codes "its fields do not fit its body"

-- the text of a fault for which a request is not sent
abbrev pub http1_request_fault_text : MessageFault → Option (List ℕ)
http1_request_fault_text request.NoOrigin = Some (codes "request has no http or https target")
http1_request_fault_text request.NoHost = Some (codes "request has a target without a host")
http1_request_fault_text request.BadPort =
    Some (codes "request has a target whose port is no number")
http1_request_fault_text request.OwnFraming = Some (codes "request frames its body itself")
http1_request_fault_text request.Connect = Some (codes "request asks for a tunnel")
http1_request_fault_text (request.Refused e) =
    Some (codes "request cannot be sent: " ++ http1_write_error_text e)
http1_request_fault_text request.Memory = Some (codes "Out of memory")

-- the text of an error of the HTTP/1.1 reader
abbrev pub http1_read_error_text : ReadError → List ℕ
http1_read_error_text (Read.Parse e) = codes "its head or its trailers do not parse"
http1_read_error_text Read.BareLineFeed = codes "a line ends in a line feed alone"
http1_read_error_text Read.TooLarge = codes "its head or its trailers are longer than the limit"
http1_read_error_text (Read.Framing e) = codes "its fields give its body no one end"
http1_read_error_text (Read.Chunk e) = codes "a chunk of its body does not parse"
http1_read_error_text Read.UnexpectedEof = codes "the connection closed before its end"
http1_read_error_text e = codes "it was not asked for"

-- the error says that a time limit passed; a socket with a time limit may report `WouldBlock`
abbrev pub is_time_limit : ErrorKind → Bool
is_time_limit TimedOut = true
is_time_limit WouldBlock = true
is_time_limit kind = false

-- the text of a read that failed
abbrev pub http1_read_text : Io.Error → List ℕ
http1_read_text e =
    if is_time_limit (error_kind e) then codes "connection gave nothing in time" else codes "connection cannot be read"

-- the text of a write that failed
abbrev pub http1_write_text : Io.Error → List ℕ
http1_write_text e =
    if is_time_limit (error_kind e) then codes "connection took nothing in time" else codes "connection cannot be written"

-- the text of a fault for which no reply is read
abbrev pub reply_fault_text : ReplyFault → Option (List ℕ)
reply_fault_text (reply.Response e) =
    Some (codes "reply cannot be read: " ++ http1_read_error_text e)
reply_fault_text reply.EmptyLine = Some (codes "reply begins with an empty line")
reply_fault_text reply.TransferCoding =
    Some (codes "reply has a transfer coding that is not undone")
reply_fault_text reply.TooLong = Some (codes "body of the reply is longer than the bound")
reply_fault_text reply.TooManyBytes = Some (codes "reply takes more bytes than its bounds allow")
reply_fault_text reply.TooManyReads = Some (codes "reply takes more reads than the bound")
reply_fault_text reply.Fields = Some (codes "reply has a field that no map of headers holds")
reply_fault_text (reply.Read e) = Some (http1_read_text e)
reply_fault_text reply.Memory = Some (codes "Out of memory")

-- the text of an error of a call; `text` is that of the connector's error
abbrev pub http1_error_text : {E : Type 0} → (E → Option (List ℕ)) → Http1Error E → Option (List ℕ)
http1_error_text text (error.Request fault) = http1_request_fault_text fault
http1_error_text text (error.Connect e) =
    option_map (λ bytes. codes "no connection: " ++ bytes) (text e)
http1_error_text text (error.Write e) = Some (http1_write_text e)
http1_error_text text (error.Reply fault) = reply_fault_text fault

-- the text of the error for a connection that was handed out before
abbrev pub no_connection_text : NoConnection → Option (List ℕ)
no_connection_text e = Some (codes "the connection was handed out before")
