-- Why a request cannot be written as bytes.
use Rattle.std.specs.Prelude.{◌≡◌, ℕ, List, Vec, Option, Some, IsTrue, ⊤}
use Rattle.http.specs.declared.request.Request.{Request}
use Rattle.http.specs.Request.{head_of, body_of}
use Rattle.http1.specs.declared.error.WriteError.{WriteError}
use Rattle.http1.specs.declared.error.WriteError.TheVariants.{OutOfMemory}
use Rattle.http1.specs.Fields.{Header, known_fields}
use Rattle.http1.specs.Framing.{method_kind}
use Rattle.http1.specs.Head.{is_request_line}
use Rattle.http1.specs.Conn.{is_connect, states_framing, plan_refusal}
use Rattle.http1.specs.Client.{plan_fields}
use Rattle.oauth2_http1.specs.declared.fault.MessageFault.{MessageFault}
use Rattle.oauth2_http1.specs.declared.fault.MessageFault.TheVariants as Fault
use Rattle.oauth2_http1.specs.Origin.{Place, origin_form}
use Rattle.oauth2_http1.specs.Message.{body_size, sent_fields, kept_fields}

-- an error of the HTTP/1.1 writer (crate `http1`) as a fault
abbrev pub fault_of_write_error : WriteError → MessageFault
fault_of_write_error OutOfMemory = Fault.Memory
fault_of_write_error e = Fault.Refused e

-- why the HTTP/1.1 writer (crate `http1`) refuses a head with these parts (RFC 9112, 3, 3.2 and 5)
abbrev pub write_error : List ℕ → List ℕ → List Header → List ℕ → Option WriteError
write_error method target fields body =
    plan_refusal (plan_fields (method_kind method) (body_size method body) fields)
    (is_request_line method target 1) fields

-- why a request with these parts cannot be written as bytes
abbrev pub Unsent : MessageFault → List ℕ → List ℕ → List Header → List ℕ → Type 0
Unsent Fault.NoOrigin method target fields body = ⊥
Unsent Fault.NoHost method target fields body = ⊥
Unsent Fault.BadPort method target fields body = ⊥
Unsent Fault.OwnFraming method target fields body = IsTrue (states_framing (known_fields fields))
Unsent Fault.Connect method target fields body = IsTrue (is_connect (method_kind method))
Unsent (Fault.Refused e) method target fields body = write_error method target fields body ≡ Some e
Unsent Fault.Memory method target fields body = ⊤

-- why a request to this place cannot be written as bytes
abbrev pub UnsentTo : {Z : Type 0} → Place → Request (Vec ℕ Z) → MessageFault → Type 0
UnsentTo place r e =
    Unsent e (head_of r).method (origin_form (head_of r).uri)
    (sent_fields place (head_of r).headers) (body_of r).items

-- why a request after which the connection is used again cannot be written as bytes
abbrev pub UnsentKept : {Z : Type 0} → Option (List ℕ) → Place → Request (Vec ℕ Z) → MessageFault
    → Type 0
UnsentKept agent place r e =
    Unsent e (head_of r).method (origin_form (head_of r).uri)
    (kept_fields agent place (head_of r).headers) (body_of r).items
