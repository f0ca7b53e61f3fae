-- How each type of error ends a row of the tests: out of memory, or arguments that were refused.
use Rattle.url.specs.declared.error.ParseError.{ParseError}
use Rattle.url.specs.declared.error.ParseError.TheVariants as parse
use Rattle.oauth2_json.specs.declared.read.ReadError.{ReadError}
use Rattle.oauth2_json.specs.declared.read.ReadError.TheVariants as read
use Rattle.oauth2_json.specs.declared.write.WriteError.{WriteError}
use Rattle.oauth2_json.specs.declared.write.WriteError.TheVariants as write
use Rattle.oauth2_wire.specs.declared.request.RequestFault.{RequestFault}
use Rattle.oauth2_wire.specs.declared.request.RequestFault.TheVariants as fault
use Rattle.oauth2.specs.declared.flow.CodeFlowError.{CodeFlowError}
use Rattle.oauth2.specs.declared.flow.CodeFlowError.TheVariants as flow
use Rattle.oauth2_wire.specs.declared.view.ViewError.{ViewError}
use Rattle.oauth2_wire.specs.declared.view.ViewError.TheVariants as view
use Rattle.oauth2_refusals_support.specs.declared.ended.Ended.{Ended}
use Rattle.oauth2_refusals_support.specs.declared.ended.Ended.TheVariants.{Starved, Refused}
use Rattle.oauth2_refusals_support.specs.declared.ended.Want.TheVariants as want

-- how an error of a URL ends a row; a URL past 4 GB (`Overflow`) counts as out of memory
abbrev pub of_parse_error : ParseError → Ended
of_parse_error parse.OutOfMemory = Starved want.ParseError
of_parse_error parse.Overflow = Starved want.ParseError
of_parse_error error = Refused

-- how an error of reading JSON ends a row; a member that is wrong is a refusal
abbrev pub of_read_error : ReadError → Ended
of_read_error read.Memory = Starved want.ReadError
of_read_error (read.Fault fault) = Refused

-- how an error of writing JSON ends a row; a name that clashes and a float are refusals
abbrev pub of_write_error : WriteError → Ended
of_write_error write.Memory = Starved want.WriteError
of_write_error write.NameClash = Refused
of_write_error write.Float = Refused

-- how an error of making a request ends a row; an endpoint that is no HTTP target is a refusal
abbrev pub of_request_fault : RequestFault → Ended
of_request_fault fault.Memory = Starved want.RequestFault
of_request_fault fault.NotHttp = Refused

-- how an error of a login made at once ends a row; a URL that is refused is a refusal
abbrev pub of_code_flow_error : CodeFlowError → Ended
of_code_flow_error flow.Memory = Starved want.CodeFlowError
of_code_flow_error (flow.Url error) = Refused
of_code_flow_error flow.NotHttp = Refused

-- how an error of decoding a request ends a row; credentials that do not decode are a refusal
abbrev pub of_view_error : ViewError → Ended
of_view_error view.Memory = Starved want.ViewError
of_view_error view.BadBasic = Refused
