-- The texts of a `PushFault`.
use Rattle.std.specs.Prelude.{ℕ, List, codes}
use Rattle.oauth2_pushed_requests.specs.declared.push_fault.PushFault.{PushFault}
use Rattle.oauth2_pushed_requests.specs.declared.push_fault.PushFault.TheVariants.{OtherEndpoint, NotText, HasRequestUri, HasClientSecret, OtherClient, EndpointQuery, Memory}

-- the text of each fault
abbrev pub push_fault_text : PushFault → List ℕ
push_fault_text OtherEndpoint = codes "URL does not begin with its endpoint's query"
push_fault_text NotText = codes "URL has a parameter that is not UTF-8"
push_fault_text HasRequestUri = codes "URL has the parameter `request_uri`"
push_fault_text HasClientSecret = codes "URL has the parameter `client_secret`"
push_fault_text OtherClient = codes "URL has not one `client_id` that is this client's"
push_fault_text EndpointQuery = codes "URL of an endpoint has `client_id` or `request_uri`"
push_fault_text Memory = codes "Out of memory"
