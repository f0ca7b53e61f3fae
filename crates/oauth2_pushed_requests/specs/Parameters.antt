-- The parameters of an authorization URL, and which of them can be pushed (RFC 9126, section 2.1).
use Rattle.std.specs.Prelude.{ℕ, ◌&&◌, ◌||◌, Bool, false, List, [], ◌∷◌, bytes_eq, codes, Option, None, Some, if◌then◌else◌}
use Rattle.std.specs.List.{list_all, list_any}
use Rattle.std.specs.Str.{is_utf8}
use Rattle.url.specs.Parts.{Parts}
use Rattle.oauth2_form.specs.Pairs.{Pair}
use Rattle.oauth2_form.specs.Query.{query_form}
use Rattle.oauth2_wire.specs.ByName.{bears, read_by_name}
use Rattle.oauth2_pushed_requests.specs.declared.push_fault.PushFault.{PushFault}
use Rattle.oauth2_pushed_requests.specs.declared.push_fault.PushFault.TheVariants.{OtherEndpoint, NotText, HasRequestUri, HasClientSecret, OtherClient, EndpointQuery}

-- both pairs have the same name and the same value
abbrev pub same_pair : Pair → Pair → Bool
same_pair a b = bytes_eq a.0 b.0 && bytes_eq a.1 b.1

-- the pairs that follow the first list in the second; `None` if the second does not begin with the
-- first
abbrev pub pairs_after : List Pair → List Pair → Option (List Pair)
pairs_after [] pairs = Some pairs
pairs_after (own ∷ owns) [] = None
pairs_after (own ∷ owns) (pair ∷ pairs) =
    if same_pair own pair then pairs_after owns pairs else None

-- the parameters that the second URL has after those of the first one's own query, which an
-- authorization URL keeps (RFC 6749, 3.1)
abbrev pub added_pairs : Parts → Parts → Option (List Pair)
added_pairs endpoint url = pairs_after (query_form endpoint) (query_form url)

-- a parameter has this name
abbrev pub has_name : List ℕ → List Pair → Bool
has_name name pairs = list_any (bears name) pairs

-- name and value are UTF-8
abbrev pub is_text_pair : Pair → Bool
is_text_pair pair = is_utf8 pair.0 && is_utf8 pair.1

-- there is a value, and it is this text
abbrev pub is_value : List ℕ → Option (List ℕ) → Bool
is_value text None = false
is_value text (Some value) = bytes_eq value text

-- why the client with this identifier cannot push these parameters: none may be `request_uri` (RFC
-- 9126, 2.1) or `client_secret`, and one has to be its own `client_id` (RFC 6749, 4.1.1)
abbrev pub names_fault : List ℕ → List Pair → Option PushFault
names_fault id pairs =
    if has_name (codes "request_uri") pairs then Some HasRequestUri
    else (if has_name (codes "client_secret") pairs then Some HasClientSecret
    else (if is_value id (read_by_name (codes "client_id") pairs) then None else Some OtherClient))

-- why the client with this identifier cannot push the parameters that a URL adds to its endpoint's:
-- it is the URL of another endpoint, a parameter is no text, or the name or value of one is refused
abbrev pub added_fault : List ℕ → Option (List Pair) → Option PushFault
added_fault id None = Some OtherEndpoint
added_fault id (Some pairs) =
    if list_all is_text_pair pairs then names_fault id pairs else Some NotText

-- the endpoint's own query has a parameter that a push sends to it, or the URL after a push (RFC
-- 9126, 4): it would be sent twice, which RFC 6749, 3.1 and 3.2, forbids
abbrev pub sends_twice : Parts → Bool
sends_twice endpoint =
    has_name (codes "client_id") (query_form endpoint) || has_name (codes "request_uri") (query_form endpoint)

-- why the client with this identifier cannot push to the first endpoint the parameters that a URL
-- adds to the second one, the authorization endpoint
abbrev pub push_fault : List ℕ → Parts → Parts → Option (List Pair) → Option PushFault
push_fault id endpoint auth_url added =
    if sends_twice endpoint || sends_twice auth_url then Some EndpointQuery else added_fault id added
