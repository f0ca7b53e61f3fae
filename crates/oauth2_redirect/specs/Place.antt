-- Where a redirect must come to: the login's redirect URI (RFC 6749, 3.1.2; RFC 9700, 2.1).
use Rattle.std.specs.Prelude.{ℕ, List, [], Bool, ◌&&◌, ◌||◌, codes, bytes_eq, nat_eq, option_map, unwrap_or}
use Rattle.std.specs.Option.{option_eq}
use Rattle.std.specs.List.{list_all, list_any}
use Rattle.url.specs.Host.{host_text}
use Rattle.url.specs.Parts.{Parts, nonempty_host}
use Rattle.oauth2_form.specs.Pairs.{Pair}
use Rattle.oauth2_form.specs.Query.{query_form}

-- the text of the host, which is empty where there is none
abbrev pub host_name : Parts → List ℕ
host_name url = unwrap_or (option_map host_text (nonempty_host url)) []

-- a loopback redirect URI: the scheme `http`, and an address of this machine (RFC 8252, 7.3)
abbrev pub is_loopback : Parts → Bool
is_loopback uri =
    bytes_eq uri.scheme (codes "http")
    && (bytes_eq (host_name uri) (codes "127.0.0.1") || bytes_eq (host_name uri) (codes "[::1]"))

-- the port of the redirect URI; any port at a loopback address (RFC 8252, 7.3). A URL whose port is
-- the default of its scheme has none.
abbrev pub is_at_port : Parts → Parts → Bool
is_at_port uri called = is_loopback uri || option_eq nat_eq uri.port called.port

-- the same name and the same value
abbrev pub is_pair : Pair → Pair → Bool
is_pair pair other = bytes_eq pair.0 other.0 && bytes_eq pair.1 other.1

-- each parameter of the redirect URI's own query is retained (RFC 6749, 3.1.2)
abbrev pub retains : List Pair → List Pair → Bool
retains own called = list_all (λ pair. list_any (is_pair pair) called) own

-- the called URL is at the redirect URI: it has its scheme, host, port and path, and retains the
-- parameters of its query. The user name, the password and the fragment are not compared.
abbrev pub is_at_redirect_uri : Parts → Parts → Bool
is_at_redirect_uri uri called =
    bytes_eq uri.scheme called.scheme && bytes_eq (host_name uri) (host_name called)
    && is_at_port uri called && bytes_eq uri.path called.path
    && retains (query_form uri) (query_form called)
