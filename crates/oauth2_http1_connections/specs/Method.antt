-- The methods of requests that may be sent again.
use Rattle.std.specs.Prelude.{ℕ, Bool, ◌||◌, List, codes, bytes_eq}

-- the method is idempotent: a request with it may be sent again if its reply did not come; a method
-- that is not listed, as POST, is taken as one that is not (RFC 9110, 9.2.2)
abbrev pub is_idempotent : List ℕ → Bool
is_idempotent method =
    bytes_eq method (codes "GET") || (bytes_eq method (codes "HEAD") || (bytes_eq method (codes "PUT")
    || (bytes_eq method (codes "DELETE") || (bytes_eq method (codes "OPTIONS") || bytes_eq method (codes "TRACE")))))
