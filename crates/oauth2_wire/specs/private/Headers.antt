-- The headers of a request, from the value of its Authorization header.
use Rattle.std.specs.Prelude.{[], ◌∷◌, codes, Option, Some, None}
use Rattle.http_header.specs.FieldValue.{FieldValue}
use Rattle.http_header.specs.HeaderMap.{Entries}
use Rattle.oauth2_wire.specs.Expected.{headers_before}

-- the Authorization header with this value, or no header without a value
abbrev pub optional_authorization : Option FieldValue → Entries FieldValue
optional_authorization None = []
optional_authorization (Some value) = (codes "authorization", value ∷ []) ∷ []

-- every header of a request, in order
abbrev pub headers_with : Option FieldValue → Entries FieldValue
headers_with authorization = headers_before (optional_authorization authorization)
