-- A login with OpenID Connect: what is kept while the user is away.
use Rattle.std.specs.Prelude.{ℕ, List, ◌++◌, Option, Some, Ok, codes, option_map}
use Rattle.serde_json.specs.Data.{Data, Members, string, number, unsigned, object, no_members}
use Rattle.oauth2_json.specs.Reading.{Reading, read_then, ◌⊛◌}
use Rattle.oauth2_json.specs.Writing.{Writing}
use Rattle.oauth2_json.specs.Members.{members_of_object, needed_member, optional_member}
use Rattle.oauth2_json.specs.Puts.{Row, put_all}
use Rattle.oauth2_json.specs.Values.{text, whole_number}
use Rattle.oauth2_body_members.specs.Table.{Table, column, ◌▸◌, end, table_reading, rows_of}
use Rattle.oauth2_redirect.specs.Login.{LoginView, login_in, login_rows}

-- what is kept during a login: the login by a code, the nonce that the ID token must have, and the
-- maximum age in seconds, if one was requested
pub record OpenIdKept : Type 0 where
  pub login : LoginView
  pub nonce : List ℕ
  pub max_age : Option ℕ

-- the login with these parts; the maximum age is in seconds
abbrev pub openid_kept : LoginView → List ℕ → Option ℕ → OpenIdKept
openid_kept l n m = record { login = l; nonce = n; max_age = m }

-- the members of a login besides those of the login by a code: how each is read and written;
-- `max_age` is in seconds
abbrev pub openid_login_table : Table OpenIdKept
openid_login_table =
    column (codes "nonce") (needed_member text) (λ l. Some (string l.nonce))
    ▸ column (codes "max_age") (optional_member whole_number)
    (λ l. option_map (λ n. number (unsigned n)) l.max_age)
    ▸ end

-- a login, read from the members of its JSON object: those of the login by a code, and those of
-- the table; other members are ignored
abbrev pub openid_login_in : Members → Reading OpenIdKept
openid_login_in ms = table_reading openid_login_table (Ok openid_kept ⊛ login_in ms) ms

-- a login, read from a JSON value, which must be an object
abbrev pub openid_login_reading : Data → Reading OpenIdKept
openid_login_reading d = read_then (members_of_object d) openid_login_in

-- the members of a login's JSON object
abbrev pub openid_login_rows : OpenIdKept → List Row
openid_login_rows l = rows_of openid_login_table l ++ login_rows l.login

-- the JSON object that a login is written as
abbrev pub openid_login_writing : OpenIdKept → Writing
openid_login_writing l = Ok (object (put_all (openid_login_rows l) no_members))
