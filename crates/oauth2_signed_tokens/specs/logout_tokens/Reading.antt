-- How a text is read as a logout token (OpenID Connect Back-Channel Logout 1.0, 2.4; RFC 7515).
use Rattle.std.specs.Prelude.{ℕ, List, Some, Ok, codes, option_map}
use Rattle.serde_json.specs.Data.{Data, Members, string, array, object}
use Rattle.oauth2_json.specs.Members.{members_of_object, needed_member, optional_member, others}
use Rattle.oauth2_json.specs.Reading.{Reading, read_then, ◌⊛◌}
use Rattle.oauth2_json.specs.Values.{text, texts, text_items}
use Rattle.oauth2_body_members.specs.Table.{Table, column, ◌▸◌, end, Builder, names_of, table_reading}
use Rattle.oauth2_times.specs.Instants.{second_data}
use Rattle.oauth2_openid.specs.Reading.{text_reading, usual_limit}
use Rattle.oauth2_openid.specs.Times.{time}
use Rattle.oauth2_openid.specs.Token.{WithOthers, with_others, TokenReading}
use Rattle.oauth2_signed_tokens.specs.logout_tokens.LogoutToken.{LogoutClaims, logout_claims, DecodedLogoutToken}

-- 2.4: for each claim its name, how it is read, and how it is shown as JSON
abbrev pub logout_table : Table LogoutClaims
logout_table =
    column (codes "iss") (needed_member text) (λ c. Some (string c.issuer))
    ▸ column (codes "sub") (optional_member text) (λ c. option_map string c.subject)
    ▸ column (codes "aud") (needed_member texts) (λ c. Some (array (text_items c.audience)))
    ▸ column (codes "iat") (needed_member time) (λ c. Some (second_data c.issued_at))
    ▸ column (codes "exp") (needed_member time) (λ c. Some (second_data c.expires_at))
    ▸ column (codes "jti") (needed_member text) (λ c. Some (string c.token_id))
    ▸ column (codes "sid") (optional_member text) (λ c. option_map string c.session_id)
    ▸ end

-- the names of the claims in that table
abbrev pub logout_names : List (List ℕ)
logout_names = names_of logout_table

-- the claims and the object of the other claims, from what was read for each row
abbrev pub claims_with : Builder logout_table (Members → WithOthers LogoutClaims)
claims_with i s a t e j d ms = with_others (logout_claims i s a t e j d) (object ms)

-- the claims from the members of the payload, and its other members as an object; if several claims
-- are wrong, the first one of the table is reported
abbrev pub claims_in : Members → Reading (WithOthers LogoutClaims)
claims_in ms = table_reading logout_table (Ok claims_with) ms ⊛ Ok (others logout_names ms)

-- the claims from the JSON value of the payload, which has to be an object (RFC 7519, 4)
abbrev pub claims_reading : Data → Reading (WithOthers LogoutClaims)
claims_reading d = read_then (members_of_object d) claims_in

-- the logout token that a text in compact form holds, or why it holds none (RFC 7515, 7.1)
abbrev pub logout_token_reading : List ℕ → TokenReading DecodedLogoutToken
logout_token_reading encoded = text_reading claims_reading usual_limit encoded
