-- Which keeper may start from a stored token.
use Rattle.std.specs.Prelude.{◌≡◌, ℕ, Bool, true, false, IsTrue, bytes_eq, List, Option, Some, None, Result, Ok, Err}
use Rattle.oauth2_keeper.specs.Keeper.{Keeper, starting_from}
use Rattle.oauth2_stored_token.specs.Stored.{Stored, endpoint_of}
use Rattle.oauth2_stored_token.specs.declared.stored_token_error.StoredTokenError.{StoredTokenError}
use Rattle.oauth2_stored_token.specs.declared.stored_token_error.StoredTokenError.TheVariants.{OtherClient, OtherEndpoint}

-- what was stored belongs to this client or endpoint (`own`), or does not name any
abbrev pub is_of : Option (List ℕ) → Option (List ℕ) → Bool
is_of None own = true
is_of (Some text) None = false
is_of (Some text) (Some own) = bytes_eq text own

-- the stored token that an error holds
abbrev pub stored_in : StoredTokenError → Stored
stored_in (OtherClient it) = it
stored_in (OtherEndpoint it) = it

-- a keeper takes a stored token, unless that belongs to another client or token endpoint; then the
-- keeper is unchanged, and the error holds the stored token
abbrev pub Takes : Keeper → Stored → Result Unit StoredTokenError → Keeper → Type 0
Takes before it (Ok done) after =
    IsTrue (is_of it.client_id (Some before.client.client_id))
    × IsTrue (is_of it.token_url (endpoint_of before))
    × (after ≡ starting_from before it.token it.refresh_token)
Takes before it (Err (OtherClient back)) after =
    (is_of it.client_id (Some before.client.client_id) ≡ false) × (back ≡ it) × (after ≡ before)
Takes before it (Err (OtherEndpoint back)) after =
    IsTrue (is_of it.client_id (Some before.client.client_id))
    × (is_of it.token_url (endpoint_of before) ≡ false)
    × (back ≡ it) × (after ≡ before)
