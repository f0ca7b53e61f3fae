-- The token of an introspection or revocation request.
use Rattle.std.specs.Prelude.{ℕ, List, [], ◌∷◌, ◌++◌, codes, Option}
use Rattle.oauth2_form.specs.Pairs.{Pair}
use Rattle.oauth2_wire.specs.Expected.{optional_pair}

-- the token and, if there is one, the hint of its type (RFC 7009, 2.1; RFC 7662, 2.1)
abbrev pub hinted_token_pairs : List ℕ → Option (List ℕ) → List Pair
hinted_token_pairs token token_type_hint =
    (codes "token", token) ∷ [] ++ optional_pair (codes "token_type_hint") token_type_hint
