-- What a server reads of a request that does nothing but decode the header and the form.
use Rattle.std.specs.Prelude.{List, [], map, Option, Some, None, option_map}
use Rattle.oauth2_form.specs.Pairs.{Pair, form}
use Rattle.oauth2_form.specs.Basic.{basic}
use Rattle.oauth2_wire.specs.Request.{RequestView, authorization_of}
use Rattle.oauth2_wire.specs.ServerView.{pair_texts, shown_pair}
use Rattle.oauth2_results.specs.declared.decoded.Decoded.{Decoded as StoredDecoded}

-- the credentials of the Authorization header, and the pairs of the form
pub record Decoded : Type 0 where
  pub basic : Option Pair
  pub pairs : List Pair

-- no pairs are read if there is an Authorization value that is no Basic credentials
abbrev pub decoded_by : Option (Option Pair) → List Pair → Decoded
decoded_by None pairs = record { basic = None; pairs = pairs }
decoded_by (Some None) pairs = record { basic = None; pairs = [] }
decoded_by (Some (Some pair)) pairs = record { basic = Some pair; pairs = pairs }

-- what is read of a request, with U+FFFD in place of what is not UTF-8
abbrev pub decoded_of : RequestView → Decoded
decoded_of v =
    decoded_by
    (option_map (λ value. option_map shown_pair (basic value.bytes)) (authorization_of v))
    (map shown_pair (form v.body))

-- what the code holds
abbrev pub decoded_seen : StoredDecoded → Decoded
decoded_seen d = record {
  basic = option_map pair_texts d.basic;
  pairs = map pair_texts d.pairs.items;
}
