-- What it means that pairs were appended to the query of a URL.
use Rattle.std.specs.Prelude.{◌≡◌, List, [], ◌++◌, unwrap_or}
use Rattle.form_urlencoded.specs.Form.{parse, IsPrefix}
use Rattle.url.specs.Parts.{Parts}
use Rattle.url.specs.Setters.{append_query_pairs}
use Rattle.oauth2_form.specs.Pairs.{Pair}

-- the pairs that the URL's query decodes to; a URL without a query has none
abbrev pub query_form : Parts → List Pair
query_form url = parse (unwrap_or url.query [])

-- the new URL is the old one with these pairs appended to its query, which is kept (RFC 6749, 3.1):
-- its query begins with the text of the old query, and decodes to the old pairs followed by these;
-- every other part is unchanged
pub record ExtendsQuery (old new : Parts) (pairs : List Pair) : Type 0 where
  pub text : new ≡ append_query_pairs old pairs
  pub form : query_form new ≡ query_form old ++ pairs
  pub begins : IsPrefix (unwrap_or old.query []) (unwrap_or new.query [])
  pub others : new ≡ record old { query = new.query }
