use Rattle.std.proofs.Common.{◌≡◌, ◌≢◌, ℕ, List, [], ◌∷◌, ◌++◌, Option, Some, None, Bor, MatchOption, unwrap_or, ap, ◌∙◌, sym, lit<}
use Rattle.std.proofs.lemmas.Str.Pattern.{strip_suffix_char}
use Rattle.oauth2_metadata.specs.Issuer.{trimmed}
use Rattle.oauth2_metadata.proofs.PlaceLaws.{trimmed-slash, trimmed-other}
use Rattle.oauth2_metadata.proofs.issuer.without_last_slash.Goals as goal

cut : (path : Bor (List ℕ)) (r : Option (Bor (List ℕ))) → MatchOption r ((front : List ℕ) → path.now ≢ front ++ (47 ∷ [])) (λ x. path.now ≡ x.now ++ (47 ∷ [])) → (unwrap_or r path).now ≡ trimmed path.now
cut path None h = sym (trimmed-other path.now h)
cut path (Some x) h = sym (ap trimmed h ∙ trimmed-slash x.now)

pub returns : goal.returns
returns c =
    ap (λ x. x.now) c.unwrap_or.ensures
    ∙ cut c.args.path c.strip_suffix.result (strip_suffix_char 47 c.args.path.now c.strip_suffix.result c.strip_suffix.ensures.cases (lit< tt))
