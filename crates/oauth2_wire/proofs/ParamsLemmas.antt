-- Scopes that are added one after another are joined by spaces.
use Rattle.std.proofs.Common.{◌≡◌, ℕ, List, [], ◌∷◌, ◌++◌, None, Some, codes, refl, sym, ap, ◌∙◌, append-nil, append_assoc}
use Rattle.std.specs.List.{flat_map}
use Rattle.oauth2_form.specs.Params.{with_scopes}
use Rattle.oauth2_wire.specs.Expected.{joined_scope}

with_scopes-Some : (text : List ℕ) (scopes : List (List ℕ)) → with_scopes (Some text) scopes ≡ Some (text ++ flat_map (λ s. codes " " ++ s) scopes)
with_scopes-Some text [] = ap Some (sym (append-nil text))
with_scopes-Some text (scope ∷ rest) =
    with_scopes-Some (text ++ codes " " ++ scope) rest
    ∙ ap Some (ap (λ x. x ++ flat_map (λ s. codes " " ++ s) rest) (append_assoc text (codes " ") scope) ∙ append_assoc text (codes " " ++ scope) (flat_map (λ s. codes " " ++ s) rest))

pub with_scopes-None : (scopes : List (List ℕ)) → with_scopes None scopes ≡ joined_scope (Some scopes)
with_scopes-None [] = refl
with_scopes-None (scope ∷ rest) = with_scopes-Some scope rest

pub ruleset joined = (with_scopes-None)
