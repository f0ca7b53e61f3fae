-- How long a query gets by the pairs of a request.
use Rattle.std.proofs.Common.{◌≡◌, ◌≢◌, ℕ, ◌+◌, ◌-◌, ◌^◌, List, [], ◌∷◌, ◌++◌, map, length, codes, min, arith, refl, sym, ap, subst, ◌∙◌, append_assoc, append-nil}
use Rattle.std.specs.Prelude.{option_map}
use Rattle.std.specs.List.{flat_map}
use Rattle.std.proofs.lemmas.List.{length-append}
use Rattle.std.proofs.lemmas.List.Sums.{fold-append}
use Rattle.std.proofs.lemmas.Grind.{flat_map-append}
use Rattle.form_urlencoded.specs.Form.{byte_serialize, append_pair, extend_pairs}
use Rattle.form_urlencoded.proofs.FormLemmas.{byte_serialize-cons, byte_serialize-append}
use Rattle.oauth2_form.specs.Length.{usize_len}
use Rattle.oauth2_form.specs.Pairs.{Pair}
use Rattle.oauth2_json.specs.Words.{joined_words}
use Rattle.oauth2_wire.specs.Expected.{optional_pair}
use Rattle.oauth2_wire.specs.Texts.{given_text}
use Rattle.oauth2_requests.specs.Authorization.{Authorization, challenge_pairs, scope_pairs, required_pairs, query_pairs}

-- pairs that are appended one list after the other
pub extend_pairs-append : (query : List ℕ) (pairs more : List Pair) → extend_pairs query (pairs ++ more) ≡ extend_pairs (extend_pairs query pairs) more
extend_pairs-append query pairs more = fold-append (λ t p. append_pair t p.0 p.1) query pairs more

-- ---- the scopes, with a space between each two

abbrev pub further_words : List (List ℕ) → List ℕ
further_words words = flat_map (λ further. codes " " ++ further) words

after_space : (word : List ℕ) → byte_serialize (32 ∷ word) ≡ 43 ∷ byte_serialize word
after_space word = byte_serialize-cons 32 word

longer_text : (text : List ℕ) (words : List (List ℕ)) (word : List ℕ)
    → byte_serialize (text ++ further_words (words ++ word ∷ [])) ≡ byte_serialize (text ++ further_words words) ++ (43 ∷ byte_serialize word)
longer_text text words word =
    let last : further_words (word ∷ []) ≡ 32 ∷ word = append-nil (32 ∷ word) in
    ap (λ more. byte_serialize (text ++ more)) (flat_map-append (λ further. codes " " ++ further) words (word ∷ []) ∙ ap (λ end. further_words words ++ end) last)
    ∙ ap byte_serialize (sym (append_assoc text (further_words words) (32 ∷ word)))
    ∙ byte_serialize-append (text ++ further_words words) (32 ∷ word) ∙ ap (λ end. byte_serialize (text ++ further_words words) ++ end) (after_space word)

-- a count that is cut at a limit after each step is cut once
cut_once : (a b more m : ℕ) → more ≡ 1 + b → min (min (min a m + 1) m + min b m) m ≡ min (a + more) m
cut_once a b more m is = omega (arith, is)

-- one word more was counted
pub usize_len-word : (text : List ℕ) (words : List (List ℕ)) (word : List ℕ)
    → min (min (usize_len (byte_serialize (text ++ further_words words)) + 1) (2 ^ 64 - 1) + usize_len (byte_serialize word)) (2 ^ 64 - 1) ≡ usize_len (byte_serialize (text ++ further_words (words ++ word ∷ [])))
usize_len-word text words word =
    let front = byte_serialize (text ++ further_words words) in
    let longer : length (43 ∷ byte_serialize word) ≡ 1 + length (byte_serialize word) = omega arith in
    cut_once (length front) (length (byte_serialize word)) (length (43 ∷ byte_serialize word)) (2 ^ 64 - 1) longer
    ∙ ap (λ n. min n (2 ^ 64 - 1)) (sym (length-append front (43 ∷ byte_serialize word)))
    ∙ ap usize_len (sym (longer_text text words word))

-- ---- whether there is a scope to send

-- scopes that join to some text: the first is not empty, or there are more
pub joined_some : (word : List ℕ) (words : List (List ℕ)) → (length word ≡ 0 → length words ≢ 0) → joined_words (word ∷ words) ≢ []
joined_some [] [] some = λ none. some refl refl
joined_some [] (further ∷ words) some = λ none. absurd (omega (arith, ap length none))
joined_some (byte ∷ bytes) words some = λ none. absurd (omega (arith, ap length none))

pub one_scope : (text : List ℕ) → text ≢ [] → scope_pairs text ≡ (codes "scope", text) ∷ []
one_scope [] some = absurd (some refl)
one_scope (b ∷ bs) some = refl

-- ---- all pairs of a request

-- the count after the pairs of each kind is that after all of them
pub usize_len-asked : (query : List ℕ) (r : Authorization)
    → usize_len (extend_pairs (extend_pairs (extend_pairs (extend_pairs (extend_pairs query (required_pairs r)) (challenge_pairs r.pkce_challenge)) (optional_pair (codes "redirect_uri") (option_map given_text r.redirect_url))) (scope_pairs (joined_words r.scopes))) r.extra_params)
    ≡ usize_len (extend_pairs query (query_pairs r))
usize_len-asked query r =
    let challenge = challenge_pairs r.pkce_challenge in
    let redirect = optional_pair (codes "redirect_uri") (option_map given_text r.redirect_url) in
    let scope = scope_pairs (joined_words r.scopes) in
    let first = extend_pairs query (required_pairs r) in
    ap usize_len (sym (extend_pairs-append query (required_pairs r) (challenge ++ redirect ++ scope ++ r.extra_params)
    ∙ extend_pairs-append first (challenge ++ redirect ++ scope) r.extra_params
    ∙ ap (λ q. extend_pairs q r.extra_params) (extend_pairs-append first (challenge ++ redirect) scope
    ∙ ap (λ q. extend_pairs q scope) (extend_pairs-append first challenge redirect))))
