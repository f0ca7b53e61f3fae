-- What a server reads of a push, and which parameters an authorization URL adds.
use Rattle.std.proofs.Common.{◌≡◌, refl, sym, ap, ◌∙◌, ℕ, List, [], ◌∷◌, ◌++◌, Bool, true, false, not, ◌&&◌, ◌||◌, cond, Option, Some, None, Result, Ok, Err, IfOk, filter, codes, append_assoc, append-nil}
use Rattle.std.specs.List.{list_any}
use Rattle.std.proofs.lemmas.Bool.{cond-true, cond-false, false≢true, true≢false}
use Rattle.std.proofs.lemmas.List.Elements.{filter-append}
use Rattle.std.proofs.lemmas.Slice.Eq.{bytes_eq-Decides}
use Rattle.url.specs.Parts.{Parts}
use Rattle.oauth2_form.specs.Pairs.{Pair, form}
use Rattle.oauth2_form.specs.Query.{ExtendsQuery, query_form}
use Rattle.oauth2_wire.specs.declared.request.AuthType.{AuthType}
use Rattle.oauth2_wire.specs.declared.request.AuthType.TheVariants.{RequestBody, BasicAuth}
use Rattle.oauth2_wire.specs.ByName.{bears, sole, read_by_name}
use Rattle.oauth2_wire.specs.Expected.{basic_credentials, body_credentials, optional_pair}
use Rattle.oauth2_wire.specs.Request.{HttpRequest, RequestView, IsRequestOf, view_of}
use Rattle.oauth2_pushed_requests.specs.Parameters.{same_pair, pairs_after, added_pairs, has_name, is_value, names_fault}
use Rattle.oauth2_pushed_requests.specs.Pushed.{PushedRequest, before_name, after_name, identifier, pushed_configuration, without_secret, body_secret, IsPushOf}

-- ---- what the refusals rule out

None≢Some : {X : Type 0} {x : X} → None ≡ Some x → ⊥
None≢Some h = cc

no_fault : {X : Type 0} (a b c : Bool) (x y z : X) → cond a (Some x) (cond b (Some y) (cond c None (Some z))) ≡ None → (b ≡ false) × (c ≡ true)
no_fault true b c x y z h = absurd (None≢Some (sym h))
no_fault false true c x y z h = absurd (None≢Some (sym h))
no_fault false false true x y z h = (refl, refl)
no_fault false false false x y z h = absurd (None≢Some (sym h))

is_value-is : (text : List ℕ) (value : Option (List ℕ)) → is_value text value ≡ true → value ≡ Some text
is_value-is text None h = absurd (false≢true h)
is_value-is text (Some value) h = ap Some ((bytes_eq-Decides value text).0 h)

-- there is no secret, and one `client_id`, which is the client's
names : (id : List ℕ) (pairs : List Pair) → names_fault id pairs ≡ None
    → (has_name (codes "client_secret") pairs ≡ false) × (read_by_name (codes "client_id") pairs ≡ Some id)
names id pairs h =
    let two = no_fault (has_name (codes "request_uri") pairs) (has_name (codes "client_secret") pairs) (is_value id (read_by_name (codes "client_id") pairs)) _ _ _ h in
    (two.0, is_value-is id _ two.1)

-- ---- the parameters around the one that has a name

sole_first : (pair : Pair) (pairs : List Pair) (value : List ℕ) → sole (pair ∷ pairs) ≡ Some value → pair.1 ≡ value
sole_first pair [] value h = cc
sole_first pair (next ∷ pairs) value h = absurd (None≢Some h)

around_step : (name value : List ℕ) (pair : Pair) (pairs : List Pair) (named : Bool) → bears name pair ≡ named
    → (sole (filter (bears name) pairs) ≡ Some value → before_name name pairs ++ (name, value) ∷ after_name name pairs ≡ pairs)
    → sole (filter (bears name) (pair ∷ pairs)) ≡ Some value
    → before_name name (pair ∷ pairs) ++ (name, value) ∷ after_name name (pair ∷ pairs) ≡ pair ∷ pairs
around_step name value pair pairs true is later h =
    let first = sole_first pair (filter (bears name) pairs) value (sym (ap sole (cond-true _ _ _ is)) ∙ h) in
    ap (λ front. front ++ (name, value) ∷ after_name name (pair ∷ pairs)) (cond-true _ _ _ is)
    ∙ ap (λ back. (name, value) ∷ back) (cond-true _ _ _ is)
    ∙ ap (λ n. (n, value) ∷ pairs) (sym ((bytes_eq-Decides pair.0 name).0 is))
    ∙ ap (λ v. (pair.0, v) ∷ pairs) (sym first)
around_step name value pair pairs false is later h =
    ap (λ front. front ++ (name, value) ∷ after_name name (pair ∷ pairs)) (cond-false _ _ _ is)
    ∙ ap (λ back. (pair ∷ before_name name pairs) ++ (name, value) ∷ back) (cond-false _ _ _ is)
    ∙ ap (λ more. pair ∷ more) (later (sym (ap sole (cond-false _ _ _ is)) ∙ h))

around : (name value : List ℕ) (pairs : List Pair) → read_by_name name pairs ≡ Some value
    → before_name name pairs ++ (name, value) ∷ after_name name pairs ≡ pairs
around name value [] h = absurd (None≢Some h)
around name value (pair ∷ pairs) h = around_step name value pair pairs (bears name pair) refl (around name value pairs) h

-- ---- parameters without a secret

absent_step : (pair : Pair) (pairs : List Pair) (named : Bool) → bears (codes "client_secret") pair ≡ named
    → (list_any (bears (codes "client_secret")) pairs ≡ false → without_secret pairs ≡ pairs)
    → list_any (bears (codes "client_secret")) (pair ∷ pairs) ≡ false → without_secret (pair ∷ pairs) ≡ pair ∷ pairs
absent_step pair pairs true is later h = absurd (true≢false (sym (ap (λ b. b || list_any (bears (codes "client_secret")) pairs) is) ∙ h))
absent_step pair pairs false is later h =
    cond-true _ _ _ (ap not is) ∙ ap (λ more. pair ∷ more) (later (sym (ap (λ b. b || list_any (bears (codes "client_secret")) pairs) is) ∙ h))

absent : (pairs : List Pair) → has_name (codes "client_secret") pairs ≡ false → without_secret pairs ≡ pairs
absent [] h = refl
absent (pair ∷ pairs) h = absent_step pair pairs (bears (codes "client_secret") pair) refl (absent pairs) h

none_step : (pair : Pair) (pairs : List Pair) (named : Bool) → bears (codes "client_secret") pair ≡ named
    → (list_any (bears (codes "client_secret")) pairs ≡ false → filter (bears (codes "client_secret")) pairs ≡ [])
    → list_any (bears (codes "client_secret")) (pair ∷ pairs) ≡ false → filter (bears (codes "client_secret")) (pair ∷ pairs) ≡ []
none_step pair pairs true is later h = absurd (true≢false (sym (ap (λ b. b || list_any (bears (codes "client_secret")) pairs) is) ∙ h))
none_step pair pairs false is later h =
    cond-false _ _ _ is ∙ later (sym (ap (λ b. b || list_any (bears (codes "client_secret")) pairs) is) ∙ h)

none : (pairs : List Pair) → has_name (codes "client_secret") pairs ≡ false → filter (bears (codes "client_secret")) pairs ≡ []
none [] h = refl
none (pair ∷ pairs) h = none_step pair pairs (bears (codes "client_secret") pair) refl (none pairs) h

left_nil : (xs ys : List Pair) → xs ++ ys ≡ [] → xs ≡ []
left_nil [] ys h = refl
left_nil (x ∷ xs) ys h = cc

right_nil : (xs ys : List Pair) → xs ++ ys ≡ [] → ys ≡ []
right_nil [] ys h = h
right_nil (x ∷ xs) ys h = cc

-- ---- the body

-- the parameter `client_id`, and the secret if it is in the body
abbrev id_pairs : AuthType → List ℕ → Option (List ℕ) → List Pair
id_pairs auth_type id secret = (codes "client_id", id) ∷ optional_pair (codes "client_secret") (body_secret auth_type secret)

regrouped : (own credentials after : List Pair) → (((own ++ []) ++ credentials) ++ []) ++ after ≡ own ++ (credentials ++ after)
regrouped own credentials after =
    ap (λ l. l ++ after) (append-nil ((own ++ []) ++ credentials) ∙ ap (λ l. l ++ credentials) (append-nil own)) ∙ append_assoc own credentials after

-- the client's own pairs, its credentials in the body, and what follows
body : (auth_type : AuthType) (id : List ℕ) (secret : Option (List ℕ)) (before after : List Pair)
    → ((((before ++ identifier (basic_credentials auth_type id secret) id) ++ []) ++ body_credentials (basic_credentials auth_type id secret) id secret) ++ []) ++ after
    ≡ before ++ (id_pairs auth_type id secret ++ after)
body BasicAuth id (Some secret) before after =
    regrouped (before ++ (codes "client_id", id) ∷ []) [] after ∙ append_assoc before ((codes "client_id", id) ∷ []) after
body BasicAuth id None before after = regrouped (before ++ []) ((codes "client_id", id) ∷ []) after ∙ ap (λ l. l ++ (codes "client_id", id) ∷ after) (append-nil before)
body RequestBody id None before after = regrouped (before ++ []) ((codes "client_id", id) ∷ []) after ∙ ap (λ l. l ++ (codes "client_id", id) ∷ after) (append-nil before)
body RequestBody id (Some secret) before after =
    regrouped (before ++ []) ((codes "client_id", id) ∷ (codes "client_secret", secret) ∷ []) after
    ∙ ap (λ l. l ++ (codes "client_id", id) ∷ (codes "client_secret", secret) ∷ after) (append-nil before)

-- without the secret, the parameters are those around `client_id`
body_pairs : (auth_type : AuthType) (id : List ℕ) (secret : Option (List ℕ)) (before after : List Pair)
    → without_secret (before ++ (id_pairs auth_type id secret ++ after)) ≡ without_secret (before ++ (codes "client_id", id) ∷ after)
body_pairs BasicAuth id (Some secret) before after = refl
body_pairs BasicAuth id None before after = refl
body_pairs RequestBody id None before after = refl
body_pairs RequestBody id (Some secret) before after =
    filter-append _ before ((codes "client_id", id) ∷ (codes "client_secret", secret) ∷ after)
    ∙ sym (filter-append _ before ((codes "client_id", id) ∷ after))

-- the secret is read, if it is in the body
body_reads : (auth_type : AuthType) (id : List ℕ) (secret : Option (List ℕ)) (before after : List Pair)
    → filter (bears (codes "client_secret")) (before ++ (codes "client_id", id) ∷ after) ≡ []
    → read_by_name (codes "client_secret") (before ++ (id_pairs auth_type id secret ++ after)) ≡ body_secret auth_type secret
body_reads BasicAuth id (Some secret) before after h = ap sole h
body_reads BasicAuth id None before after h = ap sole h
body_reads RequestBody id None before after h = ap sole h
body_reads RequestBody id (Some secret) before after h =
    let parts = sym (filter-append (bears (codes "client_secret")) before ((codes "client_id", id) ∷ after)) ∙ h in
    let first = left_nil _ _ parts in
    let last = right_nil _ _ parts in
    ap sole (filter-append (bears (codes "client_secret")) before ((codes "client_id", id) ∷ (codes "client_secret", secret) ∷ after))
    ∙ ap (λ l. sole (l ++ (codes "client_secret", secret) ∷ filter (bears (codes "client_secret")) after)) first
    ∙ ap (λ l. sole ((codes "client_secret", secret) ∷ l)) last

pub IsPushOf-request : (r : PushedRequest) (text : List ℕ) (v : RequestView) → names_fault r.client.client_id r.pairs ≡ None
    → IsRequestOf (pushed_configuration r) text v → IsPushOf r v
IsPushOf-request r text v h is =
    let id = r.client.client_id in
    let auth_type = r.client.auth_type in
    let secret = r.client.client_secret in
    let before = before_name (codes "client_id") r.pairs in
    let after = after_name (codes "client_id") r.pairs in
    let two = names id r.pairs h in
    let whole = around (codes "client_id") id r.pairs two.1 in
    let sent : form v.body ≡ before ++ (id_pairs auth_type id secret ++ after) = is.form ∙ body auth_type id secret before after in
    record {
      pairs = ap without_secret sent ∙ body_pairs auth_type id secret before after ∙ ap without_secret whole ∙ absent r.pairs two.0;
      secret = ap (read_by_name (codes "client_secret")) sent ∙ body_reads auth_type id secret before after (ap (filter (bears (codes "client_secret"))) whole ∙ none r.pairs two.0);
      basic = is.basic;
    }

-- the same of a POST that may not have been built
pub IsPushOf-built : {F : Type 0} (r : PushedRequest) (text : List ℕ) (built : Result HttpRequest F) → names_fault r.client.client_id r.pairs ≡ None
    → IfOk built (λ q. IsRequestOf (pushed_configuration r) text (view_of q)) → IfOk built (λ q. IsPushOf r (view_of q))
IsPushOf-built r text (Ok q) h is = IsPushOf-request r text (view_of q) h is
IsPushOf-built r text (Err fault) h is = tt

-- ---- the parameters that a URL adds

and_both : (a b : Bool) → a ≡ true → b ≡ true → (a && b) ≡ true
and_both a b e f = ap (λ x. x && b) e ∙ f

same_itself : (pair : Pair) → same_pair pair pair ≡ true
same_itself pair = and_both _ _ ((bytes_eq-Decides pair.0 pair.0).1 refl) ((bytes_eq-Decides pair.1 pair.1).1 refl)

pub after_own : (own pairs : List Pair) → pairs_after own (own ++ pairs) ≡ Some pairs
after_own [] pairs = refl
after_own (pair ∷ own) pairs = cond-true _ _ _ (same_itself pair) ∙ after_own own pairs

and_left : (a b : Bool) → (a && b) ≡ true → a ≡ true
and_left true b h = refl
and_left false b h = h

and_right : (a b : Bool) → (a && b) ≡ true → b ≡ true
and_right true b h = h
and_right false b h = absurd (false≢true h)

whole_step : (own pair : Pair) (owns pairs added : List Pair) (same : Bool) → same_pair own pair ≡ same
    → (pairs_after owns pairs ≡ Some added → pairs ≡ owns ++ added)
    → pairs_after (own ∷ owns) (pair ∷ pairs) ≡ Some added → pair ∷ pairs ≡ (own ∷ owns) ++ added
whole_step own pair owns pairs added true is later h =
    let name = (bytes_eq-Decides own.0 pair.0).0 (and_left _ _ is) in
    let value = (bytes_eq-Decides own.1 pair.1).0 (and_right _ _ is) in
    ap (λ n. (n, pair.1) ∷ pairs) (sym name) ∙ ap (λ v. (own.0, v) ∷ pairs) (sym value)
    ∙ ap (λ more. own ∷ more) (later (sym (cond-true _ _ _ is) ∙ h))
whole_step own pair owns pairs added false is later h = absurd (None≢Some (sym (cond-false _ _ _ is) ∙ h))

pub after_whole : (own pairs added : List Pair) → pairs_after own pairs ≡ Some added → pairs ≡ own ++ added
after_whole [] pairs added h = cc
after_whole (own ∷ owns) [] added h = absurd (None≢Some h)
after_whole (own ∷ owns) (pair ∷ pairs) added h = whole_step own pair owns pairs added (same_pair own pair) refl (after_whole owns pairs added) h

pub added-extended : (endpoint url : Parts) (pairs : List Pair) → ExtendsQuery endpoint url pairs → added_pairs endpoint url ≡ Some pairs
added-extended endpoint url pairs extends = ap (pairs_after (query_form endpoint)) extends.form ∙ after_own (query_form endpoint) pairs

pub ruleset additions = (added-extended, after_whole)
