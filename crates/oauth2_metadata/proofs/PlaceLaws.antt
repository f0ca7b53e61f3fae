-- The paths of metadata are paths of a web URL as they are.
use Rattle.std.proofs.Common.{◌≡◌, ◌≢◌, ◌⊎◌, ℕ, ◌+◌, ◌^◌, ◌<◌, ◌≤◌, Bool, true, false, cond, not, ◌&&◌, ◌==◌, List, [], ◌∷◌, ◌++◌, length, Option, Some, None, Result, Ok, Err, IfOk, IfErr, All, inl, inr, ⊎_elim, refl, sym, ap, ◌∙◌, subst, append-nil, arith, is_some, length-append, true≢false}
use Rattle.std.specs.Prelude.{codes, unwrap_or}
use Rattle.std.specs.List.{list_all}
use Rattle.std.proofs.lemmas.Bool.{cond-false, or_cases, and_parts, and_left, eqb-true}
use Rattle.std.proofs.lemmas.Grind.{flat_map-append}
use Rattle.std.proofs.lemmas.List.Elements.{All-nil, All-cons, All-append, All-weaker}
use Rattle.std.proofs.lemmas.List.Sums.{AllPass-from_list_all}
use Rattle.std.proofs.lemmas.Slice.Eq.{bytes_eq-Decides}
use Rattle.percent_encoding.specs.Percent.{IsKept}
use Rattle.percent_encoding.specs.AsciiSet.{should_percent_encode}
use Rattle.url.specs.declared.sets.TheConstants.{PATH}
use Rattle.url.specs.declared.scheme.SchemeType.{SchemeType}
use Rattle.url.specs.declared.scheme.SchemeType.TheVariants.{SpecialNotFile}
use Rattle.url.specs.Scheme.{default_port, scheme_type, is_special, is_slash}
use Rattle.url.specs.Input.{is_tab_or_new_line, is_empty, strip_tabs_and_new_lines}
use Rattle.url.specs.Parts.{Parts, kind_of, has_authority, needs_guard, offset, serialize, IsValid}
use Rattle.url.specs.declared.slicing.Position.TheVariants.{AfterPort, BeforePath}
use Rattle.url.proofs.PiecesLemmas.{steps}
use Rattle.url.specs.Parser.{with_path}
use Rattle.url.specs.Path.{dot_count, parse_path_start, IsSegment, IsSegmentList}
use Rattle.url.specs.Setters.{new_path, set_path}
use Rattle.url.proofs.InputLemmas.{filter_all, rsplit_once_at, is_empty_nonempty, Passes, IsNot}
use Rattle.url.proofs.PathLemmas.{IsNoSlash, without_last_valid}
use Rattle.url.proofs.RoundTrip.{stays_unless_file, parse_own_path}
use Rattle.url.proofs.SetLemmas.{passes_from_kept}
use Rattle.url.proofs.ValidLemmas.{segment_list_kept, special_has_authority, base_from_authority, hierarchical}
use Rattle.oauth2_metadata.specs.Issuer.{is_secure, issuer_refusal, trimmed, IsTooLong, IsPlaced}
use Rattle.oauth2_metadata.specs.declared.issuer.IssuerError.{IssuerError}
use Rattle.oauth2_metadata.specs.declared.issuer.IssuerError.TheVariants.{NotHttps, HasQuery, HasFragment, TooLong, Memory}

-- ---- the scheme

pub secure_kind : (url : Parts) → is_secure url ≡ true → kind_of url ≡ SpecialNotFile
unfolding scheme_type default_port
secure_kind url secure =
    ⊎_elim
    (λ is. ap scheme_type ((bytes_eq-Decides url.scheme (codes "https")).0 is))
    (λ is. ap scheme_type ((bytes_eq-Decides url.scheme (codes "http")).0 (and_parts _ _ is).0))
    (or_cases _ _ secure)

secure_if : (b : Bool) (o : Option IssuerError) → cond (not b) (Some NotHttps) o ≡ None → b ≡ true
secure_if true o h = refl
secure_if false o h = cc

pub issuer_kind : (url : Parts) → issuer_refusal url ≡ None → kind_of url ≡ SpecialNotFile
issuer_kind url h = secure_kind url (secure_if (is_secure url) _ h)

pub none_if : {A : Type 0} (o : Option A) → ((a : A) → o ≡ Some a → ⊥) → o ≡ None
none_if None h = refl
none_if (Some a) h = absurd (h a refl)

-- ---- the slash at the end

trimmed_at : (b : Bool) (c : ℕ) → (c == 47) ≡ b → ((front : List ℕ) → c ∷ [] ≢ front ++ 47 ∷ []) → cond b [] (c ∷ []) ≡ c ∷ []
trimmed_at true c is none = absurd (none [] (ap (λ n. n ∷ []) (eqb-true c 47 is)))
trimmed_at false c is none = refl

pub trimmed-slash : (front : List ℕ) → trimmed (front ++ 47 ∷ []) ≡ front
trimmed-slash [] = refl
trimmed-slash (b ∷ []) = refl
trimmed-slash (b ∷ c ∷ front) = ap (λ l. b ∷ l) (trimmed-slash (c ∷ front))

pub trimmed-other : (path : List ℕ) → ((front : List ℕ) → path ≢ front ++ 47 ∷ []) → trimmed path ≡ path
trimmed-other [] none = refl
trimmed-other (b ∷ []) none = trimmed_at (b == 47) b refl none
trimmed-other (b ∷ c ∷ path) none = ap (λ l. b ∷ l) (trimmed-other (c ∷ path) (λ front e. none (b ∷ front) (ap (λ l. b ∷ l) e)))

ends_at : (b : Bool) (c : ℕ) → (c == 47) ≡ b → ((front : List ℕ) × (c ∷ [] ≡ front ++ 47 ∷ [])) ⊎ (cond b [] (c ∷ []) ≡ c ∷ [])
ends_at true c is = inl ([], ap (λ n. n ∷ []) (eqb-true c 47 is))
ends_at false c is = inr refl

-- a path ends in a slash, or is not trimmed
ends : (path : List ℕ) → ((front : List ℕ) × (path ≡ front ++ 47 ∷ [])) ⊎ (trimmed path ≡ path)
ends [] = inr refl
ends (b ∷ []) = ends_at (b == 47) b refl
ends (b ∷ c ∷ path) =
    ⊎_elim
    (λ found. inl (b ∷ found.0, ap (λ l. b ∷ l) found.1))
    (λ none. inr (ap (λ l. b ∷ l) none))
    (ends (c ∷ path))

front_valid : (kind : SchemeType) (front : List ℕ) → IsSegmentList kind (front ++ 47 ∷ []) → IsSegmentList kind front
front_valid kind front list =
    subst (λ r. IsSegmentList kind (unwrap_or r.0 [])) (rsplit_once_at 47 front [] (All-nil (IsNot 47))) (without_last_valid kind (front ++ 47 ∷ []) list)

pub trimmed_valid : (kind : SchemeType) (path : List ℕ) → IsSegmentList kind path → IsSegmentList kind (trimmed path)
trimmed_valid kind path list =
    ⊎_elim
    (λ found. subst (IsSegmentList kind) (sym (ap trimmed found.1 ∙ trimmed-slash found.0)) (front_valid kind found.0 (subst (IsSegmentList kind) found.1 list)))
    (λ none. subst (IsSegmentList kind) (sym none) list)
    (ends path)

-- ---- lists of segments

append_valid : (kind : SchemeType) (front back : List ℕ) → IsSegmentList kind front → IsSegmentList kind back → IsSegmentList kind (front ++ back)
append_valid kind front back first later = record {
  segments = first.segments ++ later.segments;
  joined = (λ i. first.joined i ++ later.joined i) ∙ sym (flat_map-append (λ segment. 47 ∷ segment) first.segments later.segments);
  each = All-append (IsSegment kind) first.segments later.segments first.each later.each;
}

kept_by_test : (s : List ℕ) → list_all (λ b. not (should_percent_encode PATH b)) s ≡ true → All (IsKept PATH) s
kept_by_test s h = All-weaker _ (IsKept PATH) (λ b e. off _ e) s (AllPass-from_list_all _ s h)
  where
    off : (b : Bool) → not b ≡ true → b ≡ false
    off true e = sym e
    off false e = refl

whole_by_test : (s : List ℕ) → list_all (λ b. not (is_slash SpecialNotFile b)) s ≡ true → All (IsNoSlash SpecialNotFile) s
whole_by_test s h = All-weaker _ (IsNoSlash SpecialNotFile) (λ b e. off _ e) s (AllPass-from_list_all _ s h)
  where
    off : (b : Bool) → not b ≡ true → b ≡ false
    off true e = sym e
    off false e = refl

segment : (s : List ℕ) → list_all (λ b. not (should_percent_encode PATH b)) s ≡ true → list_all (λ b. not (is_slash SpecialNotFile b)) s ≡ true → dot_count s ≡ 0 → IsSegment SpecialNotFile s
segment s kept whole dots = record { escaped = kept_by_test s kept; whole = whole_by_test s whole; resolved = dots }

two_segments : (s t : List ℕ) → IsSegment SpecialNotFile s → IsSegment SpecialNotFile t → IsSegmentList SpecialNotFile (47 ∷ (s ++ 47 ∷ t))
two_segments s t first second = record {
  segments = s ∷ t ∷ [];
  joined = ap (λ l. 47 ∷ (s ++ 47 ∷ l)) (sym (append-nil t));
  each = All-cons (IsSegment SpecialNotFile) s (t ∷ []) first (All-cons (IsSegment SpecialNotFile) t [] second (All-nil (IsSegment SpecialNotFile)));
}

pub server_segments : IsSegmentList SpecialNotFile (codes "/.well-known/oauth-authorization-server")
unfolding dot_count should_percent_encode
server_segments =
    two_segments (codes ".well-known") (codes "oauth-authorization-server") (segment (codes ".well-known") refl refl refl) (segment (codes "oauth-authorization-server") refl refl refl)

pub openid_segments : IsSegmentList SpecialNotFile (codes "/.well-known/openid-configuration")
unfolding dot_count should_percent_encode
openid_segments =
    two_segments (codes ".well-known") (codes "openid-configuration") (segment (codes ".well-known") refl refl refl) (segment (codes "openid-configuration") refl refl refl)

own_segments : (url : Parts) → IsValid url → kind_of url ≡ SpecialNotFile → IsSegmentList SpecialNotFile url.path
own_segments url valid kind =
    let authority = special_has_authority url valid.head (ap is_special kind) in
    subst (λ k. IsSegmentList k url.path) kind (hierarchical url valid.path (base_from_authority url authority)).0

pub server_path : (url : Parts) → IsValid url → kind_of url ≡ SpecialNotFile → IsSegmentList SpecialNotFile (codes "/.well-known/oauth-authorization-server" ++ trimmed url.path)
server_path url valid kind =
    append_valid SpecialNotFile _ _ server_segments (trimmed_valid SpecialNotFile url.path (own_segments url valid kind))

pub openid_path : (url : Parts) → IsValid url → kind_of url ≡ SpecialNotFile → IsSegmentList SpecialNotFile (trimmed url.path ++ codes "/.well-known/openid-configuration")
openid_path url valid kind =
    append_valid SpecialNotFile _ _ (trimmed_valid SpecialNotFile url.path (own_segments url valid kind)) openid_segments

-- ---- another path

unstripped : (path : List ℕ) → All (IsKept PATH) path → strip_tabs_and_new_lines path ≡ path
unfolding strip_tabs_and_new_lines
unstripped path kept =
    let test = λ (b : ℕ). not (is_tab_or_new_line b) in
    filter_all test path (All-weaker (IsKept PATH) (Passes test) (passes_from_kept PATH test refl) path kept)

-- a path of segments is set as it is
pub set_own_path : (url : Parts) (path : List ℕ) → IsValid url → kind_of url ≡ SpecialNotFile → IsSegmentList SpecialNotFile path → 0 < length path → set_path url path ≡ with_path url path
set_own_path url path valid kind list some =
    let authority = special_has_authority url valid.head (ap is_special kind) in
    let clean = unstripped path (segment_list_kept SpecialNotFile path list) in
    let some_byte : (is_empty path && not (has_authority url)) ≡ false = and_left _ _ (is_empty_nonempty path some) in
    ap (with_path url)
    (ap (new_path url) clean ∙ cond-false _ _ _ (base_from_authority url authority) ∙ cond-false _ _ _ some_byte
    ∙ ap (λ k. parse_path_start k [] path) kind
    ∙ parse_own_path SpecialNotFile path (stays_unless_file SpecialNotFile [] _ refl) list (λ _. some))

-- ---- the text

ends_none : (b : Bool) (q f : Option (List ℕ)) → cond (not b) (Some NotHttps) (cond (is_some q) (Some HasQuery) (cond (is_some f) (Some HasFragment) None)) ≡ None
    → (q ≡ None) × (f ≡ None)
ends_none true None None h = (refl, refl)
ends_none true None (Some f) h = cc
ends_none true (Some q) f h = cc
ends_none false q f h = cc

-- an issuer ends behind its path
pub issuer_ends : (url : Parts) → issuer_refusal url ≡ None → (url.query ≡ None) × (url.fragment ≡ None)
issuer_ends url h = ends_none (is_secure url) url.query url.fragment h

guard_free : (url : Parts) → has_authority url ≡ true → needs_guard url ≡ false
guard_free url authority = rw authority refl

text_length : (url : Parts) (path : List ℕ) → has_authority url ≡ true → url.query ≡ None → url.fragment ≡ None
    → length (serialize (with_path url path)) ≡ offset url BeforePath + length path
text_length url path authority query fragment =
    let moved = with_path url path in
    let s = steps moved in
    let t = steps url in
    let one : ℕ = 1 in
    let two : ℕ = 2 in
    let none : ℕ = 0 in
    let a : cond (is_some moved.query) one none ≡ none = ap (λ (o : Option (List ℕ)). cond (is_some o) one none) query in
    let b : length (unwrap_or moved.query []) ≡ none = ap (λ (o : Option (List ℕ)). length (unwrap_or o [])) query in
    let d : cond (is_some moved.fragment) one none ≡ none = ap (λ (o : Option (List ℕ)). cond (is_some o) one none) fragment in
    let e : length (unwrap_or moved.fragment []) ≡ none = ap (λ (o : Option (List ℕ)). length (unwrap_or o [])) fragment in
    let f : cond (needs_guard moved) two none ≡ none = ap (λ b. cond b two none) (guard_free moved authority) in
    let g : cond (needs_guard url) two none ≡ none = ap (λ b. cond b two none) (guard_free url authority) in
    let port : offset moved AfterPort ≡ offset url AfterPort = refl in
    omega (arith, s.whole, s.after_fragment, s.before_fragment, s.after_query, s.before_query, s.after_path, s.before_path, t.before_path, a, b, d, e, f, g, port)

-- the length of an issuer's text with another path
pub issuer_length : (url : Parts) (path : List ℕ) → IsValid url → issuer_refusal url ≡ None → length (serialize (with_path url path)) ≡ offset url BeforePath + length path
issuer_length url path valid issues =
    let authority = special_has_authority url valid.head (ap is_special (issuer_kind url issues)) in
    let none = issuer_ends url issues in
    text_length url path authority none.0 none.1

-- whether that is too long, by the lengths of the two parts of the path
pub long_path : (url : Parts) (front back : List ℕ) → IsValid url → issuer_refusal url ≡ None → 2 ^ 32 ≤ offset url BeforePath + (length front + length back) → IsTooLong (with_path url (front ++ back))
long_path url front back valid issues long = omega (arith, issuer_length url (front ++ back) valid issues, length-append front back, long)

pub short_path : (url : Parts) (front back : List ℕ) → IsValid url → issuer_refusal url ≡ None → (2 ^ 32 ≤ offset url BeforePath + (length front + length back) → false ≡ true) → ¬ (IsTooLong (with_path url (front ++ back)))
short_path url front back valid issues short = λ long.
    let sum : 2 ^ 32 ≤ offset url BeforePath + (length front + length back) = omega (arith, issuer_length url (front ++ back) valid issues, length-append front back, long) in
    absurd (true≢false (sym (short sum)))

-- ---- the result

-- the URL is refused, for its length alone
pub too_long : (place : Parts → Parts) (issuer : Parts) (path : List ℕ) → issuer_refusal issuer ≡ None → with_path issuer path ≡ place issuer → IsTooLong (with_path issuer path)
    → IsPlaced place issuer (Err TooLong)
too_long place issuer path issues at long = inr (issues, inl (refl, subst IsTooLong at long))

-- memory ran out for a URL that is not too long
pub no_memory : (place : Parts → Parts) (issuer : Parts) (path : List ℕ) (error : IssuerError) → issuer_refusal issuer ≡ None → with_path issuer path ≡ place issuer → ¬ (IsTooLong (with_path issuer path))
    → error ≡ Memory → IsPlaced place issuer (Err error)
no_memory place issuer path error issues at short is = inr (issues, inr (is, subst (λ url. ¬ (IsTooLong url)) at short))

pub placed : (place : Parts → Parts) (issuer : Parts) (path : List ℕ) (result : Result Parts IssuerError) → issuer_refusal issuer ≡ None → with_path issuer path ≡ place issuer → ¬ (IsTooLong (with_path issuer path))
    → IfOk result (λ url. url ≡ with_path issuer path) → IfErr result (λ error. error ≡ Memory) → IsPlaced place issuer result
placed place issuer path (Ok url) issues at short ok err = (issues, ok ∙ at)
placed place issuer path (Err error) issues at short ok err = no_memory place issuer path error issues at short err
