-- URLs with longer queries.
use Rattle.std.proofs.Common.{◌≡◌, ℕ, ◌<◌, ltb, Bool, true, not, ◌&&◌, List, [], ◌∷◌, ◌++◌, Some, None, All, IsAscii, refl, sym, ap, ◌∙◌, subst, append_assoc, arith}
use Rattle.std.specs.Prelude.{Option, IfSome, unwrap_or}
use Rattle.std.proofs.lemmas.Bool.Decides.{nat_tests}
use Rattle.std.proofs.lemmas.List.Sums.{fold-append}
use Rattle.std.proofs.lemmas.List.Elements.{All-nil, All-cons, All-append, All-weaker}
use Rattle.std.proofs.lemmas.Str.Ascii.{IsAscii-from_all}
use Rattle.percent_encoding.specs.declared.ascii_set.AsciiSet.{AsciiSet}
use Rattle.percent_encoding.specs.Percent.{IsKept, percent_encode}
use Rattle.percent_encoding.proofs.PercentLemmas.{percent_encode_unchanged}
use Rattle.form_urlencoded.specs.Form.{append_pair, extend_pairs, byte_serialize, separator}
use Rattle.url.specs.declared.sets.TheConstants.{FRAGMENT, QUERY, SPECIAL_QUERY}
use Rattle.url.specs.declared.scheme.SchemeType.{SchemeType}
use Rattle.url.specs.declared.scheme.SchemeType.TheVariants.{File, SpecialNotFile, NotSpecial}
use Rattle.url.specs.Input.{is_tab_or_new_line, strip_tabs_and_new_lines}
use Rattle.url.specs.Parts.{Parts, kind_of, query_set, IsValid}
use Rattle.url.specs.Setters.{set_query}
use Rattle.url.proofs.InputLemmas.{filter_all}
use Rattle.url.proofs.SetLemmas.{passes_from_kept}
use Rattle.url.proofs.SetterLemmas.{pairs_kept}
use Rattle.url.proofs.ValidLemmas.{option_unchanged}
use Rattle.oauth2_form.specs.Pairs.{Pair}
use Rattle.oauth2_form.specs.Pairs.{IsBytePair}
use Rattle.oauth2_form.specs.Query.{ExtendsQuery}
use Rattle.oauth2_form.specs.ExtendsForm.{ExtendsForm}
use Rattle.oauth2_form.proofs.FormLaws.{parse-extend_pairs, prefix_extend_pairs}

-- ---- forms

pub ExtendsForm-nil : (form : List ℕ) → ExtendsForm form form []
ExtendsForm-nil form = record { text = refl; bytes = All-nil IsBytePair }

pub ExtendsForm-pair : (old new : List ℕ) (pair : Pair) → IsBytePair pair → new ≡ append_pair old pair.0 pair.1 → ExtendsForm old new (pair ∷ [])
ExtendsForm-pair old new pair bytes is = record { text = is; bytes = All-cons IsBytePair pair [] bytes (All-nil IsBytePair) }

-- a pair whose name a form writes as it is, made by appending a separator, the name, a `=` and the value
pub ExtendsForm-plain_name : (old separated named marked new name value : List ℕ) → IsBytePair (name, value) → byte_serialize name ≡ name
    → separated ≡ old ++ separator old → named ≡ separated ++ name → marked ≡ named ++ 61 ∷ [] → new ≡ marked ++ byte_serialize value
    → ExtendsForm old new ((name, value) ∷ [])
ExtendsForm-plain_name old separated named marked new name value bytes plain separated_is named_is marked_is new_is =
    let start = old ++ separator old in
    let tail = byte_serialize value in
    let written = new_is ∙ ap (λ x. x ++ tail) (marked_is ∙ ap (λ x. x ++ 61 ∷ []) (named_is ∙ ap (λ x. x ++ name) separated_is)) in
    let regrouped = ap (λ x. x ++ tail) (append_assoc start name (61 ∷ [])) ∙ append_assoc start (name ++ 61 ∷ []) tail in
    ExtendsForm-pair old new (name, value) bytes (written ∙ regrouped ∙ ap (λ n. start ++ ((n ++ 61 ∷ []) ++ tail)) (sym plain))

-- one extension after another
pub ExtendsForm-then : {a b c : List ℕ} {pairs more : List Pair} → ExtendsForm a b pairs → ExtendsForm b c more → ExtendsForm a c (pairs ++ more)
ExtendsForm-then {a = a} {pairs = pairs} {more = more} first later = record {
  text = later.text ∙ ap (λ x. extend_pairs x more) first.text ∙ sym (fold-append (λ t p. append_pair t p.0 p.1) a pairs more);
  bytes = All-append IsBytePair pairs more first.bytes later.bytes;
}

-- an extension of equal texts
pub ExtendsForm-of_equals : {old new same_old same_new : List ℕ} {pairs : List Pair} → old ≡ same_old → same_new ≡ new → ExtendsForm old new pairs → ExtendsForm same_old same_new pairs
ExtendsForm-of_equals {old = old} {same_new = same_new} {pairs = pairs} old_is new_is extends =
    subst (λ form. ExtendsForm form same_new pairs) old_is (subst (λ form. ExtendsForm old form pairs) (sym new_is) extends)

-- ---- the query of a valid URL

-- ASCII, and neither a tab nor a new line
abbrev is_unstripped_ascii : ℕ → Bool
is_unstripped_ascii b = ltb b 128 && not (is_tab_or_new_line b)

unstripped_ascii-from_kept : (kind : SchemeType) (b : ℕ) → IsKept (query_set kind) b → is_unstripped_ascii b ≡ true
unstripped_ascii-from_kept File = passes_from_kept SPECIAL_QUERY is_unstripped_ascii refl
unstripped_ascii-from_kept SpecialNotFile = passes_from_kept SPECIAL_QUERY is_unstripped_ascii refl
unstripped_ascii-from_kept NotSpecial = passes_from_kept QUERY is_unstripped_ascii refl

kept-unwrap_or_nil : (set : AsciiSet) (part : Option (List ℕ)) → IfSome part (All (IsKept set)) → All (IsKept set) (unwrap_or part [])
kept-unwrap_or_nil set None kept = All-nil (IsKept set)
kept-unwrap_or_nil set (Some bytes) kept = kept

-- the bytes of an extended query need no escape there
kept-from_ExtendsForm : (url : Parts) (form : List ℕ) (pairs : List Pair) → IsValid url → ExtendsForm (unwrap_or url.query []) form pairs → All (IsKept (query_set (kind_of url))) form
kept-from_ExtendsForm url form pairs valid extends =
    subst (All (IsKept (query_set (kind_of url)))) (sym extends.text) (pairs_kept (kind_of url) pairs (unwrap_or url.query []) (kept-unwrap_or_nil _ url.query valid.query))

pub IsAscii-from_ExtendsForm : (url : Parts) (form : List ℕ) (pairs : List Pair) → IsValid url → ExtendsForm (unwrap_or url.query []) form pairs → IsAscii form
IsAscii-from_ExtendsForm url form pairs valid extends =
    IsAscii-from_all form
    (All-weaker (IsKept (query_set (kind_of url))) (λ b. b < 128) (λ b kept. let passes = unstripped_ascii-from_kept (kind_of url) b kept in grind (arith, nat_tests)) form
    (kept-from_ExtendsForm url form pairs valid extends))

strip-kept : (kind : SchemeType) (form : List ℕ) → All (IsKept (query_set kind)) form → strip_tabs_and_new_lines form ≡ form
unfolding strip_tabs_and_new_lines
strip-kept kind form kept =
    filter_all _ form (All-weaker (IsKept (query_set kind)) (λ b. not (is_tab_or_new_line b) ≡ true) (λ b k. let passes = unstripped_ascii-from_kept kind b k in grind (arith, nat_tests)) form kept)

-- a query that is set to an extended one is that text
pub set_query-extended : (url : Parts) (form : List ℕ) (pairs : List Pair) → IsValid url → ExtendsForm (unwrap_or url.query []) form pairs → set_query url (Some form) ≡ record url { query = Some form }
set_query-extended url form pairs valid extends =
    let kept = kept-from_ExtendsForm url form pairs valid extends in
    let set = query_set (kind_of url) in
    let query = ap (percent_encode set) (strip-kept (kind_of url) form kept) ∙ percent_encode_unchanged set form kept in
    let fragment = option_unchanged FRAGMENT url.fragment valid.fragment in
    rw (query, fragment) refl

pub ExtendsQuery-from_form : (url new : Parts) (form : List ℕ) (pairs : List Pair) → ExtendsForm (unwrap_or url.query []) form pairs → new ≡ record url { query = Some form } → ExtendsQuery url new pairs
ExtendsQuery-from_form url new form pairs extends new_is =
    let query = unwrap_or url.query [] in
    subst (λ n. ExtendsQuery url n pairs) (sym new_is)
    (subst (λ f. ExtendsQuery url (record url { query = Some f }) pairs) (sym extends.text)
    (record { text = refl; form = parse-extend_pairs query pairs extends.bytes; begins = prefix_extend_pairs query pairs; others = refl }))
