-- Members that were found in a body.
use Rattle.std.proofs.Common.{◌≡◌, ℕ, ◌+◌, ◌<◌, List, [], ◌∷◌, ◌++◌, length, take, drop, set, get_or, map, sym, ap, ◌∙◌, arith}
use Rattle.std.proofs.lemmas.List.{map-append, take_more, take_more_set, drop_more, drop-set-lt}
use Rattle.serde_json.specs.Data.{no_members, put}
use Rattle.oauth2_body_members.specs.Object.{put_each, entry_of}
use Rattle.oauth2_body_members.specs.private.Found.{found_value, found_entry, found_members}
use Rattle.oauth2_body_members.specs.declared.member.Member.{Member}
use Rattle.oauth2_body_members.proofs.Turns.{put_each-append}

pub found_members-push : (list : List Member) (m : Member) → found_members (list ++ m ∷ []) ≡ put m.name.now (found_value m) (found_members list)
found_members-push list m = ap (λ es. put_each es no_members) (map-append found_entry list (m ∷ [])) ∙ put_each-append (map found_entry list) (found_entry m) no_members

-- ---- one more text that is copied: the list as it was found, and as it is at the place n

same_here : (found list : List Member) (n : ℕ) (m : Member) → get_or list n m ≡ m → n < length list → n < length found → drop n list ≡ drop n found
    → (get_or found n m ≡ m) × (drop (n + 1) list ≡ drop (n + 1) found)
same_here found list n m is within there same =
    let here = drop_more list n m within in
    let was = drop_more found n m there in
    (cc, cc)

module _ (found list : List Member) (n : ℕ) (m copy : Member) (is : get_or list n m ≡ m) (within : n < length list) (there : n < length found) (same : drop n list ≡ drop n found) where
  pub one_copied : entry_of copy ≡ found_entry m → map entry_of (take n list) ≡ map found_entry (take n found) → map entry_of (take (n + 1) (set list n copy)) ≡ map found_entry (take (n + 1) found)
  one_copied entry done =
      ap (map entry_of) (take_more_set list n copy within) ∙ map-append entry_of (take n list) (copy ∷ [])
      ∙ ap (λ es. es ++ entry_of copy ∷ []) done ∙ ap (λ e. map found_entry (take n found) ++ e ∷ []) entry
      ∙ sym (ap (map found_entry) (take_more found n m there ∙ ap (λ f. take n found ++ f ∷ []) (same_here found list n m is within there same).0) ∙ map-append found_entry (take n found) (m ∷ []))

  pub one_fewer : drop (n + 1) (set list n copy) ≡ drop (n + 1) found
  one_fewer = drop-set-lt (n + 1) list n copy (omega arith) ∙ (same_here found list n m is within there same).1
