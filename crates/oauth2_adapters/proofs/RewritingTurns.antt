-- The members of an object as they are read and written, a turn at a time.
use Rattle.std.proofs.Common.{◌≡◌, ℕ, ◌-◌, ◌<◌, ◌≤◌, List, [], ◌∷◌, ◌++◌, length, Bool, true, false, ◌||◌, Option, Some, None, option_and_then, refl, sym, ap, ◌∙◌, arith, append_assoc}
use Rattle.std.specs.Prelude.{is_some, unwrap_or, Result, Ok, Err, OnErr, if◌then◌else◌}
use Rattle.json.specs.Lex.{tokens}
use Rattle.json.proofs.OnLiterals.{json_on_literals}
use Rattle.json.specs.Token.{Token}
use Rattle.json.specs.Json.{Json, object, Members, member, parse_map, read_key, members, value, if_last}
use Rattle.json.specs.Tree.{json_tokens, members_tokens}
use Rattle.json.proofs.Grammar.{members_end, members_no_key, members_more, members_fail, value-begin_object}
use Rattle.oauth2_adapters.specs.Objects.{members_of}
use Rattle.oauth2_adapters.specs.Rewriting.{Change, changes, changed_members, new_body}
use Rattle.oauth2_adapters.specs.private.First.{begins_with_brace}
use Rattle.oauth2_adapters.specs.private.Tokens.{object_at}
use Rattle.oauth2_adapters.specs.private.Written.{progress_in, text_at_end}
use Rattle.oauth2_adapters.proofs.ObjectTokens.{object_at-no_brace}

one_more : (a b c : Bool) → a || (b || c) ≡ (a || b) || c
one_more true b c = refl
one_more false b c = refl

same_flag : (a : Bool) → a || false ≡ a
same_flag true = refl
same_flag false = refl

-- a member's tokens go behind those that are written
tokens_more : (written : List Token) (k : List ℕ) (js ms : List Token) → written ++ Token.key k ∷ (js ++ ms) ≡ (written ++ Token.key k ∷ [] ++ js) ++ ms
tokens_more written k js ms = sym (simp append_assoc)

nothing : (b : Bool) (x y : Option (List ℕ)) → x ≡ None → y ≡ None → (if b then x else y) ≡ None
nothing true x y e f = e
nothing false x y e f = f

module _ (change : Change) where
  with_member : (changed : Bool) (written : List Token) (k : List ℕ) (j : Json) (o : Option (Members × List Token))
      → progress_in change changed written (parse_map (member k j) o) ≡ progress_in change (changed || is_some (change k j)) (written ++ Token.key k ∷ [] ++ json_tokens (unwrap_or (change k j) j)) o
  with_member changed written k j None = refl
  with_member changed written k j (Some p) =
      ap (λ b. Some ((b, written ++ Token.key k ∷ (json_tokens (unwrap_or (change k j) j) ++ members_tokens (changed_members change p.0))), p.1)) (one_more changed (is_some (change k j)) (changes change p.0))
      ∙ ap (λ ts. Some (((changed || is_some (change k j)) || changes change p.0, ts), p.1)) (tokens_more written k (json_tokens (unwrap_or (change k j) j)) (members_tokens (changed_members change p.0)))

  member_written : (changed : Bool) (written : List Token) (n : ℕ) (k : List ℕ) (ts s r : List Token) (j : Json) → 0 < n → read_key ts ≡ Some (Some k, s) → value 126 s ≡ Some (j, r)
      → progress_in change changed written (members (value 126) n ts) ≡ progress_in change (changed || is_some (change k j)) (written ++ Token.key k ∷ [] ++ json_tokens (unwrap_or (change k j) j)) (members (value 126) (n - 1) r)
  member_written changed written n k ts s r j some key read =
      ap (progress_in change changed written) (members_more (value 126) n k ts s r j some key read) ∙ with_member changed written k j _

  -- one more turn of the loop
  pub turn : (changed after : Bool) (written more : List Token) (n : ℕ) (k : List ℕ) (ts s r : List Token) (j : Json) → 0 < n → read_key ts ≡ Some (Some k, s) → value 126 s ≡ Some (j, r)
      → changed || is_some (change k j) ≡ after → more ≡ written ++ Token.key k ∷ [] ++ json_tokens (unwrap_or (change k j) j)
      → progress_in change changed written (members (value 126) n ts) ≡ progress_in change after more (members (value 126) (n - 1) r)
  turn changed after written more n k ts s r j some key read flag tokens =
      member_written changed written n k ts s r j some key read
      ∙ ap (λ b. progress_in change b (written ++ Token.key k ∷ [] ++ json_tokens (unwrap_or (change k j) j)) (members (value 126) (n - 1) r)) flag
      ∙ ap (λ w. progress_in change after w (members (value 126) (n - 1) r)) (sym tokens)

  pub no_member : (changed : Bool) (written : List Token) (n : ℕ) (k : List ℕ) (ts s : List Token) → read_key ts ≡ Some (Some k, s) → value 126 s ≡ None → progress_in change changed written (members (value 126) n ts) ≡ None
  no_member changed written n k ts s key none = ap (progress_in change changed written) (members_fail (value 126) n k ts s key none)

  pub no_key : (changed : Bool) (written : List Token) (n : ℕ) (ts : List Token) → read_key ts ≡ None → progress_in change changed written (members (value 126) n ts) ≡ None
  no_key changed written n ts e = ap (progress_in change changed written) (members_no_key (value 126) n ts e)

  pub brace_written : (changed : Bool) (written : List Token) (n : ℕ) (ts r : List Token) → length ts ≤ n → read_key ts ≡ Some (None, r) → progress_in change changed written (members (value 126) n ts) ≡ Some ((changed, written ++ Token.end_object ∷ []), r)
  brace_written changed written n ts r enough e =
      ap (progress_in change changed written) (members_end (value 126) n ts r enough e) ∙ ap (λ b. Some ((b, written ++ Token.end_object ∷ []), r)) (same_flag changed)

  -- ---- the whole text

  whole_object : (o : Option (Members × List Token)) → new_body change (option_and_then members_of (option_and_then (λ p. if_last p.0 p.1) (parse_map object o))) ≡ text_at_end (progress_in change false (Token.begin_object ∷ []) o)
  whole_object None = refl
  whole_object (Some (ms, [])) = refl
  whole_object (Some (ms, t ∷ ts)) = sym (nothing (changes change ms) None None refl refl)

  opened : (all ts old : List Token) → all ≡ Token.begin_object ∷ ts → old ≡ Token.begin_object ∷ [] → new_body change (object_at all) ≡ text_at_end (progress_in change false old (members (value 126) (length ts) ts))
  opened all ts old first begun =
      ap (λ all. new_body change (object_at all)) first
      ∙ ap (λ o. new_body change (option_and_then members_of (option_and_then (λ p. if_last p.0 p.1) o))) (value-begin_object 127 ts (omega arith))
      ∙ whole_object (members (value 126) (length ts) ts)
      ∙ ap (λ w. text_at_end (progress_in change false w (members (value 126) (length ts) ts))) (sym begun)

  -- the members were written, and these tokens follow
  pub finished : (all ts old r written : List Token) (changed : Bool) → all ≡ Token.begin_object ∷ ts → old ≡ Token.begin_object ∷ []
      → progress_in change false old (members (value 126) (length ts) ts) ≡ Some ((changed, written), r) → new_body change (object_at all) ≡ text_at_end (Some ((changed, written), r))
  finished all ts old r written changed first begun e = opened all ts old first begun ∙ ap text_at_end e

  pub unfinished : (all ts old : List Token) → all ≡ Token.begin_object ∷ ts → old ≡ Token.begin_object ∷ []
      → progress_in change false old (members (value 126) (length ts) ts) ≡ None → new_body change (object_at all) ≡ None
  unfinished all ts old first begun e = opened all ts old first begun ∙ ap text_at_end e

  pub not_opened : (all : List Token) → begins_with_brace all ≡ false → new_body change (object_at all) ≡ None
  not_opened all e = ap (new_body change) (object_at-no_brace all e)

nonempty : (text : List ℕ) → 0 < length (tokens text) → 0 < length text
unfolding json_on_literals
nonempty [] some = some
nonempty (b ∷ text) some = omega arith

-- a text that has a token is not empty
pub on_err_nonempty : {A E : Type 0} (r : Result A E) (text : List ℕ) → OnErr r (0 < length (tokens text)) → OnErr r (0 < length text)
on_err_nonempty (Ok a) text h = tt
on_err_nonempty (Err e) text h = nonempty text h
