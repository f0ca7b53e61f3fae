-- No response without extra fields holds a float.
use Rattle.std.proofs.Common.{◌≡◌, ℕ, ℤ, pos, negsuc, List, [], ◌∷◌, Bool, false, true, ◌||◌, Option, Some, None, option_map, refl}
use Rattle.std.specs.Ordering.{nat_cmp, match_ordering}
use Rattle.std.specs.declared.cmp.Ordering.{Ordering}
use Rattle.std.specs.declared.cmp.Ordering.TheVariants.{Less, Equal, Greater}
use Rattle.std.specs.Cmp.Lexicographic.{slice_cmp}
use Rattle.serde_json.specs.Data.{Data, Members, no_members, member, put, string, number, unsigned, array}
use Rattle.serde_json.specs.Find.{of_integer}
use Rattle.serde_json.specs.Written.{has_float, items_have_float, members_have_float}
use Rattle.oauth2_codes.specs.Codes.{token_code_text}
use Rattle.oauth2_json.specs.Members.{put_some}
use Rattle.oauth2_json.specs.Puts.{Row, put_all}
use Rattle.oauth2_json.specs.Values.{text_items}
use Rattle.oauth2_times.specs.Instants.{second_data, second_of}
use Rattle.oauth2_json.specs.Words.{joined_words}
use Rattle.oauth2_replies.specs.Device.{device_rows}
use Rattle.oauth2_introspection.specs.Introspection.{introspection_rows}
use Rattle.oauth2_replies.specs.Token.{Token, token_rows}
use Rattle.oauth2_request_commands.specs.Exchange.{BasicToken, token_data}
use Rattle.oauth2_request_commands.specs.DeviceAuthorization.{BasicDevice, device_data}
use Rattle.oauth2_request_commands.specs.Introspect.{BasicIntrospection, introspection_data}

or_false : (a b : Bool) → a ≡ false → b ≡ false → (a || b) ≡ false
or_false a b h g = rw (h, g) refl

left : (a b : Bool) → (a || b) ≡ false → a ≡ false
left false b h = refl
left true b h = cc

right : (a b : Bool) → (a || b) ≡ false → b ≡ false
right false b h = h
right true b h = cc

put_by : (o : Ordering) (k l : List ℕ) (d e : Data) (ms : Members) → has_float d ≡ false → has_float e ≡ false → members_have_float ms ≡ false
    → members_have_float (put k d ms) ≡ false → members_have_float (match_ordering o (member k d (member l e ms)) (member l d ms) (member l e (put k d ms))) ≡ false
put_by Less k l d e ms h f g below = or_false (has_float d) (has_float e || members_have_float ms) h (or_false (has_float e) (members_have_float ms) f g)
put_by Equal k l d e ms h f g below = or_false (has_float d) (members_have_float ms) h g
put_by Greater k l d e ms h f g below = or_false (has_float e) (members_have_float (put k d ms)) f below

put-no_float : (k : List ℕ) (d : Data) (ms : Members) → has_float d ≡ false → members_have_float ms ≡ false → members_have_float (put k d ms) ≡ false
put-no_float k d no_members h g = or_false (has_float d) false h refl
put-no_float k d (member l e ms) h g =
    let e_free : has_float e ≡ false = left (has_float e) (members_have_float ms) g in
    let ms_free : members_have_float ms ≡ false = right (has_float e) (members_have_float ms) g in
    put_by (slice_cmp nat_cmp k l) k l d e ms h e_free ms_free (put-no_float k d ms h ms_free)

abbrev pub FreeOf : Option Data → Type 0
FreeOf None = Unit {0}
FreeOf (Some d) = has_float d ≡ false

put_some-no_float : (k : List ℕ) (o : Option Data) (ms : Members) → FreeOf o → members_have_float ms ≡ false → members_have_float (put_some k o ms) ≡ false
put_some-no_float k None ms h g = g
put_some-no_float k (Some d) ms h g = put-no_float k d ms h g

pub texts_free : {A : Type 0} (f : A → List ℕ) (o : Option A) → FreeOf (option_map (λ x. string (f x)) o)
texts_free f None = tt
texts_free f (Some x) = refl

numbers_free : (o : Option ℕ) → FreeOf (option_map (λ n. number (unsigned n)) o)
numbers_free None = tt
numbers_free (Some n) = refl

pub integers_free : (z : ℤ) → has_float (number (of_integer z)) ≡ false
integers_free (pos n) = refl
integers_free (negsuc n) = refl

pub seconds_free : (o : Option ℤ) → FreeOf (option_map second_data o)
seconds_free None = tt
seconds_free (Some z) = integers_free (second_of z)

pub items_free : (texts : List (List ℕ)) → items_have_float (text_items texts) ≡ false
items_free [] = refl
items_free (text ∷ texts) = items_free texts

pub lists_free : (o : Option (List (List ℕ))) → FreeOf (option_map (λ list. array (text_items list)) o)
lists_free None = tt
lists_free (Some texts) = items_free texts

-- no row holds a float
abbrev pub AreFree : List Row → Type 0
AreFree [] = Unit {0}
AreFree (r ∷ rs) = FreeOf r.1 × AreFree rs

pub put_all-no_float : (rs : List Row) (ms : Members) → AreFree rs → members_have_float ms ≡ false → members_have_float (put_all rs ms) ≡ false
put_all-no_float [] ms h g = g
put_all-no_float (r ∷ rs) ms (h, hs) g = put_some-no_float r.0 r.1 (put_all rs ms) h (put_all-no_float rs ms hs g)

-- the members of every token response hold none, whatever text its type is
pub token_rows-free : {E T : Type 0} (token_type : List ℕ) (r : Token E T) → AreFree (token_rows (string token_type) r)
token_rows-free token_type r = (refl, (refl, (numbers_free r.expires_in, (texts_free (λ s. s) r.refresh_token, (texts_free joined_words r.scopes, tt)))))

pub token_data-no_float : (r : BasicToken) → has_float (token_data r) ≡ false
unfolding token_data
token_data-no_float r =
    put_all-no_float (token_rows (string (token_code_text r.token_type)) r) no_members (token_rows-free (token_code_text r.token_type) r) refl

pub device_data-no_float : (r : BasicDevice) → has_float (device_data r) ≡ false
unfolding device_data
device_data-no_float r =
    let free : AreFree (device_rows r) = (refl, (refl, (refl, (tt, (texts_free (λ s. s) r.verification_uri_complete, (refl, (refl, tt))))))) in
    put_all-no_float (device_rows r) no_members free refl

pub introspection_data-no_float : (r : BasicIntrospection) → has_float (introspection_data r) ≡ false
unfolding introspection_data
introspection_data-no_float r =
    let rows : List Row = introspection_rows (option_map (λ t. string (token_code_text t)) r.token_type) r in
    let free : AreFree rows = (
      refl,
      (
        texts_free joined_words r.scopes,
        (
          texts_free (λ s. s) r.client_id,
          (
            texts_free (λ s. s) r.username,
            (
              texts_free token_code_text r.token_type,
              (
                seconds_free r.exp,
                (
                  seconds_free r.iat,
                  (
                    seconds_free r.nbf,
                    (texts_free (λ s. s) r.sub, (lists_free r.aud, (texts_free (λ s. s) r.iss, (texts_free (λ s. s) r.jti, tt)))),
                  ),
                ),
              ),
            ),
          ),
        ),
      ),
    ) in
    put_all-no_float rows no_members free refl
