-- A URL that was read is that of its text, and is read again from it.
use Rattle.std.proofs.Common.{◌≡◌, ℕ, List, Option, Some, None, option_map, Ok, Err, refl, sym, ap, subst, ◌∙◌}
use Rattle.std.specs.Option.{ForSome}
use Rattle.serde_json.specs.Data.{Data, Members, null, boolean, number, string, array, object}
use Rattle.serde_json.specs.Find.{get_member}
use Rattle.url.specs.Parser.{Parsed, parse_url}
use Rattle.url.specs.Parts.{Parts}
use Rattle.oauth2_urls.specs.Addressed.{Addressed}
use Rattle.oauth2_json.specs.Reading.{Reading, whole, at_member, ◌⊛◌}
use Rattle.oauth2_json.specs.declared.read.ParseCause.TheVariants as cause
use Rattle.oauth2_json.specs.Members.{optional_member}
use Rattle.oauth2_json.specs.Values.{url}
use Rattle.oauth2_metadata.specs.Kinds.{address_data}
use Rattle.oauth2_replies.specs.private.Address.{IsAddress}

abbrev text_and_url : List ℕ → List ℕ → Parsed Parts → Reading (Option Addressed)
text_and_url name s p = Ok Some ⊛ at_member name (elim p [ Ok u ↦ Ok (record { text = s; url = u }) | Err e ↦ Err (whole cause.BadUrl) ])

address_at : (p : Parsed Parts) (name s : List ℕ) (a : Addressed) → parse_url None s ≡ p → text_and_url name s p ≡ Ok (Some a) → IsAddress a
unfolding IsAddress
address_at (Ok u) name s a is h =
    let t : a.text ≡ s = cc in
    let v : a.url ≡ u = cc in
    rw (t, v) is
address_at (Err e) name s a is h = cc

address_of : (name : List ℕ) (d : Option Data) (a : Addressed) → optional_member url name d ≡ Ok (Some a) → IsAddress a
address_of name None a h = cc
address_of name (Some null) a h = cc
address_of name (Some (boolean b)) a h = cc
address_of name (Some (number n)) a h = cc
address_of name (Some (string s)) a h = address_at (parse_url None s) name s a refl h
address_of name (Some (array ds)) a h = cc
address_of name (Some (object ms)) a h = cc

pub address_read : (name : List ℕ) (d : Option Data) (o : Option Addressed) → optional_member url name d ≡ Ok o → ForSome o IsAddress
address_read name d o h a is = address_of name d a (h ∙ ap (λ (u : Option Addressed). Ok u) is)

same_url : (o : Option Addressed) → option_map (λ u. u) o ≡ o
same_url None = refl
same_url (Some u) = refl

-- what a kind of members saw of a URL
pub seen_address : (o : Option Addressed) → ForSome (option_map (λ u. u) o) IsAddress → ForSome o IsAddress
seen_address o = subst (λ (u : Option Addressed). ForSome u IsAddress) (same_url o)

pub told_address : (name : List ℕ) (ms : Members) (o : Option Addressed) → optional_member url name (get_member name ms) ≡ Ok (option_map (λ u. u) o) → ForSome o IsAddress
told_address name ms o h = seen_address o (address_read name (get_member name ms) (option_map (λ u. u) o) h)

pub optional-address : (name : List ℕ) (o : Option Addressed) → ForSome o IsAddress → optional_member url name (option_map address_data o) ≡ Ok o
unfolding IsAddress
optional-address name None h = refl
optional-address name (Some a) h = subst (λ p. text_and_url name a.text p ≡ Ok (Some a)) (sym (h a refl)) refl
