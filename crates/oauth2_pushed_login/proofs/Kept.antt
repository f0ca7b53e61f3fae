-- The two members of metadata read back.
use Rattle.std.proofs.Common.{◌≡◌, ℕ, List, Option, Ok, option_map, refl, subst}
use Rattle.std.specs.Option.{ForSome}
use Rattle.serde_json.specs.Data.{Data, Members, no_members}
use Rattle.serde_json.specs.Find.{get_member}
use Rattle.oauth2_urls.specs.Addressed.{Addressed}
use Rattle.oauth2_json.specs.Members.{optional_member}
use Rattle.oauth2_json.specs.Values.{url}
use Rattle.oauth2_metadata.proofs.Addresses.{optional-address, told_address}
use Rattle.oauth2_metadata.proofs.TextLists.{optional-flag}
use Rattle.oauth2_body_members.proofs.Tables.{read_back}
use Rattle.oauth2_replies.specs.Kept.{AreFieldsKept}
use Rattle.oauth2_replies.specs.private.Address.{IsAddress}
use Rattle.oauth2_pushed_login.specs.PushMembers.{PushMembers, push_fields, push_members, push_reading, push_members_in, push_table, push_writing}

again : (m : PushMembers) → ForSome m.pushed_authorization_request_endpoint IsAddress → push_members_in (push_fields m) ≡ Ok m
again m is =
    read_back push_table push_members m (m.pushed_authorization_request_endpoint, (m.require_pushed_authorization_requests, tt)) no_members refl refl
    (optional-address _ m.pushed_authorization_request_endpoint is, (optional-flag _ m.require_pushed_authorization_requests, tt))

pub push_kept : (m : PushMembers) → ForSome m.pushed_authorization_request_endpoint IsAddress → AreFieldsKept push_reading (λ (n : PushMembers). n) push_writing m
push_kept m is = record { members = push_fields m; written = refl; back = again m is }

-- a URL that was read is that of its text
pub read_address : (name : List ℕ) (ms : Members) (found : Option Data) (endpoint : Option Addressed) → found ≡ get_member name ms
    → optional_member url name found ≡ Ok (option_map (λ u. u) endpoint) → ForSome endpoint IsAddress
read_address name ms found endpoint is read =
    told_address name ms endpoint (subst (λ (o : Option Data). optional_member url name o ≡ Ok (option_map (λ u. u) endpoint)) is read)
