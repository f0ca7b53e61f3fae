-- Metadata with the two members is always written.
use Rattle.std.proofs.Common.{◌≡◌, Bool, true, false, Option, Some, None, Result, Ok, ap, refl}
use Rattle.serde_json.specs.Data.{Members, object}
use Rattle.oauth2_urls.specs.Addressed.{Addressed}
use Rattle.oauth2_json.specs.Members.{beside}
use Rattle.oauth2_json.specs.Puts.{put_all}
use Rattle.oauth2_json.specs.Writing.{WriteRefusal, write_then}
use Rattle.oauth2_metadata.specs.Metadata.{Metadata, metadata_names, metadata_rows, metadata_writing}
use Rattle.oauth2_pushed_login.specs.PushMembers.{PushMembers, push_fields, push_members, push_writing}

stands : (endpoint : Option Addressed) (required : Option Bool) → beside metadata_names (object (push_fields (push_members endpoint required))) ≡ Ok (push_fields (push_members endpoint required))
unfolding metadata_names
stands None None = refl
stands None (Some required) = refl
stands (Some endpoint) None = refl
stands (Some endpoint) (Some required) = refl

pub always_written : (m : Metadata PushMembers) → metadata_writing push_writing m ≡ Ok (object (put_all (metadata_rows m) (push_fields m.extra_fields)))
always_written m =
    ap (λ (r : Result Members WriteRefusal). write_then r (λ ms. Ok (object (put_all (metadata_rows m) ms))))
    (stands m.extra_fields.pushed_authorization_request_endpoint m.extra_fields.require_pushed_authorization_requests)
