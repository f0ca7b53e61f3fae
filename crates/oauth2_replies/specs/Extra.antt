-- Extra fields (`ExtraFields`): the members of a response that its standard does not name.
use Rattle.serde_json.specs.Data.{Members}
use Rattle.serde_json.specs.View.{view}
use Rattle.oauth2_replies.specs.Kept.{members_in}
use Rattle.oauth2_replies.specs.declared.extra_fields.ExtraFields.{ExtraFields}

-- the members that the extra fields hold
abbrev pub extra_members : ExtraFields → Members
extra_members fields = members_in (view fields.value)
