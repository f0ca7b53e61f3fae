-- A token that can be revoked reads back.
use Rattle.std.proofs.Common.{◌≡◌, Ok, codes, refl}
use Rattle.serde_json.specs.Data.{Data, no_members, member, string, object}
use Rattle.oauth2_replies.specs.Revocable.{revocable_reading, revocable_writing}
use Rattle.oauth2_replies.specs.declared.revocation.StandardRevocableToken.{StandardRevocableToken}
use Rattle.oauth2_replies.specs.declared.revocation.StandardRevocableToken.TheVariants.{AccessToken, RefreshToken}

pub read_again : (token : StandardRevocableToken) (d : Data) → revocable_writing token ≡ Ok d → revocable_reading d ≡ Ok token
read_again (AccessToken text) d h = let is : d ≡ object (member (codes "AccessToken") (string text) no_members) = cc in rw is refl
read_again (RefreshToken text) d h = let is : d ≡ object (member (codes "RefreshToken") (string text) no_members) = cc in rw is refl
