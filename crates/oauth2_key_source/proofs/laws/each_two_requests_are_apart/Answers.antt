use Rattle.oauth2_codes.specs.ErrorCodes.{error_code}
use Rattle.oauth2_codes.specs.ErrorResponse.{parts_of}
use Rattle.oauth2_key_source.specs.Request.{AsksForKeys}
use Rattle.oauth2_key_source.proofs.RunLaws.{are_apart}
use Rattle.oauth2_key_source.proofs.laws.each_two_requests_are_apart.Goals as goal

pub returns : goal.returns
returns g c = are_apart (AsksForKeys (parts_of error_code) g.C.SyncHttpClient.step)
