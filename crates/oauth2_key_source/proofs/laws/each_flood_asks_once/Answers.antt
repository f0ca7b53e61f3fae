use Rattle.oauth2_codes.specs.ErrorCodes.{error_code}
use Rattle.oauth2_codes.specs.ErrorResponse.{parts_of}
use Rattle.oauth2_key_source.specs.Request.{AsksForKeys}
use Rattle.oauth2_key_source.proofs.RunLaws.{asks_once}
use Rattle.oauth2_key_source.proofs.laws.each_flood_asks_once.Goals as goal

pub returns : goal.returns
returns g c = asks_once (AsksForKeys (parts_of error_code) g.C.SyncHttpClient.step)
