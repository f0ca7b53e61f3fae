-- Authorization details that are written read back.
use Rattle.std.proofs.Common.{ap}
use Rattle.std.specs.Prelude.{◌≡◌, Bool, Ok, Err, if◌then◌else◌}
use Rattle.oauth2_json.specs.Reading.{whole}
use Rattle.oauth2_json.specs.declared.read.ParseCause.TheVariants as cause
use Rattle.oauth2_grants.specs.authorization_details.Details.{details_reading}
use Rattle.oauth2_grants.specs.authorization_details.Shown.{details_of}
use Rattle.oauth2_grants.specs.declared.authorization_details.authorization_details.AuthorizationDetails.{AuthorizationDetails}

-- the value of details reads to itself
pub details_read_back : (details : AuthorizationDetails)
    → details_reading (details_of details) ≡ Ok (details_of details)
details_read_back details =
    ap (λ (good : Bool). if good then Ok (details_of details) else Err (whole cause.Refused)) details.valid
