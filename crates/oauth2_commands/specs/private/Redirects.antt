-- What the code knows of a redirect without a code.
use Rattle.oauth2_codes.specs.AuthorizationCodes.{authorization_error_code}
use Rattle.oauth2_codes.specs.ErrorResponse.{parts_of}
use Rattle.oauth2_redirect.specs.declared.redirect.RedirectError.{RedirectError}
use Rattle.oauth2_redirect.specs.declared.redirect.RedirectError.TheVariants.{Refused}
use Rattle.oauth2_world.specs.Events.{Details, none, refused}
use Rattle.oauth2_commands.specs.Redirect.{redirect_error_members}

-- what is known of an error beside its text: the members of an error of the server
abbrev pub details_in : RedirectError → Details
details_in (Refused error) =
    refused (redirect_error_members (parts_of authorization_error_code error))
details_in error = none
