-- What `Display` writes of the errors.
use Rattle.std.specs.Prelude.{ℕ, List, ◌++◌, Option, Some, codes, decimal}
use Rattle.oauth2_wire.specs.Display.{fault_text}
use Rattle.oauth2_keys.specs.ErrorTexts.{signature_error_text}
use Rattle.oauth2_key_source.specs.declared.key_set_error.KeySetError.{KeySetError}
use Rattle.oauth2_key_source.specs.declared.key_set_error.KeySetError.TheVariants.{Reply, Status}
use Rattle.oauth2_key_source.specs.declared.source_error.KeySourceError.{KeySourceError}
use Rattle.oauth2_key_source.specs.declared.source_error.KeySourceError.TheVariants.{Request, Waits}
use Rattle.oauth2_key_source.specs.declared.url_error.KeySetUrlError.{KeySetUrlError}
use Rattle.oauth2_key_source.specs.declared.url_error.KeySetUrlError.TheVariants.{NotUrl, NotHttps, Memory}
use Rattle.oauth2_key_source.specs.declared.verify_error.VerifyError.{VerifyError}
use Rattle.oauth2_key_source.specs.declared.verify_error.VerifyError.TheVariants.{Keys, Signature}

-- why a text is no URL of a key set
abbrev pub url_error_text : KeySetUrlError → List ℕ
url_error_text NotUrl = codes "URL of the keys is not a URL"
url_error_text NotHttps = codes "URL of the keys is not an https URL"
url_error_text Memory = codes "Out of memory"

-- that of the server's error is `text`
module _ {RE T : Type 0} (text : T → Option (List ℕ)) where
  abbrev pub key_set_error_text : KeySetError RE T → Option (List ℕ)
  key_set_error_text (Reply error) = fault_text text error
  key_set_error_text (Status reply) =
      Some (codes "server answers the request for keys with status " ++ decimal reply.status)

  -- the end of a wait is not shown
  abbrev pub source_error_text : KeySourceError RE T → Option (List ℕ)
  source_error_text (Request error) = key_set_error_text error
  source_error_text (Waits until) = Some (codes "no keys to use, and none are asked for yet")

  abbrev pub verify_error_text : VerifyError RE T → Option (List ℕ)
  verify_error_text (Keys error) = source_error_text error
  verify_error_text (Signature error) = Some (signature_error_text error)
