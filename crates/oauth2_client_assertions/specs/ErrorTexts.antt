-- The texts of errors of a client that adds assertions.
use Rattle.std.specs.Prelude.{ℕ, List, Option, Some, codes}
use Rattle.oauth2_client_assertions.specs.declared.error.AssertingError.{AssertingError}
use Rattle.oauth2_client_assertions.specs.declared.error.AssertingError.TheVariants.{OtherTarget, OtherAuthentication, Source, Memory, Client}

-- the text of an error; an error of the inner client or of the source has its own text
abbrev pub asserting_error_text : {C S : Type 0} → (C → Option (List ℕ)) → (S → Option (List ℕ))
    → AssertingError C S → Option (List ℕ)
asserting_error_text client_text source_text OtherTarget =
    Some (codes "the request goes to no endpoint of the server")
asserting_error_text client_text source_text OtherAuthentication =
    Some (codes "the request authenticates the client already")
asserting_error_text client_text source_text (Source error) = source_text error
asserting_error_text client_text source_text Memory = Some (codes "out of memory")
asserting_error_text client_text source_text (Client error) = client_text error
