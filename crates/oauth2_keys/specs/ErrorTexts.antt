-- The texts that `Display` writes for the errors.
use Rattle.std.specs.Prelude.{ℕ, List, ◌++◌, codes}
use Rattle.rsa_signatures.specs.ErrorTexts.{key_error_text as rsa_error_text}
use Rattle.ecdsa_signatures.specs.ErrorTexts.{key_error_text as ecdsa_error_text}
use Rattle.eddsa_signatures.specs.ErrorTexts.{key_error_text as eddsa_error_text}
use Rattle.oauth2_keys.specs.Members.{member_name}
use Rattle.oauth2_keys.specs.declared.key_error.KeyError.{KeyError}
use Rattle.oauth2_keys.specs.declared.key_error.KeyError.TheVariants.{Private, Missing, WrongType, NotBase64, UnknownType, UnknownCurve, WrongSize, Rsa, Ecdsa, Eddsa}
use Rattle.oauth2_keys.specs.declared.key_members.KeyReadError.{KeyReadError}
use Rattle.oauth2_keys.specs.declared.key_members.KeyReadError.TheVariants.{Fault, Memory}
use Rattle.oauth2_keys.specs.declared.signature_error.SignatureError.{SignatureError}
use Rattle.oauth2_keys.specs.declared.signature_error.SignatureError.TheVariants.{OtherAlgorithm, CriticalExtension, NoKey, AmbiguousKey, UnusableKey, ShortSecret, WrongSignature}

-- the text for each fault of a key
abbrev pub key_error_text : KeyError → List ℕ
key_error_text Private = codes "the key is a private key or a secret"
key_error_text (Missing member) = codes "the key has no member " ++ member_name member
key_error_text (WrongType member) =
    codes "the member " ++ member_name member ++ codes " has another type"
key_error_text (NotBase64 member) =
    codes "the member " ++ member_name member ++ codes " is not base64url"
key_error_text UnknownType = codes "the key type is not RSA, EC or OKP"
key_error_text UnknownCurve = codes "the curve is not supported"
key_error_text (WrongSize member) =
    codes "the member " ++ member_name member ++ codes " is not as long as the curve says"
key_error_text (Rsa error) = rsa_error_text error
key_error_text (Ecdsa error) = ecdsa_error_text error
key_error_text (Eddsa error) = eddsa_error_text error

-- the text for each reason why a key could not be read
abbrev pub key_read_error_text : KeyReadError → List ℕ
key_read_error_text (Fault error) = key_error_text error
key_read_error_text Memory = codes "out of memory"

-- the text for each reason why a signature is refused
abbrev pub signature_error_text : SignatureError → List ℕ
signature_error_text OtherAlgorithm = codes "the algorithm is not the registered one"
signature_error_text CriticalExtension =
    codes "the header has an extension that has to be understood"
signature_error_text NoKey = codes "no key of the set is for the token"
signature_error_text AmbiguousKey = codes "several keys of the set are for the token"
signature_error_text (UnusableKey error) =
    codes "the key of the token is of no use: " ++ key_error_text error
signature_error_text ShortSecret = codes "the secret is shorter than a digest"
signature_error_text WrongSignature = codes "the signature is wrong"
