-- Optional members, read back.
use Rattle.std.proofs.Common.{◌≡◌, ℕ, List, map, true, Vec, Global, Option, Some, None, option_map, IfSome, Ok, refl}
use Rattle.std.proofs.lemmas.List.{map-id}
use Rattle.serde_json.specs.Data.{string}
use Rattle.oauth2_json.specs.Members.{optional_member}
use Rattle.oauth2_json.specs.Values.{text, words_reading}
use Rattle.oauth2_json.specs.Words.{are_words, joined_words}
use Rattle.oauth2_json.proofs.Words.{pieces-joined, each-text}

pub optional-words : (name : List ℕ) (o : Option (List (List ℕ))) → IfSome o (λ ps. are_words ps ≡ true) → optional_member (words_reading text) name (option_map (λ ps. string (joined_words ps)) o) ≡ Ok o
optional-words name None h = refl
optional-words name (Some ps) h = rw (pieces-joined ps h, each-text ps) refl

-- a list of texts that are seen as they are
pub words_alone : (o : Option (Vec (List ℕ) Global)) → option_map (λ ps. string (joined_words ps)) (option_map (λ v. map (λ t. t) v.items) o) ≡ option_map (λ ps. string (joined_words ps)) (option_map (λ v. v.items) o)
words_alone None = refl
words_alone (Some v) = rw (map-id v.items) refl
