-- Lists of texts.
use Rattle.std.proofs.Common.{◌≡◌, ℕ, List, [], ◌∷◌, map, String, Global, string_bytes, Option, Some, None, option_map, Ok, refl}
use Rattle.serde_json.specs.Data.{string, array}
use Rattle.serde_json.specs.View.{items_of}
use Rattle.oauth2_json.specs.Values.{texts, each_text, text_items}
use Rattle.oauth2_json.specs.Members.{optional_member}

pub text_items-map : (ts : List (String Global)) → items_of (map (λ t. string (string_bytes t)) ts) ≡ text_items (map string_bytes ts)
text_items-map [] = refl
text_items-map (t ∷ ts) = rw (text_items-map ts) refl

each-items : (ps : List (List ℕ)) → each_text (text_items ps) ≡ Ok ps
each-items [] = refl
each-items (p ∷ ps) = rw (each-items ps) refl

pub optional-texts : (name : List ℕ) (o : Option (List (List ℕ))) → optional_member texts name (option_map (λ ps. array (text_items ps)) o) ≡ Ok o
optional-texts name None = refl
optional-texts name (Some ps) = rw (each-items ps) refl
