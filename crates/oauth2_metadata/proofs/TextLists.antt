-- Lists of texts and truth values read back.
use Rattle.std.proofs.Common.{◌≡◌, ℕ, List, Bool, Option, Some, None, option_map, Ok, refl}
use Rattle.serde_json.specs.Data.{boolean}
use Rattle.oauth2_json.specs.Members.{optional_member}
use Rattle.oauth2_json.specs.Values.{flag, text_list}
use Rattle.oauth2_json.proofs.Lists.{optional-texts}
use Rattle.oauth2_metadata.specs.Kinds.{list_data}

pub optional-list : (name : List ℕ) (o : Option (List (List ℕ))) → optional_member text_list name (option_map list_data o) ≡ Ok o
optional-list name None = refl
optional-list name (Some ps) = optional-texts name (Some ps)

pub optional-flag : (name : List ℕ) (o : Option Bool) → optional_member flag name (option_map boolean o) ≡ Ok o
optional-flag name None = refl
optional-flag name (Some b) = refl
