-- What stands in an object stands among its members.
use Rattle.std.proofs.Common.{◌≡◌, ℕ, List, true, refl}
use Rattle.serde_json.specs.Data.{Data, null, boolean, number, string, array, object}
use Rattle.serde_json.specs.Find.{get, get_member}
use Rattle.oauth2_replies.specs.Kept.{is_object, members_in}

pub of_members : (d : Data) → is_object d ≡ true → d ≡ object (members_in d)
of_members null h = cc
of_members (boolean b) h = cc
of_members (number n) h = cc
of_members (string s) h = cc
of_members (array ds) h = cc
of_members (object ms) h = refl

pub get_of : (name : List ℕ) (d : Data) → get name d ≡ get_member name (members_in d)
get_of name null = refl
get_of name (boolean b) = refl
get_of name (number n) = refl
get_of name (string s) = refl
get_of name (array ds) = refl
get_of name (object ms) = refl
