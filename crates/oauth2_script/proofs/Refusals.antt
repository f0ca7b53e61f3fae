-- What follows from a refusal.
use Rattle.std.proofs.Common.{◌≡◌, true, false, Option, Some, None, option_map, Result, Ok, Err, refl}
use Rattle.std.specs.Prelude.{IsErrAnd, is_some}
use Rattle.serde_json.specs.Data.{Data}
use Rattle.oauth2_script.specs.Client.{Client}
use Rattle.oauth2_script.specs.Script.{once_authenticated, twice_authenticated}
use Rattle.oauth2_script_values.specs.Reading.{Reading, ◌>>=◌}
use Rattle.oauth2_script_values.specs.Gives.{TellsPartError, Gives}
use Rattle.oauth2_script_values.specs.declared.part_error.PartError.{PartError}
use Rattle.oauth2_script_values.specs.declared.part_error.PartError.TheVariants as errors

-- what is refused stays refused when more is read
pub Refuses-then : {A B : Type 0} (e : PartError) (o : Reading A) (f : A → Reading B) → TellsPartError e o → TellsPartError e (o >>= f)
Refuses-then errors.Memory o f h = tt
Refuses-then (errors.Bad fault) o f h = rw h refl

-- the error that is handed on
pub Gives-refused : {X Y : Type 0} (view : X → Y) (r : Result X PartError) (e : PartError) (wanted : Reading Y) → IsErrAnd r (λ given. given ≡ e) → TellsPartError e wanted → Gives view r wanted
Gives-refused view (Ok x) e wanted h refused = absurd h
Gives-refused view (Err given) e wanted h refused = rw h refused

-- a client with a secret and an assertion
pub once_authenticated-both : {A : Type 0} (f : A → Data) (assertion : Option A) (c : Client) → is_some assertion ≡ true → is_some c.secret ≡ true → once_authenticated (option_map f assertion) c ≡ Err twice_authenticated
once_authenticated-both f None c given kept = let e : false ≡ true = given in cc
once_authenticated-both f (Some d) c given kept = rw kept refl
