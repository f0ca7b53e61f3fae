-- A list of texts is read, and another list is left.
use Rattle.std.proofs.Common.{◌≡◌, ℕ, List, [], ◌∷◌, true, false, true≢false, Some, None, Ok, Err, refl, sym}
use Rattle.serde_json.specs.Data.{null, boolean, number, string, array, object, Items, no_items, item}
use Rattle.oauth2_json.specs.Members.{optional_member}
use Rattle.oauth2_json.specs.Reading.{Reading, Fault, ErrsAs}
use Rattle.oauth2_json.specs.Values.{each_text, text_list}
use Rattle.oauth2_json.specs.declared.read.ReadError.{ReadError}
use Rattle.oauth2_json.specs.declared.read.ReadError.TheVariants as errors
use Rattle.oauth2_openid.specs.Reading.{unneeded_member}
use Rattle.oauth2_openid.specs.private.Left.{are_texts}

read : (ds : Items) → are_texts ds ≡ true → (list : List (List ℕ)) × (each_text ds ≡ Ok list)
read no_items h = ([], refl)
read (item null ds) h = absurd (true≢false (sym h))
read (item (boolean b) ds) h = absurd (true≢false (sym h))
read (item (number n) ds) h = absurd (true≢false (sym h))
read (item (string s) ds) h = let later = read ds h in (s ∷ later.0, rw (later.1) refl)
read (item (array es) ds) h = absurd (true≢false (sym h))
read (item (object ms) ds) h = absurd (true≢false (sym h))

unread : (ds : Items) → are_texts ds ≡ false → (fault : Fault) × (each_text ds ≡ Err fault)
unread no_items h = absurd (true≢false h)
unread (item null ds) h = (_, refl)
unread (item (boolean b) ds) h = (_, refl)
unread (item (number n) ds) h = (_, refl)
unread (item (string s) ds) h = let later = unread ds h in (later.0, rw (later.1) refl)
unread (item (array es) ds) h = (_, refl)
unread (item (object ms) ds) h = (_, refl)

abbrev as_read : {A : Type 0} → A → Reading A
as_read a = Ok a

pub texts_left : (ds : Items) → false ≡ are_texts ds → as_read (unneeded_member text_list (Some (array ds))) ≡ Ok (None, Some (array ds))
texts_left ds h = rw ((unread ds (sym h)).1) refl

pub texts_memory : {A : Type 0} (name : List ℕ) (ds : Items) (e : ReadError) (a : A) → true ≡ are_texts ds → ErrsAs e (optional_member text_list name (Some (array ds))) → ErrsAs e (Ok a)
texts_memory name ds errors.Memory a h is = tt
texts_memory name ds (errors.Fault f) a h is =
    let list = read ds (sym h) in
    let told : optional_member text_list name (Some (array ds)) ≡ Ok (Some list.0) = rw (list.1) refl in
    absurd (cc (told, is))
