use Rattle.std.proofs.Common.{◌≡◌, ◌∙◌, ap, string_bytes, option_map}
use Rattle.oauth2_world.specs.Quotation.{quotation}
use Rattle.oauth2_results.specs.Json.{optional_text}
use Rattle.oauth2_results.proofs.fault_json.members_json.Goals as goal

pub returns : goal.returns
returns c =
    let m = c.args.members.now in
    let error : string_bytes c.in_ok-error.error ≡ quotation (string_bytes m.error) = c.in_ok-error.ensures ∙ ap quotation c.as_str.ensures.value in
    let description : string_bytes c.in_ok-description.description ≡ optional_text (option_map string_bytes m.description) = c.in_ok-description.ensures in
    let uri : string_bytes c.in_ok-uri.uri ≡ optional_text (option_map string_bytes m.uri) = c.in_ok-uri.ensures in
    rw (c.as_str-2.ensures.value, error, c.as_str-3.ensures.value, description, c.as_str-4.ensures.value, uri) at c.in_ok-json.ensures
