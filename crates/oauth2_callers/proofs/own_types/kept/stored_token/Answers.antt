use Rattle.std.proofs.Common.{rules, ◌≤◌, string_bytes}
use Rattle.std.proofs.lemmas.Str.{IsUtf8-string_bytes, is_utf8-from_IsUtf8}
use Rattle.serde_json.specs.Data.{depth}
use Rattle.serde_json.specs.Read.{max_depth}
use Rattle.serde_json.specs.View.{view}
use Rattle.oauth2_replies.specs.Kept.{AreFieldsKept}
use Rattle.oauth2_callers.specs.own_types.Fields.{fields_reading, fields_seen, fields_writing}
use Rattle.oauth2_callers.proofs.ReadBack.{color_kept, token_depth}
use Rattle.oauth2_callers.proofs.own_types.kept.stored_token.Goals as goal

pub returns-clause-text : goal.returns-clause-text
returns-clause-text c = λ scopes.
    let r = c.args.token.now in
    let fields : AreFieldsKept fields_reading fields_seen (λ f. fields_writing (fields_seen f)) r.extra_fields = rw c.extra_fields.ensures at c.fields_are_kept.ensures in
    let value = c.in_ok-value.value in
    let text = c.in_ok-to_string.field-0 in
    let kept = c.in_ok-value.ensures.reads_back (record { token_type = color_kept r.token_type; scopes = scopes; extra_fields = fields }) in
    let nests : depth (view value) ≤ max_depth = rw (token_depth r (view value) c.in_ok-value.ensures.written) (search rules) in
    let back = c.in_ok-to_string.ensures.reads_back nests in
    rw (is_utf8-from_IsUtf8 (string_bytes text) (IsUtf8-string_bytes text), back) kept
