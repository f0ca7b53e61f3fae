use Rattle.std.proofs.lemmas.Result.{IfOk-weaker}
use Rattle.oauth2_replies.specs.Kept.{AreFieldsKept}
use Rattle.oauth2_callers.specs.own_types.Fields.{fields_reading, fields_seen, fields_writing}
use Rattle.oauth2_callers.proofs.ReadBack.{color_kept_if}
use Rattle.oauth2_callers.proofs.own_types.kept.introspection_value.Goals as goal

pub returns-clause-value : goal.returns-clause-value
returns-clause-value c =
    let r = c.args.response.now in
    let fields : AreFieldsKept fields_reading fields_seen (λ f. fields_writing (fields_seen f)) r.extra_fields = rw c.extra_fields.ensures at c.fields_are_kept.ensures in
    IfOk-weaker c.to_json.result _ _
    (λ value back scopes exp iat nbf. back (record {
      token_type = color_kept_if r.token_type;
      scopes = scopes;
      exp = exp;
      iat = iat;
      nbf = nbf;
      extra_fields = fields;
    }))
    c.to_json.ensures.reads_back
